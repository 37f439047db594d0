-- `form::sums::acceleration` meets its contract: the grade that is passed on is the one it was given. Assumes nothing.
use mathlib.Core.Path.{◌∙◌}
use mir.Facts.{to_z-of_z}
use Rattle.curve.specs.Curve.{acceleration_of}
use Rattle.form.proofs.sums.acceleration.Goals as goal

pub returns : goal.returns
returns c =
    let s = c.args.s in
    c.acceleration.ensures ∙ (λ i. acceleration_of (c.listed_points.ensures i) s.vehicle (to_z-of_z c.ranges.grade i) c.args.d)
