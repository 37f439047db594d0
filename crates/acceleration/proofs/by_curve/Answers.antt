-- `acceleration::by_curve` meets its contract: the level time and the factor are those of the definition, and the product is at most twice the level time. Assumes nothing.
use mathlib.Core.Path.{◌≡◌, ap}
use native.Mathlib.Omega.{arith}
use mir.Facts.{to_z-of_z}
use Rattle.units.specs.declared.Tenths.{Tenths}
use Rattle.factor.proofs.Bounds.{factor_bounds}
use Rattle.curve.specs.Curve.{curve_time_of}
use Rattle.curve.proofs.Times.{curve_once_and_twice}
use Rattle.acceleration.proofs.by_curve.Goals as goal

pub graded-requires : goal.graded-requires
graded-requires c =
    (c.level_time-time.ensures.1, rw c.factor.ensures (factor_bounds _ _ _).0)

pub returns : goal.returns
unfolding curve_time_of
returns c =
    let a = c.args in
    let level = c.level_time-time.ensures in
    let ps = a.points.now in
    let same : c.graded.result ≡ curve_time_of ps a.vehicle a.grade a.distance = simp (c.graded.ensures, c.factor.ensures, level.0, to_z-of_z c.ranges.grade) in
    let twice = curve_once_and_twice ps a.vehicle a.grade a.distance in
    (same, omega (arith, ap (λ (t : Tenths). t.0) same, twice.1, ap (λ (t : Tenths). t.0) level.0, level.1))
