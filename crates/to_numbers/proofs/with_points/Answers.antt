-- `to_numbers::with_points` meets its contract: at each turn the entries left come to the same numbers. Assumes nothing.
use mathlib.Core.Path.{◌≡◌, refl, sym, ◌∙◌}
use Prim.Native.Nat.{◌-◌}
use Rattle.sheet.specs.Zero.{zero_point}
use Rattle.rows.specs.Table.{most_points, place_for}
use Rattle.numbers.specs.Flat.{point_numbers, numbers_from}
use Rattle.numbers.proofs.Numbers.{next_entry}
use native.Mathlib.Omega.{arith}
use Rattle.to_numbers.proofs.with_points.Goals as goal

pub loop-i-init : goal.loop-i-init
loop-i-init c =
    refl

pub loop-i-preserved : goal.loop-i-preserved
loop-i-preserved c =
    rw c.with_point.ensures (sym (next_entry point_numbers zero_point c.args.points c.loop-i.v (place_for "point") 2 most_points c.loop-i.i (omega arith) refl) ∙ c.loop-i.invariant)

pub returns : goal.returns
unfolding numbers_from
returns c =
    let e : most_points - c.loop-i.i ≡ 0 = omega arith in rw e at c.loop-i.invariant
