-- `to_numbers::with_dwell` meets its contract: at each turn the numbers left come to the same numbers. Assumes nothing.
use mathlib.Core.Path.{◌≡◌, refl, sym, ◌∙◌}
use Prim.Native.Nat.{◌-◌}
use Rattle.rows.specs.Table.{most_phases}
use Rattle.numbers.specs.Flat.{dwell_place, numbers_from}
use Rattle.numbers.proofs.Numbers.{next_number_lem}
use native.Mathlib.Omega.{arith}
use Rattle.to_numbers.proofs.with_dwell.Goals as goal

pub loop-i-init : goal.loop-i-init
loop-i-init c =
    refl

pub loop-i-preserved : goal.loop-i-preserved
loop-i-preserved c =
    sym (next_number_lem c.args.dwell c.loop-i.v (dwell_place 0) most_phases c.loop-i.i (omega arith)) ∙ c.loop-i.invariant

pub returns : goal.returns
unfolding numbers_from
returns c =
    let e : most_phases - c.loop-i.i ≡ 0 = omega arith in rw e at c.loop-i.invariant
