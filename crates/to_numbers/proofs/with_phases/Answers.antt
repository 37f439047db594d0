-- `to_numbers::with_phases` meets its contract: at each turn the entries left come to the same numbers. Assumes nothing.
use mathlib.Core.Path.{◌≡◌, refl, sym, ◌∙◌}
use Prim.Native.Nat.{◌-◌}
use Rattle.sheet.specs.Zero.{zero_phase}
use Rattle.rows.specs.Table.{most_phases, place_for}
use Rattle.numbers.specs.Flat.{phase_numbers, numbers_from}
use Rattle.numbers.proofs.Numbers.{next_entry}
use native.Mathlib.Omega.{arith}
use Rattle.to_numbers.proofs.with_phases.Goals as goal

pub loop-i-init : goal.loop-i-init
loop-i-init c =
    refl

pub loop-i-preserved : goal.loop-i-preserved
loop-i-preserved c =
    rw c.with_phase.ensures (sym (next_entry phase_numbers zero_phase c.args.phases c.loop-i.v (place_for "phase") 8 most_phases c.loop-i.i (omega arith) refl) ∙ c.loop-i.invariant)

pub returns : goal.returns
unfolding numbers_from
returns c =
    let e : most_phases - c.loop-i.i ≡ 0 = omega arith in rw e at c.loop-i.invariant
