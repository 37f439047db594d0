-- `to_numbers::with_phases` meets its contract: at each turn the entries left come to the same numbers. Assumes nothing.
use mathlib.Core.Path.{◌≡◌}
use Prim.Native.Nat.{◌-◌}
use lib.Seq.{sets}
use Rattle.sheet.specs.Zero.{zero_phase}
use Rattle.rows.specs.Table.{most_phases, place_for}
use Rattle.numbers.specs.Flat.{phase_place, phase_numbers, numbers_from}
use Rattle.to_numbers.proofs.with_phases.Given as goal

abbrev pub invariant-loop-i : goal.invariant-loop-i
invariant-loop-i l = sets l.v (phase_place l.i) (numbers_from phase_numbers zero_phase (most_phases - l.i) l.i l.phases) ≡ sets l.initial.v (place_for "phase") (numbers_from phase_numbers zero_phase most_phases 0 l.phases)
