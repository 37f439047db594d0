-- `to_numbers::with_dwell` meets its contract: at each turn the numbers left come to the same numbers. Assumes nothing.
use mathlib.Core.Path.{◌≡◌}
use Prim.Native.Nat.{◌-◌}
use lib.Seq.{sets}
use Rattle.rows.specs.Table.{most_phases}
use Rattle.numbers.specs.Flat.{dwell_place, itself, numbers_from}
use Rattle.to_numbers.proofs.with_dwell.Given as goal

abbrev pub invariant-loop-i : goal.invariant-loop-i
invariant-loop-i l = sets l.v (dwell_place l.i) (numbers_from itself 0 (most_phases - l.i) l.i l.dwell) ≡ sets l.initial.v (dwell_place 0) (numbers_from itself 0 most_phases 0 l.dwell)
