-- `phase_lines::phases_fault` meets its contract: at each phase the rows left have the first fault of all. Assumes nothing.
use Prim.Native.Nat.{ℕ, min}
use Rattle.rows.specs.Table.{most_phases}
use Rattle.faults.proofs.Values.{PhasesLeft}
use Rattle.phase_lines.proofs.phases_fault.Given as goal

abbrev pub invariant-loop-i : goal.invariant-loop-i
invariant-loop-i l = PhasesLeft l.fn.s.phases (min l.fn.s.phase_count most_phases) l.before l.i
