-- `accept::singles_fault` meets its contract: at each row those left have the first fault of all. Assumes nothing.
use mathlib.Core.Path.{◌≡◌}
use Prim.Native.Nat.{◌+◌}
use lib.ListN.{drop}
use Rattle.faults.proofs.Accepted.{first_single}
use Rattle.faults.proofs.Values.{ones_of}
use Rattle.accept.proofs.singles_fault.Given as goal

abbrev pub invariant-loop-i : goal.invariant-loop-i
invariant-loop-i l = ones_of (drop l.i l.numbers) (first_single + l.i) l.absent ≡ ones_of l.numbers first_single l.absent
