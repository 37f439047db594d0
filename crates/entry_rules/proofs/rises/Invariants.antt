-- `entry_rules::rises` meets its contract. The loop's invariant: the numbers left rise from the one held as all of them do from 0. Assumes nothing.
use Rattle.std.proofs.Common.{◌≡◌, drop}
use Rattle.faults.specs.Lines.{rises_after}
use Rattle.entry_rules.proofs.rises.Given as goal

abbrev pub invariant-loop-number : goal.invariant-loop-number
invariant-loop-number l = rises_after l.before (drop l.number-index l.numbers) ≡ rises_after 0 l.numbers
