-- `digits::number` meets its contract: at each turn the digits left make the same number. Assumes nothing.
use Prim.Native.Nat.{◌≤◌, ◌<◌}
use mathlib.Core.Path.{◌≡◌}
use lib.ListN.{length, drop}
use Rattle.figures.specs.Figures.{more, number}
use Rattle.digits.proofs.number.Given as goal

abbrev pub invariant-loop-next : goal.invariant-loop-next
invariant-loop-next l = (l.next ≤ length l.s) × (l.value < 1000000) × (more l.value l.next (drop l.next l.s) ≡ number l.at (drop l.at l.s))
