-- `ranges::in_ranges` meets its contract: at each turn the numbers left decide as all of them do. Assumes nothing.
use mathlib.Core.Path.{◌≡◌}
use Prim.Native.Nat.{◌+◌}
use lib.ListN.{take, drop}
use Rattle.rows.specs.Table.{ranges_of, place_of, used_ranges, in_ranges}
use Rattle.ranges.proofs.in_ranges.Given as goal

abbrev pub invariant-loop-j : goal.invariant-loop-j
invariant-loop-j l = in_ranges l.numbers (l.at + l.j) (drop l.j (take l.n (ranges_of l.row))) ≡ in_ranges l.numbers (place_of l.row) (used_ranges l.numbers l.row)
