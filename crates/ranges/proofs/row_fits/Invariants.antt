-- `ranges::row_fits` meets its contract: at each turn the numbers left decide as all of them do. Assumes nothing.
use mathlib.Core.Path.{◌≡◌}
use Prim.Native.Nat.{◌+◌}
use lib.ListN.{take, drop}
use Rattle.rows.specs.Table.{ranges_of, in_ranges}
use Rattle.ranges.proofs.row_fits.Given as goal

abbrev pub invariant-loop-j : goal.invariant-loop-j
invariant-loop-j l = in_ranges l.numbers (0 + l.j) (drop l.j (take l.count (ranges_of l.row))) ≡ in_ranges l.numbers 0 (ranges_of l.row)
