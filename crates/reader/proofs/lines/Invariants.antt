-- `reader::lines` meets its contract: at each turn the rows left are read as all are. Assumes nothing.
use Prim.Native.Nat.{◌+◌, ◌≤◌, ◌-◌}
use mathlib.Core.Path.{◌≡◌}
use Rattle.rows.specs.Table.{row_count}
use Rattle.text.specs.Read.{lines_from, may_lack}
use Rattle.reader.proofs.lines.Given as goal

abbrev pub invariant-loop-row : goal.invariant-loop-row
invariant-loop-row l = (l.number ≤ l.row + 1) × (lines_from (may_lack l.older) l.s (row_count - l.row) l.row l.number l.at l.v ≡ lines_from (may_lack l.older) l.s row_count 0 1 0 l.initial.v)
