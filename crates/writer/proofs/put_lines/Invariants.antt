-- `writer::put_lines` meets its contract: at each turn a row more is stored, if the sheet has it. Assumes nothing.
use Prim.Native.Nat.{◌-◌}
use Rattle.text.specs.Text.{text_from}
use Rattle.text.proofs.Puts.{Doing}
use Rattle.rows.specs.Table.{row_count}
use Rattle.writer.proofs.put_lines.Given as goal

abbrev pub invariant-loop-row : goal.invariant-loop-row
invariant-loop-row l = Doing l.initial.out l.out 0 l.p (text_from l.numbers (row_count - l.row) l.row) (text_from l.numbers row_count 0)
