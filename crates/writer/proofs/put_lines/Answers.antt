-- `writer::put_lines` meets its contract: at each turn a row more is stored, if the sheet has it. Assumes nothing.
use mathlib.Core.Path.{sym, ◌∙◌}
use Rattle.text.specs.Text.{row_text}
use Rattle.text.proofs.Puts.{start, next, end, where_now, doing_length}
use Rattle.rows.specs.Table.{row_count}
use Rattle.text.proofs.Lengths.{short_text, longest_small}
use Rattle.text.proofs.Pieces.{text_over, text_absent, text_next}
use native.Mathlib.Omega.{arith}
use Rattle.writer.proofs.put_lines.Goals.{then-present, else-present}
use Rattle.writer.proofs.put_lines.Goals as goal

pub loop-row-init : goal.loop-row-init
loop-row-init c =
    start _ _ _

pub put_line-p-requires : goal.put_line-p-requires
put_line-p-requires c =
    let h = where_now _ c.loop-row.invariant in (omega arith, omega (arith, short_text c.args.numbers.now row_count 0, longest_small))

pub loop-row-preserved : goal.loop-row-preserved
loop-row-preserved c =
    elim c.if-present.branch [
      | then-present w ↦
          rw (w.out-is, w.p-is) (next (row_text c.loop-row.row c.args.numbers.now) _ (rw (text_next c.args.numbers.now c.loop-row.row c.loop-row-test.true (sym c.present.ensures ∙ w.if-present.true)) at c.loop-row.invariant) w.put_line-p.ensures)
      | else-present w ↦
          rw (w.out-is, w.p-is) (rw (text_absent c.args.numbers.now c.loop-row.row c.loop-row-test.true (sym c.present.ensures ∙ w.if-present.false)) at c.loop-row.invariant)
    ]

pub shape_of-out : goal.shape_of-out
shape_of-out c =
    doing_length c.loop-row.invariant

pub returns : goal.returns
returns c =
    end (rw (text_over c.args.numbers.now c.loop-row.row c.loop-row-test.false) at c.loop-row.invariant)
