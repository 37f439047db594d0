-- `writer::put_fields` meets its contract: at each turn a number more is stored. Assumes nothing.
use native.Mathlib.Nat.{sub-zero}
use Prim.Native.Nat.{◌+◌}
use mathlib.Core.List.{◌++◌}
use lib.ListN.{get_or}
use Rattle.rows.specs.Marks.{mark_of}
use Rattle.text.specs.Text.{field_text}
use Rattle.text.proofs.Puts.{start, next, end, where_now, doing_length, put_then}
use Rattle.text.proofs.Lengths.{mark_long, short_fields, eight_each}
use Rattle.text.proofs.Pieces.{fields_over, fields_next}
use native.Mathlib.Omega.{arith}
use Rattle.writer.proofs.put_fields.Goals as goal

pub loop-j-init : goal.loop-j-init
loop-j-init c =
    rw sub-zero (start _ _ _)

pub put_mark-q-requires : goal.put_mark-q-requires
put_mark-q-requires c =
    let h = where_now _ c.loop-j.invariant in omega (arith, short_fields c.args.form c.args.place c.args.n 0 c.args.numbers.now, eight_each c.args.form c.args.n)

pub put_field-p-requires : goal.put_field-p-requires
put_field-p-requires c =
    let h = where_now _ c.loop-j.invariant in omega (arith, c.put_mark-q.ensures.place, mark_long c.loop-j.j, short_fields c.args.form c.args.place c.args.n 0 c.args.numbers.now, eight_each c.args.form c.args.n)

pub loop-j-preserved : goal.loop-j-preserved
loop-j-preserved c =
    next (mark_of c.loop-j.j ++ field_text c.args.form (get_or c.args.numbers.now (c.args.place + c.loop-j.j) 0)) _ (rw (fields_next c.args.form c.args.place c.args.n c.loop-j.j c.args.numbers.now c.loop-j-test.true) at c.loop-j.invariant) (put_then c.put_mark-q.ensures c.put_field-p.ensures)

pub shape_of-out : goal.shape_of-out
shape_of-out c =
    doing_length c.loop-j.invariant

pub returns : goal.returns
returns c =
    end (rw (fields_over c.args.form c.args.place c.args.n c.loop-j.j c.args.numbers.now c.loop-j-test.false) at c.loop-j.invariant)
