-- `writer::put_line` meets its contract: the key, the numbers, the line feed. Assumes nothing.
use mathlib.Core.Path.{sym, ap, ◌∙◌}
use Rattle.rows.specs.declared.table.Form.{Form}
use Rattle.rows.specs.Table.{is_list}
use Rattle.rows.proofs.Tables.{place_room, width_some}
use Rattle.rows.proofs.Keys.{key_short, facts_key, facts_short, facts_form}
use Rattle.text.specs.Text.{row_text}
use Rattle.text.proofs.Puts.{put_length, put_same, put_then}
use Rattle.text.proofs.Rows.{list_wide}
use Rattle.text.proofs.Lengths.{short_values}
use native.Mathlib.Omega.{arith}
use Rattle.writer.proofs.put_line.Goals as goal

pub put_key-p-requires : goal.put_key-p-requires
put_key-p-requires c =
    (omega (arith, c.requires.1), facts_short c.args.row c.facts-facts.result c.facts-facts.ensures)

pub put_values-q-requires : goal.put_values-q-requires
put_values-q-requires c =
    let k = put_same (facts_key c.args.row c.facts-facts.result c.facts-facts.ensures) c.put_key-p.ensures in (omega (arith, place_room c.args.row c.requires.0, c.place-place.ensures, c.width-n.ensures), λ e. omega (arith, list_wide c.args.row (sym (ap (λ (f : Form). is_list f) (facts_form c.args.row c.facts-facts.result c.facts-facts.ensures)) ∙ e), c.width-n.ensures), omega (arith, c.requires.1, k.place, key_short c.args.row))

pub put-requires : goal.put-requires
put-requires c =
    let k = put_same (facts_key c.args.row c.facts-facts.result c.facts-facts.ensures) c.put_key-p.ensures in omega (arith, c.requires.1, k.place, key_short c.args.row, c.put_values-q.ensures.place, short_values c.facts-facts.result.form c.place-place.result c.width-n.result c.args.numbers.now (omega (arith, width_some c.args.row c.requires.0, c.width-n.ensures)) (λ e. omega (arith, list_wide c.args.row (sym (ap (λ (f : Form). is_list f) (facts_form c.args.row c.facts-facts.result c.facts-facts.ensures)) ∙ e), c.width-n.ensures)), place_room c.args.row c.requires.0, c.width-n.ensures)

pub shape_of-out : goal.shape_of-out
shape_of-out c =
    put_length (put_then c.put_key-p.ensures (put_then c.put_values-q.ensures c.put.ensures))

pub returns : goal.returns
unfolding row_text
returns c =
    let k = put_same (facts_key c.args.row c.facts-facts.result c.facts-facts.ensures) c.put_key-p.ensures in
    rw (← (facts_form c.args.row c.facts-facts.result c.facts-facts.ensures), ← c.place-place.ensures, ← c.width-n.ensures) (put_then k (put_then c.put_values-q.ensures c.put.ensures))
