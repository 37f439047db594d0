-- `writer::put_list` meets its contract: 0 for none, else as many numbers as are counted. Assumes nothing.
use Prim.Native.Nat.{ℕ, ◌+◌}
use mathlib.Core.Path.{refl, ap}
use borrow.Author.Tests.{eq-eqb, ne_eqb}
use Rattle.units.proofs.Steps.{pick_yes, pick_not}
use Rattle.rows.specs.Table.{plain}
use Rattle.text.specs.Text.{fields_text, list_text}
use Rattle.text.proofs.Puts.{put_same}
use Rattle.writer.proofs.put_list.Goals as goal

pub returns-then-count-eq0 : goal.returns-then-count-eq0
unfolding list_text
returns-then-count-eq0 c =
    put_same (pick_yes _ _ _ _ (eq-eqb _ _ c.if-count-eq0.true) refl) c.put_word.ensures

pub returns : goal.returns
unfolding list_text
returns c =
    let text = ap (λ (n : ℕ). fields_text plain (c.args.place + 1) n 0 c.args.numbers.now) c.min.ensures in
    put_same (pick_not _ _ _ _ (ne_eqb _ _ c.if-count-eq0.false) text) c.put_fields.ensures
