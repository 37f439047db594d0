-- `reader::reading` meets its contract: without the first key the first line is malformed, else the sheet, or the zero sheet beside the refusal. Assumes nothing.
use mathlib.Core.Path.{refl, sym, ◌∙◌}
use borrow.Author.Rules.{rules}
use Rattle.units.specs.Numbers.{pick}
use Rattle.rows.specs.Table.{key_of, kind_of}
use Rattle.text.specs.Read.{reply}
use Rattle.text.proofs.Cases.{not_begun}
use Rattle.reader.proofs.reading.Goals as goal

pub returns-then-is_none : goal.returns-then-is_none
unfolding key_of kind_of
returns-then-is_none c =
    c.unread.ensures ∙ not_begun c.args.older c.args.text.now (sym c.after.ensures ∙ (search rules))

pub returns-in-Ok : goal.returns-in-Ok
unfolding reply pick
returns-in-Ok c =
    rw (← c.begun.ensures, c.in-Ok.is) refl

pub returns-in-Err : goal.returns-in-Err
returns-in-Err c =
    rw (← c.begun.ensures, c.in-Err.is) c.unread-in-Err.ensures
