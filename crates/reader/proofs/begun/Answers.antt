-- `reader::begun` meets its contract: the lines decide, then the whole. Assumes nothing.
use mathlib.Core.Path.{refl}
use Rattle.std.specs.Prelude.{Err}
use Rattle.std.proofs.lemmas.Result.{err_from_is_err_and}
use Rattle.sheet.specs.Refusals.{or_else}
use Rattle.sheet.specs.Zero.{zero_sheet}
use Rattle.text.specs.Read.{read_by}
use Rattle.text.proofs.Cases.{reply_bad}
use Rattle.reader.proofs.begun.Goals as goal

pub returns-in_err-lines : goal.returns-in_err-lines
unfolding read_by or_else
returns-in_err-lines c =
    let p = err_from_is_err_and c.from_residual.result c.from_residual.ensures.1 in
    rw (← c.lines.ensures.0, c.in_err-lines.was, p.1, p.2) (reply_bad (Err c.in_err-lines.field-0.0) zero_sheet _ refl)

pub returns-in_err-whole_fault : goal.returns-in_err-whole_fault
unfolding read_by or_else
returns-in_err-whole_fault c =
    let p = err_from_is_err_and c.from_residual-in_err-whole_fault.result c.from_residual-in_err-whole_fault.ensures.1 in
    rw (← c.lines.ensures.0, ← c.lines.ensures.1, c.in_ok-lines.was, ← c.sheet_of-sheet.ensures, ← c.whole_fault.ensures, c.in_err-whole_fault.was, p.1, p.2)
    (reply_bad (Err c.in_err-whole_fault.field-0.0) zero_sheet _ refl)

pub returns : goal.returns
unfolding read_by or_else
returns c =
    rw (← c.lines.ensures.0, ← c.lines.ensures.1, c.in_ok-lines.was, ← c.sheet_of-sheet.ensures, ← c.whole_fault.ensures, c.in_ok-whole_fault.was) refl
