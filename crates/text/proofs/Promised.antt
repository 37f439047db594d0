-- The promises of reading alone. Assumes nothing.
use mathlib.Core.Path.{◌≡◌, refl, sym}
use mathlib.Core.Bool.{false}
use Rattle.units.specs.Numbers.{pick}
use Rattle.units.proofs.Steps.{never}
use Rattle.sheet.specs.declared.Sheet.{Sheet}
use Rattle.sheet.specs.Refusals.{Answer, is_fine, or_else}
use Rattle.std.specs.Prelude.{Ok, Err}
use Rattle.sheet.specs.Zero.{zero_sheet}
use Rattle.numbers.specs.Flat.{sheet_of}
use Rattle.faults.specs.Whole.{whole_fault}
use Rattle.text.specs.Read.{lines_of, reply, read_by}
use Rattle.text.specs.Promises.{RefusedIsZero}

reply_refused : (a : Answer) (s : Sheet) → is_fine (reply a s).answer ≡ false → (reply a s).sheet ≡ zero_sheet
unfolding reply pick
reply_refused (Ok _) s e = never (sym e)
reply_refused (Err d) s e = refl

pub refused_is_zero : RefusedIsZero
unfolding read_by
refused_is_zero may t e = reply_refused (or_else (lines_of may t).answer (whole_fault (sheet_of (lines_of may t).numbers))) (sheet_of (lines_of may t).numbers) e
