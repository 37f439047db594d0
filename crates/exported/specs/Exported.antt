-- What the functions of texts for other languages say, in numbers.
use Rattle.std.specs.Prelude.{ℕ, List}
use Rattle.units.specs.Numbers.{pick}
use Rattle.sheet.specs.Refusals.{is_fine, code_of}
use Rattle.text.specs.declared.Reading.{Reading}
use Rattle.lines.specs.Worksheet.{worksheet_of, in_order}
use Rattle.text.specs.declared.Written.{Written}
use Rattle.text.specs.Write.{written_of, bytes_of}

-- the lines of a text that was read; what was there before, where it was refused
unfoldable pub lines_of : Reading → List ℕ → List ℕ
lines_of g old = pick (is_fine g.answer) (in_order (worksheet_of g.sheet).lines) old

-- the length of a text that was written, else the answer
unfoldable pub reply_of : Written → ℕ
reply_of w = pick (is_fine w.answer) w.length (code_of w.answer)

unfoldable pub length_of : Reading → ℕ → ℕ
length_of g room = pick (is_fine g.answer) (reply_of (written_of g.sheet room)) (code_of g.answer)

unfoldable pub bytes_after : Reading → List ℕ → List ℕ
bytes_after g old = pick (is_fine g.answer) (bytes_of g.sheet old) old
