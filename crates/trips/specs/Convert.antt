-- Converting a text: "Sheets without the line are refused 1; a converter writes both grades equal." A text of an older form, or of today's, is read, and its
-- sheet is written, in today's.
use Rattle.std.specs.Prelude.{ℕ, List}
use Rattle.units.specs.Numbers.{pick}
use Rattle.sheet.specs.Refusals.{is_fine}
use Rattle.text.specs.declared.Written.{Written}
use Rattle.text.specs.Read.{older_of}
use Rattle.text.specs.Write.{written_of, bytes_of}

-- refusals 1 to 10 and 12 as in reading, with their lines in the text; then 11, "the lent output is shorter than the text"
unfoldable pub converted_of : List ℕ → ℕ → Written
converted_of text room =
    pick (is_fine (older_of text).answer) (written_of (older_of text).sheet room) (record { answer = (older_of text).answer; length = 0 })

-- "A refusal writes no lent byte"; on success "bytes beyond it stay"
unfoldable pub converted_bytes : List ℕ → List ℕ → List ℕ
converted_bytes text old = pick (is_fine (older_of text).answer) (bytes_of (older_of text).sheet old) old
