-- What is promised of texts of older forms, and of converting them, each with its sentence. proofs/ has a proof of each type.
use Rattle.std.specs.Prelude.{ℕ, zero, suc, ◌+◌, ◌≤◌, ◌<◌, ◌≡◌, Bool, true, false, List, [], ◌++◌, eqb, length, take, drop, Ok}
use Rattle.units.specs.Numbers.{pick, both}
use Rattle.sheet.specs.declared.Sheet.{Sheet}
use Rattle.sheet.specs.Entries.{Shaped}
use Rattle.sheet.specs.Refusals.{is_fine}
use Rattle.rows.specs.Table.{row_for, row_count}
use Rattle.rows.specs.Longest.{longest}
use Rattle.numbers.specs.Flat.{flat_of}
use Rattle.faults.specs.Whole.{accept_of}
use Rattle.text.specs.Read.{read_of, older_of}
use Rattle.text.specs.Text.{here_text, text_of}
use Rattle.trips.specs.Convert.{converted_of, converted_bytes}
use Rattle.trips.specs.Promises.{Blank}

-- the rows that a form of the sheet has not got: that of `grade2`, that of `dwell`, both or none
abbrev pub lacking : Bool → Bool → ℕ → Bool
lacking no_grade2 no_dwell row = pick (eqb row (row_for "grade2")) no_grade2 (both (eqb row (row_for "dwell")) no_dwell)

-- the text of n rows from `row` on, without those
unfoldable pub text_less : (ℕ → Bool) → List ℕ → ℕ → ℕ → List ℕ
text_less gone v zero row = []
text_less gone v (suc n) row = pick (gone row) [] (here_text row v) ++ text_less gone v n (row + 1)

abbrev pub older_text : Bool → Bool → Sheet → List ℕ
older_text no_grade2 no_dwell s = text_less (lacking no_grade2 no_dwell) (flat_of s) row_count 0

-- "a converter writes both grades equal": the text of a sheet in any form is read as the sheet, where what the form has not got is the first grade again, and
-- no phase for dwell
abbrev pub EachFormIsTaken : Type 0
EachFormIsTaken =
    (no_grade2 no_dwell : Bool) (s : Sheet)
    → (no_grade2 ≡ true → s.grade2 ≡ s.grade) → (no_dwell ≡ true → s.dwell_count ≡ 0)
    → Shaped s → Blank s → accept_of s ≡ Ok tt
    → older_of (older_text no_grade2 no_dwell s) ≡ record { answer = Ok tt; sheet = s }

-- and is converted to the text of the sheet, in today's form
abbrev pub EachFormIsConverted : Type 0
EachFormIsConverted =
    (no_grade2 no_dwell : Bool) (s : Sheet) (old : List ℕ)
    → (no_grade2 ≡ true → s.grade2 ≡ s.grade) → (no_dwell ≡ true → s.dwell_count ≡ 0)
    → Shaped s → Blank s → accept_of s ≡ Ok tt → length (text_of s) ≤ length old
    → (converted_of (older_text no_grade2 no_dwell s) (length old) ≡ record { answer = Ok tt; length = length (text_of s) })
    × (converted_bytes (older_text no_grade2 no_dwell s) old ≡ text_of s ++ drop (length (text_of s)) old)

-- a text in one of the four forms: that of the sheet, without the lines that say what stands without them
pub record Form (t : List ℕ) (s : Sheet) : Type 0 where
  pub no_grade2 : Bool
  pub no_dwell : Bool
  pub text : t ≡ older_text no_grade2 no_dwell s
  pub grades : no_grade2 ≡ true → s.grade2 ≡ s.grade
  pub none : no_dwell ≡ true → s.dwell_count ≡ 0

-- no other text is taken, and so every line of it is written as it is
abbrev pub TakenIsAForm : Type 0
TakenIsAForm = (t : List ℕ) → (older_of t).answer ≡ Ok tt → Form t (older_of t).sheet

-- what a text of any form gives is accepted as values
abbrev pub OlderIsAccepted : Type 0
OlderIsAccepted = (t : List ℕ) → (older_of t).answer ≡ Ok tt → accept_of (older_of t).sheet ≡ Ok tt

-- what is written of it is read as the sheet that was read
abbrev pub ConvertedIsRead : Type 0
ConvertedIsRead = (t : List ℕ) → (older_of t).answer ≡ Ok tt → read_of (text_of (older_of t).sheet) ≡ older_of t

-- a text in today's form is the same to both
abbrev pub TodayIsRead : Type 0
TodayIsRead = (t : List ℕ) → (read_of t).answer ≡ Ok tt → older_of t ≡ read_of t

-- and comes back byte for byte
abbrev pub TodayComesBack : Type 0
TodayComesBack =
    (t old : List ℕ) → (read_of t).answer ≡ Ok tt → length t ≤ length old
    → (converted_of t (length old) ≡ record { answer = Ok tt; length = length t }) × (converted_bytes t old ≡ t ++ drop (length t) old)

-- converting what was converted changes nothing
abbrev pub TwiceIsOnce : Type 0
TwiceIsOnce =
    (t old : List ℕ) → (converted_of t (length old)).answer ≡ Ok tt
    → (converted_of (take (converted_of t (length old)).length (converted_bytes t old)) (length old) ≡ converted_of t (length old))
    × (converted_bytes (take (converted_of t (length old)).length (converted_bytes t old)) old ≡ converted_bytes t old)

-- "A refusal writes no lent byte", and tells no length
abbrev pub RefusedIsNotConverted : Type 0
RefusedIsNotConverted =
    (t old : List ℕ) → is_fine (converted_of t (length old)).answer ≡ false
    → (converted_bytes t old ≡ old) × ((converted_of t (length old)).length ≡ 0)

-- a text longer than any there can be, cut one byte past that, gets the reply of the whole text
abbrev pub OlderCutIsSame : Type 0
OlderCutIsSame = (t : List ℕ) → longest < length t → older_of (take (longest + 1) t) ≡ older_of t
