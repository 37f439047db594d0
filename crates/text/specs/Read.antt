-- Reading a text: "The first faulty line in file order decides, and on one line the lowest number. Then 7 to 11 in order". All of it is over which lines may be
-- absent.
use Rattle.std.specs.Prelude.{ℕ, zero, suc, ◌+◌, ◌-◌, Bool, true, false, List, length, get_or, set, replicate, eqb, Result, Ok, Err}
use Rattle.units.specs.Numbers.{pick, both}
use Rattle.sheet.specs.declared.Sheet.{Sheet}
use Rattle.sheet.specs.declared.Refused.{Refused}
use Rattle.sheet.specs.Refusals.{Answer, refused, is_fine, or_else}
use Rattle.sheet.specs.declared.Refusal.TheVariants.{Malformed}
use Rattle.sheet.specs.Zero.{zero_sheet}
use Rattle.rows.specs.Table.{as_before, must_stand, row_count, number_count, absent_of, key_of, place_of, present}
use Rattle.rows.specs.Marks.{mark_of}
use Rattle.numbers.specs.Flat.{sheet_of}
use Rattle.faults.specs.Lines.{row_fault}
use Rattle.faults.specs.Whole.{whole_fault}
use Rattle.figures.specs.Figures.{on_place, after_at}
use Rattle.text.specs.declared.Faulty.{Faulty}
use Rattle.text.specs.declared.Reading.{Reading}
use Rattle.text.specs.Line.{Taken, line_at}

-- the answer so far, the place past what was read, and the numbers
pub record Step : Type 0 where
  pub answer : Answer
  pub next : ℕ
  pub numbers : List ℕ

abbrev pub step : Answer → ℕ → List ℕ → Step
step answer next v = record { answer = answer; next = next; numbers = v }

-- 1: "a line is missing, extra, misspelt, out of place or malformed"
abbrev pub malformed : ℕ → List ℕ → Step
malformed line v = step (refused Malformed line) 0 v

-- the same by the place past what was read, which there is beside a refusal too
abbrev pub reached : Result ℕ Faulty → List ℕ → Step
reached (Ok p) v = step (Ok tt) p v
reached (Err f) v = step (Err f.refused) f.next v

-- the place past a line that has a fault or none
abbrev pub place_past : Answer → ℕ → Result ℕ Faulty
place_past (Ok _) p = Ok p
place_past (Err e) p = Err (record { refused = e; next = p })

-- the faults 2 to 6 of a well-made line
abbrev pub judged : Taken → ℕ → ℕ → Step
judged t row line = pick t.good (reached (place_past (row_fault t.numbers row line) t.next) t.numbers) (malformed line t.numbers)

-- that line of the text at a place, by that row of the table
unfoldable pub judged_at : List ℕ → ℕ → ℕ → ℕ → List ℕ → Step
judged_at s at row line v = judged (line_at s at row v) row line

-- nothing stands after the last line
unfoldable pub end_at : List ℕ → ℕ → ℕ → List ℕ → Step
end_at s line at v = pick (eqb at (length s)) (step (Ok tt) at v) (malformed line v)

abbrev pub on_step : Step → (ℕ → List ℕ → Step) → Step
on_step t f = pick (is_fine t.answer) (f t.next t.numbers) t

-- whether a row's key stands there, and the sign between key and value
unfoldable pub begins : List ℕ → ℕ → ℕ → Bool
begins s at row = on_place (after_at s at (key_of row)) (λ p. on_place (after_at s p (mark_of 0)) (λ q. true) false) false

-- A row past its count is no line of the text; nor is one that may be absent, where the line there does not begin with its key. `may` says which may.
unfoldable pub passed : (ℕ → Bool) → List ℕ → ℕ → ℕ → List ℕ → Bool
passed may s at row v = pick (present v row) (both (may row) (pick (begins s at row) false true)) true

-- what a row that is absent stands for, by the table: the number of the row before it, or none, of which there are 0
unfoldable pub stands_for : List ℕ → ℕ → ℕ
stands_for v row = pick (as_before (absent_of row)) (get_or v (place_of row - 1) 0) 0

-- the numbers with what an absent row stands for; a row past its count stands for nothing
unfoldable pub filled : List ℕ → ℕ → List ℕ
filled v row = pick (present v row) (set v (place_of row) (stands_for v row)) v

-- a row at a place of the text: passed over, or a line of it
unfoldable pub here_at : (ℕ → Bool) → List ℕ → ℕ → ℕ → ℕ → List ℕ → Step
here_at may s at row line v = pick (passed may s at row v) (step (Ok tt) at (filled v row)) (judged_at s at row line v)

-- n rows from `row` on, the first of them that the text has being that line, at the place `at`; v has the numbers of the rows before
unfoldable pub lines_from : (ℕ → Bool) → List ℕ → ℕ → ℕ → ℕ → ℕ → List ℕ → Step
lines_from may s zero row line at v = end_at s line at v
lines_from may s (suc n) row line at v =
    on_step (here_at may s at row line v) (λ p w. lines_from may s n (row + 1) (pick (passed may s at row v) line (line + 1)) p w)

-- "Array entries past a count are no part of a sheet; reading leaves them 0"
abbrev pub lines_of : (ℕ → Bool) → List ℕ → Step
lines_of may s = lines_from may s row_count 0 1 0 (replicate number_count 0)

-- "A refused read .. gives only zeros beside its number (vehicle car)"
unfoldable pub reply : Answer → Sheet → Reading
reply answer s = pick (is_fine answer) (record { answer = answer; sheet = s }) (record { answer = answer; sheet = zero_sheet })

-- the same of the sheet that was read, or of the refusal
abbrev pub replied : Result Sheet Refused → Reading
replied (Ok s) = reply (Ok tt) s
replied (Err e) = reply (Err e) zero_sheet

unfoldable pub read_by : (ℕ → Bool) → List ℕ → Reading
read_by may text =
    reply (or_else (lines_of may text).answer (whole_fault (sheet_of (lines_of may text).numbers))) (sheet_of (lines_of may text).numbers)

-- which rows may be absent: none, or where older forms of the sheet are taken too, those of which the table says what they then stand for
unfoldable pub may_lack : Bool → ℕ → Bool
may_lack older row = both older (pick (must_stand (absent_of row)) false true)

-- "Sheets without the line are refused 1": in today's form none may
abbrev pub read_of : List ℕ → Reading
read_of text = read_by (may_lack false) text

-- today's form or an older one: `grade2` and `dwell` may be absent
abbrev pub older_of : List ℕ → Reading
older_of text = read_by (may_lack true) text
