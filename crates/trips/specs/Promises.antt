-- What is promised of reading and writing, each with the paper's sentence. proofs/ has a proof of each type.
use Rattle.std.specs.Prelude.{ℕ, ◌+◌, ◌-◌, ◌≤◌, ◌<◌, ◌≡◌, false, List, ◌++◌, length, get_or, take, replicate, Ok}
use Rattle.sheet.specs.declared.Phase.{Phase}
use Rattle.sheet.specs.declared.Point.{Point}
use Rattle.sheet.specs.declared.Sheet.{Sheet}
use Rattle.sheet.specs.Entries.{Shaped}
use Rattle.sheet.specs.Refusals.{is_fine}
use Rattle.sheet.specs.Zero.{zero_phase, zero_point}
use Rattle.rows.specs.Longest.{longest}
use Rattle.faults.specs.Whole.{accept_of}
use Rattle.text.specs.Read.{read_of}
use Rattle.text.specs.Text.{text_of}
use Rattle.text.specs.Write.{written_of, bytes_of}

-- "Array entries past a count are no part of a sheet": the first n entries, and zeros for the rest
unfoldable pub kept : {A : Type 0} → A → ℕ → List A → List A
kept none n xs = take n xs ++ replicate (length xs - n) none

-- the sheet with these phases, these numbers for dwell and these points in place of its own
abbrev pub with_entries : Sheet → List Phase → List ℕ → List Point → Sheet
with_entries s phases dwell points =
    record {
      issue = s.issue;
      vehicle = s.vehicle;
      grade = s.grade;
      grade2 = s.grade2;
      l01 = s.l01;
      l02 = s.l02;
      phase_count = s.phase_count;
      phases = phases;
      track_yellow = s.track_yellow;
      track_red = s.track_red;
      dwell_count = s.dwell_count;
      dwell = dwell;
      l18 = s.l18;
      l19 = s.l19;
      l20 = s.l20;
      l28 = s.l28;
      l30 = s.l30;
      l31 = s.l31;
      l33 = s.l33;
      l37 = s.l37;
      l39 = s.l39;
      l47 = s.l47;
      l56 = s.l56;
      l57 = s.l57;
      l58 = s.l58;
      point_count = s.point_count;
      points = points;
    }

unfoldable pub trimmed : Sheet → Sheet
trimmed s =
    with_entries s (kept zero_phase s.phase_count s.phases) (kept 0 s.dwell_count s.dwell) (kept zero_point s.point_count s.points)

-- sheet to text to sheet: the text of an accepted sheet is read as that sheet; "reading leaves them 0"
abbrev pub SheetToText : Type 0
SheetToText = (s : Sheet) → Shaped s → accept_of s ≡ Ok tt → read_of (text_of s) ≡ record { answer = Ok tt; sheet = trimmed s }

-- the entries past the counts are 0
pub record Blank (s : Sheet) : Type 0 where
  pub phases : (i : ℕ) → s.phase_count ≤ i → get_or s.phases i zero_phase ≡ zero_phase
  pub dwell : (i : ℕ) → s.dwell_count ≤ i → get_or s.dwell i 0 ≡ 0
  pub points : (i : ℕ) → s.point_count ≤ i → get_or s.points i zero_point ≡ zero_point

-- so it is the same sheet where they are 0 already
abbrev pub SheetToSheet : Type 0
SheetToSheet = (s : Sheet) → Shaped s → Blank s → accept_of s ≡ Ok tt → read_of (text_of s) ≡ record { answer = Ok tt; sheet = s }

-- accepted text to sheet to text
abbrev pub TextToText : Type 0
TextToText = (t : List ℕ) (s : Sheet) → read_of t ≡ record { answer = Ok tt; sheet = s } → text_of s ≡ t

-- what a text gives is accepted as values too: "A sheet handed over as values .. meets 2 to 10 again", and 12
abbrev pub ReadIsAccepted : Type 0
ReadIsAccepted = (t : List ℕ) → (read_of t).answer ≡ Ok tt → accept_of (read_of t).sheet ≡ Ok tt

-- "meets 2 to 10 again .. before 11"; 12 too, which is "after 10"
abbrev pub WriteRefusesAlike : Type 0
WriteRefusesAlike = (s : Sheet) (room : ℕ) → is_fine (accept_of s) ≡ false → (written_of s room).answer ≡ accept_of s

-- what was written is the sheet's text
abbrev pub WrittenIsText : Type 0
WrittenIsText = (s : Sheet) (old : List ℕ) → (written_of s (length old)).answer ≡ Ok tt → take (written_of s (length old)).length (bytes_of s old) ≡ text_of s

-- no text of a sheet, and so no text that is read, is longer than the table lets it be
abbrev pub TextIsShort : Type 0
TextIsShort = (s : Sheet) → length (text_of s) ≤ longest

abbrev pub ReadIsShort : Type 0
ReadIsShort = (t : List ℕ) → (read_of t).answer ≡ Ok tt → length t ≤ longest

-- a longer text, cut one byte past that, gets the reply of the whole text: the buffer of a program needs no more
abbrev pub CutIsSame : Type 0
CutIsSame = (t : List ℕ) → longest < length t → read_of (take (longest + 1) t) ≡ read_of t
