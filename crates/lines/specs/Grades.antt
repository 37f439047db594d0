-- Request 2026-02, "The grade isn't the same over both distances", beside the definitions: which lines the second grade decides, and that where it is
-- the first the lines are document 01's.
use Rattle.std.specs.Prelude.{ℕ, ◌-◌, ◌≡◌, List, [], ◌∷◌, ℤ, take, drop, set, Ok}
use Rattle.units.specs.declared.Feet.{Feet}
use Rattle.units.specs.declared.Tenths.{Tenths}
use Rattle.sheet.specs.declared.Sheet.{Sheet}
use Rattle.sheet.specs.declared.Vehicle.TheVariants.{Car}
use Rattle.sheet.specs.Entries.{Shaped}
use Rattle.numbers.specs.Flat.{grade_number}
use Rattle.faults.specs.Whole.{accept_of}
use Rattle.faults.specs.Ranges.{Between}
use Rattle.curve.specs.Curve.{acceleration_of}
use Rattle.rules.specs.Rules.{line51}
use Rattle.lines.specs.Sums.{◌plus◌, ◌less◌}
use Rattle.lines.specs.Lines.{l17, l20, l22, l23, l24, l28, l34, l44, l45, l48, l52, l53, l54, l60, lines_of}
use Rattle.lines.specs.Worksheet.{worksheet_of, in_order}

-- the sheet with this second grade, and all else as it is
abbrev pub with_grade2 : Sheet → ℤ → Sheet
with_grade2 s g =
    record {
      issue = s.issue;
      vehicle = s.vehicle;
      grade = s.grade;
      grade2 = g;
      l01 = s.l01;
      l02 = s.l02;
      phase_count = s.phase_count;
      phases = s.phases;
      track_yellow = s.track_yellow;
      track_red = s.track_red;
      dwell_count = s.dwell_count;
      dwell = s.dwell;
      l18 = s.l18;
      l19 = s.l19;
      l20 = s.l20;
      l28 = s.l28;
      l30 = s.l30;
      l31 = s.l31;
      l33 = s.l33;
      l37 = s.l37;
      l39 = s.l39;
      l47 = s.l47;
      l56 = s.l56;
      l57 = s.l57;
      l58 = s.l58;
      point_count = s.point_count;
      points = s.points;
    }

-- "used for line 49 only": whatever it is, lines 1 to 48 and 52 to 61 are the same; 50 and 51 are worked out from 49
abbrev pub SecondGradeForFortyNine : Type 0
SecondGradeForFortyNine =
    (s : Sheet) (g : ℤ)
    → (take 48 (in_order (lines_of (with_grade2 s g))) ≡ take 48 (in_order (lines_of s)))
    × (drop 51 (in_order (lines_of (with_grade2 s g))) ≡ drop 51 (in_order (lines_of s)))

-- "with the same range": an accepted sheet is accepted with any second grade from -80 to 80, which the table of lines has as 1,000,000 more, and of
-- what its worksheet shows lines 49, 50 and 51 alone may differ
abbrev pub AnySecondGrade : Type 0
AnySecondGrade =
    (s : Sheet) (g : ℤ) → Shaped s → accept_of s ≡ Ok tt → Between 999920 (grade_number g) 1000080
    → (accept_of (with_grade2 s g) ≡ Ok tt)
    × (take 48 (in_order (worksheet_of (with_grade2 s g)).lines) ≡ take 48 (in_order (worksheet_of s).lines))
    × (drop 51 (in_order (worksheet_of (with_grade2 s g)).lines) ≡ drop 51 (in_order (worksheet_of s).lines))

-- ---- document 01's lines, those that a grade enters

-- "24, 49 and 54 are acceleration times over 23, 48 and 20. .. The one grade entered serves all three."
abbrev pub by_one_grade : Sheet → Feet → Tenths
by_one_grade s d = acceleration_of (take s.point_count s.points) s.vehicle s.grade d

abbrev pub one24 : Sheet → Tenths
one24 s = by_one_grade s (l23 s)

-- "25 = 22 + 24; 29 = 17 + 25 + 28 (26 and 27 repeat 17 and 25)"
abbrev pub one25 : Sheet → Tenths
one25 s = l22 s plus one24 s

abbrev pub one29 : Sheet → Tenths
one29 s = l17 s plus one25 s plus l28 s

-- "35 is 29 less 34, or 0 if that is below 0"
abbrev pub one35 : Sheet → Tenths
one35 s = one29 s less l34 s

abbrev pub one49 : Sheet → Tenths
one49 s = by_one_grade s (l48 s)

-- "50 = 45 + 49"
abbrev pub one50 : Sheet → Tenths
one50 s = l45 s plus one49 s

-- "51 is the largest of 44, 50 and (house) 25, up to a whole second."
abbrev pub one51 : Sheet → Tenths
one51 s = line51 (l44 s) (one50 s) (one25 s)

abbrev pub one54 : Sheet → Tenths
one54 s = by_one_grade s (l20 s)

-- "55 = 52 + 53 + 54"
abbrev pub one55 : Sheet → Tenths
one55 s = l52 s plus l53 s plus one54 s

-- "61 is 55 less 60, at least 0"
abbrev pub one61 : Sheet → Tenths
one61 s = one55 s less l60 s

-- these lines, each with its number, in the place of those of the list
abbrev pub replacing : List (ℕ × Tenths) → List ℕ → List ℕ
replacing [] lines = lines
replacing (x ∷ xs) lines = set (replacing xs lines) (x.0 - 1) x.1.0

-- all 61: these in their places, and the others, which no grade enters
abbrev pub document_one : Sheet → List ℕ
document_one s =
    replacing
    ((24, one24 s) ∷ (25, one25 s) ∷ (27, one25 s) ∷ (29, one29 s) ∷ (35, one35 s)
    ∷ (49, one49 s) ∷ (50, one50 s) ∷ (51, one51 s) ∷ (54, one54 s) ∷ (55, one55 s) ∷ (61, one61 s) ∷ [])
    (in_order (lines_of s))

-- "a converter writes both grades equal": every line is then document 01's
abbrev pub OneGradeAsBefore : Type 0
OneGradeAsBefore = (s : Sheet) → s.grade2 ≡ s.grade → in_order (lines_of s) ≡ document_one s

-- "Lines 24 and 54 keep the first": whatever the second
abbrev pub FirstGradeKept : Type 0
FirstGradeKept = (s : Sheet) → (l24 s ≡ one24 s) × (l54 s ≡ one54 s)

-- "The factor is 1 for a car": it carries the second grade unused
abbrev pub CarCarriesIt : Type 0
CarCarriesIt = (s : Sheet) (g : ℤ) → s.vehicle ≡ Car → in_order (lines_of (with_grade2 s g)) ≡ in_order (lines_of s)
