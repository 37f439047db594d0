-- "Both sides of each edge": P1 to P10 in one table, each case with what the definitions must give; then a site that levels out past the rails, and long storage.
use Rattle.std.specs.Prelude.{ℕ, ◌-◌, ◌*◌, Bool, true, false, List, [], ◌∷◌, eqb, ℤ, pos, get_or, replicate}
use Rattle.units.specs.Numbers.{both, feet, tenths}
use Rattle.sheet.specs.declared.Sheet.{Sheet}
use Rattle.sheet.specs.declared.Phase.{Phase}
use Rattle.sheet.specs.declared.Point.{Point}
use Rattle.sheet.specs.declared.Vehicle.{Vehicle}
use Rattle.sheet.specs.declared.Vehicle.TheVariants.{Su, Bus, Wb50}
use Rattle.sheet.specs.Refusals.{is_fine, answer_number, answer_line}
use Rattle.sheet.specs.Zero.{zero_phase, zero_point}
use Rattle.faults.specs.Whole.{accept_of}
use Rattle.factor.specs.Factor.{factor_of}
use Rattle.curve.specs.Curve.{graded_of}
use Rattle.lines.specs.Worksheet.{worksheet_of, in_order}

abbrev point : ℕ → ℕ → Point
point d t = record { feet = d; tenths = t }

abbrev phase : ℕ → ℕ → ℕ → ℕ → ℕ → ℕ → ℕ → ℕ → Phase
phase n g o y r w c m =
    record { number = n; green = g; other = o; yellow = y; red = r; walk = w; clearance = c; mode = m }

-- "One sheet, whole", with its last point's distance, its grades, second phase, l18, l19, l20, l31, l33, l39 and l47 left open
abbrev pub sheet_to : ℕ → ℤ → ℤ → Phase → ℕ → ℕ → ℕ → ℕ → ℕ → ℕ → ℕ → Sheet
sheet_to last grade grade2 second l18 l19 l20 l31 l33 l39 l47 =
    record {
      issue = 12;
      vehicle = Wb50;
      grade = grade;
      grade2 = grade2;
      l01 = 0;
      l02 = 2;
      phase_count = 2;
      phases = phase 2 50 0 40 15 0 0 0 ∷ second ∷ replicate 6 zero_phase;
      track_yellow = 40;
      track_red = 20;
      dwell_count = 0;
      dwell = replicate 8 0;
      l18 = l18;
      l19 = l19;
      l20 = l20;
      l28 = 40;
      l30 = 200;
      l31 = l31;
      l33 = l33;
      l37 = 125;
      l39 = l39;
      l47 = l47;
      l56 = 30;
      l57 = 120;
      l58 = 40;
      point_count = 3;
      points = point 0 0 ∷ point 100 140 ∷ point last 320 ∷ replicate 13 zero_point;
    }

-- with its own points, to 400 ft
abbrev pub sheet_on : ℤ → ℤ → Phase → ℕ → ℕ → ℕ → ℕ → ℕ → ℕ → ℕ → Sheet
sheet_on = sheet_to 400

-- level, as the paper has it
unfoldable pub sheet_with : Phase → ℕ → ℕ → ℕ → ℕ → ℕ → Sheet
sheet_with second l18 l19 l20 l31 l47 = sheet_on (pos 0) (pos 0) second l18 l19 l20 l31 270 150 l47

abbrev pub second_phase : Phase
second_phase = phase 4 40 0 35 20 70 100 1

-- its last point at 399 ft, and so much to relocate
abbrev pub short_of : ℕ → Sheet
short_of l47 = sheet_to 399 (pos 0) (pos 0) second_phase 250 41 150 10 270 150 l47

abbrev pub paper_sheet : Sheet
paper_sheet = sheet_with second_phase 60 41 55 10 60

-- a sheet with its 61 lines; one with some of them, each after its number; a vehicle, distance and grade with the factor in thousandths, and with a
-- level time and the time on the grade; a sheet with the number and line of its answer
pub data Case : Type 0 where
  works : Sheet → List ℕ → Case
  shows : Sheet → List (ℕ × ℕ) → Case
  slows : Vehicle → ℕ → ℕ → ℕ → Case
  climbs : Vehicle → ℕ → ℕ → ℕ → ℕ → Case
  answers : Sheet → ℕ → ℕ → Case

abbrev same : List ℕ → List ℕ → Bool
same [] [] = true
same [] (y ∷ ys) = false
same (x ∷ xs) [] = false
same (x ∷ xs) (y ∷ ys) = both (eqb x y) (same xs ys)

abbrev among : List ℕ → List (ℕ × ℕ) → Bool
among lines [] = true
among lines (x ∷ xs) = both (eqb (get_or lines (x.0 - 1) 0) x.1) (among lines xs)

abbrev pub right : Case → Bool
right (works s lines) = both (is_fine (worksheet_of s).answer) (same (in_order (worksheet_of s).lines) lines)
right (shows s lines) = both (is_fine (worksheet_of s).answer) (among (in_order (worksheet_of s).lines) lines)
right (slows v d g n) =
    let f = factor_of v (pos g) (feet d) in
    eqb (f.over * 1000) (n * f.under)
right (climbs v d g t r) = eqb (graded_of (factor_of v (pos g) (feet d)) (tenths t)).0 r
right (answers s number line) = both (eqb (answer_number (accept_of s)) number) (eqb (answer_line (accept_of s)) line)

abbrev pub all_right : List Case → Bool
all_right [] = true
all_right (c ∷ cs) = both (right c) (all_right cs)

unfoldable pub paper_cases : List Case
paper_cases =
    -- P1 "the sheet above"
    works paper_sheet
    (0 ∷ 2 ∷ 2 ∷ 2 ∷ 50 ∷ 0 ∷ 40 ∷ 15 ∷ 105 ∷ 4 ∷ 70 ∷ 100 ∷ 35 ∷ 20 ∷ 225 ∷ 225 ∷ 227 ∷ 60 ∷ 41 ∷ 55 ∷ 101 ∷ 71 ∷ 96 ∷ 135 ∷ 206 ∷ 227 ∷ 206 ∷ 40 ∷ 473 ∷ 200 ∷ 10 ∷ 210 ∷ 270 ∷ 480 ∷ 0 ∷ 270 ∷ 125 ∷ 338 ∷ 150 ∷ 488 ∷ 2 ∷ 0 ∷ 2 ∷ 486 ∷ 71 ∷ 96 ∷ 60 ∷ 156 ∷ 174 ∷ 245 ∷ 490 ∷ 227 ∷ 71 ∷ 77 ∷ 375 ∷ 30 ∷ 120 ∷ 40 ∷ 48 ∷ 78 ∷ 297 ∷ [])
    -- P2 "l19=35 needs l31 0 and 36 needs 10"
    ∷ answers (sheet_with second_phase 60 35 55 0 60) 0 0
    ∷ answers (sheet_with second_phase 60 36 55 9 60) 8 0
    ∷ answers (sheet_with second_phase 60 36 55 10 60) 0 0
    -- P3 "WB-50, 350 ft, grade 40, level 300 gives 417"
    ∷ climbs Wb50 350 40 300 417
    -- P4 "340 ft, 40, level 250: factor 1.386, gives 347"
    ∷ slows Wb50 340 40 1386
    ∷ climbs Wb50 340 40 250 347
    -- P5 "350 ft, 30, level 300: 381"
    ∷ climbs Wb50 350 30 300 381
    -- P6 "350 ft, 10, level 200: 215, and grade 9 gives 200"
    ∷ climbs Wb50 350 10 200 215
    ∷ climbs Wb50 350 9 200 200
    -- P7 "bus, 400 ft, 15, level 200: 206"
    ∷ climbs Bus 400 15 200 206
    -- P8 "SU, 400 ft, 20, level 200: 200, and 30: 215"
    ∷ climbs Su 400 20 200 200
    ∷ climbs Su 400 30 200 215
    -- P9 "mode 2, yellow 35, red 20: clearance 55 accepted, 54 refused 6"
    ∷ answers (sheet_with (phase 4 40 0 35 20 70 55 2) 60 41 55 10 60) 0 0
    ∷ answers (sheet_with (phase 4 40 0 35 20 70 54 2) 60 41 55 10 60) 6 9
    -- P10 "line 48 of 400 with last point 400 accepted"; where document 01 goes on "401 refused 9", request 2026-04 has: "P10's 401 is accepted",
    -- and "9 is now given when line 48 is beyond 1000, or beyond the last point where that point is below 400"
    ∷ answers (sheet_with second_phase 209 41 150 10 209) 0 0
    ∷ answers (sheet_with second_phase 210 41 150 10 210) 0 0
    ∷ answers (sheet_with second_phase 809 41 150 10 809) 0 0
    ∷ answers (sheet_with second_phase 810 41 150 10 810) 9 0
    ∷ answers (short_of 208) 0 0
    ∷ answers (short_of 209) 9 0
    ∷ []

-- request 2026-02: up 8 percent to the rails, with the gates down at the call
abbrev pub uphill : ℤ → ℕ → Sheet
uphill grade2 l47 = sheet_on (pos 80) grade2 second_phase 60 41 55 10 0 0 l47

unfoldable pub grade_cases : List Case
grade_cases =
    -- "Line 25 can now decide line 51": level past the rails, and nothing to relocate
    shows (uphill (pos 0) 0) ((24, 221) ∷ (25, 292) ∷ (44, 0) ∷ (49, 135) ∷ (50, 206) ∷ (51, 300) ∷ (54, 123) ∷ [])
    -- "with document 01's one grade a site that levels out past the rails got too long a green": 60 ft to relocate, by one grade and level
    ∷ shows (uphill (pos 80) 60) ((24, 221) ∷ (25, 292) ∷ (49, 294) ∷ (50, 365) ∷ (51, 370) ∷ (54, 123) ∷ [])
    ∷ shows (uphill (pos 0) 60) ((24, 221) ∷ (25, 292) ∷ (49, 174) ∷ (50, 245) ∷ (51, 300) ∷ (54, 123) ∷ [])
    ∷ []

-- request 2026-04: 620 ft of storage, and a crossing 400 ft long
unfoldable pub long_cases : List Case
long_cases =
    -- "Lines 24, 49 and 54 and all above them are restated": all of it relocated, level; and 514 ft of it, up 3.5 percent
    shows (sheet_on (pos 0) (pos 0) second_phase 620 41 55 10 270 150 620)
    ((21, 661) ∷ (22, 351) ∷ (23, 96) ∷ (24, 135) ∷ (48, 716) ∷ (49, 394) ∷ (50, 745) ∷ (51, 750) ∷ (54, 77) ∷ [])
    ∷ shows (sheet_on (pos 40) (pos 35) second_phase 620 41 55 10 270 150 514)
    ((24, 177) ∷ (25, 528) ∷ (48, 610) ∷ (49, 497) ∷ (50, 848) ∷ (51, 850) ∷ (54, 99) ∷ [])
    -- one foot past 400
    ∷ shows (sheet_on (pos 0) (pos 0) second_phase 305 41 55 10 270 150 305) ((48, 401) ∷ (49, 319) ∷ [])
    -- line 23 past 400, and line 24 with it: by the far times, and between the two
    ∷ shows (sheet_on (pos 80) (pos 80) second_phase 60 400 150 370 270 150 60)
    ((23, 550) ∷ (24, 663) ∷ (25, 913) ∷ (29, 1180) ∷ (48, 610) ∷ (49, 716) ∷ (54, 286) ∷ [])
    ∷ shows (sheet_on (pos 0) (pos 0) second_phase 60 400 10 370 270 150 0) ((23, 410) ∷ (24, 310) ∷ (48, 410) ∷ (49, 310) ∷ (54, 14) ∷ [])
    ∷ []
