-- The 61 lines of a sheet, in the paper's order. A line that only repeats the sheet has no rule beside it.
use Rattle.std.specs.Prelude.{ℕ, ℤ, take}
use Rattle.units.specs.Numbers.{feet, tenths, hundredths}
use Rattle.units.specs.declared.Feet.{Feet}
use Rattle.units.specs.declared.Tenths.{Tenths}
use Rattle.units.specs.declared.Hundredths.{Hundredths}
use Rattle.sheet.specs.declared.Sheet.{Sheet}
use Rattle.sheet.specs.declared.Phase.{Phase}
use Rattle.transfer.specs.declared.Users.TheVariants.{Vehicles, Pedestrians}
use Rattle.transfer.specs.Transfer.{time_of, worst_of, line16}
use Rattle.curve.specs.Curve.{acceleration_of}
use Rattle.rules.specs.Rules.{waited, line22, line38, line51, line59}
use Rattle.lines.specs.declared.Lines.{Lines}
use Rattle.lines.specs.Sums.{◌plus◌, ◌along◌, ◌less◌}

abbrev pub l01 : Sheet → Tenths
l01 s = tenths s.l01

abbrev pub l02 : Sheet → Tenths
l02 s = tenths s.l02

-- "3 = 1 + 2"
unfoldable pub l03 : Sheet → Tenths
l03 s = l01 s plus l02 s

abbrev pub vehicle_phase : Sheet → Phase
vehicle_phase s = worst_of Vehicles (take s.phase_count s.phases)

-- "Lines 4 to 9 show the phase with the largest vehicle time": its number, green, other, yellow, red and time
unfoldable pub l04 : Sheet → ℕ
l04 s = (vehicle_phase s).number

unfoldable pub l05 : Sheet → Tenths
l05 s = tenths (vehicle_phase s).green

unfoldable pub l06 : Sheet → Tenths
l06 s = tenths (vehicle_phase s).other

unfoldable pub l07 : Sheet → Tenths
l07 s = tenths (vehicle_phase s).yellow

unfoldable pub l08 : Sheet → Tenths
l08 s = tenths (vehicle_phase s).red

unfoldable pub l09 : Sheet → Tenths
l09 s = time_of Vehicles (vehicle_phase s)

abbrev pub pedestrian_phase : Sheet → Phase
pedestrian_phase s = worst_of Pedestrians (take s.phase_count s.phases)

-- "10 to 15 the phase with the largest pedestrian time among modes 1 and 2": its number, walk, clearance, yellow, red and time
unfoldable pub l10 : Sheet → ℕ
l10 s = (pedestrian_phase s).number

unfoldable pub l11 : Sheet → Tenths
l11 s = tenths (pedestrian_phase s).walk

unfoldable pub l12 : Sheet → Tenths
l12 s = tenths (pedestrian_phase s).clearance

-- "In mode 2, 13 and 14 are 0"
unfoldable pub l13 : Sheet → Tenths
l13 s = waited (pedestrian_phase s) (pedestrian_phase s).yellow

unfoldable pub l14 : Sheet → Tenths
l14 s = waited (pedestrian_phase s) (pedestrian_phase s).red

unfoldable pub l15 : Sheet → Tenths
l15 s = time_of Pedestrians (pedestrian_phase s)

-- "16 is the larger of 9 and 15"
unfoldable pub l16 : Sheet → Tenths
l16 s = line16 (take s.phase_count s.phases)

-- "17 = 3 + 16"
unfoldable pub l17 : Sheet → Tenths
l17 s = l03 s plus l16 s

abbrev pub l18 : Sheet → Feet
l18 s = feet s.l18

abbrev pub l19 : Sheet → Feet
l19 s = feet s.l19

abbrev pub l20 : Sheet → Feet
l20 s = feet s.l20

-- "21 = 18 + 19"
unfoldable pub l21 : Sheet → Feet
l21 s = l18 s along l19 s

-- "22 is 2 seconds plus 21 at 20 ft per second, taken up to the next tenth."
unfoldable pub l22 : Sheet → Tenths
l22 s = line22 (l21 s)

-- "23 = 19 + 20"
unfoldable pub l23 : Sheet → Feet
l23 s = l19 s along l20 s

-- "24, 49 and 54 are acceleration times over 23, 48 and 20." What an acceleration time is, to 400 ft and past it (request 2026-04), stands in curve's specs/Curve.antt.
-- Where document 01 goes on "The one grade entered serves all three", request 2026-02 has: "Add `grade2` after `grade`, with the same range, used for
-- line 49 only. Lines 24 and 54 keep the first." Document 01's lines stand in specs/Grades.antt
abbrev pub acceleration : Sheet → ℤ → Feet → Tenths
acceleration s grade d = acceleration_of (take s.point_count s.points) s.vehicle grade d

-- 24 is the acceleration time over 23, by the first grade
unfoldable pub l24 : Sheet → Tenths
l24 s = acceleration s s.grade (l23 s)

-- "25 = 22 + 24"
unfoldable pub l25 : Sheet → Tenths
l25 s = l22 s plus l24 s

-- "26 and 27 repeat 17 and 25"
unfoldable pub l26 : Sheet → Tenths
l26 s = l17 s

unfoldable pub l27 : Sheet → Tenths
l27 s = l25 s

abbrev pub l28 : Sheet → Tenths
l28 s = tenths s.l28

-- "29 = 17 + 25 + 28"
unfoldable pub l29 : Sheet → Tenths
l29 s = l17 s plus l25 s plus l28 s

abbrev pub l30 : Sheet → Tenths
l30 s = tenths s.l30

abbrev pub l31 : Sheet → Tenths
l31 s = tenths s.l31

-- "32 = 30 + 31"
unfoldable pub l32 : Sheet → Tenths
l32 s = l30 s plus l31 s

abbrev pub l33 : Sheet → Tenths
l33 s = tenths s.l33

-- "34 = 32 + 33"
unfoldable pub l34 : Sheet → Tenths
l34 s = l32 s plus l33 s

-- "35 is 29 less 34, or 0 if that is below 0"
unfoldable pub l35 : Sheet → Tenths
l35 s = l29 s less l34 s

-- "36 = 33"
unfoldable pub l36 : Sheet → Tenths
l36 s = l33 s

abbrev pub l37 : Sheet → Hundredths
l37 s = hundredths s.l37

-- "38 = 36 times 37, up"
unfoldable pub l38 : Sheet → Tenths
l38 s = line38 (l36 s) (l37 s)

abbrev pub l39 : Sheet → Tenths
l39 s = tenths s.l39

-- "40 = 38 + 39"
unfoldable pub l40 : Sheet → Tenths
l40 s = l38 s plus l39 s

-- "41 = 3"
unfoldable pub l41 : Sheet → Tenths
l41 s = l03 s

-- "42 = 0 (house: the call may find the track phase green)"
abbrev pub l42 : Sheet → Tenths
l42 s = tenths 0

-- "43 = 41 + 42"
unfoldable pub l43 : Sheet → Tenths
l43 s = l41 s plus l42 s

-- "44 is 40 less 43, at least 0"
unfoldable pub l44 : Sheet → Tenths
l44 s = l40 s less l43 s

-- "45 = 22; 46 = 23"
unfoldable pub l45 : Sheet → Tenths
l45 s = l22 s

unfoldable pub l46 : Sheet → Feet
l46 s = l23 s

abbrev pub l47 : Sheet → Feet
l47 s = feet s.l47

-- "48 = 46 + 47"
unfoldable pub l48 : Sheet → Feet
l48 s = l46 s along l47 s

-- 49 is the acceleration time over 48, by the second grade
unfoldable pub l49 : Sheet → Tenths
l49 s = acceleration s s.grade2 (l48 s)

-- "50 = 45 + 49"
unfoldable pub l50 : Sheet → Tenths
l50 s = l45 s plus l49 s

-- "51 is the largest of 44, 50 and (house) 25, up to a whole second." Request 2026-02: "Line 25 can now decide line 51"
unfoldable pub l51 : Sheet → Tenths
l51 s = line51 (l44 s) (l50 s) (l25 s)

-- "52 = 17; 53 = 22"
unfoldable pub l52 : Sheet → Tenths
l52 s = l17 s

unfoldable pub l53 : Sheet → Tenths
l53 s = l22 s

-- 54 is the acceleration time over 20, by the first grade
unfoldable pub l54 : Sheet → Tenths
l54 s = acceleration s s.grade (l20 s)

-- "55 = 52 + 53 + 54"
unfoldable pub l55 : Sheet → Tenths
l55 s = l52 s plus l53 s plus l54 s

abbrev pub l56 : Sheet → Tenths
l56 s = tenths s.l56

abbrev pub l57 : Sheet → Tenths
l57 s = tenths s.l57

abbrev pub l58 : Sheet → Hundredths
l58 s = hundredths s.l58

-- "59 = 57 times 58, down, being time available"
unfoldable pub l59 : Sheet → Tenths
l59 s = line59 (l57 s) (l58 s)

-- "60 = 56 + 59"
unfoldable pub l60 : Sheet → Tenths
l60 s = l56 s plus l59 s

-- "61 is 55 less 60, at least 0"
unfoldable pub l61 : Sheet → Tenths
l61 s = l55 s less l60 s

unfoldable pub lines_of : Sheet → Lines
lines_of s =
    record {
      l01 = l01 s;
      l02 = l02 s;
      l03 = l03 s;
      l04 = l04 s;
      l05 = l05 s;
      l06 = l06 s;
      l07 = l07 s;
      l08 = l08 s;
      l09 = l09 s;
      l10 = l10 s;
      l11 = l11 s;
      l12 = l12 s;
      l13 = l13 s;
      l14 = l14 s;
      l15 = l15 s;
      l16 = l16 s;
      l17 = l17 s;
      l18 = l18 s;
      l19 = l19 s;
      l20 = l20 s;
      l21 = l21 s;
      l22 = l22 s;
      l23 = l23 s;
      l24 = l24 s;
      l25 = l25 s;
      l26 = l26 s;
      l27 = l27 s;
      l28 = l28 s;
      l29 = l29 s;
      l30 = l30 s;
      l31 = l31 s;
      l32 = l32 s;
      l33 = l33 s;
      l34 = l34 s;
      l35 = l35 s;
      l36 = l36 s;
      l37 = l37 s;
      l38 = l38 s;
      l39 = l39 s;
      l40 = l40 s;
      l41 = l41 s;
      l42 = l42 s;
      l43 = l43 s;
      l44 = l44 s;
      l45 = l45 s;
      l46 = l46 s;
      l47 = l47 s;
      l48 = l48 s;
      l49 = l49 s;
      l50 = l50 s;
      l51 = l51 s;
      l52 = l52 s;
      l53 = l53 s;
      l54 = l54 s;
      l55 = l55 s;
      l56 = l56 s;
      l57 = l57 s;
      l58 = l58 s;
      l59 = l59 s;
      l60 = l60 s;
      l61 = l61 s;
    }
