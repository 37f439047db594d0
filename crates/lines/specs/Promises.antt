-- What is promised of the lines, beside the definitions: the roundings said without a quotient, and what the sequence builds on.
use Rattle.std.specs.Prelude.{ℕ, ◌+◌, ◌*◌, ◌<◌, ◌≤◌, ◌≡◌, T, Ok}
use Rattle.units.specs.Numbers.{tenths}
use Rattle.sheet.specs.declared.Sheet.{Sheet}
use Rattle.sheet.specs.declared.Refusal.{Refusal}
use Rattle.sheet.specs.Refusals.{refused}
use Rattle.faults.specs.Whole.{accept_of}
use Rattle.lines.specs.Lines.{l03, pedestrian_phase, l13, l14, l17, l21, l22, l25, l28, l29, l33, l34, l35, l36, l37, l38, l40, l44, l50, l51, l53, l54, l57, l58, l59, l60, l61}
use Rattle.lines.specs.Worksheet.{zero_lines, worksheet_of}
use Rattle.lines.specs.Cases.{all_right, paper_cases, grade_cases, long_cases}

-- "Proved in a single tabled statement"
abbrev pub PaperCases : Type 0
PaperCases = T (all_right paper_cases)

-- "a site that levels out past the rails"; "Line 25 can now decide line 51"
abbrev pub GradeCases : Type 0
GradeCases = T (all_right grade_cases)

-- "up to 1,000 ft"
abbrev pub LongStorage : Type 0
LongStorage = T (all_right long_cases)

-- "A refused .. worksheet .. gives only zeros beside its number"
abbrev pub RefusedGivesZeros : Type 0
RefusedGivesZeros = (s : Sheet) (r : Refusal) (line : ℕ) → accept_of s ≡ refused r line → worksheet_of s ≡ record { answer = refused r line; lines = zero_lines }

-- "In mode 2, 13 and 14 are 0."
abbrev pub NoneInModeTwo : Type 0
NoneInModeTwo = (s : Sheet) → (pedestrian_phase s).mode ≡ 2 → (l13 s ≡ tenths 0) × (l14 s ≡ tenths 0)

-- "22 is 2 seconds plus 21 at 20 ft per second, taken up to the next tenth": at 2 ft a tenth
abbrev pub TwentyTwoUp : Type 0
TwentyTwoUp = (s : Sheet) → ((l21 s).0 + 40 ≤ 2 * (l22 s).0) × (2 * (l22 s).0 < (l21 s).0 + 42)

-- "38 = 36 times 37, up", in hundredths
abbrev pub ThirtyEightUp : Type 0
ThirtyEightUp = (s : Sheet) → ((l33 s).0 * (l37 s).0 ≤ (l38 s).0 * 100) × ((l38 s).0 * 100 < (l33 s).0 * (l37 s).0 + 100)

-- "51 is the largest of 44, 50 and (house) 25, up to a whole second": whole seconds, not below any of the three, and less than a second above one of them
abbrev pub FiftyOneUp : Type 0
FiftyOneUp =
    (s : Sheet)
    → ((seconds : ℕ) × ((l51 s).0 ≡ 10 * seconds))
    × ((l44 s).0 ≤ (l51 s).0)
    × ((l50 s).0 ≤ (l51 s).0)
    × ((l25 s).0 ≤ (l51 s).0)
    × ((bound : ℕ) → (l44 s).0 ≤ bound → (l50 s).0 ≤ bound → (l25 s).0 ≤ bound → (l51 s).0 < bound + 10)

-- "59 = 57 times 58, down, being time available"
abbrev pub FiftyNineDown : Type 0
FiftyNineDown = (s : Sheet) → (100 * (l59 s).0 ≤ (l57 s).0 * (l58 s).0) × ((l57 s).0 * (l58 s).0 < 100 * (l59 s).0 + 100)

-- if line 35 is 0 the warning is long enough for the transfer, the vehicle and the separation
abbrev pub WarningEnough : Type 0
WarningEnough = (s : Sheet) → (l35 s).0 ≡ 0 → (l17 s).0 + (l25 s).0 + (l28 s).0 ≤ (l34 s).0

-- gates that are down by line 40 are down before a green that starts at line 3 or later ends
abbrev pub GatesBeforeEnd : Type 0
GatesBeforeEnd = (s : Sheet) → (l40 s).0 ≤ (l03 s).0 + (l51 s).0

-- 628's line 61: "If the result is greater than the amount of advance preemption time provided by the railroad, as given on Line 36, there is a
-- possibility that the gates could descend on a stationary or slow-moving design vehicle." Where it is not, that time and line 60 are enough for
-- the transfer and the vehicle's own length
abbrev pub AdvanceEnough : Type 0
AdvanceEnough = (s : Sheet) → (l61 s).0 ≤ (l36 s).0 → (l17 s).0 + (l53 s).0 + (l54 s).0 ≤ (l36 s).0 + (l60 s).0

-- on an accepted sheet the call is counted for a tick at least, and the green lasts
abbrev pub Lasting : Type 0
Lasting = (s : Sheet) → accept_of s ≡ Ok tt → (1 ≤ (l03 s).0) × (1 ≤ (l51 s).0)
