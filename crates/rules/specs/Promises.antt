-- What is promised of the rules, beside the definitions: the roundings said without a quotient, and the modes that wait for yellow and red.
use Rattle.std.specs.Prelude.{ℕ, ◌+◌, ◌*◌, ◌<◌, ◌≤◌, ◌≡◌}
use Rattle.units.specs.Numbers.{tenths}
use Rattle.units.specs.declared.Feet.{Feet}
use Rattle.units.specs.declared.Tenths.{Tenths}
use Rattle.units.specs.declared.Hundredths.{Hundredths}
use Rattle.sheet.specs.declared.Phase.{Phase}
use Rattle.rules.specs.Rules.{waited, line22, line38, line51, line59}

-- "plus yellow and red in mode 1"
abbrev pub WaitedInModeOne : Type 0
WaitedInModeOne = (p : Phase) (time : ℕ) → p.mode ≡ 1 → waited p time ≡ tenths time

-- "In mode 2, 13 and 14 are 0."
abbrev pub NoneInModeTwo : Type 0
NoneInModeTwo = (p : Phase) (time : ℕ) → p.mode ≡ 2 → waited p time ≡ tenths 0

-- "22 is 2 seconds plus 21 at 20 ft per second, taken up to the next tenth": at 2 ft a tenth
abbrev pub Line22Up : Type 0
Line22Up = (l21 : Feet) → (l21.0 + 40 ≤ 2 * (line22 l21).0) × (2 * (line22 l21).0 < l21.0 + 42)

-- "38 = 36 times 37, up", in hundredths
abbrev pub Line38Up : Type 0
Line38Up =
    (l36 : Tenths) (l37 : Hundredths)
    → (l36.0 * l37.0 ≤ (line38 l36 l37).0 * 100)
    × ((line38 l36 l37).0 * 100 < l36.0 * l37.0 + 100)

-- "51 is the largest of 44, 50 and (house) 25, up to a whole second": whole seconds, not below any of the three, and less than a second above one of them
abbrev pub Line51Up : Type 0
Line51Up =
    (l44 l50 l25 : Tenths)
    → ((seconds : ℕ) × ((line51 l44 l50 l25).0 ≡ 10 * seconds))
    × (l44.0 ≤ (line51 l44 l50 l25).0)
    × (l50.0 ≤ (line51 l44 l50 l25).0)
    × (l25.0 ≤ (line51 l44 l50 l25).0)
    × ((bound : ℕ) → l44.0 ≤ bound → l50.0 ≤ bound → l25.0 ≤ bound → (line51 l44 l50 l25).0 < bound + 10)

-- "59 = 57 times 58, down, being time available"
abbrev pub Line59Down : Type 0
Line59Down =
    (l57 : Tenths) (l58 : Hundredths)
    → (100 * (line59 l57 l58).0 ≤ l57.0 * l58.0)
    × (l57.0 * l58.0 < 100 * (line59 l57 l58).0 + 100)
