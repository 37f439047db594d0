-- "Worksheet rules": the rules of single lines, and what a tick is.
use Rattle.std.specs.Prelude.{ℕ, ◌+◌, ◌*◌, ◌/◌, max, eqb}
use Rattle.units.specs.Numbers.{up, pick, tenths}
use Rattle.units.specs.declared.Feet.{Feet}
use Rattle.units.specs.declared.Tenths.{Tenths}
use Rattle.units.specs.declared.Hundredths.{Hundredths}
use Rattle.sheet.specs.declared.Phase.{Phase}

-- "A tick is one tenth."
abbrev pub ticks : Tenths → ℕ
ticks t = t.0

-- "plus yellow and red in mode 1"; "In mode 2, 13 and 14 are 0": a yellow or a red that pedestrians wait for
unfoldable pub waited : Phase → ℕ → Tenths
waited p time = pick (eqb p.mode 1) (tenths time) (tenths 0)

-- "22 is 2 seconds plus 21 at 20 ft per second, taken up to the next tenth." At 20 ft per second a tenth is 2 ft
abbrev pub line22 : Feet → Tenths
line22 l21 = tenths (20 + up l21.0 2)

-- "38 = 36 times 37, up"
abbrev pub line38 : Tenths → Hundredths → Tenths
line38 l36 l37 = tenths (up (l36.0 * l37.0) 100)

-- "51 is the largest of 44, 50 and (house) 25, up to a whole second."
abbrev pub line51 : Tenths → Tenths → Tenths → Tenths
line51 l44 l50 l25 = tenths (10 * up (max l44.0 (max l50.0 l25.0)) 10)

-- "59 = 57 times 58, down, being time available"
abbrev pub line59 : Tenths → Hundredths → Tenths
line59 l57 l58 = tenths (l57.0 * l58.0 / 100)
