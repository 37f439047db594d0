-- Where a distance and a grade stand between the marks of a printed table, and what is straight between its entries: the factor's table and the far times are both read so.
use Rattle.std.specs.Prelude.{ℕ, ◌+◌, ◌-◌, ◌*◌, ◌/◌, ◌≤◌, ◌<◌, List, [], ◌∷◌, Bool, true, false, leb, ℤ, pos, negsuc}
use Rattle.units.specs.Numbers.{pick}
use Rattle.sheet.specs.declared.Vehicle.{Vehicle}
use Rattle.sheet.specs.declared.Vehicle.TheVariants.{Car, Su, Bus, Wb50}
use Rattle.scale.specs.declared.Fraction.{Fraction}
use Rattle.scale.specs.declared.Place.{Place}

-- "grade tenths of a percent": how much of it is uphill; level and downhill are 0
unfoldable pub climb : ℤ → ℕ
climb (pos n) = n
climb (negsuc n) = 0

abbrev pub is_car : Vehicle → Bool
is_car Car = true
is_car Su = false
is_car Bus = false
is_car Wb50 = false

-- after which mark, how far past it, how far the next mark is
abbrev pub placed : ℕ → ℕ → ℕ → Place
placed i past width = record { step = i; past = past; width = width }

-- where x stands on a rising scale.
-- Before the first mark it stands at the first, past the last at the last. i is the number of the mark a
unfoldable pub place_on : ℕ → ℕ → List ℕ → ℕ → Place
place_on i a [] x = placed i 0 1
place_on i a (b ∷ bs) x = pick (leb x b) (placed i (x - a) (b - a)) (place_on (i + 1) b bs x)

-- "columns 2, 4, 6, 8 percent for SU (1 up to 2), 1, 2, 4, 6, 8 for bus (1 at 1), 0, 2, 4, 6, 8 for WB-50, straight between columns"
unfoldable pub column_of : Vehicle → ℕ → Place
column_of Car g = place_on 0 20 [] g
column_of Su g = place_on 0 20 (40 ∷ 60 ∷ 80 ∷ []) g
column_of Bus g = place_on 4 10 (20 ∷ 40 ∷ 60 ∷ 80 ∷ []) g
column_of Wb50 g = place_on 9 0 (20 ∷ 40 ∷ 60 ∷ 80 ∷ []) g

-- straight between two values, times the width of the step
unfoldable pub mix_of : ℕ → ℕ → Place → ℕ
mix_of lo hi p = (p.width - p.past) * lo + p.past * hi

-- a row of a table, between two columns
unfoldable pub line_of : (ℕ → ℕ → ℕ) → Place → ℕ → ℕ
line_of entry c row = mix_of (entry row c.step) (entry row (c.step + 1)) c

-- and between two rows: exact, times the widths of both steps
unfoldable pub spread_of : (ℕ → ℕ → ℕ) → Place → Place → ℕ
spread_of entry c r = mix_of (line_of entry c r.step) (line_of entry c (r.step + 1)) r

-- and so a table's value at a column's place and a row's, as an exact fraction of the table's unit
abbrev pub read_of : (ℕ → ℕ → ℕ) → Place → Place → Fraction
read_of entry c r = record { over = spread_of entry c r; under = c.width * r.width }

-- a scale with a mark every w, the first, number i, at 0
abbrev pub every_of : ℕ → ℕ → ℕ → Place
every_of i w x = placed (i + (x - 1) / w) (x - w * ((x - 1) / w)) w

-- a place between two of n marks that are at most w apart
pub record Standing (w n : ℕ) (p : Place) : Type 0 where
  pub near : p.past ≤ p.width
  pub apart : 1 ≤ p.width
  pub narrow : p.width ≤ w
  pub inside : p.step + 1 < n
