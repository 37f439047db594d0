-- The factor for slower acceleration uphill, in the paper's words and order. A vehicle's columns, and what is straight between them, stand in `scale`.
use Rattle.std.specs.Prelude.{ℕ, ◌*◌, min, [], ◌∷◌, ltb, ℤ}
use Rattle.units.specs.Numbers.{pick}
use Rattle.units.specs.declared.Feet.{Feet}
use Rattle.sheet.specs.declared.Vehicle.{Vehicle}
use Rattle.table.specs.Table.{entry_of}
use Rattle.scale.specs.declared.Fraction.{Fraction}
use Rattle.scale.specs.declared.Place.{Place}
use Rattle.scale.specs.Scale.{climb, is_car, place_on, column_of, spread_of}

abbrev pub one : Fraction
one = record { over = 1; under = 1 }

-- "rows every 25 ft from 25 to 400, straight between rows, row 25 below 25 ft"
unfoldable pub row_of : ℕ → Place
row_of d =
    place_on 0 25
    (50 ∷ 75 ∷ 100 ∷ 125 ∷ 150 ∷ 175 ∷ 200 ∷ 225 ∷ 250 ∷ 275 ∷ 300 ∷ 325 ∷ 350 ∷ 375 ∷ 400 ∷ [])
    d

-- "Table 628-B, kept as an exact fraction": hundredths
unfoldable pub table_of : Place → Place → Fraction
table_of c r = record { over = spread_of entry_of c r; under = 100 * (c.width * r.width) }

-- "The factor is 1 for a car, and for any grade below 10. Otherwise Table 628-B".
-- The table ends at 8 percent and 400 ft; what is past it counts as its end. No accepted sheet has such a grade, and past 400 ft the far times serve.
unfoldable pub factor_of : Vehicle → ℤ → Feet → Fraction
factor_of v g d =
    pick (is_car v) one
    (pick (ltb (climb g) 10) one (table_of (column_of v (min (climb g) 80)) (row_of (min d.0 400))))
