-- The acceleration time from 425 ft on, in the words of request 2026-04: "a table of tenths taken up, every 25 ft from 425 to 1000 for each vehicle and printed grade column (a car has one),
-- straight between entries and taken up".
use Rattle.std.specs.Prelude.{ℕ, ◌+◌, ◌*◌, min, [], ◌∷◌, ltb, ℤ}
use Rattle.units.specs.Numbers.{up, pick, tenths}
use Rattle.units.specs.declared.Feet.{Feet}
use Rattle.units.specs.declared.Tenths.{Tenths}
use Rattle.sheet.specs.declared.Vehicle.{Vehicle}
use Rattle.far_table.specs.FarTable.{far_entry_of}
use Rattle.scale.specs.declared.Fraction.{Fraction}
use Rattle.scale.specs.declared.Place.{Place}
use Rattle.scale.specs.Scale.{climb, is_car, placed, place_on, column_of, spread_of}

-- "every 25 ft from 425 to 1000"
unfoldable pub far_row_of : ℕ → Place
far_row_of d =
    place_on 0 425
    (450 ∷ 475 ∷ 500 ∷ 525 ∷ 550 ∷ 575 ∷ 600 ∷ 625 ∷ 650 ∷ 675 ∷ 700 ∷ 725 ∷ 750 ∷ 775 ∷ 800 ∷ 825 ∷ 850 ∷ 875 ∷ 900 ∷ 925 ∷ 950 ∷ 975 ∷ 1000 ∷ [])
    d

-- Table 628-B's columns stand after the car's
abbrev pub after_car : Place → Place
after_car p = placed (p.step + 1) p.past p.width

-- "the first column serves below 10 and below its own grade": the grade that chooses the column, 0 below 10; a place below a column's own grade is the first's.
-- The table ends at 8 percent, and at 1000 ft below; what is past it counts as its end, and no accepted sheet has any.
unfoldable pub chosen : ℤ → ℕ
chosen g = pick (ltb (climb g) 10) 0 (min (climb g) 80)

-- "for each vehicle and printed grade column (a car has one)"
unfoldable pub far_column_of : Vehicle → ℤ → Place
far_column_of v g = pick (is_car v) (placed 0 0 1) (after_car (column_of v (chosen g)))

-- "straight between entries", between rows and between columns at once: an exact fraction, in tenths
unfoldable pub far_table_of : Place → Place → Fraction
far_table_of c r = record { over = spread_of far_entry_of c r; under = c.width * r.width }

unfoldable pub far_of : Vehicle → ℤ → Feet → Fraction
far_of v g d = far_table_of (far_column_of v g) (far_row_of (min d.0 1000))

-- "and taken up": a single time
unfoldable pub far_time_of : Vehicle → ℤ → Feet → Tenths
far_time_of v g d = tenths (up (far_of v g d).over (far_of v g d).under)
