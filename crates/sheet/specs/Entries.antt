-- The phases, the points and the numbers for dwell of a sheet.
use Rattle.std.specs.Prelude.{ℕ, Bool, true, false, ◌≡◌, List, [], ◌∷◌, eqb, length, get_or, take}
use Rattle.units.specs.Numbers.{pick}
use Rattle.sheet.specs.declared.Phase.{Phase}
use Rattle.sheet.specs.declared.Point.{Point}
use Rattle.sheet.specs.declared.Sheet.{Sheet}
use Rattle.sheet.specs.Zero.{zero_phase, zero_point}

-- what every value of the type Sheet has
pub record Shaped (s : Sheet) : Type 0 where
  pub phases : length s.phases ≡ 8
  pub dwell : length s.dwell ≡ 8
  pub points : length s.points ≡ 16

-- "Array entries past a count are no part of a sheet": what it lists
abbrev pub listed_phases : Sheet → List Phase
listed_phases s = take s.phase_count s.phases

abbrev pub listed_points : Sheet → List Point
listed_points s = take s.point_count s.points

-- "`dwell=` with rising phase numbers and commas between, or 0 for none": the numbers, which are as many as are counted
abbrev pub dwell_numbers : Sheet → List ℕ
dwell_numbers s = take s.dwell_count s.dwell

unfoldable pub is_in : List ℕ → ℕ → Bool
is_in [] n = false
is_in (m ∷ ms) n = pick (eqb m n) true (is_in ms n)

-- the sheet names the phase of that number for dwell
abbrev pub named : Sheet → ℕ → Bool
named s n = is_in (dwell_numbers s) n

-- entry i, counted from 0
abbrev pub nth_phase : Sheet → ℕ → Phase
nth_phase s i = get_or s.phases i zero_phase

abbrev pub nth_point : Sheet → ℕ → Point
nth_point s i = get_or s.points i zero_point
