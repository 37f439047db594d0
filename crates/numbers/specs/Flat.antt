-- A sheet as its numbers in the rows' order.
use Rattle.std.specs.Prelude.{ℕ, zero, suc, ◌+◌, ◌-◌, ◌*◌, ◌%◌, List, [], ◌∷◌, ◌++◌, ltb, eqb, ℤ, pos, negsuc, neg_ℤ, get_or}
use Rattle.units.specs.Numbers.{pick}
use Rattle.rows.specs.Table.{most_phases, most_points, place_for}
use Rattle.sheet.specs.declared.Vehicle.{Vehicle}
use Rattle.sheet.specs.declared.Vehicle.TheVariants.{Car, Su, Bus, Wb50}
use Rattle.sheet.specs.declared.Phase.{Phase}
use Rattle.sheet.specs.declared.Point.{Point}
use Rattle.sheet.specs.declared.Sheet.{Sheet}
use Rattle.sheet.specs.Zero.{zero_phase, zero_point}

abbrev pub vehicle_number : Vehicle → ℕ
vehicle_number Car = 0
vehicle_number Su = 1
vehicle_number Bus = 2
vehicle_number Wb50 = 3

-- 1,000,000 more
unfoldable pub grade_number : ℤ → ℕ
grade_number (pos n) = 1000000 + n
grade_number (negsuc n) = 1000000 - (n + 1)

abbrev pub phase_numbers : Phase → List ℕ
phase_numbers p =
    p.number ∷ p.green ∷ p.other ∷ p.yellow ∷ p.red ∷ p.walk ∷ p.clearance ∷ p.mode ∷ []

abbrev pub point_numbers : Point → List ℕ
point_numbers p = p.feet ∷ p.tenths ∷ []

-- a number for dwell is its own
abbrev pub itself : ℕ → List ℕ
itself n = n ∷ []

-- the numbers of n entries of an array, from entry i on
unfoldable pub numbers_from : {A : Type 0} → (A → List ℕ) → A → ℕ → ℕ → List A → List ℕ
numbers_from f d zero i xs = []
numbers_from f d (suc n) i xs = f (get_or xs i d) ++ numbers_from f d n (i + 1) xs

unfoldable pub flat_of : Sheet → List ℕ
flat_of s =
    s.issue
    ∷ vehicle_number s.vehicle
    ∷ grade_number s.grade
    ∷ grade_number s.grade2
    ∷ s.l01
    ∷ s.l02
    ∷ s.phase_count
    ∷ numbers_from phase_numbers zero_phase most_phases 0 s.phases
    ++ s.track_yellow
    ∷ s.track_red
    ∷ s.dwell_count
    ∷ numbers_from itself 0 most_phases 0 s.dwell
    ++ s.l18
    ∷ s.l19
    ∷ s.l20
    ∷ s.l28
    ∷ s.l30
    ∷ s.l31
    ∷ s.l33
    ∷ s.l37
    ∷ s.l39
    ∷ s.l47
    ∷ s.l56
    ∷ s.l57
    ∷ s.l58
    ∷ s.point_count
    ∷ numbers_from point_numbers zero_point most_points 0 s.points

-- where the numbers of phase i and of point i start: each phase has eight, each point two; those for dwell stand after their count
abbrev pub phase_place : ℕ → ℕ
phase_place i = place_for "phase" + 8 * i

abbrev pub dwell_place : ℕ → ℕ
dwell_place i = place_for "dwell" + 1 + i

abbrev pub point_place : ℕ → ℕ
point_place i = place_for "point" + 2 * i

-- phase i and point i from the numbers; a number past the end is 0
abbrev pub phase_at : List ℕ → ℕ → Phase
phase_at v i =
    record {
      number = get_or v (phase_place i) 0;
      green = get_or v (phase_place i + 1) 0;
      other = get_or v (phase_place i + 2) 0;
      yellow = get_or v (phase_place i + 3) 0;
      red = get_or v (phase_place i + 4) 0;
      walk = get_or v (phase_place i + 5) 0;
      clearance = get_or v (phase_place i + 6) 0;
      mode = get_or v (phase_place i + 7) 0;
    }

abbrev pub point_at : List ℕ → ℕ → Point
point_at v i = record { feet = get_or v (point_place i) 0; tenths = get_or v (point_place i + 1) 0 }

-- ---- and back: the sheet of the numbers. A grade has at most three digits

unfoldable pub vehicle_of : ℕ → Vehicle
vehicle_of x = pick (eqb x 1) Su (pick (eqb x 2) Bus (pick (eqb x 3) Wb50 Car))

unfoldable pub grade_of : ℕ → ℤ
grade_of x = pick (ltb x 1000000) (neg_ℤ (pos ((1000000 - x) % 1000))) (pos ((x - 1000000) % 1000))

-- n entries from entry i on
unfoldable pub entries_from : {A : Type 0} → (ℕ → A) → ℕ → ℕ → List A
entries_from f zero i = []
entries_from f (suc n) i = f i ∷ entries_from f n (i + 1)

-- the numbers of the list that stands at a place: those after its count
abbrev pub list_numbers : List ℕ → ℕ → List ℕ
list_numbers v at = entries_from (λ (i : ℕ). get_or v (at + 1 + i) 0) most_phases 0

-- with the parts that are more than a number
abbrev pub sheet_with : List ℕ → Vehicle → ℤ → ℤ → List Phase → List ℕ → List Point → Sheet
sheet_with v vehicle grade grade2 phases dwell points =
    record {
      issue = get_or v (place_for "issue") 0;
      vehicle = vehicle;
      grade = grade;
      grade2 = grade2;
      l01 = get_or v (place_for "l01") 0;
      l02 = get_or v (place_for "l02") 0;
      phase_count = get_or v (place_for "phases") 0;
      phases = phases;
      track_yellow = get_or v (place_for "track") 0;
      track_red = get_or v (place_for "track" + 1) 0;
      dwell_count = get_or v (place_for "dwell") 0;
      dwell = dwell;
      l18 = get_or v (place_for "l18") 0;
      l19 = get_or v (place_for "l19") 0;
      l20 = get_or v (place_for "l20") 0;
      l28 = get_or v (place_for "l28") 0;
      l30 = get_or v (place_for "l30") 0;
      l31 = get_or v (place_for "l31") 0;
      l33 = get_or v (place_for "l33") 0;
      l37 = get_or v (place_for "l37") 0;
      l39 = get_or v (place_for "l39") 0;
      l47 = get_or v (place_for "l47") 0;
      l56 = get_or v (place_for "l56") 0;
      l57 = get_or v (place_for "l57") 0;
      l58 = get_or v (place_for "l58") 0;
      point_count = get_or v (place_for "points") 0;
      points = points;
    }

abbrev pub sheet_of : List ℕ → Sheet
sheet_of v = sheet_with v (vehicle_of (get_or v (place_for "vehicle") 0)) (grade_of (get_or v (place_for "grade") 0)) (grade_of (get_or v (place_for "grade2") 0)) (entries_from (phase_at v) most_phases 0) (list_numbers v (place_for "dwell")) (entries_from (point_at v) most_points 0)
