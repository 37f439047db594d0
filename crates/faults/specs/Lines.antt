-- Refusals 2 to 6, of a line: "The first faulty line in file order decides, and on one line the lowest number."
use Rattle.std.specs.Prelude.{ℕ, zero, suc, ◌+◌, ◌-◌, Bool, true, false, List, [], ◌∷◌, leb, ltb, eqb, get_or, take, drop, Option, Some, None, Ok}
use Rattle.units.specs.Numbers.{pick, both}
use Rattle.sheet.specs.declared.Phase.{Phase}
use Rattle.sheet.specs.declared.Point.{Point}
use Rattle.sheet.specs.Refusals.{Answer, or_else, unless}
use Rattle.sheet.specs.declared.Refusal.TheVariants.{OutOfRange, PhasesDontRise, PointsDontRise, PedestriansInModeZero, ClearanceTooShort}
use Rattle.sheet.specs.Zero.{zero_phase}
use Rattle.rows.specs.Table.{is_list, kind_of, form_of, width_of, place_of, used_ranges, in_ranges, present, phase_kind, point_kind, first_phase, first_point, row_count}
use Rattle.numbers.specs.Flat.{phase_at, point_at}

-- 5: "mode 0 with walk or clearance above 0"
unfoldable pub quiet_in_mode_zero : Phase → Bool
quiet_in_mode_zero p = pick (eqb p.mode 0) (both (eqb p.walk 0) (eqb p.clearance 0)) true

-- 6: "mode 2 with clearance below yellow + red"
unfoldable pub clears_yellow_and_red : Phase → Bool
clears_yellow_and_red p = pick (eqb p.mode 2) (leb (p.yellow + p.red) p.clearance) true

-- the phase p after the phase `before`. 3: "phase numbers don't rise"
unfoldable pub phase_fault : Phase → Phase → ℕ → Answer
phase_fault before p line =
    or_else (unless (ltb before.number p.number) PhasesDontRise line)
    (or_else (unless (quiet_in_mode_zero p) PedestriansInModeZero line) (unless (clears_yellow_and_red p) ClearanceTooShort line))

-- 4: "first point isn't 0,0, distances don't rise, or times fall"
unfoldable pub starts_at_zero : Point → Bool
starts_at_zero p = both (eqb p.feet 0) (eqb p.tenths 0)

unfoldable pub point_rises : Point → Point → Bool
point_rises before p = both (ltb before.feet p.feet) (leb before.tenths p.tenths)

-- the point p after the one before it; the first has none
unfoldable pub point_follows : Option Point → Point → Bool
point_follows None p = starts_at_zero p
point_follows (Some before) p = point_rises before p

-- the first phase comes after the zero phase, whose number is 0
unfoldable pub before_phase : List ℕ → ℕ → Phase
before_phase v i = pick (eqb i 0) zero_phase (phase_at v (i - 1))

unfoldable pub point_fits : List ℕ → ℕ → Bool
point_fits v i = pick (eqb i 0) (starts_at_zero (point_at v i)) (point_rises (point_at v (i - 1)) (point_at v i))

-- the numbers of a list, which are as many as it counts
abbrev pub list_at : List ℕ → ℕ → List ℕ
list_at v row = take (get_or v (place_of row) 0) (take (width_of row - 1) (drop (place_of row + 1) v))

-- "3 when the numbers don't rise": each is above the one before, the first above 0
unfoldable pub rises_after : ℕ → List ℕ → Bool
rises_after x [] = true
rises_after x (y ∷ ys) = pick (ltb x y) (rises_after y ys) false

-- what a phase line, a point line or a list must keep besides its ranges
unfoldable pub rule_fault : List ℕ → ℕ → ℕ → Answer
rule_fault v row line =
    pick (eqb (kind_of row) phase_kind) (phase_fault (before_phase v (row - first_phase)) (phase_at v (row - first_phase)) line)
    (pick (eqb (kind_of row) point_kind) (unless (point_fits v (row - first_point)) PointsDontRise line)
    (pick (is_list (form_of row)) (unless (rises_after 0 (list_at v row)) PhasesDontRise line) (Ok tt)))

-- a row of the numbers v, on that line of the text. 2: "a value is out of range"
unfoldable pub row_fault : List ℕ → ℕ → ℕ → Answer
row_fault v row line =
    or_else (unless (in_ranges v (place_of row) (used_ranges v row)) OutOfRange line) (rule_fault v row line)

-- a row that the text has is a line of it; one past its count is none, and has no fault
unfoldable pub here_fault : List ℕ → ℕ → ℕ → Answer
here_fault v row line = pick (present v row) (row_fault v row line) (Ok tt)

unfoldable pub line_after : List ℕ → ℕ → ℕ → ℕ
line_after v row line = pick (present v row) (line + 1) line

-- the first fault of n rows from `row` on, with the next line of the text
unfoldable pub fault_from : List ℕ → ℕ → ℕ → ℕ → Answer
fault_from v zero row line = Ok tt
fault_from v (suc n) row line = or_else (here_fault v row line) (fault_from v n (row + 1) (line_after v row line))

abbrev pub lines_fault : List ℕ → Answer
lines_fault v = fault_from v row_count 0 1
