-- The stretches of a sheet's rows, as the code asks them one after the other. Assumes nothing.
use mathlib.Core.Path.{◌≡◌, refl, sym, ap, ◌∙◌}
use mathlib.Core.Bool.{Bool, true, false}
use mathlib.Core.List.{[], ◌∷◌}
use Prim.Native.Nat.{ℕ, ◌+◌, ◌-◌, ◌≤◌, min}
use native.Mathlib.Omega.{arith}
use Rattle.units.specs.Numbers.{pick}
use Rattle.sheet.specs.declared.Sheet.{Sheet}
use Rattle.sheet.specs.declared.Refusal.TheVariants.{OutOfRange}
use Rattle.sheet.specs.Refusals.{Answer, or_else, unless}
use Rattle.sheet.proofs.Answers.{or_or}
use Rattle.rows.specs.Table.{row_for, in_range, in_ranges, range_of, ranges_of, kind_of, first_phase, first_point, most_phases, most_points}
use Rattle.numbers.specs.Flat.{flat_of, numbers_from, grade_number}
use Rattle.faults.specs.Dwell.{dwell_line}
use Rattle.faults.specs.Lines.{fault_from}
use Rattle.faults.specs.Whole.{whole_fault, accept_of}
use Rattle.faults.proofs.Accepted.{after_phases, between, first_single}
use Rattle.faults.proofs.Values.{one_fault, ones_of, ones_after, single_numbers, head_values, middle_values, in_stretches}

-- the rows before the phases, but for the vehicle
pub head_rows : (s : Sheet)
    → fault_from (flat_of s) first_phase 0 1
    ≡ or_else (one_fault (row_for "issue") s.issue 0)
    (or_else (one_fault (row_for "grade") (grade_number s.grade) 0)
    (or_else (one_fault (row_for "grade2") (grade_number s.grade2) 0)
    (or_else (one_fault (row_for "l01") s.l01 0) (or_else (one_fault (row_for "l02") s.l02 0) (one_fault (row_for "phases") s.phase_count 0)))))
unfolding ones_after flat_of
head_rows s =
    sym (or_or _ _ _ ∙ or_or _ _ _ ∙ or_or _ _ _ ∙ or_or _ _ _ ∙ head_values s)

last : (b : Bool) → pick b true false ≡ b
unfolding pick
last true = refl
last false = refl

-- the track, the list for dwell, and the rows of one number past it
pub middle_rows : (s : Sheet) (absent : ℕ) → absent ≤ most_phases
    → fault_from (flat_of s) between after_phases (after_phases + 1 - absent)
    ≡ or_else (unless (in_ranges (s.track_yellow ∷ s.track_red ∷ []) 0 (ranges_of (row_for "track"))) OutOfRange (row_for "track" + 1 - absent))
    (or_else (dwell_line s.dwell_count s.dwell (row_for "dwell" + 1 - absent))
    (ones_of (s.l18 ∷ s.l19 ∷ s.l20 ∷ s.l28 ∷ s.l30 ∷ s.l31 ∷ s.l33 ∷ s.l37 ∷ s.l39 ∷ s.l47 ∷ s.l56 ∷ s.l57 ∷ s.l58 ∷ s.point_count ∷ []) first_single absent))
unfolding flat_of numbers_from in_ranges ranges_of kind_of
middle_rows s absent h =
    let rest = or_else (dwell_line s.dwell_count s.dwell (row_for "dwell" + 1 - absent)) (ones_of (single_numbers s) first_single absent) in
    let yellow = in_range (range_of (row_for "track") 0) s.track_yellow in
    let red = in_range (range_of (row_for "track") 1) s.track_red in
    sym (ap (λ (b : Bool). or_else (unless (pick yellow b false) OutOfRange (row_for "track" + 1 - absent)) rest) (last red) ∙ middle_values s absent h)

-- the lines and then the whole
pub all_rows : (s : Sheet)
    → accept_of s
    ≡ or_else (fault_from (flat_of s) first_phase 0 1)
    (or_else (fault_from (flat_of s) most_phases first_phase (first_phase + 1))
    (or_else (fault_from (flat_of s) between after_phases (after_phases + 1 - (most_phases - s.phase_count)))
    (or_else (fault_from (flat_of s) most_points first_point (first_point + 1 - (most_phases - s.phase_count))) (whole_fault s))))
unfolding accept_of
all_rows s =
    let v = flat_of s in
    let absent = most_phases - s.phase_count in
    let a = fault_from v first_phase 0 1 in
    let b = fault_from v most_phases first_phase (first_phase + 1) in
    let c = fault_from v between after_phases (after_phases + 1 - absent) in
    let d = fault_from v most_points first_point (first_point + 1 - absent) in
    let w = whole_fault s in
    sym
    (ap (λ (x : Answer). or_else a (or_else b x)) (or_or c d w)
    ∙ ap (or_else a) (or_or b (or_else c d) w)
    ∙ or_or a (or_else b (or_else c d)) w
    ∙ ap (λ (x : Answer). or_else x w) (in_stretches s absent (omega arith)))
