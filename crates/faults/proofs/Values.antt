-- The walk along the rows of a sheet, told of its own values: rows of one number, phases, points, and all of them in their stretches. Assumes nothing.
use mathlib.Core.Path.{◌≡◌, refl, sym, ap, ◌∙◌}
use mathlib.Core.Bool.{Bool, true, false}
use mathlib.Core.List.{List, [], ◌∷◌}
use Prim.Native.Nat.{ℕ, zero, suc, ◌+◌, ◌-◌, ◌<◌, ◌≤◌, min}
use native.Mathlib.Omega.{arith}
use lib.Dec.{T, ltb, eqb, eqb→eq}
use lib.ListN.{length, get_or, take, drop, length-take, drop_of_length-le}
use lib.Seq.{get_or-take, get_or-drop}
use borrow.Author.Tests.{lt-ltb, le-ltb, ltb-true, ltb-false, ne_eqb}
use Rattle.units.specs.Numbers.{pick, both}
use Rattle.units.proofs.Steps.{split}
use Rattle.units.proofs.Walk.{rest_at}
use Rattle.units.proofs.Tested.{at, also, also_left, also_right}
use Rattle.sheet.specs.declared.Phase.{Phase}
use Rattle.sheet.specs.declared.Point.{Point}
use Rattle.sheet.specs.declared.Sheet.{Sheet}
use Rattle.sheet.specs.declared.Vehicle.{Vehicle}
use Rattle.sheet.specs.declared.Vehicle.TheVariants.{Car, Su, Bus, Wb50}
use Rattle.sheet.specs.Refusals.{Answer, refused, is_fine, or_else, unless}
use Rattle.std.specs.Prelude.{Ok, replicate}
use Rattle.std.specs.List.{list_all}
use Rattle.sheet.specs.declared.Refusal.{Refusal}
use Rattle.sheet.specs.declared.Refusal.TheVariants.{OutOfRange, PhasesDontRise, PointsDontRise}
use Rattle.sheet.specs.Zero.{zero_phase, zero_point}
use Rattle.sheet.specs.Entries.{nth_phase, nth_point}
use Rattle.sheet.proofs.Answers.{or_or, or_fine}
use Rattle.rows.specs.Table.{Range, ◌to◌, kind_of, form_of, ranges_of, range_of, width_of, place_of, used_ranges, in_range, in_ranges, present, row_count, most_phases, most_points, row_for, place_for, first_phase, first_point, phase_kind, point_kind}
use Rattle.rows.proofs.Tables.{dwell_place_lem}
use Rattle.numbers.specs.Flat.{vehicle_number, phase_numbers, point_numbers, phase_place, point_place, phase_at, point_at, numbers_from, flat_of}
use Rattle.numbers.proofs.Entries.{entries_all}
use Rattle.faults.specs.Dwell.{dwell_inside, dwell_line}
use Rattle.faults.specs.Lines.{phase_fault, starts_at_zero, point_rises, rises_after, rule_fault, row_fault, here_fault, line_after, fault_from, lines_fault}
use Rattle.faults.proofs.Along.{fine_row, bad_row, no_lines, line_from, in_two, all_lines}
use Rattle.faults.proofs.Sound.{phase_in, point_in, dwell_in, dwell_used, dwell_rule, phases_at, points_at, phase_kind_lem, phase_place_lem, phase_present, point_kind_lem, point_place_lem, point_present, ranges_by, used_by, before, fitting, phase_rule, point_rule}
use Rattle.faults.proofs.Accepted.{after_phases, between, first_single, singles, unruled, no_rule}

-- ---- rows of one number

-- the fault of a row by its one number x, where so many rows before it are no lines
abbrev pub one_fault : ℕ → ℕ → ℕ → Answer
one_fault row x absent = unless (in_range (range_of row 0) x) OutOfRange (row + 1 - absent)

-- the first fault of rows that have one number each, xs, from `row` on
unfoldable pub ones_of : List ℕ → ℕ → ℕ → Answer
ones_of [] row absent = Ok tt
ones_of (x ∷ xs) row absent = or_else (one_fault row x absent) (ones_of xs (row + 1) absent)

unfoldable has_one_number : ℕ → Bool
has_one_number row = also (unruled row) (eqb (width_of row) 1)

record OneNumber (v : List ℕ) (row : ℕ) : Type 0 where
  pub here : present v row ≡ true
  pub fault : (line : ℕ) → row_fault v row line ≡ unless (in_range (range_of row 0) (get_or v (place_of row) 0)) OutOfRange line

last_of_both : (b : Bool) → pick b true false ≡ b
unfolding pick
last_of_both true = refl
last_of_both false = refl

one_range : (v : List ℕ) (at : ℕ) (rs : List Range) → length rs ≡ 1 → in_ranges v at rs ≡ in_range (get_or rs 0 (0 to 0)) (get_or v at 0)
unfolding in_ranges
one_range v at [] e = absurd (omega arith)
one_range v at (r ∷ []) e = last_of_both (in_range r (get_or v at 0))
one_range v at (r ∷ q ∷ rs) e = absurd (omega arith)

one_number : (v : List ℕ) (row : ℕ) → T (has_one_number row) → present v row ≡ true → OneNumber v row
unfolding has_one_number width_of row_fault
one_number v row t p =
    record {
      here = p;
      fault =
          λ line.
          let none = no_rule row (also_left (unruled row) (eqb (width_of row) 1) t) in
          rw (none.rule v line, none.used v, one_range v (place_of row) (ranges_of row) (eqb→eq (width_of row) 1 (also_right (unruled row) (eqb (width_of row) 1) t)))
          (or_fine _);
    }

ones : (v xs : List ℕ) (row absent : ℕ) → absent ≤ row → ((i : ℕ) → i < length xs → OneNumber v (row + i)) → ((i : ℕ) → i < length xs → get_or v (place_of (row + i)) 0 ≡ get_or xs i 0)
    → ones_of xs row absent ≡ fault_from v (length xs) row (row + 1 - absent)
unfolding ones_of fault_from here_fault line_after pick
ones v [] row absent h each same = refl
ones v (x ∷ xs) row absent h each same =
    let z : row + 0 ≡ row = omega arith in
    let one : OneNumber v row = rw z at (each 0 (omega arith)) in
    let here : get_or v (place_of row) 0 ≡ x = rw z at (same 0 (omega arith)) in
    let e : row + 1 - absent + 1 ≡ row + 1 + 1 - absent = omega arith in
    rw (one.here, one.fault (row + 1 - absent), here, e)
    (ap (or_else (one_fault row x absent))
    (ones v xs (row + 1) absent (omega arith)
    (λ i b. let d : row + suc i ≡ row + 1 + i = omega arith in rw d at (each (suc i) (omega arith)))
    (λ i b. let d : row + suc i ≡ row + 1 + i = omega arith in rw d at (same (suc i) (omega arith)))))

-- numbers that stand one after the other, taken out
taken : (v : List ℕ) (place n row : ℕ) → ((i : ℕ) → i < n → place_of (row + i) ≡ place + i) → (i : ℕ) → i < n → get_or v (place_of (row + i)) 0 ≡ get_or (take n (drop place v)) i 0
taken v place n row places i h =
    ap (λ (k : ℕ). get_or v k 0) (places i h) ∙ sym (get_or-take n (drop place v) i 0 h ∙ get_or-drop place v i 0)

head_here : (v : List ℕ) (i : ℕ) → i < first_phase → present v (0 + i) ≡ true
unfolding present pick
head_here v i h = rw (lt-ltb (0 + i) first_phase (omega arith)) refl

middle_here : (v : List ℕ) (i : ℕ) → i < between → present v (after_phases + i) ≡ true
unfolding present pick
middle_here v i h =
    rw (le-ltb (after_phases + i) first_phase (omega arith), le-ltb (after_phases + i) after_phases (omega arith), lt-ltb (after_phases + i) first_point (omega arith)) refl

head_ones : (v : List ℕ) (i : ℕ) → i < first_phase → OneNumber v (0 + i)
unfolding has_one_number unruled form_of width_of ranges_of kind_of pick
head_ones v i h = one_number v (0 + i) (at (λ (k : ℕ). has_one_number (0 + k)) first_phase tt i h) (head_here v i h)

single_ones : (v : List ℕ) (i : ℕ) → i < singles → OneNumber v (first_single + i)
unfolding has_one_number unruled form_of width_of ranges_of kind_of pick
single_ones v i h =
    let e : after_phases + suc (suc i) ≡ first_single + i = omega arith in
    one_number v (first_single + i) (at (λ (k : ℕ). has_one_number (first_single + k)) singles tt i h) (rw e at (middle_here v (suc (suc i)) (omega arith)))

vehicle_fine : (w : Vehicle) (line : ℕ) → unless (in_range (range_of (row_for "vehicle") 0) (vehicle_number w)) OutOfRange line ≡ Ok tt
unfolding ranges_of kind_of in_range pick unless
vehicle_fine Car line = refl
vehicle_fine Su line = refl
vehicle_fine Bus line = refl
vehicle_fine Wb50 line = refl

-- one row after the other, with what came before them
unfoldable pub ones_after : Answer → List ℕ → ℕ → Answer
ones_after fault [] row = fault
ones_after fault (x ∷ xs) row = ones_after (or_else fault (one_fault row x 0)) xs (row + 1)

in_turn : (fault : Answer) (xs : List ℕ) (row : ℕ) → ones_after fault xs row ≡ or_else fault (ones_of xs row 0)
unfolding ones_after ones_of
in_turn fault [] row = sym (or_fine fault)
in_turn fault (x ∷ xs) row = in_turn (or_else fault (one_fault row x 0)) xs (row + 1) ∙ sym (or_or fault (one_fault row x 0) (ones_of xs (row + 1) 0))

head_places : (i : ℕ) → i < first_phase → place_of (0 + i) ≡ 0 + i
unfolding place_of width_of ranges_of kind_of
head_places i h = eqb→eq (place_of (0 + i)) (0 + i) (at (λ (k : ℕ). eqb (place_of (0 + k)) (0 + k)) first_phase tt i h)

single_places : (i : ℕ) → i < singles → place_of (first_single + i) ≡ place_for "l18" + i
unfolding place_of width_of ranges_of kind_of
single_places i h =
    eqb→eq (place_of (first_single + i)) (place_for "l18" + i) (at (λ (k : ℕ). eqb (place_of (first_single + k)) (place_for "l18" + k)) singles tt i h)

-- the numbers of the rows from the grade to the phases, and of those past the list for dwell
abbrev pub head_numbers : Sheet → List ℕ
head_numbers s = take (first_phase - row_for "grade") (drop (place_for "grade") (flat_of s))

abbrev pub single_numbers : Sheet → List ℕ
single_numbers s = take singles (drop (place_for "l18") (flat_of s))

-- the rows before the phases; a vehicle is never out of its range
pub head_values : (s : Sheet) → ones_after (one_fault (row_for "issue") s.issue 0) (head_numbers s) (row_for "grade") ≡ fault_from (flat_of s) first_phase 0 1
unfolding ones_of flat_of or_else
head_values s =
    let issue = one_fault (row_for "issue") s.issue 0 in
    let rest = ones_of (head_numbers s) (row_for "grade") 0 in
    in_turn issue (head_numbers s) (row_for "grade")
    ∙ ap (λ (a : Answer). or_else issue (or_else a rest)) (sym (vehicle_fine s.vehicle (row_for "vehicle" + 1)))
    ∙ ones (flat_of s) (take first_phase (drop 0 (flat_of s))) 0 0 (omega arith) (head_ones (flat_of s)) (taken (flat_of s) 0 first_phase 0 head_places)

-- the rows between the phases and the points: the track's two numbers, the list for dwell, then rows of one
abbrev pub track_fault : Sheet → ℕ → Answer
track_fault s absent = unless (both (in_range (range_of (row_for "track") 0) s.track_yellow) (in_range (range_of (row_for "track") 1) s.track_red)) OutOfRange (row_for "track" + 1 - absent)

track_row : (s : Sheet) (absent : ℕ) → row_fault (flat_of s) (row_for "track") (row_for "track" + 1 - absent) ≡ track_fault s absent
unfolding row_fault rule_fault in_ranges flat_of numbers_from used_ranges form_of place_of width_of ranges_of kind_of pick
track_row s absent =
    let red = in_range (range_of (row_for "track") 1) s.track_red in
    or_fine _
    ∙ ap (λ (b : Bool). unless (both (in_range (range_of (row_for "track") 0) s.track_yellow) b) OutOfRange (row_for "track" + 1 - absent)) (last_of_both red)

-- ranges go by the numbers, wherever they stand
same_ranges : (v w : List ℕ) (at there : ℕ) (rs : List Range) → ((j : ℕ) → j < length rs → get_or v (at + j) 0 ≡ get_or w (there + j) 0) → in_ranges v at rs ≡ in_ranges w there rs
unfolding in_ranges
same_ranges v w at there [] f = refl
same_ranges v w at there (r ∷ rs) f =
    let a : at + 0 ≡ at = omega arith in
    let b : there + 0 ≡ there = omega arith in
    let here : get_or v at 0 ≡ get_or w there 0 = rw (a, b) at (f 0 (omega arith)) in
    let rest = same_ranges v w (at + 1) (there + 1) rs
    (λ j h.
    let c : at + suc j ≡ at + 1 + j = omega arith in
    let d : there + suc j ≡ there + 1 + j = omega arith in
    rw (c, d) at (f (suc j) (omega arith))) in
    λ i. pick (in_range r (here i)) (rest i) false

-- one range for as many numbers as there are: the first n of them are in it
one_range_all : (r : Range) (n : ℕ) (xs : List ℕ) → in_ranges xs 0 (take n (replicate (length xs) r)) ≡ list_all (in_range r) (take n xs)
unfolding in_ranges pick
one_range_all r zero xs = refl
one_range_all r (suc n) [] = refl
one_range_all r (suc n) (x ∷ xs) =
    let rs = take n (replicate (length xs) r) in
    let rest = same_ranges (x ∷ xs) xs (0 + 1) 0 rs (λ j h. let a : 0 + 1 + j ≡ suc j = omega arith in let b : 0 + j ≡ j = omega arith in rw (a, b) refl) in
    split (in_range r x) (λ t. rw (t, rest) (one_range_all r n xs)) (λ t. rw t refl)

-- two tests of one refusal are given one by one
apart : (a b : Bool) (r : Refusal) (l : ℕ) → unless (both a b) r l ≡ or_else (unless a r l) (unless b r l)
unfolding pick unless or_else
apart true b r l = refl
apart false b r l = refl

-- the line for dwell, of the numbers that are counted: how many there are, then each of them, then that they rise
pub dwell_line_lem : (n : ℕ) (xs : List ℕ) (line : ℕ) → length xs ≡ most_phases
    → dwell_line n xs line
    ≡ or_else (unless (in_range (range_of (row_for "dwell") 0) n) OutOfRange line)
    (or_else (unless (list_all (in_range (range_of (row_for "dwell") 1)) (take n xs)) OutOfRange line)
    (unless (rises_after 0 (take n xs)) PhasesDontRise line))
unfolding ranges_of kind_of
dwell_line_lem n xs line l =
    let counts = in_range (range_of (row_for "dwell") 0) n in
    let fit = rw l at (one_range_all (1 to 8) n xs) in
    let rises = unless (rises_after 0 (take n xs)) PhasesDontRise line in
    (λ i. or_else (unless (both counts (fit i)) OutOfRange line) (unless (rises_after 0 (take n (entries_all xs most_phases 0 l i))) PhasesDontRise line))
    ∙ ap (λ (a : Answer). or_else a rises) (apart counts (list_all (in_range (1 to 8)) (take n xs)) OutOfRange line)
    ∙ sym (or_or _ _ rises)

dwell_numbers_lem : (s : Sheet) → in_ranges (flat_of s) (place_for "dwell") (take (1 + s.dwell_count) (ranges_of (row_for "dwell"))) ≡ dwell_inside s.dwell_count s.dwell
unfolding in_ranges ranges_of kind_of
dwell_numbers_lem s =
    let n = s.dwell_count in
    let rs = drop 1 (ranges_of (row_for "dwell")) in
    let e : 1 + n ≡ suc n = omega arith in
    let rest = same_ranges (flat_of s) s.dwell (place_for "dwell" + 1) 0 (take n rs)
    (λ j h.
    let z : 0 + j ≡ j = omega arith in
    let d : place_for "dwell" + suc j ≡ place_for "dwell" + 1 + j = omega arith in
    rw (z, ← d) (dwell_in s (suc j) (omega (arith, length-take n rs)))) in
    rw (e, dwell_in s 0 (omega arith)) (λ i. both (in_range (range_of (row_for "dwell") 0) n) (rest i))

dwell_row : (s : Sheet) (line : ℕ) → row_fault (flat_of s) (row_for "dwell") line ≡ dwell_line s.dwell_count s.dwell line
unfolding row_fault
dwell_row s line = rw (dwell_used s, dwell_place_lem, dwell_numbers_lem s, dwell_rule s line) refl

pub middle_values : (s : Sheet) (absent : ℕ) → absent ≤ most_phases
    → or_else (track_fault s absent) (or_else (dwell_line s.dwell_count s.dwell (row_for "dwell" + 1 - absent)) (ones_of (single_numbers s) first_single absent)) ≡ fault_from (flat_of s) between after_phases (after_phases + 1 - absent)
unfolding flat_of numbers_from fault_from here_fault line_after present pick
middle_values s absent h =
    let d : after_phases + 1 - absent + 1 ≡ row_for "dwell" + 1 - absent = omega arith in
    let e : row_for "dwell" + 1 - absent + 1 ≡ first_single + 1 - absent = omega arith in
    rw (d, e, track_row s absent, dwell_row s (row_for "dwell" + 1 - absent))
    (ap (λ (a : Answer). or_else (track_fault s absent) (or_else (dwell_line s.dwell_count s.dwell (row_for "dwell" + 1 - absent)) a))
    (ones (flat_of s) (single_numbers s) first_single absent (omega arith) (single_ones (flat_of s)) (taken (flat_of s) (place_for "l18") singles first_single single_places)))

-- what a loop along such rows keeps at row i
module _ (xs : List ℕ) (row absent i : ℕ) where
  pub ones_next : i < length xs → in_range (range_of (row + i) 0) (get_or xs i 0) ≡ true → ones_of (drop i xs) (row + i) absent ≡ ones_of (drop (i + 1) xs) (row + (i + 1)) absent
  unfolding ones_of or_else unless
  ones_next h t =
      let e : row + i + 1 ≡ row + (i + 1) = omega arith in
      rw (rest_at 0 xs i h, e) (rw t refl)

  pub ones_stop : i < length xs → in_range (range_of (row + i) 0) (get_or xs i 0) ≡ false → ones_of (drop i xs) (row + i) absent ≡ refused OutOfRange (row + i + 1 - absent)
  unfolding ones_of or_else unless
  ones_stop h t = rw (rest_at 0 xs i h) (rw t refl)

  pub ones_end : length xs ≤ i → ones_of (drop i xs) (row + i) absent ≡ Ok tt
  unfolding ones_of
  ones_end h = rw (drop_of_length-le xs {i = i} h) refl

-- ---- phases

phase_numbers_lem : (v : List ℕ) (i : ℕ) → in_ranges v (phase_place i) (ranges_of first_phase) ≡ in_ranges (phase_numbers (phase_at v i)) 0 (ranges_of first_phase)
unfolding in_ranges ranges_of kind_of
phase_numbers_lem v i =
    let e2 : phase_place i + 1 + 1 ≡ phase_place i + 2 = omega arith in
    let e3 : phase_place i + 2 + 1 ≡ phase_place i + 3 = omega arith in
    let e4 : phase_place i + 3 + 1 ≡ phase_place i + 4 = omega arith in
    let e5 : phase_place i + 4 + 1 ≡ phase_place i + 5 = omega arith in
    let e6 : phase_place i + 5 + 1 ≡ phase_place i + 6 = omega arith in
    let e7 : phase_place i + 6 + 1 ≡ phase_place i + 7 = omega arith in
    rw (e2, e3, e4, e5, e6, e7) refl

abbrev pub phase_inside : Phase → Bool
phase_inside p = in_ranges (phase_numbers p) 0 (ranges_of first_phase)

-- as the code asks it, one number after the other
pub phase_fits_lem : (p : Phase)
    → both (in_range (range_of first_phase 0) p.number)
    (both (in_range (range_of first_phase 1) p.green)
    (both (in_range (range_of first_phase 2) p.other)
    (both (in_range (range_of first_phase 3) p.yellow)
    (both (in_range (range_of first_phase 4) p.red)
    (both (in_range (range_of first_phase 5) p.walk) (both (in_range (range_of first_phase 6) p.clearance) (in_range (range_of first_phase 7) p.mode))))))) ≡ phase_inside p
unfolding in_ranges ranges_of kind_of
phase_fits_lem p = rw (last_of_both (in_range (range_of first_phase 7) p.mode)) refl

abbrev pub phase_line : Phase → Phase → ℕ → Answer
phase_line before p line = or_else (unless (phase_inside p) OutOfRange line) (phase_fault before p line)

phase_used : (v : List ℕ) (i : ℕ) → i < most_phases → used_ranges v (first_phase + i) ≡ ranges_of first_phase
phase_used v i h =
    used_by v (first_phase + i) phase_kind (phase_kind_lem i h) refl ∙ sym (ranges_by first_phase phase_kind (phase_kind_lem 0 (omega arith)))

phase_row : (s : Sheet) (i line : ℕ) → i < most_phases → row_fault (flat_of s) (first_phase + i) line ≡ phase_line (before s i) (nth_phase s i) line
unfolding row_fault
phase_row s i line h =
    let inside : in_ranges (flat_of s) (phase_place i) (ranges_of first_phase) ≡ phase_inside (nth_phase s i) = phase_numbers_lem (flat_of s) i ∙ ap phase_inside (phase_in s i h) in
    rw (phase_place_lem i h, phase_used (flat_of s) i h, inside, phase_rule s i line h) refl

phase_absent : (v : List ℕ) (i : ℕ) → i < most_phases → get_or v (place_for "phases") 0 ≤ i → present v (first_phase + i) ≡ false
unfolding present pick
phase_absent v i h c =
    let e : first_phase + i - first_phase ≡ i = omega arith in
    rw (le-ltb (first_phase + i) first_phase (omega arith), lt-ltb (first_phase + i) after_phases (omega arith), e) (le-ltb i (get_or v (place_for "phases") 0) c)

no_phases : (s : Sheet) (i line : ℕ) → min s.phase_count most_phases ≤ i → fault_from (flat_of s) (most_phases - i) (first_phase + i) line ≡ Ok tt
no_phases s i line h =
    no_lines (flat_of s) (most_phases - i) (first_phase + i) line
    (λ k b.
    let e : first_phase + i + k ≡ first_phase + (i + k) = omega arith in
    rw e (phase_absent (flat_of s) (i + k) (omega arith) (rw (phases_at s) (omega arith))))

-- What a loop along the phases keeps at phase i, with the phase before it held: of each sheet with these phases, n of them listed, the rows left have the first fault
-- of all.
abbrev pub PhasesLeft : List Phase → ℕ → Phase → ℕ → Type 0
PhasesLeft phases n held i =
    (s : Sheet) → s.phases ≡ phases → min s.phase_count most_phases ≡ n
    → (held ≡ before s i) × (fault_from (flat_of s) (most_phases - i) (first_phase + i) (first_phase + i + 1) ≡ fault_from (flat_of s) most_phases first_phase (first_phase + 1))

pub phases_start : (phases : List Phase) (n : ℕ) (held : Phase) → held ≡ zero_phase → PhasesLeft phases n held 0
unfolding pick
phases_start phases n held e s ep en = (e, refl)

module _ (phases : List Phase) (n : ℕ) (held : Phase) (i line : ℕ) (a : Answer) (left : PhasesLeft phases n held i) (h : i < n) (l : line ≡ first_phase + i + 1) (is : a ≡ phase_line held (get_or phases i zero_phase) line) where
  row_here : (s : Sheet) → s.phases ≡ phases → min s.phase_count most_phases ≡ n → row_fault (flat_of s) (first_phase + i) line ≡ a
  row_here s ep en =
      phase_row s i line (omega (arith, en)) ∙ (let same = sym (left s ep en).0 in λ d. phase_line (same d) (get_or (ep d) i zero_phase) line) ∙ sym is

  pub phases_next : is_fine a ≡ true → PhasesLeft phases n (get_or phases i zero_phase) (i + 1)
  unfolding pick
  phases_next t s ep en =
      let e : i + 1 - 1 ≡ i = omega arith in
      let m : line + 1 ≡ first_phase + (i + 1) + 1 = omega (arith, l) in
      let at-line = (left s ep en).1 in (
        rw (ne_eqb (i + 1) 0 (omega arith), e) (sym (λ d. get_or (ep d) i zero_phase)),
        rw m at (sym (fine_row (flat_of s) first_phase most_phases i line (omega (arith, en)) (phase_present (flat_of s) i (omega (arith, en)) (rw (phases_at s) (omega (arith, en)))) (ap is_fine (row_here s ep en) ∙ t)))
            ∙ rw (← l) at at-line,
      )

  pub phases_stop : is_fine a ≡ false → (s : Sheet) → s.phases ≡ phases → min s.phase_count most_phases ≡ n → a ≡ fault_from (flat_of s) most_phases first_phase (first_phase + 1)
  phases_stop t s ep en =
      let at-line = (left s ep en).1 in
      sym (row_here s ep en)
      ∙ sym (bad_row (flat_of s) first_phase most_phases i line (omega (arith, en)) (phase_present (flat_of s) i (omega (arith, en)) (rw (phases_at s) (omega (arith, en)))) (ap is_fine (row_here s ep en) ∙ t))
      ∙ rw (← l) at at-line

pub phases_end : (phases : List Phase) (n : ℕ) (held : Phase) (i : ℕ) → PhasesLeft phases n held i → n ≤ i → (s : Sheet) → s.phases ≡ phases → min s.phase_count most_phases ≡ n → (Ok tt) ≡ fault_from (flat_of s) most_phases first_phase (first_phase + 1)
phases_end phases n held i left h s ep en = sym (no_phases s i (first_phase + i + 1) (omega (arith, en))) ∙ (left s ep en).1

-- ---- points

point_numbers_lem : (v : List ℕ) (i : ℕ) → in_ranges v (point_place i) (ranges_of first_point) ≡ in_ranges (point_numbers (point_at v i)) 0 (ranges_of first_point)
unfolding in_ranges ranges_of kind_of
point_numbers_lem v i = refl

abbrev pub point_inside : Point → Bool
point_inside p = in_ranges (point_numbers p) 0 (ranges_of first_point)

pub point_fits_lem : (p : Point) → both (in_range (range_of first_point 0) p.feet) (in_range (range_of first_point 1) p.tenths) ≡ point_inside p
unfolding in_ranges ranges_of kind_of
point_fits_lem p = rw (last_of_both (in_range (range_of first_point 1) p.tenths)) refl

abbrev pub point_line : Bool → Point → ℕ → Answer
point_line rises p line = or_else (unless (point_inside p) OutOfRange line) (unless rises PointsDontRise line)

point_used : (v : List ℕ) (i : ℕ) → i < most_points → used_ranges v (first_point + i) ≡ ranges_of first_point
point_used v i h =
    used_by v (first_point + i) point_kind (point_kind_lem i h) refl ∙ sym (ranges_by first_point point_kind (point_kind_lem 0 (omega arith)))

point_row : (s : Sheet) (i line : ℕ) → i < most_points → row_fault (flat_of s) (first_point + i) line ≡ point_line (fitting s i) (nth_point s i) line
unfolding row_fault
point_row s i line h =
    let inside : in_ranges (flat_of s) (point_place i) (ranges_of first_point) ≡ point_inside (nth_point s i) = point_numbers_lem (flat_of s) i ∙ ap point_inside (point_in s i h) in
    rw (point_place_lem i h, point_used (flat_of s) i h, inside, point_rule s i line h) refl

point_absent : (v : List ℕ) (i : ℕ) → get_or v (place_for "points") 0 ≤ i → present v (first_point + i) ≡ false
unfolding present pick
point_absent v i c =
    let e : first_point + i - first_point ≡ i = omega arith in
    rw (le-ltb (first_point + i) first_phase (omega arith), le-ltb (first_point + i) after_phases (omega arith), le-ltb (first_point + i) first_point (omega arith), e) (le-ltb i (get_or v (place_for "points") 0) c)

no_points : (s : Sheet) (i line : ℕ) → min s.point_count most_points ≤ i → fault_from (flat_of s) (most_points - i) (first_point + i) line ≡ Ok tt
no_points s i line h =
    no_lines (flat_of s) (most_points - i) (first_point + i) line
    (λ k b.
    let e : first_point + i + k ≡ first_point + (i + k) = omega arith in
    rw e (point_absent (flat_of s) (i + k) (rw (points_at s) (omega arith))))

-- and the same along the points
abbrev pub PointsLeft : List Point → ℕ → ℕ → Point → ℕ → Type 0
PointsLeft points n absent held i =
    (s : Sheet) → s.points ≡ points → min s.point_count most_points ≡ n
    → (0 < i → held ≡ nth_point s (i - 1)) × (fault_from (flat_of s) (most_points - i) (first_point + i) (first_point + i + 1 - absent) ≡ fault_from (flat_of s) most_points first_point (first_point + 1 - absent))

pub points_start : (points : List Point) (n absent : ℕ) (held : Point) → PointsLeft points n absent held 0
points_start points n absent held s ep en = ((λ h. absurd (omega arith)), refl)

rising : (s : Sheet) (held : Point) (i : ℕ) → (0 < i → held ≡ nth_point s (i - 1)) → pick (eqb i 0) (starts_at_zero (nth_point s i)) (point_rises held (nth_point s i)) ≡ fitting s i
unfolding pick
rising s held zero e = refl
rising s held (suc i) e = rw (ne_eqb (suc i) 0 (omega arith)) (ap (λ (p : Point). point_rises p (nth_point s (suc i))) (e (omega arith)))

module _ (points : List Point) (n absent : ℕ) (held : Point) (i line : ℕ) (a : Answer) (left : PointsLeft points n absent held i) (h : i < n) (few : absent ≤ most_phases) (l : line ≡ first_point + i + 1 - absent)
    (is : a ≡ point_line (pick (eqb i 0) (starts_at_zero (get_or points i zero_point)) (point_rises held (get_or points i zero_point))) (get_or points i zero_point) line) where
  row_is : (s : Sheet) → s.points ≡ points → min s.point_count most_points ≡ n → row_fault (flat_of s) (first_point + i) line ≡ a
  row_is s ep en =
      point_row s i line (omega (arith, en))
      ∙ ap (λ (b : Bool). point_line b (nth_point s i) line) (sym (rising s held i (left s ep en).0))
      ∙ (λ d. point_line (pick (eqb i 0) (starts_at_zero (get_or (ep d) i zero_point)) (point_rises held (get_or (ep d) i zero_point))) (get_or (ep d) i zero_point) line)
      ∙ sym is

  pub points_next : is_fine a ≡ true → PointsLeft points n absent (get_or points i zero_point) (i + 1)
  points_next t s ep en =
      let e : i + 1 - 1 ≡ i = omega arith in
      let m : line + 1 ≡ first_point + (i + 1) + 1 - absent = omega (arith, l) in
      let at-line = (left s ep en).1 in (
        (λ b. rw e (sym (λ d. get_or (ep d) i zero_point))),
        rw m at (sym (fine_row (flat_of s) first_point most_points i line (omega (arith, en)) (point_present (flat_of s) i (omega (arith, en)) (rw (points_at s) (omega (arith, en)))) (ap is_fine (row_is s ep en) ∙ t)))
            ∙ rw (← l) at at-line,
      )

  pub points_stop : is_fine a ≡ false → (s : Sheet) → s.points ≡ points → min s.point_count most_points ≡ n → a ≡ fault_from (flat_of s) most_points first_point (first_point + 1 - absent)
  points_stop t s ep en =
      let at-line = (left s ep en).1 in
      sym (row_is s ep en)
      ∙ sym (bad_row (flat_of s) first_point most_points i line (omega (arith, en)) (point_present (flat_of s) i (omega (arith, en)) (rw (points_at s) (omega (arith, en)))) (ap is_fine (row_is s ep en) ∙ t))
      ∙ rw (← l) at at-line

pub points_end : (points : List Point) (n absent : ℕ) (held : Point) (i : ℕ) → PointsLeft points n absent held i → n ≤ i → (s : Sheet) → s.points ≡ points → min s.point_count most_points ≡ n → (Ok tt) ≡ fault_from (flat_of s) most_points first_point (first_point + 1 - absent)
points_end points n absent held i left h s ep en = sym (no_points s i (first_point + i + 1 - absent) (omega (arith, en))) ∙ (left s ep en).1

-- ---- all rows

-- the line after the phases
phase_lines : (v : List ℕ) (n i line : ℕ) → i + n ≡ most_phases → line_from v n (first_phase + i) line ≡ line + (min (get_or v (place_for "phases") 0) most_phases - i)
unfolding line_from line_after pick
phase_lines v zero i line e = omega arith
phase_lines v (suc n) i line e =
    let c = get_or v (place_for "phases") 0 in
    let d : first_phase + i + 1 ≡ first_phase + (i + 1) = omega arith in
    split (ltb i c)
    (λ t. rw (phase_present v i (omega arith) (ltb-true i c t), d) (phase_lines v n (i + 1) (line + 1) (omega arith) ∙ omega (arith, ltb-true i c t)))
    (λ t. rw (phase_absent v i (omega arith) (ltb-false i c t), d) (phase_lines v n (i + 1) line (omega arith) ∙ omega (arith, ltb-false i c t)))

-- the rows of phases past the count
abbrev pub absent_phases : ℕ → ℕ
absent_phases count = most_phases - min count most_phases

pub in_stretches : (s : Sheet) (absent : ℕ) → absent ≡ absent_phases s.phase_count
    → or_else (fault_from (flat_of s) first_phase 0 1) (or_else (fault_from (flat_of s) most_phases first_phase (first_phase + 1)) (or_else (fault_from (flat_of s) between after_phases (after_phases + 1 - absent)) (fault_from (flat_of s) most_points first_point (first_point + 1 - absent)))) ≡ lines_fault (flat_of s)
in_stretches s absent e =
    let v = flat_of s in
    let c : absent ≡ absent_phases (get_or v (place_for "phases") 0) = rw (phases_at s) e in
    let a : line_from v first_phase 0 1 ≡ first_phase + 1 = all_lines v first_phase 0 1 (head_here v) in
    let b : line_from v most_phases first_phase (first_phase + 1) ≡ after_phases + 1 - absent = phase_lines v most_phases 0 (first_phase + 1) refl ∙ omega (arith, c) in
    let d : line_from v between after_phases (after_phases + 1 - absent) ≡ first_point + 1 - absent = all_lines v between after_phases (after_phases + 1 - absent) (middle_here v) ∙ omega (arith, c) in
    sym
    (in_two v first_phase (row_count - first_phase) row_count 0 1 refl
    ∙ rw a
    (ap (or_else (fault_from v first_phase 0 1))
    (in_two v most_phases (row_count - after_phases) (row_count - first_phase) first_phase (first_phase + 1) refl
    ∙ rw b
    (ap (or_else (fault_from v most_phases first_phase (first_phase + 1)))
    (in_two v between most_points (row_count - after_phases) after_phases (after_phases + 1 - absent) refl ∙ rw d refl)))))
