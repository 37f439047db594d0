-- An accepted sheet is sound: each fact is read off its row. Assumes nothing.
use mathlib.Core.Path.{◌≡◌, refl, ap, subst, ◌∙◌}
use mathlib.Core.Bool.{Bool, true, false}
use mathlib.Core.List.{List, ◌∷◌}
use Prim.Native.Nat.{ℕ, zero, suc, ◌+◌, ◌-◌, ◌<◌, ◌≤◌}
use native.Mathlib.Numerals.{add-one}
use native.Mathlib.Omega.{arith}
use lib.Dec.{eqb, eqb→eq}
use lib.ListN.{length, get_or, take, length-take, get_or-replicate}
use lib.Seq.{get_or-take, length-take-le}
use borrow.Author.Tests.{leb-true, ne_eqb, lt-ltb, le-ltb}
use Rattle.units.specs.Numbers.{pick}
use Rattle.units.specs.Lists.{All}
use Rattle.units.proofs.All.{all_from}
use Rattle.units.proofs.Tested.{at}
use Rattle.sheet.specs.declared.Phase.{Phase}
use Rattle.sheet.specs.declared.Sheet.{Sheet}
use Rattle.std.specs.Prelude.{Ok}
use Rattle.sheet.specs.declared.Refusal.TheVariants.{PhasesDontRise, PointsDontRise}
use Rattle.sheet.specs.Refusals.{unless}
use Rattle.sheet.specs.Entries.{listed_phases, dwell_numbers, nth_phase, nth_point}
use Rattle.sheet.specs.Zero.{zero_phase, zero_point}
use Rattle.sheet.proofs.Answers.{both_fine, passes}
use Rattle.rows.specs.Table.{◌to◌, is_list, none, kinds, kind_of, form_of, ranges_of, range_of, width_of, place_of, used_ranges, in_ranges, present, row_count, most_phases, most_points, place_for, row_for, first_phase, first_point, phase_kind, point_kind}
use Rattle.rows.proofs.Tables.{dwell_place_lem}
use Rattle.numbers.specs.Flat.{phase_place, point_place, numbers_from, flat_of, phase_at, point_at, entries_from}
use Rattle.numbers.proofs.Entries.{entries_long, entries_at}
use Rattle.faults.specs.Lines.{phase_fault, starts_at_zero, point_rises, before_phase, point_fits, list_at, rises_after, rule_fault, lines_fault}
use Rattle.faults.specs.Whole.{line48, last_point, all_listed, whole_fault, accept_of}
use Rattle.faults.specs.Ranges.{Between, SoundPhase, SoundPoint, AcceptedIsSound}
use Rattle.faults.proofs.Farthest.{within}
use Rattle.faults.proofs.Rules.{PhaseKept, phase_kept, AtZero, at_zero, Rises, point_rises_lem}
use Rattle.faults.proofs.Lists.{rise_steps, listed_each}
use Rattle.faults.proofs.Rows.{in_each, FineRow, fine_rows, row_ranges, row_rule}

-- ---- phases and points among the numbers

pub phase_in : (s : Sheet) (i : ℕ) → i < most_phases → phase_at (flat_of s) i ≡ get_or s.phases i zero_phase
unfolding flat_of numbers_from
phase_in s zero h = refl
phase_in s (suc zero) h = refl
phase_in s (suc (suc zero)) h = refl
phase_in s (suc (suc (suc zero))) h = refl
phase_in s (suc (suc (suc (suc zero)))) h = refl
phase_in s (suc (suc (suc (suc (suc zero))))) h = refl
phase_in s (suc (suc (suc (suc (suc (suc zero)))))) h = refl
phase_in s (suc (suc (suc (suc (suc (suc (suc zero))))))) h = refl
phase_in s (suc (suc (suc (suc (suc (suc (suc (suc i)))))))) h = absurd (omega arith)

pub point_in : (s : Sheet) (i : ℕ) → i < most_points → point_at (flat_of s) i ≡ get_or s.points i zero_point
unfolding flat_of numbers_from
point_in s zero h = refl
point_in s (suc zero) h = refl
point_in s (suc (suc zero)) h = refl
point_in s (suc (suc (suc zero))) h = refl
point_in s (suc (suc (suc (suc zero)))) h = refl
point_in s (suc (suc (suc (suc (suc zero))))) h = refl
point_in s (suc (suc (suc (suc (suc (suc zero)))))) h = refl
point_in s (suc (suc (suc (suc (suc (suc (suc zero))))))) h = refl
point_in s (suc (suc (suc (suc (suc (suc (suc (suc zero)))))))) h = refl
point_in s (suc (suc (suc (suc (suc (suc (suc (suc (suc zero))))))))) h = refl
point_in s (suc (suc (suc (suc (suc (suc (suc (suc (suc (suc zero)))))))))) h = refl
point_in s (suc (suc (suc (suc (suc (suc (suc (suc (suc (suc (suc zero))))))))))) h = refl
point_in s (suc (suc (suc (suc (suc (suc (suc (suc (suc (suc (suc (suc zero)))))))))))) h = refl
point_in s (suc (suc (suc (suc (suc (suc (suc (suc (suc (suc (suc (suc (suc zero))))))))))))) h = refl
point_in s (suc (suc (suc (suc (suc (suc (suc (suc (suc (suc (suc (suc (suc (suc zero)))))))))))))) h = refl
point_in s (suc (suc (suc (suc (suc (suc (suc (suc (suc (suc (suc (suc (suc (suc (suc zero))))))))))))))) h = refl
point_in s (suc (suc (suc (suc (suc (suc (suc (suc (suc (suc (suc (suc (suc (suc (suc (suc i)))))))))))))))) h = absurd (omega arith)

-- the numbers for dwell, and their count before them
pub dwell_in : (s : Sheet) (j : ℕ) → j < 1 + most_phases → get_or (flat_of s) (place_for "dwell" + j) 0 ≡ get_or (s.dwell_count ∷ s.dwell) j 0
unfolding flat_of numbers_from
dwell_in s zero h = refl
dwell_in s (suc zero) h = refl
dwell_in s (suc (suc zero)) h = refl
dwell_in s (suc (suc (suc zero))) h = refl
dwell_in s (suc (suc (suc (suc zero)))) h = refl
dwell_in s (suc (suc (suc (suc (suc zero))))) h = refl
dwell_in s (suc (suc (suc (suc (suc (suc zero)))))) h = refl
dwell_in s (suc (suc (suc (suc (suc (suc (suc zero))))))) h = refl
dwell_in s (suc (suc (suc (suc (suc (suc (suc (suc zero)))))))) h = refl
dwell_in s (suc (suc (suc (suc (suc (suc (suc (suc (suc j))))))))) h = absurd (omega arith)

-- a sheet's list among its numbers has the entries of the array, and as many of them as are counted
abbrev pub dwell_entries : Sheet → List ℕ
dwell_entries s = entries_from (λ (i : ℕ). get_or s.dwell i 0) most_phases 0

pub dwell_list : (s : Sheet) → list_at (flat_of s) (row_for "dwell") ≡ take s.dwell_count (dwell_entries s)
unfolding flat_of numbers_from entries_from place_of width_of ranges_of kind_of
dwell_list s = refl

pub dwell_used : (s : Sheet) → used_ranges (flat_of s) (row_for "dwell") ≡ take (1 + s.dwell_count) (ranges_of (row_for "dwell"))
unfolding used_ranges form_of flat_of numbers_from place_of width_of ranges_of kind_of pick
dwell_used s = refl

pub dwell_rule : (s : Sheet) (line : ℕ) → rule_fault (flat_of s) (row_for "dwell") line ≡ unless (rises_after 0 (take s.dwell_count (dwell_entries s))) PhasesDontRise line
unfolding rule_fault form_of kind_of pick
dwell_rule s line = ap (λ (ns : List ℕ). unless (rises_after 0 ns) PhasesDontRise line) (dwell_list s)

pub dwell_entry : (s : Sheet) (j : ℕ) → j < most_phases → j < s.dwell_count → get_or (take s.dwell_count (dwell_entries s)) j 0 ≡ get_or s.dwell j 0
dwell_entry s j h c =
    let z : 0 + j ≡ j = omega arith in
    get_or-take s.dwell_count (dwell_entries s) j 0 c ∙ rw z at (entries_at (λ (i : ℕ). get_or s.dwell i 0) most_phases 0 j 0 h)

pub dwell_long : (s : Sheet) → s.dwell_count ≤ most_phases → length (take s.dwell_count (dwell_entries s)) ≡ s.dwell_count
dwell_long s h =
    let l = entries_long (λ (i : ℕ). get_or s.dwell i 0) most_phases 0 in
    length-take-le s.dwell_count (dwell_entries s) (omega arith)

pub dwell_width : length (ranges_of (row_for "dwell")) ≡ 1 + most_phases
unfolding ranges_of kind_of
dwell_width = refl

-- the count's range, and that of number j
pub dwell_count_range : range_of (row_for "dwell") 0 ≡ 0 to 8
unfolding ranges_of kind_of
dwell_count_range = refl

pub dwell_range : (j : ℕ) → j < most_phases → get_or (ranges_of (row_for "dwell")) (suc j) (0 to 0) ≡ 1 to 8
unfolding ranges_of kind_of
dwell_range j h = get_or-replicate most_phases j (1 to 8) (0 to 0) h

pub phases_at : (s : Sheet) → get_or (flat_of s) (place_for "phases") 0 ≡ s.phase_count
unfolding flat_of
phases_at s = refl

pub points_at : (s : Sheet) → get_or (flat_of s) (place_for "points") 0 ≡ s.point_count
unfolding flat_of numbers_from
points_at s = refl

pub phase_kind_lem : (i : ℕ) → i < most_phases → kind_of (first_phase + i) ≡ phase_kind
unfolding kind_of
phase_kind_lem i h = eqb→eq (kind_of (first_phase + i)) phase_kind (at (λ (k : ℕ). eqb (kind_of (first_phase + k)) phase_kind) 8 tt i h)

pub phase_place_lem : (i : ℕ) → i < most_phases → place_of (first_phase + i) ≡ phase_place i
unfolding place_of width_of ranges_of kind_of
phase_place_lem i h = eqb→eq (place_of (first_phase + i)) (phase_place i) (at (λ (k : ℕ). eqb (place_of (first_phase + k)) (phase_place k)) 8 tt i h)

pub phase_present : (v : List ℕ) (i : ℕ) → i < most_phases → i < get_or v (place_for "phases") 0 → present v (first_phase + i) ≡ true
unfolding present pick
phase_present v i h c =
    let e : first_phase + i - first_phase ≡ i = omega arith in
    rw (le-ltb (first_phase + i) first_phase (omega arith), lt-ltb (first_phase + i) (first_phase + most_phases) (omega arith), e) (lt-ltb i (get_or v (place_for "phases") 0) c)

pub point_kind_lem : (i : ℕ) → i < most_points → kind_of (first_point + i) ≡ point_kind
unfolding kind_of
point_kind_lem i h = eqb→eq (kind_of (first_point + i)) point_kind (at (λ (k : ℕ). eqb (kind_of (first_point + k)) point_kind) 16 tt i h)

pub point_place_lem : (i : ℕ) → i < most_points → place_of (first_point + i) ≡ point_place i
unfolding place_of width_of ranges_of kind_of
point_place_lem i h = eqb→eq (place_of (first_point + i)) (point_place i) (at (λ (k : ℕ). eqb (place_of (first_point + k)) (point_place k)) 16 tt i h)

pub point_present : (v : List ℕ) (i : ℕ) → i < most_points → i < get_or v (place_for "points") 0 → present v (first_point + i) ≡ true
unfolding present pick
point_present v i h c =
    let e : first_point + i - first_point ≡ i = omega arith in
    rw (le-ltb (first_point + i) first_phase (omega arith), le-ltb (first_point + i) (first_phase + most_phases) (omega arith), le-ltb (first_point + i) first_point (omega arith), e) (lt-ltb i (get_or v (place_for "points") 0) c)

pub ranges_by : (k m : ℕ) → kind_of k ≡ m → ranges_of k ≡ (get_or kinds m none).ranges
unfolding ranges_of
ranges_by k m e = ap (λ (n : ℕ). (get_or kinds n none).ranges) e

-- a row that is no list has all its numbers
pub used_by : (v : List ℕ) (k m : ℕ) → kind_of k ≡ m → is_list (get_or kinds m none).form ≡ false → used_ranges v k ≡ (get_or kinds m none).ranges
unfolding used_ranges form_of ranges_of kind_of pick
used_by v k m e f = rw (e, f) refl

-- ---- the rules of a phase line and of a point line, of the sheet's own entries

abbrev pub before : Sheet → ℕ → Phase
before s i = pick (eqb i 0) zero_phase (nth_phase s (i - 1))

pub before_in : (s : Sheet) (i : ℕ) → i < 8 → before_phase (flat_of s) i ≡ before s i
unfolding before_phase
before_in s i h = ap (pick (eqb i 0) zero_phase) (phase_in s (i - 1) (omega arith))

abbrev pub fitting : Sheet → ℕ → Bool
fitting s i = pick (eqb i 0) (starts_at_zero (nth_point s i)) (point_rises (nth_point s (i - 1)) (nth_point s i))

pub fitting_in : (s : Sheet) (i : ℕ) → i < most_points → point_fits (flat_of s) i ≡ fitting s i
unfolding point_fits
fitting_in s i h =
    let p = point_in s i h in
    let q = point_in s (i - 1) (omega arith) in
    λ d. pick (eqb i 0) (starts_at_zero (p d)) (point_rises (q d) (p d))

pub phase_rule : (s : Sheet) (i line : ℕ) → i < most_phases → rule_fault (flat_of s) (first_phase + i) line ≡ phase_fault (before s i) (nth_phase s i) line
unfolding rule_fault pick
phase_rule s i line h =
    let e : first_phase + i - first_phase ≡ i = omega arith in
    rw (phase_kind_lem i h, e) (λ d. phase_fault (before_in s i h d) (phase_in s i h d) line)

pub point_rule : (s : Sheet) (i line : ℕ) → i < most_points → rule_fault (flat_of s) (first_point + i) line ≡ unless (fitting s i) PointsDontRise line
unfolding rule_fault pick
point_rule s i line h =
    let e : first_point + i - first_point ≡ i = omega arith in
    rw (point_kind_lem i h, e) (ap (λ (b : Bool). unless b PointsDontRise line) (fitting_in s i h))

-- ---- row by row

module _ (s : Sheet) (e : lines_fault (flat_of s) ≡ Ok tt) where
  row_fine : (k : ℕ) → k < row_count → present (flat_of s) k ≡ true → FineRow (flat_of s) k
  row_fine k h p = let z : 0 + k ≡ k = omega arith in rw z at (fine_rows (flat_of s) row_count 0 1 e k h (rw z p))

  number : (k : ℕ) → k < row_count → present (flat_of s) k ≡ true → (j : ℕ) → j < length (used_ranges (flat_of s) k)
      → Between (get_or (used_ranges (flat_of s) k) j (0 to 0)).least (get_or (flat_of s) (place_of k + j) 0) (get_or (used_ranges (flat_of s) k) j (0 to 0)).most
  number k h p j i = in_each (flat_of s) (place_of k) (used_ranges (flat_of s) k) (row_ranges (flat_of s) k (row_fine k h p)) j i

  -- the same of a row of a kind m at a place
  number_of : (k m at : ℕ) → k < row_count → present (flat_of s) k ≡ true → kind_of k ≡ m → is_list (get_or kinds m none).form ≡ false → place_of k ≡ at → (j : ℕ) → j < length (get_or kinds m none).ranges
      → Between (get_or (get_or kinds m none).ranges j (0 to 0)).least (get_or (flat_of s) (at + j) 0) (get_or (get_or kinds m none).ranges j (0 to 0)).most
  number_of k m at h p ek ef ep j i =
      in_each (flat_of s) at (get_or kinds m none).ranges (rw (ep, used_by (flat_of s) k m ek ef) at (row_ranges (flat_of s) k (row_fine k h p))) j i

  phase_number : (i : ℕ) → i < most_phases → i < s.phase_count → (j : ℕ) → j < 8 → Between (get_or (get_or kinds phase_kind none).ranges j (0 to 0)).least (get_or (flat_of s) (phase_place i + j) 0) (get_or (get_or kinds phase_kind none).ranges j (0 to 0)).most
  phase_number i h c j b =
      number_of (first_phase + i) phase_kind (phase_place i) (omega arith) (phase_present (flat_of s) i h (rw (phases_at s) c)) (phase_kind_lem i h) refl (phase_place_lem i h) j b

  phase_rules : (i : ℕ) → i < most_phases → i < s.phase_count → PhaseKept (before s i) (nth_phase s i)
  phase_rules i h c =
      let f = row_fine (first_phase + i) (omega arith) (phase_present (flat_of s) i h (rw (phases_at s) c)) in
      phase_kept (before s i) (nth_phase s i) f.line (rw (phase_rule s i f.line h) at (row_rule (flat_of s) (first_phase + i) f))

  rises : (i : ℕ) → i + 1 < most_phases → i + 1 < s.phase_count → (nth_phase s i).number < (nth_phase s (i + 1)).number
  unfolding pick
  rises i h c =
      let e : i + 1 - 1 ≡ i = omega arith in
      rw (ne_eqb (i + 1) 0 (omega arith), e) at (phase_rules (i + 1) h c).rises

  phase_sound : (i : ℕ) → i < most_phases → i < s.phase_count → SoundPhase (get_or s.phases i zero_phase)
  phase_sound i h c =
      let n = phase_number i h c in
      let z : phase_place i + 0 ≡ phase_place i = omega arith in
      subst (λ (p : Phase). PhaseKept (before s i) p → SoundPhase p) (phase_in s i h)
      (λ r.
      record {
        number = rw z at (n 0 (omega arith));
        green = (n 1 (omega arith)).high;
        other = (n 2 (omega arith)).high;
        yellow = n 3 (omega arith);
        red = (n 4 (omega arith)).high;
        walk = (n 5 (omega arith)).high;
        clearance = (n 6 (omega arith)).high;
        mode = (n 7 (omega arith)).high;
        quiet = λ m. (r.quiet.walk m, r.quiet.clearance m);
        late = r.late;
      })
      (phase_rules i h c)

  point_sound : (i : ℕ) → i < most_points → i < s.point_count → SoundPoint (get_or s.points i zero_point)
  point_sound i h c =
      let n = number_of (first_point + i) point_kind (point_place i) (omega arith) (point_present (flat_of s) i h (rw (points_at s) c)) (point_kind_lem i h) refl (point_place_lem i h) in
      let z : point_place i + 0 ≡ point_place i = omega arith in
      subst SoundPoint (point_in s i h) (record { feet = rw z at (n 0 (omega arith)).high; tenths = (n 1 (omega arith)).high })

  point_rules : (i : ℕ) → i < 16 → i < s.point_count → fitting s i ≡ true
  point_rules i h c =
      let f = row_fine (first_point + i) (omega arith) (point_present (flat_of s) i h (rw (points_at s) c)) in
      passes _ _ _ (rw (point_rule s i f.line h) at (row_rule (flat_of s) (first_point + i) f))

  starts : 0 < s.point_count → AtZero (nth_point s 0)
  unfolding pick
  starts c = at_zero (nth_point s 0) (point_rules 0 (omega arith) c)

  goes_on : (i : ℕ) → i + 1 < 16 → i + 1 < s.point_count → Rises (nth_point s i) (nth_point s (i + 1))
  unfolding pick
  goes_on i h c =
      let e : i + 1 - 1 ≡ i = omega arith in
      point_rises_lem (nth_point s i) (nth_point s (i + 1)) (rw (ne_eqb (i + 1) 0 (omega arith), e) at (point_rules (i + 1) h c))

  -- ---- the list for dwell

  dwell_fine : FineRow (flat_of s) (row_for "dwell")
  unfolding present pick
  dwell_fine = row_fine (row_for "dwell") (omega arith) refl

  dwell_number : (j : ℕ) → j < 1 + most_phases → j < 1 + s.dwell_count
      → Between (range_of (row_for "dwell") j).least (get_or (s.dwell_count ∷ s.dwell) j 0) (range_of (row_for "dwell") j).most
  dwell_number j h c =
      let n = 1 + s.dwell_count in
      let rs = ranges_of (row_for "dwell") in
      let inside : in_ranges (flat_of s) (place_for "dwell") (take n rs) ≡ true = rw (dwell_used s, dwell_place_lem) at (row_ranges (flat_of s) (row_for "dwell") dwell_fine) in
      rw (get_or-take n rs j (0 to 0) c, dwell_in s j h) at (in_each (flat_of s) (place_for "dwell") (take n rs) inside j (omega (arith, length-take n rs, dwell_width)))

  dwell_few : s.dwell_count ≤ 8
  unfolding ranges_of kind_of
  dwell_few = (dwell_number 0 (omega arith) (omega arith)).high

  dwell_sound : (i : ℕ) → i < most_phases → i < s.dwell_count → Between 1 (get_or s.dwell i 0) 8
  dwell_sound i h c = rw (dwell_range i h) at (dwell_number (suc i) (omega arith) (omega arith))

  climbs : (i : ℕ) → i + 1 < most_phases → i + 1 < s.dwell_count → get_or s.dwell i 0 < get_or s.dwell (i + 1) 0
  climbs i h c =
      let long = dwell_long s dwell_few in
      let rise = passes _ _ _ (rw (dwell_rule s dwell_fine.line) at (row_rule (flat_of s) (row_for "dwell") dwell_fine)) in
      rw (add-one i) (rw (dwell_entry s i (omega arith) (omega arith), dwell_entry s (suc i) (omega arith) (omega arith)) at (rise_steps 0 (take s.dwell_count (dwell_entries s)) rise i (omega (arith, long))))

-- ---- the listed entries

listed : {A : Type 0} (P : A → Type 0) (xs : List A) (d : A) (n m : ℕ) → n ≤ m → ((i : ℕ) → i < m → i < n → P (get_or xs i d)) → All P (take n xs)
listed P xs d n m h f =
    all_from P (take n xs) d
    (λ i b. let c : i < n = omega (arith, rw (length-take n xs) at b) in rw (get_or-take n xs i d c) (f i (omega arith) c))

pub sound : AcceptedIsSound
unfolding accept_of whole_fault flat_of numbers_from used_ranges form_of place_of width_of ranges_of kind_of present pick
sound s e =
    let both = both_fine _ _ e in
    let l = both.0 in
    let w = both_fine _ _ both.1 in
    let w2 = both_fine _ _ w.1 in
    let w3 = both_fine _ _ w2.1 in
    let w4 = both_fine _ _ w3.1 in
    let phases = number s l (row_for "phases") (omega arith) refl 0 (omega arith) in
    let points = number s l (row_for "points") (omega arith) refl 0 (omega arith) in
    let named : all_listed (listed_phases s) (dwell_numbers s) ≡ true = search passes in
    let start = starts s l (omega (arith, points.low)) in
    let counted = dwell_few s l in
    record {
      issue = number s l (row_for "issue") (omega arith) refl 0 (omega arith);
      grade = number s l (row_for "grade") (omega arith) refl 0 (omega arith);
      grade2 = number s l (row_for "grade2") (omega arith) refl 0 (omega arith);
      l01 = (number s l (row_for "l01") (omega arith) refl 0 (omega arith)).high;
      l02 = number s l (row_for "l02") (omega arith) refl 0 (omega arith);
      phase_count = phases;
      phases = listed SoundPhase s.phases zero_phase s.phase_count 8 phases.high (phase_sound s l);
      rising = λ i c. rises s l i (omega (arith, phases.high)) c;
      track_yellow = number s l (row_for "track") (omega arith) refl 0 (omega arith);
      track_red = (number s l (row_for "track") (omega arith) refl 1 (omega arith)).high;
      dwell_count = counted;
      dwell = listed (λ (n : ℕ). Between 1 n 8) s.dwell 0 s.dwell_count 8 counted (dwell_sound s l);
      climbing = λ i c. climbs s l i (omega (arith, counted)) c;
      l18 = (number s l (row_for "l18") (omega arith) refl 0 (omega arith)).high;
      l19 = number s l (row_for "l19") (omega arith) refl 0 (omega arith);
      l20 = number s l (row_for "l20") (omega arith) refl 0 (omega arith);
      l28 = (number s l (row_for "l28") (omega arith) refl 0 (omega arith)).high;
      l30 = number s l (row_for "l30") (omega arith) refl 0 (omega arith);
      l31 = (number s l (row_for "l31") (omega arith) refl 0 (omega arith)).high;
      l33 = (number s l (row_for "l33") (omega arith) refl 0 (omega arith)).high;
      l37 = number s l (row_for "l37") (omega arith) refl 0 (omega arith);
      l39 = (number s l (row_for "l39") (omega arith) refl 0 (omega arith)).high;
      l47 = (number s l (row_for "l47") (omega arith) refl 0 (omega arith)).high;
      l56 = number s l (row_for "l56") (omega arith) refl 0 (omega arith);
      l57 = number s l (row_for "l57") (omega arith) refl 0 (omega arith);
      l58 = (number s l (row_for "l58") (omega arith) refl 0 (omega arith)).high;
      point_count = points;
      points = listed SoundPoint s.points zero_point s.point_count 16 points.high (point_sound s l);
      start = (start.feet, start.tenths);
      further = λ i c. (goes_on s l i (omega (arith, points.high)) c).feet;
      slower = λ i c. (goes_on s l i (omega (arith, points.high)) c).tenths;
      storage = search (leb-true, passes);
      warning = search (leb-true, passes);
      distance = within (last_point s) (line48 s) (search (leb-true, passes));
      track = search (leb-true, passes);
      dwell_listed = listed_each (listed_phases s) (dwell_numbers s) named;
    }
