-- A sound sheet is accepted: each row is in its ranges and keeps its rule, and 7 to 10 and 12 do not apply. Assumes nothing.
use mathlib.Core.Path.{◌≡◌, refl, sym, ◌∙◌, subst}
use mathlib.Core.Bool.{Bool, true, false}
use mathlib.Core.List.{List, [], ◌∷◌}
use Prim.Native.Nat.{ℕ, zero, suc, zero-le, ◌+◌, ◌-◌, ◌<◌, ◌≤◌}
use native.Mathlib.Numerals.{add-one}
use native.Mathlib.Nat.{not-suc-le-zero}
use native.Mathlib.Omega.{arith}
use lib.Dec.{T, eqb}
use lib.ListN.{length, get_or, take, length-take}
use lib.Seq.{get_or-take, length-take-le}
use borrow.Author.Tests.{ltb-true, lt-ltb, le-ltb, ne_eqb}
use Rattle.units.specs.Lists.{All}
use Rattle.units.specs.Numbers.{pick}
use Rattle.units.proofs.All.{all_in}
use Rattle.units.proofs.Steps.{steps, split}
use Rattle.units.proofs.Tested.{at}
use Rattle.sheet.specs.declared.Sheet.{Sheet}
use Rattle.sheet.specs.declared.Vehicle.{Vehicle}
use Rattle.sheet.specs.declared.Vehicle.TheVariants.{Car, Su, Bus, Wb50}
use Rattle.std.specs.Prelude.{Ok}
use Rattle.sheet.specs.declared.Refusal.TheVariants.{OutOfRange}
use Rattle.sheet.specs.Entries.{Shaped, listed_phases, dwell_numbers, nth_phase, nth_point}
use Rattle.sheet.specs.Zero.{zero_phase, zero_point}
use Rattle.sheet.proofs.Answers.{fine_both, holds}
use Rattle.rows.specs.Table.{is_list, Range, ◌to◌, none, kinds, kind_of, form_of, ranges_of, range_of, width_of, place_of, used_ranges, in_range, in_ranges, present, phase_kind, point_kind, row_count, most_phases, most_points, row_for, place_for, first_phase, first_point}
use Rattle.rows.proofs.Tables.{dwell_place_lem}
use Rattle.numbers.specs.Flat.{vehicle_number, numbers_from, flat_of, phase_place, point_place}
use Rattle.faults.specs.Lines.{rises_after, rule_fault, row_fault, here_fault, line_after, fault_from, lines_fault}
use Rattle.faults.specs.Whole.{line48, last_point, whole_fault, accept_of}
use Rattle.faults.specs.Ranges.{Between, SoundPhase, SoundPoint, Sound, SoundIsAccepted, AcceptedWhenSound}
use Rattle.faults.proofs.Farthest.{reaches}
use Rattle.faults.proofs.Rules.{phase_fine, at_zero_holds, point_rises_holds}
use Rattle.faults.proofs.Lists.{steps_rise, each_listed}
use Rattle.faults.proofs.Sound.{phase_in, point_in, dwell_in, dwell_entries, dwell_used, dwell_rule, dwell_entry, dwell_long, dwell_count_range, dwell_range, phases_at, points_at, phase_kind_lem, phase_place_lem, point_kind_lem, point_place_lem, used_by, before, fitting, phase_rule, point_rule, sound}

-- ---- ranges

-- the numbers of a row from its number j on, each in its range
abbrev Within : List ℕ → ℕ → ℕ → List Range → Type 0
Within v at j [] = Unit {0}
Within v at j (r ∷ rs) = Between r.least (get_or v (at + j) 0) r.most × Within v at (suc j) rs

in_range_lem : (r : Range) (x : ℕ) → Between r.least x r.most → true ≡ in_range r x
unfolding in_range
in_range_lem r x b =
    let low = b.low in
    let high = b.high in
    search steps

within_from : (v : List ℕ) (at j : ℕ) (rs : List Range) → Within v at j rs → in_ranges v (at + j) rs ≡ true
unfolding in_ranges pick
within_from v at j [] w = refl
within_from v at j (r ∷ rs) w =
    let e : at + j + 1 ≡ at + suc j = omega arith in
    rw (← in_range_lem r (get_or v (at + j) 0) w.0, e) (within_from v at (suc j) rs w.1)

within : (v : List ℕ) (at : ℕ) (rs : List Range) → Within v at 0 rs → in_ranges v at rs ≡ true
within v at rs w = let z : at + 0 ≡ at = omega arith in rw z at (within_from v at 0 rs w)

-- the same where each is said by its place
each_in : (v : List ℕ) (at : ℕ) (rs : List Range)
    → ((j : ℕ) → j < length rs → Between (get_or rs j (0 to 0)).least (get_or v (at + j) 0) (get_or rs j (0 to 0)).most) → in_ranges v at rs ≡ true
unfolding in_ranges pick
each_in v at [] f = refl
each_in v at (r ∷ rs) f =
    let z : at + 0 ≡ at = omega arith in
    rw (← in_range_lem r (get_or v at 0) (rw z at (f 0 (omega arith))))
    (each_in v (at + 1) rs (λ j h. let e : at + suc j ≡ at + 1 + j = omega arith in rw e at (f (suc j) (omega arith))))

up_to : {x most : ℕ} → x ≤ most → Between 0 x most
up_to h = record { low = zero-le; high = h }

-- ---- rows

abbrev FineAt : List ℕ → ℕ → Type 0
FineAt v row = (line : ℕ) → here_fault v row line ≡ Ok tt

abbrev FineFrom : List ℕ → ℕ → ℕ → Type 0
FineFrom v n row = (line : ℕ) → fault_from v n row line ≡ Ok tt

fine_at : (v : List ℕ) (row at : ℕ) (rs : List Range) → place_of row ≡ at → used_ranges v row ≡ rs
    → (present v row ≡ true → in_ranges v at rs ≡ true) → (present v row ≡ true → (line : ℕ) → rule_fault v row line ≡ Ok tt) → FineAt v row
unfolding here_fault row_fault pick
fine_at v row at rs p r w rule line =
    split (present v row)
    (λ e.
    let ranges = holds (in_ranges v at rs) OutOfRange line (w e) in
    let rules = rule e line in
    rw (e, p, r) (search fine_both))
    (λ e. rw e refl)

next : (v : List ℕ) (n row : ℕ) → FineAt v row → FineFrom v n (row + 1) → FineFrom v (suc n) row
unfolding fault_from
next v n row here rest line = fine_both _ _ (here line) (rest (line_after v row line))

-- m rows alike, and n after them
block : (v : List ℕ) (m n k row : ℕ) → k ≡ m + n → ((i : ℕ) → i < m → FineAt v (row + i)) → FineFrom v n (row + m) → FineFrom v k row
block v zero n k row e here rest =
    let a : k ≡ n = omega arith in
    let b : row + 0 ≡ row = omega arith in
    rw a (rw b at rest)
block v (suc m) n k row e here rest =
    let a : k ≡ suc (m + n) = omega arith in
    let z : row + 0 ≡ row = omega arith in
    rw a
    (next v (m + n) row (rw z at (here 0 (omega arith)))
    (block v m n (m + n) (row + 1) refl
    (λ i h. let c : row + suc i ≡ row + 1 + i = omega arith in rw c at (here (suc i) (omega arith)))
    (let d : row + suc m ≡ row + 1 + m = omega arith in rw d at rest)))

-- ---- the listed entries

entry : {A : Type 0} (P : A → Type 0) (xs : List A) (d : A) (n : ℕ) → n ≤ length xs → All P (take n xs) → (i : ℕ) → i < n → P (get_or xs i d)
entry P xs d n fits a i h = rw (get_or-take n xs i d h) at (all_in P (take n xs) d a i (rw (length-take-le n xs fits) h))

-- the first row after the phases, and how many stand between them and the points
abbrev pub after_phases : ℕ
after_phases = first_phase + most_phases

abbrev pub between : ℕ
between = first_point - after_phases

-- of those the rows of one number stand last: all but the track and the list for dwell
abbrev pub first_single : ℕ
first_single = after_phases + 2

abbrev pub singles : ℕ
singles = first_point - first_single

phase_counted : (v : List ℕ) (i : ℕ) → i < most_phases → present v (first_phase + i) ≡ true → i < get_or v (place_for "phases") 0
unfolding present pick
phase_counted v i h t =
    let e : first_phase + i - first_phase ≡ i = omega arith in
    ltb-true i (get_or v (place_for "phases") 0) (rw (le-ltb (first_phase + i) first_phase (omega arith), lt-ltb (first_phase + i) after_phases (omega arith), e) at t)

point_counted : (v : List ℕ) (i : ℕ) → i < most_points → present v (first_point + i) ≡ true → i < get_or v (place_for "points") 0
unfolding present pick
point_counted v i h t =
    let e : first_point + i - first_point ≡ i = omega arith in
    ltb-true i (get_or v (place_for "points") 0) (rw (le-ltb (first_point + i) first_phase (omega arith), le-ltb (first_point + i) after_phases (omega arith), le-ltb (first_point + i) first_point (omega arith), e) at t)

module _ (s : Sheet) (shaped : Shaped s) (h : Sound s) where
  pub nth_phase_lem : (i : ℕ) → i < s.phase_count → SoundPhase (nth_phase s i)
  nth_phase_lem i c =
      entry SoundPhase s.phases zero_phase s.phase_count (omega (arith, shaped.phases, h.phase_count.high)) h.phases i c

  nth_point_lem : (i : ℕ) → i < s.point_count → SoundPoint (nth_point s i)
  nth_point_lem i c =
      entry SoundPoint s.points zero_point s.point_count (omega (arith, shaped.points, h.point_count.high)) h.points i c

  rises : (i : ℕ) → i < s.phase_count → (before s i).number < (nth_phase s i).number
  unfolding pick
  rises zero c = (nth_phase_lem 0 c).number.low
  rises (suc i) c =
      let e : suc i - 1 ≡ i = omega arith in
      rw (ne_eqb (suc i) 0 (omega arith), e) (rw (add-one i) at (h.rising i (omega arith)))

  phase_ranges : (i : ℕ) → i < most_phases → i < s.phase_count → Within (flat_of s) (phase_place i) 0 (get_or kinds phase_kind none).ranges
  phase_ranges i b c =
      let p = subst SoundPhase (sym (phase_in s i b)) (nth_phase_lem i c) in
      let z : phase_place i + 0 ≡ phase_place i = omega arith in
      (rw z p.number, (up_to p.green, (up_to p.other, (p.yellow, (up_to p.red, (up_to p.walk, (up_to p.clearance, (up_to p.mode, tt))))))))

  phase_row : (i : ℕ) → i < most_phases → FineAt (flat_of s) (first_phase + i)
  phase_row i b =
      fine_at (flat_of s) (first_phase + i) (phase_place i) (get_or kinds phase_kind none).ranges (phase_place_lem i b) (used_by (flat_of s) (first_phase + i) phase_kind (phase_kind_lem i b) refl)
      (λ e. within _ _ _ (phase_ranges i b (rw (phases_at s) at (phase_counted (flat_of s) i b e))))
      (λ e line.
      let c = rw (phases_at s) at (phase_counted (flat_of s) i b e) in
      let p = nth_phase_lem i c in
      phase_rule s i line b
      ∙ phase_fine (before s i) (nth_phase s i)
      (record { rises = rises i c; quiet = record { walk = λ m. (p.quiet m).0; clearance = λ m. (p.quiet m).1 }; late = p.late }) line)

  fits : (i : ℕ) → i < s.point_count → true ≡ fitting s i
  unfolding pick
  fits zero c = at_zero_holds (nth_point s 0) (record { feet = h.start.0; tenths = h.start.1 })
  fits (suc i) c =
      let e : suc i - 1 ≡ i = omega arith in
      rw (ne_eqb (suc i) 0 (omega arith), e)
      (point_rises_holds (nth_point s i) (nth_point s (suc i))
      (record { feet = rw (add-one i) at (h.further i (omega arith)); tenths = rw (add-one i) at (h.slower i (omega arith)) }))

  point_ranges : (i : ℕ) → i < most_points → i < s.point_count → Within (flat_of s) (point_place i) 0 (get_or kinds point_kind none).ranges
  point_ranges i b c =
      let p = subst SoundPoint (sym (point_in s i b)) (nth_point_lem i c) in
      let z : point_place i + 0 ≡ point_place i = omega arith in
      (rw z (up_to p.feet), (up_to p.tenths, tt))

  point_row : (i : ℕ) → i < most_points → FineAt (flat_of s) (first_point + i)
  point_row i b =
      fine_at (flat_of s) (first_point + i) (point_place i) (get_or kinds point_kind none).ranges (point_place_lem i b) (used_by (flat_of s) (first_point + i) point_kind (point_kind_lem i b) refl)
      (λ e. within _ _ _ (point_ranges i b (rw (points_at s) at (point_counted (flat_of s) i b e))))
      (λ e line. point_rule s i line b ∙ holds _ _ _ (sym (fits i (rw (points_at s) at (point_counted (flat_of s) i b e)))))

  dwell_number : (i : ℕ) → i < s.dwell_count → Between 1 (get_or s.dwell i 0) 8
  dwell_number i c =
      entry (λ (n : ℕ). Between 1 n 8) s.dwell 0 s.dwell_count (omega (arith, shaped.dwell, h.dwell_count)) h.dwell i c

  -- number j of the row: the count is the first
  dwell_between : (j : ℕ) → j < 1 + s.dwell_count → Between (range_of (row_for "dwell") j).least (get_or (s.dwell_count ∷ s.dwell) j 0) (range_of (row_for "dwell") j).most
  dwell_between zero c = rw dwell_count_range (up_to h.dwell_count)
  dwell_between (suc i) c = let few = h.dwell_count in rw (dwell_range i (omega arith)) (dwell_number i (omega arith))

  dwell_ranges : in_ranges (flat_of s) (place_for "dwell") (take (1 + s.dwell_count) (ranges_of (row_for "dwell"))) ≡ true
  dwell_ranges =
      let n = 1 + s.dwell_count in
      let rs = ranges_of (row_for "dwell") in
      let few = h.dwell_count in
      each_in (flat_of s) (place_for "dwell") (take n rs)
      (λ j b.
      let c : j < n = omega (arith, length-take n rs) in
      rw (get_or-take n rs j (0 to 0) c, dwell_in s j (omega arith)) (dwell_between j c))

  dwell_rises : rises_after 0 (take s.dwell_count (dwell_entries s)) ≡ true
  dwell_rises =
      let few = h.dwell_count in
      let long = dwell_long s few in
      steps_rise 0 (take s.dwell_count (dwell_entries s))
      (λ b. rw (dwell_entry s 0 (omega arith) (omega arith)) (dwell_number 0 (omega arith)).low)
      (λ i b. rw (dwell_entry s i (omega arith) (omega arith), dwell_entry s (suc i) (omega arith) (omega arith)) (rw (add-one i) at (h.climbing i (omega arith))))

  dwell_row : FineAt (flat_of s) (row_for "dwell")
  dwell_row =
      fine_at (flat_of s) (row_for "dwell") (place_for "dwell") _ dwell_place_lem (dwell_used s) (λ e. dwell_ranges) (λ e line. dwell_rule s line ∙ holds _ _ _ dwell_rises)

  whole : whole_fault s ≡ Ok tt
  unfolding whole_fault
  whole =
      let storage = h.storage in
      let warning = h.warning in
      let distance = reaches (last_point s) (line48 s) h.distance in
      let track = h.track in
      let listed = each_listed (listed_phases s) (dwell_numbers s) h.dwell_listed in
      fine_both _ _ (holds _ _ _ (search steps))
      (fine_both _ _ (holds _ _ _ (search steps))
      (fine_both _ _ (holds _ _ _ (search steps))
      (fine_both _ _ (holds _ _ _ (search steps)) (holds _ _ _ (search steps)))))

vehicle_range : (v : Vehicle) → Between 0 (vehicle_number v) 3
vehicle_range Car = up_to (omega arith)
vehicle_range Su = up_to (omega arith)
vehicle_range Bus = up_to (omega arith)
vehicle_range Wb50 = up_to (omega arith)

-- a row that has all its numbers, and no rule but their ranges
pub record NoRule (row : ℕ) : Type 0 where
  pub used : (v : List ℕ) → used_ranges v row ≡ ranges_of row
  pub rule : (v : List ℕ) (line : ℕ) → rule_fault v row line ≡ Ok tt

-- n rows from `row` on

abbrev Plain : List ℕ → ℕ → ℕ → Type 0
Plain v zero row = Unit {0}
Plain v (suc n) row = Within v (place_of row) 0 (ranges_of row) × Plain v n (row + 1)

plain : (v : List ℕ) (n row : ℕ) → ((i : ℕ) → i < n → NoRule (row + i)) → Plain v n row → (i : ℕ) → i < n → FineAt v (row + i)
plain v zero row none w i h = absurd (not-suc-le-zero h)
plain v (suc n) row none w zero h =
    let z : row + 0 ≡ row = omega arith in
    let here : NoRule row = rw z at (none 0 (omega arith)) in
    rw z (fine_at v row (place_of row) (ranges_of row) refl (here.used v) (λ e. within v (place_of row) (ranges_of row) w.0) (λ e. here.rule v))
plain v (suc n) row none w (suc i) h =
    let e : row + suc i ≡ row + 1 + i = omega arith in
    rw e
    (plain v n (row + 1)
    (λ j b. let d : row + suc j ≡ row + 1 + j = omega arith in rw d at (none (suc j) (omega arith)))
    w.1 i (omega arith))

-- a row whose kind is neither a phase nor a point, and no list
unfoldable pub unruled : ℕ → Bool
unruled row = pick (eqb (kind_of row) phase_kind) false (pick (eqb (kind_of row) point_kind) false (pick (is_list (form_of row)) false true))

pub no_rule : (row : ℕ) → T (unruled row) → NoRule row
unfolding used_ranges rule_fault unruled pick
no_rule row t =
    split (eqb (kind_of row) phase_kind)
    (λ e. absurd (rw e at t))
    (λ e.
    split (eqb (kind_of row) point_kind)
    (λ d. absurd (rw (e, d) at t))
    (λ d.
    split (is_list (form_of row))
    (λ f. absurd (rw (e, d, f) at t))
    (λ f. record { used = λ v. rw f refl; rule = λ v line. rw (e, d, f) refl })))

head_unruled : (i : ℕ) → i < first_phase → NoRule (0 + i)
unfolding unruled form_of kind_of pick
head_unruled i h = no_rule (0 + i) (at (λ (k : ℕ). unruled (0 + k)) first_phase tt i h)

track_unruled : (i : ℕ) → i < 1 → NoRule (after_phases + i)
unfolding unruled form_of kind_of pick
track_unruled i h = no_rule (after_phases + i) (at (λ (k : ℕ). unruled (after_phases + k)) 1 tt i h)

single_unruled : (i : ℕ) → i < singles → NoRule (first_single + i)
unfolding unruled form_of kind_of pick
single_unruled i h = no_rule (first_single + i) (at (λ (k : ℕ). unruled (first_single + k)) singles tt i h)

module _ (s : Sheet) (h : Sound s) where
  head_ranges : Plain (flat_of s) first_phase 0
  unfolding flat_of place_of width_of ranges_of kind_of
  head_ranges =
      ((h.issue, tt), ((vehicle_range s.vehicle, tt), ((h.grade, tt), ((h.grade2, tt), ((up_to h.l01, tt), ((h.l02, tt), ((h.phase_count, tt), tt)))))))

  track_ranges : Plain (flat_of s) 1 after_phases
  unfolding flat_of numbers_from place_of width_of ranges_of kind_of
  track_ranges = ((h.track_yellow, (up_to h.track_red, tt)), tt)

  single_ranges : Plain (flat_of s) singles first_single
  unfolding flat_of numbers_from place_of width_of ranges_of kind_of
  single_ranges =
      ((up_to h.l18, tt), ((h.l19, tt), ((h.l20, tt), ((up_to h.l28, tt), ((h.l30, tt), ((up_to h.l31, tt), ((up_to h.l33, tt), ((h.l37, tt), ((up_to h.l39, tt), ((up_to h.l47, tt), ((h.l56, tt), ((h.l57, tt), ((up_to h.l58, tt), ((h.point_count, tt), tt))))))))))))))

no_rows : (v : List ℕ) (row : ℕ) → FineFrom v 0 row
unfolding fault_from
no_rows v row line = refl

lines_fine : (s : Sheet) → Shaped s → Sound s → lines_fault (flat_of s) ≡ Ok tt
lines_fine s shaped h =
    let v = flat_of s in
    let points : FineFrom v most_points first_point = block v most_points 0 most_points first_point refl (point_row s shaped h) (no_rows v row_count) in
    let single : FineFrom v (singles + most_points) first_single =
    block v singles most_points (singles + most_points) first_single refl (plain v singles first_single single_unruled (single_ranges s h)) points in
    let dwell : FineFrom v (1 + (singles + most_points)) (row_for "dwell") = next v (singles + most_points) (row_for "dwell") (dwell_row s shaped h) single in
    let middle : FineFrom v (between + most_points) after_phases =
    block v 1 (1 + (singles + most_points)) (between + most_points) after_phases refl (plain v 1 after_phases track_unruled (track_ranges s h)) dwell in
    let phases : FineFrom v (most_phases + (between + most_points)) first_phase =
    block v most_phases (between + most_points) (most_phases + (between + most_points)) first_phase refl (phase_row s shaped h) middle in
    let head : FineFrom v row_count 0 =
    block v first_phase (most_phases + (between + most_points)) row_count 0 refl (plain v first_phase 0 head_unruled (head_ranges s h)) phases in
    head 1

pub sound_is_accepted : SoundIsAccepted
unfolding accept_of
sound_is_accepted s shaped h = fine_both _ _ (lines_fine s shaped h) (whole s shaped h)

pub accepted_when_sound : AcceptedWhenSound
accepted_when_sound = (sound, sound_is_accepted)
