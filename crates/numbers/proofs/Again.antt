-- A sheet's numbers and the numbers' sheet undo each other: entry by entry, where the vehicle and the grades are in reach. Assumes nothing.
use mathlib.Core.Path.{◌≡◌, refl, ◌∙◌}
use mathlib.Core.List.{List, ◌∷◌}
use Prim.Native.Nat.{ℕ, zero, suc, ◌+◌, ◌-◌, ◌%◌, ◌<◌, ◌≤◌}
use native.Mathlib.Omega.{arith}
use lib.Dec.{ltb}
use lib.IntN.{ℤ, pos, negsuc, neg_ℤ}
use lib.ListN.{length, get_or}
use borrow.Author.Tests.{lt-ltb, le-ltb, ltb-true, ltb-false}
use Rattle.units.specs.Numbers.{pick}
use Rattle.units.proofs.Steps.{split}
use Rattle.sheet.specs.declared.Vehicle.{Vehicle}
use Rattle.sheet.specs.declared.Vehicle.TheVariants.{Car, Su, Bus, Wb50}
use Rattle.sheet.specs.declared.Sheet.{Sheet}
use Rattle.sheet.specs.Zero.{zero_phase, zero_point}
use Rattle.rows.specs.Table.{most_phases, most_points, number_count, place_for}
use Rattle.numbers.specs.Flat.{vehicle_number, grade_number, numbers_from, flat_of, vehicle_of, grade_of, entries_from, sheet_with, sheet_of}
use Rattle.numbers.proofs.Entries.{entries_all}

-- a grade of at most three digits
abbrev pub Graded : ℕ → Type 0
Graded x = (999000 < x) × (x < 1001000)

pub vehicle_again : (w : Vehicle) → vehicle_of (vehicle_number w) ≡ w
unfolding vehicle_of pick
vehicle_again Car = refl
vehicle_again Su = refl
vehicle_again Bus = refl
vehicle_again Wb50 = refl

pub vehicle_number_again : (x : ℕ) → x ≤ 3 → vehicle_number (vehicle_of x) ≡ x
unfolding vehicle_of pick
vehicle_number_again zero h = refl
vehicle_number_again (suc zero) h = refl
vehicle_number_again (suc (suc zero)) h = refl
vehicle_number_again (suc (suc (suc zero))) h = refl
vehicle_number_again (suc (suc (suc (suc n)))) h = absurd (omega arith)

pub grade_again : (g : ℤ) → Graded (grade_number g) → grade_of (grade_number g) ≡ g
unfolding grade_number grade_of pick
grade_again (pos n) h =
    let e : (1000000 + n - 1000000) % 1000 ≡ n = omega (arith, h.1) in
    rw (le-ltb (1000000 + n) 1000000 (omega arith), e)
grade_again (negsuc n) h =
    let m : 999000 < 1000000 - (n + 1) = h.0 in
    let e : (1000000 - (1000000 - (n + 1))) % 1000 ≡ suc n = omega arith in
    rw (lt-ltb (1000000 - (n + 1)) 1000000 (omega arith), e)

down_number : (m : ℕ) → 1 ≤ m → grade_number (neg_ℤ (pos m)) ≡ 1000000 - m
unfolding grade_number
down_number zero h = absurd (omega arith)
down_number (suc n) h = omega arith

pub grade_number_again : (x : ℕ) → Graded x → grade_number (grade_of x) ≡ x
unfolding grade_number grade_of pick
grade_number_again x h =
    split (ltb x 1000000)
    (λ t. rw t (down_number ((1000000 - x) % 1000) (omega (arith, h.0, ltb-true x 1000000 t)) ∙ omega (arith, h.0, ltb-true x 1000000 t)))
    (λ t. rw t (omega (arith, h.1, ltb-false x 1000000 t)))

with_parts : (v : List ℕ) (a b c : ℕ) → a ≡ get_or v (place_for "vehicle") 0 → b ≡ get_or v (place_for "grade") 0 → c ≡ get_or v (place_for "grade2") 0
    → get_or v 0 0 ∷ a ∷ b ∷ c ∷ entries_from (λ (i : ℕ). get_or v i 0) (number_count - place_for "l01") (place_for "l01") ≡ entries_from (λ (i : ℕ). get_or v i 0) number_count 0
unfolding entries_from
with_parts v a b c ea eb ec = λ i. get_or v 0 0 ∷ ea i ∷ eb i ∷ ec i ∷ entries_from (λ (i : ℕ). get_or v i 0) (number_count - place_for "l01") (place_for "l01")

pub numbers_again : (v : List ℕ) → length v ≡ number_count → get_or v (place_for "vehicle") 0 ≤ 3 → Graded (get_or v (place_for "grade") 0) → Graded (get_or v (place_for "grade2") 0) → flat_of (sheet_of v) ≡ v
unfolding flat_of numbers_from entries_from
numbers_again v l hv hg h2 =
    with_parts v (vehicle_number (vehicle_of (get_or v (place_for "vehicle") 0))) (grade_number (grade_of (get_or v (place_for "grade") 0))) (grade_number (grade_of (get_or v (place_for "grade2") 0))) (vehicle_number_again (get_or v (place_for "vehicle") 0) hv) (grade_number_again (get_or v (place_for "grade") 0) hg) (grade_number_again (get_or v (place_for "grade2") 0) h2)
    ∙ entries_all v number_count 0 l

pub sheet_again : (s : Sheet) → length s.phases ≡ most_phases → length s.dwell ≡ most_phases → length s.points ≡ most_points → Graded (grade_number s.grade) → Graded (grade_number s.grade2) → sheet_of (flat_of s) ≡ s
unfolding flat_of numbers_from entries_from
sheet_again s lp ld lq hg h2 =
    λ i. sheet_with (flat_of s) (vehicle_again s.vehicle i) (grade_again s.grade hg i) (grade_again s.grade2 h2 i) (entries_all s.phases most_phases zero_phase lp i) (entries_all s.dwell most_phases 0 ld i) (entries_all s.points most_points zero_point lq i)
