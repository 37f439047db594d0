-- The test of a row's ranges, number by number. Assumes nothing.
use mathlib.Core.Path.{◌≡◌, refl, sym, ◌∙◌}
use mathlib.Core.Bool.{Bool, true, false}
use mathlib.Core.List.{List, []}
use Prim.Native.Nat.{ℕ, zero, suc, ◌+◌, ◌<◌, ◌≤◌}
use Rattle.std.proofs.Common.{nat_eq, min}
use native.Mathlib.Omega.{arith}
use lib.Dec.{leb, ltb, eqb}
use lib.ListN.{length, get_or, take, drop, get_or-eq_default}
use lib.Seq.{take_all}
use borrow.Author.Tests.{le-leb, lt-leb, ne_eqb, ltb-true, ltb-false}
use Rattle.units.specs.Numbers.{pick}
use Rattle.units.proofs.Steps.{split, cases}
use Rattle.units.proofs.Walk.{left_at, none_left}
use Rattle.rows.specs.Table.{is_list, Range, ◌to◌, list, row_count, form_of, ranges_of, range_of, width_of, place_of, used_ranges, in_range, in_ranges}
use Rattle.rows.proofs.Tables.{width_past, ranges_past, not_list}

-- the first n ranges of a row, of which those from the j-th on are left
module _ (v : List ℕ) (at : ℕ) (rs : List Range) (n : ℕ) (fits : n ≤ length rs) (j : ℕ) where
  abbrev here : Bool
  here = in_range (get_or rs j (0 to 0)) (get_or v (at + j) 0)

  pub in_step : j < n → here ≡ true → in_ranges v (at + j) (drop j (take n rs)) ≡ in_ranges v (at + (j + 1)) (drop (j + 1) (take n rs))
  unfolding in_ranges pick
  in_step h t =
      let e : at + j + 1 ≡ at + (j + 1) = omega arith in
      rw (left_at rs n fits (0 to 0) j h) (rw (t, e))

  pub in_stop : j < n → here ≡ false → in_ranges v (at + j) (drop j (take n rs)) ≡ false
  unfolding in_ranges pick
  in_stop h t = rw (left_at rs n fits (0 to 0) j h) (rw t)

  pub in_end : n ≤ j → in_ranges v (at + j) (drop j (take n rs)) ≡ true
  unfolding in_ranges
  in_end h = rw (none_left rs n fits j h)

-- a row that has a number j is one of the table, and one that has none gives it the range 0 to 0
pub has_row : (row j : ℕ) → j < width_of row → row < row_count
has_row row j h =
    split (ltb row row_count) (λ t. ltb-true row row_count t) (λ t. absurd (omega (arith, width_past row (ltb-false row row_count t))))

pub no_number : (row j x : ℕ) → width_of row ≤ j → nat_eq x 0 ≡ in_range (range_of row j) x
unfolding width_of in_range pick
no_number row j zero h = rw (get_or-eq_default (ranges_of row) (0 to 0) {n = j} h) refl
no_number row j (suc x) h =
    rw (get_or-eq_default (ranges_of row) (0 to 0) {n = j} h, le-leb 0 (suc x) (omega arith), lt-leb (suc x) 0 (omega arith), ne_eqb (suc x) 0 (λ e. absurd (omega arith))) refl

-- how many of a row's numbers a sheet has: the count of a list stands at its place
module _ (v : List ℕ) (row at n : ℕ) where
  list_cut : form_of row ≡ list → at ≡ place_of row → n ≡ get_or v at 0 → take (1 + n) (ranges_of row) ≡ used_ranges v row
  unfolding used_ranges pick
  list_cut e p h = rw (e, h, p) refl

  pub list_used : (w : ℕ) → form_of row ≡ list → at ≡ place_of row → n ≡ get_or v at 0 → w ≡ width_of row → take (min w (1 + n)) (ranges_of row) ≡ used_ranges v row
  unfolding width_of
  list_used w e p h f =
      split (ltb n w)
      (λ t. let m : min w (1 + n) ≡ 1 + n = omega (arith, ltb-true n w t) in rw m (list_cut e p h))
      (λ t. let m : min w (1 + n) ≡ w = omega (arith, ltb-false n w t) in
      rw m (take_all w (ranges_of row) (omega arith) ∙ sym (take_all (1 + n) (ranges_of row) (omega (arith, ltb-false n w t))) ∙ list_cut e p h))

pub no_list : (v : List ℕ) (row w : ℕ) → (form_of row ≡ list → ⊥) → w ≡ width_of row → take w (ranges_of row) ≡ used_ranges v row
unfolding used_ranges width_of pick
no_list v row w e f = rw (not_list (form_of row) e) (take_all w (ranges_of row) (omega arith))

pub used_past : (v : List ℕ) (row : ℕ) → row_count ≤ row → used_ranges v row ≡ []
unfolding used_ranges
used_past v row h =
    let n : ℕ = 1 + get_or v (place_of row) 0 in
    rw (ranges_past row h) (cases (λ (l : List Range). l ≡ []) (is_list (form_of row)) (take n []) [] (λ t. take_all n [] (omega arith)) (λ t. refl))
