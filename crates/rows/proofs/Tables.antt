-- The code's rules by the number of a row are the printed table: one computed test for each. Assumes nothing.
use mathlib.Core.Path.{◌≡◌, refl, sym, ap, subst, ◌∙◌}
use mathlib.Core.Bool.{Bool, true, false}
use mathlib.Core.List.{List, []}
use Prim.Native.Nat.{ℕ, zero, suc, ◌+◌, ◌-◌, ◌*◌, ◌<◌, ◌≤◌}
use native.Mathlib.Omega.{arith}
use lib.Dec.{T, eqb, leb, ltb, eqb→eq, leb→le, ltb→lt, lt→ltb}
use lib.ListN.{get_or, length, get_or-eq_default}
use Rattle.units.specs.Numbers.{pick}
use borrow.Author.Tests.{ltb-true, ltb-false}
use Rattle.units.proofs.Steps.{split}
use Rattle.units.proofs.Tested.{given, given_then, all_below, at}
use Rattle.rows.specs.declared.table.Form.{Form}
use Rattle.rows.specs.declared.table.Form.TheVariants.{Plain, Worded, Signed, Listed}
use Rattle.rows.specs.Table.{Range, ◌to◌, plain, list, kinds, rows, none, is_plain, is_list, most_phases, kind_count, row_count, number_count, row_for, place_for, phase_kind, point_kind, first_phase, first_point, kind_of, form_of, ranges_of, range_of, width_of, place_of}

-- ---- the code's rules, in the order of its tests

abbrev pub past_phases : ℕ
past_phases = first_phase + most_phases

unfoldable pub kind_rule : ℕ → ℕ
kind_rule row = pick (ltb row first_phase) row (pick (ltb row past_phases) phase_kind (pick (ltb row first_point) (phase_kind + 1 + (row - past_phases)) point_kind))

-- how much further a row of one number past the list for dwell stands than its number says
abbrev pub shift : ℕ
shift = place_for "dwell" + 1 + most_phases - (past_phases + 2)

unfoldable pub place_rule : ℕ → ℕ
place_rule row =
    pick (ltb row first_phase) row
    (pick (ltb row (past_phases + 1)) (place_for "phase" + 8 * (row - first_phase))
    (pick (ltb row (past_phases + 2)) (place_for "dwell") (pick (ltb row first_point) (row + shift) (place_for "point" + 2 * (row - first_point)))))

unfoldable pub width_rule : ℕ → ℕ
width_rule row =
    pick (ltb row first_phase) 1
    (pick (ltb row past_phases) 8
    (pick (ltb row (past_phases + 1)) 2 (pick (ltb row (past_phases + 2)) (1 + most_phases) (pick (ltb row first_point) 1 2))))

-- of the numbers of a phase after its own number
unfoldable pub phase_most : ℕ → ℕ
phase_most j = pick (ltb j 3) 999 (pick (ltb j 5) 60 (pick (ltb j 7) 999 2))

unfoldable pub least_rule : ℕ → ℕ → ℕ
least_rule row j = pick (eqb j 0) (range_of row 0).least (pick (ltb row past_phases) (pick (eqb j 3) 30 0) (pick (eqb row (past_phases + 1)) 1 0))

unfoldable pub most_rule : ℕ → ℕ → ℕ
most_rule row j = pick (eqb j 0) (range_of row 0).most (pick (ltb row past_phases) (phase_most j) (pick (ltb row (past_phases + 1)) 60 (pick (ltb row first_point) 8 9999)))

-- ---- rows

-- what a rule gives is what the table has, by one computed test of every row
pub ruled : (f g : ℕ → ℕ) → T (all_below (λ (r : ℕ). eqb (f r) (g r)) row_count) → {x : ℕ} (row : ℕ) → row < row_count → x ≡ f row → x ≡ g row
ruled f g t row h e = e ∙ eqb→eq (f row) (g row) (at (λ (r : ℕ). eqb (f r) (g r)) row_count t row h)

pub kind_ruled : (row : ℕ) → row < row_count → kind_of row ≡ kind_rule row
unfolding kind_rule kind_of pick
kind_ruled row h = sym (ruled kind_rule kind_of tt row h refl)

pub kind_few : (row : ℕ) → row < row_count → kind_of row < kind_count
unfolding kind_of
kind_few row h = ltb→lt (kind_of row) kind_count (at (λ (r : ℕ). ltb (kind_of r) kind_count) row_count tt row h)

pub kind_past : (row : ℕ) → row_count ≤ row → kind_of row ≡ kind_count
unfolding kind_of
kind_past row h = get_or-eq_default rows kind_count {n = row} h

pub ranges_past : (row : ℕ) → row_count ≤ row → ranges_of row ≡ []
unfolding ranges_of
ranges_past row h = ap (λ (k : ℕ). (get_or kinds k none).ranges) (kind_past row h)

pub width_past : (row : ℕ) → row_count ≤ row → width_of row ≡ 0
unfolding width_of
width_past row h = ap length (ranges_past row h)

pub width_ruled : (row : ℕ) → row < row_count → width_of row ≡ width_rule row
unfolding width_rule width_of ranges_of kind_of pick
width_ruled row h = sym (ruled width_rule width_of tt row h refl)

pub width_some : (row : ℕ) → row < row_count → 0 < width_of row
unfolding width_of ranges_of kind_of
width_some row h = ltb→lt 0 (width_of row) (at (λ (r : ℕ). ltb 0 (width_of r)) row_count tt row h)

pub plain_true : (f : Form) → T (is_plain f) → f ≡ plain
plain_true Plain t = refl
plain_true Worded t = absurd t
plain_true Signed t = absurd t
plain_true Listed t = absurd t

-- the test for a list is of the form alone
pub list_true : (f : Form) → is_list f ≡ true → f ≡ list
list_true Plain t = absurd (subst T (sym t) tt)
list_true Worded t = absurd (subst T (sym t) tt)
list_true Signed t = absurd (subst T (sym t) tt)
list_true Listed t = refl

pub list_is : {f : Form} → f ≡ list → is_list f ≡ true
list_is e = ap is_list e

pub not_list : (f : Form) → (f ≡ list → ⊥) → is_list f ≡ false
not_list f e = split (is_list f) (λ t. absurd (e (list_true f t))) (λ t. t)

-- a list is a row of the table, and has as many numbers after its count as there is room for phases
pub record ListRow (row : ℕ) : Type 0 where
  pub inside : row < row_count
  pub width : width_of row ≡ 1 + most_phases

pub list_row : (row : ℕ) → form_of row ≡ list → ListRow row
unfolding form_of width_of ranges_of kind_of
list_row row e =
    split (ltb row row_count)
    (λ t.
    let h = ltb-true row row_count t in
    record {
      inside = h;
      width =
          eqb→eq (width_of row) (1 + most_phases)
          (given_then (is_list (form_of row)) (eqb (width_of row) (1 + most_phases)) (at (λ (r : ℕ). given (is_list (form_of r)) (eqb (width_of r) (1 + most_phases))) row_count tt row h)
          (rw (list_is e) tt));
    })
    (λ t.
    let past : form_of row ≡ plain = ap (λ (k : ℕ). (get_or kinds k none).form) (kind_past row (ltb-false row row_count t)) in
    absurd (subst T (sym (list_is e) ∙ ap is_list past) tt))

pub place_ruled : (row : ℕ) → row < row_count → place_of row ≡ place_rule row
unfolding place_rule place_of width_of ranges_of kind_of pick
place_ruled row h = sym (ruled place_rule place_of tt row h refl)

pub place_room : (row : ℕ) → row < row_count → place_of row + width_of row ≤ number_count
unfolding place_of width_of ranges_of kind_of
place_room row h = leb→le (place_of row + width_of row) number_count (at (λ (r : ℕ). leb (place_of r + width_of r) number_count) row_count tt row h)

pub dwell_place_lem : place_of (row_for "dwell") ≡ place_for "dwell"
unfolding place_of width_of ranges_of kind_of
dwell_place_lem = refl

places_end : place_of row_count ≡ number_count
unfolding place_of width_of ranges_of kind_of
places_end = refl

past_by : (n : ℕ) → place_of (n + row_count) ≡ number_count
unfolding place_of
past_by zero = places_end
past_by (suc n) =
    let e : suc n + row_count ≡ suc (n + row_count) = omega arith in
    rw e (omega (arith, past_by n, width_past (n + row_count) (omega arith)))

pub place_past : (row : ℕ) → row_count ≤ row → place_of row ≡ number_count
place_past row h = let e : row ≡ row - row_count + row_count = omega arith in rw e (past_by (row - row_count))

-- any row's place is one of the numbers, or their end
pub place_within : (row : ℕ) → place_of row ≤ number_count
place_within row =
    split (ltb row row_count) (λ t. omega (arith, place_room row (ltb-true row row_count t))) (λ t. omega (arith, place_past row (ltb-false row row_count t)))

-- ---- kinds

abbrev pub kind_ranges : ℕ → List Range
kind_ranges k = (get_or kinds k none).ranges

-- a test of each number of each kind; no kind has more than 9
pub for_each : (test : ℕ → ℕ → Bool) → T (all_below (λ (k : ℕ). all_below (λ (j : ℕ). given (ltb j (length (kind_ranges k))) (test k j)) 9) kind_count) → (k j : ℕ) → k < kind_count → j < length (kind_ranges k) → T (test k j)
for_each test t k j hk hj =
    let few : length (kind_ranges k) ≤ 9 = leb→le (length (kind_ranges k)) 9 (at (λ (n : ℕ). leb (length (kind_ranges n)) 9) kind_count tt k hk) in
    given_then (ltb j (length (kind_ranges k))) (test k j)
    (at (λ (i : ℕ). given (ltb i (length (kind_ranges k))) (test k i)) 9
    (at (λ (n : ℕ). all_below (λ (i : ℕ). given (ltb i (length (kind_ranges n))) (test n i)) 9) kind_count t k hk)
    j
    (omega arith))
    (lt→ltb j (length (kind_ranges k)) hj)

abbrev pub range_at : ℕ → ℕ → Range
range_at k j = get_or (kind_ranges k) j (0 to 0)

-- the same of each number of each row
for_row : (test : ℕ → ℕ → Bool) → T (all_below (λ (r : ℕ). all_below (λ (j : ℕ). given (ltb j (width_of r)) (test r j)) 9) row_count) → (row j : ℕ) → row < row_count → j < width_of row → T (test row j)
unfolding width_of ranges_of kind_of
for_row test t row j h hj =
    let few : width_of row ≤ 9 = leb→le (width_of row) 9 (at (λ (r : ℕ). leb (width_of r) 9) row_count tt row h) in
    given_then (ltb j (width_of row)) (test row j)
    (at (λ (i : ℕ). given (ltb i (width_of row)) (test row i)) 9
    (at (λ (r : ℕ). all_below (λ (i : ℕ). given (ltb i (width_of r)) (test r i)) 9) row_count t row h)
    j
    (omega arith))
    (lt→ltb j (width_of row) hj)

pub least_ruled : (row j : ℕ) → row < row_count → j < width_of row → (range_of row j).least ≡ least_rule row j
unfolding least_rule width_of ranges_of kind_of pick
least_ruled row j h hj =
    sym (eqb→eq (least_rule row j) (range_of row j).least (for_row (λ (r i : ℕ). eqb (least_rule r i) (range_of r i).least) tt row j h hj))

pub most_ruled : (row j : ℕ) → row < row_count → j < width_of row → (range_of row j).most ≡ most_rule row j
unfolding most_rule phase_most width_of ranges_of kind_of pick
most_ruled row j h hj =
    sym (eqb→eq (most_rule row j) (range_of row j).most (for_row (λ (r i : ℕ). eqb (most_rule r i) (range_of r i).most) tt row j h hj))
