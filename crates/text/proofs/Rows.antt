-- What the table says of each row's line: its key has three letters or more, where it has more numbers than one they are plain or a list, a list has room
-- for one number and its count, and where a line has one number there is no rule but its range. Assumes nothing.
use Prim.Native.Nat.{ℕ, ◌≤◌, ◌<◌}
use mathlib.Core.Path.{◌≡◌, refl, ap, sym, ◌∙◌}
use mathlib.Core.Bool.{Bool, true, false}
use mathlib.Core.List.{List, [], ◌∷◌}
use native.Mathlib.Omega.{arith}
use lib.Dec.{T, eqb, leb, ltb, leb→le, lt→ltb}
use lib.ListN.{length, get_or}
use borrow.Author.Tests.{le-leb, lt-leb}
use Rattle.units.specs.Numbers.{pick}
use Rattle.units.proofs.Steps.{split}
use Rattle.units.proofs.Tested.{given, given_then, all_below, at}
use Rattle.sheet.specs.Refusals.{Answer, refused, or_else, unless}
use Rattle.std.specs.Prelude.{Ok, Err}
use Rattle.sheet.specs.declared.Refusal.TheVariants.{OutOfRange}
use Rattle.sheet.proofs.Answers.{holds, fails}
use Rattle.rows.specs.declared.table.Form.{Form}
use Rattle.rows.specs.declared.table.Form.TheVariants.{Plain, Worded, Signed, Listed}
use Rattle.rows.specs.declared.table.Key.{Key}
use Rattle.rows.specs.Facts.{facts_of}
use Rattle.rows.specs.Table.{plain, key_of, is_plain, is_list, Range, ◌to◌, row_count, phase_kind, point_kind, kind_of, form_of, ranges_of, range_of, width_of, place_of, used_ranges, in_range, in_ranges}
use Rattle.rows.proofs.Tables.{list_row, list_true}
use Rattle.faults.specs.Lines.{rule_fault, row_fault}

pub key_long : (row : ℕ) → row < row_count → 3 ≤ length (key_of row)
unfolding key_of kind_of
key_long row h = leb→le 3 (length (key_of row)) (at (λ (r : ℕ). leb 3 (length (key_of r))) row_count tt row h)

pub facts_long : (row : ℕ) (k : Key) → k ≡ facts_of row → row < row_count → 3 ≤ k.length
unfolding facts_of
facts_long row k e h = let l : k.length ≡ length (key_of row) = ap (λ (x : Key). x.length) e in omega (arith, key_long row h)

abbrev either : Bool → Bool → Bool
either a b = pick a true b

plain_true : (f : Form) → T (is_plain f) → f ≡ plain
plain_true Plain t = refl
plain_true Worded t = absurd t
plain_true Signed t = absurd t
plain_true Listed t = absurd t

pub wide_plain : (row : ℕ) → row < row_count → 1 < width_of row → is_list (form_of row) ≡ false → form_of row ≡ plain
unfolding form_of width_of ranges_of kind_of pick
wide_plain row h w n =
    let t = given_then (ltb 1 (width_of row)) (either (is_list (form_of row)) (is_plain (form_of row)))
    (at (λ (r : ℕ). given (ltb 1 (width_of r)) (either (is_list (form_of r)) (is_plain (form_of r)))) row_count tt row h)
    (lt→ltb 1 (width_of row) w) in
    plain_true (form_of row) (rw n at t)

pub list_wide : (row : ℕ) → is_list (form_of row) ≡ true → 2 ≤ width_of row
list_wide row e = omega (arith, (list_row row (list_true (form_of row) e)).width)

-- ---- a line of one number

abbrev differs : ℕ → ℕ → Bool
differs a b = pick (eqb a b) false true

differ : (a b : ℕ) → T (differs a b) → eqb a b ≡ false
unfolding pick
differ a b t = split (eqb a b) (λ e. absurd (rw e at t)) (λ e. e)

-- a row of one number is none of a kind with more
other : (k : ℕ) → T (all_below (λ (r : ℕ). given (eqb (width_of r) 1) (differs (kind_of r) k)) row_count)
    → (row : ℕ) → row < row_count → width_of row ≡ 1 → eqb (kind_of row) k ≡ false
other k t row h w =
    let one : T (eqb (width_of row) 1) = rw w tt in
    differ (kind_of row) k
    (given_then (eqb (width_of row) 1) (differs (kind_of row) k) (at (λ (r : ℕ). given (eqb (width_of r) 1) (differs (kind_of r) k)) row_count t row h) one)

no_phase : (row : ℕ) → row < row_count → width_of row ≡ 1 → eqb (kind_of row) phase_kind ≡ false
unfolding width_of ranges_of kind_of pick
no_phase row h w = other phase_kind tt row h w

no_point : (row : ℕ) → row < row_count → width_of row ≡ 1 → eqb (kind_of row) point_kind ≡ false
unfolding width_of ranges_of kind_of pick
no_point row h w = other point_kind tt row h w

no_list : (row : ℕ) → width_of row ≡ 1 → is_list (form_of row) ≡ false
no_list row w = split (is_list (form_of row)) (λ t. absurd (omega (arith, list_wide row t, w))) (λ t. t)

no_rule : (v : List ℕ) (row line : ℕ) → row < row_count → width_of row ≡ 1 → rule_fault v row line ≡ Ok tt
unfolding rule_fault pick
no_rule v row line h w = rw (no_phase row h w, no_point row h w, no_list row w) refl

only : (rs : List Range) → length rs ≡ 1 → rs ≡ get_or rs 0 (0 to 0) ∷ []
only [] e = absurd (omega arith)
only (r ∷ []) e = refl
only (r ∷ q ∷ rs) e = absurd (omega arith)

or_fine : (a : Answer) → or_else a (Ok tt) ≡ a
unfolding or_else
or_fine (Ok _) = refl
or_fine (Err d) = refl

both_true : (b : Bool) → pick b true false ≡ b
unfolding pick
both_true true = refl
both_true false = refl

module _ (v : List ℕ) (row line : ℕ) (h : row < row_count) (w : width_of row ≡ 1) where
  abbrev number : ℕ
  number = get_or v (place_of row) 0

  in_one : (rs : List Range) → length rs ≡ 1 → in_ranges v (place_of row) rs ≡ in_range (get_or rs 0 (0 to 0)) number
  unfolding in_ranges
  in_one rs e = rw (only rs e) (both_true (in_range (get_or rs 0 (0 to 0)) number))

  one_fault_lem : row_fault v row line ≡ unless (in_range (range_of row 0) number) OutOfRange line
  unfolding row_fault used_ranges width_of pick
  one_fault_lem = rw (no_rule v row line h w, no_list row w, in_one (ranges_of row) w) (or_fine (unless (in_range (range_of row 0) number) OutOfRange line))

  module _ (least most : ℕ) (low : least ≡ (range_of row 0).least) (high : most ≡ (range_of row 0).most) where
    pub too_small : number < least → refused OutOfRange line ≡ row_fault v row line
    unfolding in_range pick
    too_small b = sym (one_fault_lem ∙ fails _ _ _ (rw (← low, lt-leb least number b) refl))

    pub too_large : least ≤ number → most < number → refused OutOfRange line ≡ row_fault v row line
    unfolding in_range pick
    too_large a b = sym (one_fault_lem ∙ fails _ _ _ (rw (← low, ← high, le-leb least number a, lt-leb number most b) refl))

    pub inside : least ≤ number → number ≤ most → (Ok tt) ≡ row_fault v row line
    unfolding in_range pick
    inside a b = sym (one_fault_lem ∙ holds _ _ _ (rw (← low, ← high, le-leb least number a, le-leb number most b) refl))
