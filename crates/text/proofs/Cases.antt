-- One law for each case of what a text is read as, at a place of the text. Assumes nothing.
use Prim.Native.Nat.{ℕ, suc, ◌+◌, ◌-◌, ◌≤◌, ◌<◌}
use mathlib.Core.Path.{◌≡◌, refl}
use mathlib.Core.List.{List}
use mathlib.Core.Bool.{Bool, true, false}
use native.Mathlib.Omega.{arith}
use lib.ListN.{length, set, replicate}
use lib.Dec.{eqb}
use borrow.Author.Tests.{le-ltb, ne_eqb, eq-eqb}
use Rattle.std.specs.Prelude.{Ok, Err, Option, Some, None, is_some}
use Rattle.units.specs.Numbers.{pick}
use Rattle.units.proofs.Steps.{split, never}
use Rattle.sheet.specs.Refusals.{Answer, refused, is_fine, or_else, unless}
use Rattle.sheet.specs.declared.Refusal.TheVariants.{Malformed}
use Rattle.sheet.specs.Zero.{zero_sheet}
use Rattle.sheet.specs.declared.Sheet.{Sheet}
use Rattle.rows.specs.declared.table.Form.{Form}
use Rattle.rows.specs.Table.{bytes, plain, row_count, number_count, kind_of, key_of, absent_of, present}
use Rattle.rows.specs.Marks.{mark_of, line_feed}
use Rattle.numbers.specs.Flat.{sheet_of}
use Rattle.figures.specs.declared.Figure.{Figure}
use Rattle.figures.specs.Figures.{is, on_place, number_at, after_at}
use Rattle.text.specs.Line.{taken, ended, field_at, bad, good, fields, list_end, list_fields, line_at}
use Rattle.text.specs.Read.{Step, reached, place_past, malformed, judged_at, end_at, passed, filled, here_at, lines_from, lines_of, reply, read_by, may_lack}

-- a place and a figure by cases, with the equation
pub by_place : {X : Type 0} (p : Option ℕ) → (p ≡ None → X) → ((q : ℕ) → p ≡ Some q → X) → X
by_place None f g = f refl
by_place (Some q) f g = g q refl

pub by_figure : {X : Type 0} (n : Option Figure) → (n ≡ None → X) → ((v q : ℕ) → n ≡ is v q → X) → X
by_figure None f g = f refl
by_figure (Some n) f g = g n.value n.next refl

-- whether a place was found
pub found : (p : Option ℕ) → is_some p ≡ on_place p (λ q. true) false
found None = refl
found (Some q) = refl

-- the numbers of a line, from number j on
module _ (s : List ℕ) (form : Form) (place n j p : ℕ) (v : List ℕ) where
  pub fields_end : n ≤ j → fields s form place (n - j) j p v ≡ good p v
  unfolding fields
  fields_end h = let e : n - j ≡ 0 = omega arith in rw e

  pub fields_no_mark : j < n → after_at s p (mark_of j) ≡ None → fields s form place (n - j) j p v ≡ bad v
  unfolding fields
  fields_no_mark h a = let e : n - j ≡ suc (n - (j + 1)) = omega arith in rw (e, a)

  module _ (q : ℕ) where
    pub fields_no_number : j < n → after_at s p (mark_of j) ≡ Some q → field_at s q form ≡ None → fields s form place (n - j) j p v ≡ bad v
    unfolding fields
    fields_no_number h a b = let e : n - j ≡ suc (n - (j + 1)) = omega arith in rw (e, a, b)

    pub fields_step : (x t : ℕ) → j < n → after_at s p (mark_of j) ≡ Some q → field_at s q form ≡ is x t
        → fields s form place (n - j) j p v ≡ fields s form place (n - (j + 1)) (j + 1) t (set v (place + j) x)
    unfolding fields
    fields_step x t h a b = let e : n - j ≡ suc (n - (j + 1)) = omega arith in rw (e, a, b)

-- a line whose first number has no sign before it
module _ (s : List ℕ) (form : Form) (place n p : ℕ) (v : List ℕ) where
  pub first_no_mark : 1 ≤ n → after_at s p (mark_of 0) ≡ None → bad v ≡ fields s form place n 0 p v
  unfolding fields
  first_no_mark h a = let e : n ≡ suc (n - 1) = omega arith in rw (e, a)

-- the numbers of a list, from number k on
module _ (s : List ℕ) (place n k p : ℕ) (v : List ℕ) where
  pub list_end_lem : n ≤ k → list_fields s place (n - k) k p v ≡ list_end place k p v
  unfolding list_fields
  list_end_lem h = let e : n - k ≡ 0 = omega arith in rw e

  pub list_over : 1 ≤ k → k < n → after_at s p (mark_of k) ≡ None → list_fields s place (n - k) k p v ≡ list_end place k p v
  unfolding list_fields pick
  list_over o h a = let e : n - k ≡ suc (n - (k + 1)) = omega arith in rw (e, a, ne_eqb k 0 (λ z. omega arith))

  pub list_no_first : k ≡ 0 → k < n → after_at s p (mark_of k) ≡ None → list_fields s place (n - k) k p v ≡ bad v
  unfolding list_fields pick
  list_no_first z h a = let e : n - k ≡ suc (n - (k + 1)) = omega arith in rw (e, a, eq-eqb k 0 z)

  module _ (q : ℕ) where
    pub list_no_number : k < n → after_at s p (mark_of k) ≡ Some q → number_at s q ≡ None → list_fields s place (n - k) k p v ≡ bad v
    unfolding list_fields
    list_no_number h a b = let e : n - k ≡ suc (n - (k + 1)) = omega arith in rw (e, a, b)

    pub list_step : (x t : ℕ) → k < n → after_at s p (mark_of k) ≡ Some q → number_at s q ≡ is x t
        → list_fields s place (n - k) k p v ≡ list_fields s place (n - (k + 1)) (k + 1) t (set v (place + 1 + k) x)
    unfolding list_fields
    list_step x t h a b = let e : n - k ≡ suc (n - (k + 1)) = omega arith in rw (e, a, b)

-- a line whose numbers were read, as its line feed stands or not
pub fed : (s : List ℕ) (p : ℕ) (v : List ℕ) → taken (after_at s p line_feed) v ≡ ended s (good p v)
unfolding pick
fed s p v = by_place (after_at s p line_feed) (λ a. rw a refl) (λ q a. rw a refl)

pub comma : (j : ℕ) → 1 ≤ j → mark_of j ≡ bytes ","
unfolding mark_of pick
comma j h = rw (le-ltb j 1 h) refl

pub plain_field : (s : List ℕ) (q : ℕ) → field_at s q plain ≡ number_at s q
unfolding field_at pick
plain_field s q = refl

-- all lines, from a row on
module _ (may : ℕ → Bool) (s : List ℕ) (row line at : ℕ) (v : List ℕ) where
  pub lines_end : row_count ≤ row → lines_from may s (row_count - row) row line at v ≡ end_at s line at v
  unfolding lines_from
  lines_end h = let e : row_count - row ≡ 0 = omega arith in rw e

  pub lines_passed : row < row_count → passed may s at row v ≡ true → lines_from may s (row_count - row) row line at v ≡ lines_from may s (row_count - (row + 1)) (row + 1) line at (filled v row)
  unfolding lines_from here_at pick
  lines_passed h a = let e : row_count - row ≡ suc (row_count - (row + 1)) = omega arith in rw (e, a)

  module _ (t : Step) (taken : t ≡ judged_at s at row line v) where
    pub lines_bad : row < row_count → passed may s at row v ≡ false → is_fine t.answer ≡ false → lines_from may s (row_count - row) row line at v ≡ t
    unfolding lines_from here_at pick
    lines_bad h a b = let e : row_count - row ≡ suc (row_count - (row + 1)) = omega arith in rw (e, a, ← taken, b)

    pub lines_step : row < row_count → passed may s at row v ≡ false → is_fine t.answer ≡ true
        → lines_from may s (row_count - row) row line at v ≡ lines_from may s (row_count - (row + 1)) (row + 1) (line + 1) t.next t.numbers
    unfolding lines_from here_at pick
    lines_step h a b = let e : row_count - row ≡ suc (row_count - (row + 1)) = omega arith in rw (e, a, ← taken, b)

-- after the last line nothing stands
pub end_answer : (s : List ℕ) (line at : ℕ) (v : List ℕ) → (end_at s line at v).answer ≡ unless (eqb at (length s)) Malformed line
unfolding end_at pick unless
end_answer s line at v = split (eqb at (length s)) (λ t. rw t refl) (λ t. rw t refl)

pub end_numbers : (s : List ℕ) (line at : ℕ) (v : List ℕ) → (end_at s line at v).numbers ≡ v
unfolding end_at pick
end_numbers s line at v = split (eqb at (length s)) (λ t. rw t refl) (λ t. rw t refl)

-- a place past a line is one past a line without a fault
pub past_fine : (a : Answer) (p : ℕ) (v : List ℕ) → is_fine (reached (place_past a p) v).answer ≡ true → a ≡ Ok tt
past_fine (Ok _) p v e = refl
past_fine (Err d) p v e = never e

-- a refusal comes with the zero sheet, whatever was read
pub reply_bad : (a : Answer) (s t : Sheet) → is_fine a ≡ false → reply a s ≡ reply a t
unfolding reply pick
reply_bad a s t e = rw e

-- the first line may not be absent: a text that does not begin with its key
first_not_passed : (older : Bool) (text : List ℕ) → passed (may_lack older) text 0 0 (replicate number_count 0) ≡ false
unfolding passed may_lack absent_of kind_of present pick
first_not_passed true text = refl
first_not_passed false text = refl

pub not_begun : (older : Bool) (text : List ℕ) → after_at text 0 (key_of 0) ≡ None → reply (refused Malformed 1) zero_sheet ≡ read_by (may_lack older) text
unfolding read_by judged_at line_at pick or_else
not_begun older text e =
    let first : malformed 1 (replicate number_count 0) ≡ judged_at text 0 0 1 (replicate number_count 0) = rw e refl in
    let all : lines_of (may_lack older) text ≡ malformed 1 (replicate number_count 0) = lines_bad (may_lack older) text 0 1 0 (replicate number_count 0) (malformed 1 (replicate number_count 0)) first (omega arith) (first_not_passed older text) refl in
    rw all (reply_bad (refused Malformed 1) zero_sheet (sheet_of (replicate number_count 0)) refl)
