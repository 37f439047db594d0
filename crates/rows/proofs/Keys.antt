-- The code's row of a key is the printed one: by the place of its first number, which tells the kind. Assumes nothing.
use mathlib.Core.Path.{◌≡◌, refl, ap, sym, ◌∙◌}
use mathlib.Core.Bool.{Bool, true, false}
use mathlib.Core.List.{List, [], ◌∷◌, ◌++◌}
use Prim.Native.Nat.{ℕ, zero, suc, ◌+◌, ◌*◌, ◌<◌, ◌≤◌}
use native.Mathlib.Omega.{arith}
use lib.Dec.{eqb, ltb, leb, leb→le}
use lib.ListN.{length, get_or, take, replicate, length-append}
use lib.Seq.{length-take-le}
use borrow.Author.Tests.{ltb-true, ltb-false, eqb-true}
use Rattle.units.specs.Numbers.{pick}
use Rattle.units.proofs.Steps.{split}
use Rattle.units.proofs.Tested.{at}
use Rattle.rows.specs.declared.table.Key.{Key}
use Rattle.rows.specs.Table.{Kind, ◌to◌, kinds, none, kind_count, row_count, number_count, numbers_in, place_for, first_phase, first_point, kind_of, key_of, form_of, absent_of, ranges_of}
use Rattle.rows.specs.Facts.{letters, facts_of, head_of}
use Rattle.rows.proofs.Tables.{ruled, kind_few, kind_past, past_phases, shift}

-- ---- where the kinds start

unfoldable pub head_rule : ℕ → ℕ
head_rule row =
    pick (ltb row first_phase) row
    (pick (ltb row past_phases) (place_for "phase")
    (pick (ltb row (past_phases + 1)) (place_for "track")
    (pick (ltb row (past_phases + 2)) (place_for "dwell") (pick (ltb row first_point) (row + shift) (place_for "point")))))

pub head_ruled : (row : ℕ) → row < row_count → head_of row ≡ head_rule row
unfolding head_rule kind_of pick
head_ruled row h = sym (ruled head_rule head_of tt row h refl)

pub head_past : (row : ℕ) → row_count ≤ row → head_of row ≡ number_count
head_past row h = ap (λ (k : ℕ). numbers_in (take k kinds)) (kind_past row h)

abbrev pub heads_from : ℕ → List Kind → List ℕ
heads_from at [] = []
heads_from at (x ∷ xs) = at ∷ heads_from (at + x.lines * length x.ranges) xs

abbrev pub heads : List ℕ
heads = heads_from 0 kinds

-- ---- which of a list a number is, and that it is none of them, as a `match` says it of what is left

abbrev pub next : Bool → ℕ → ℕ
next true n = 0
next false n = suc n

abbrev pub index_in : ℕ → List ℕ → ℕ
index_in n [] = 0
index_in n (k ∷ ks) = next (eqb n k) (index_in n ks)

abbrev pub Left : Type 0 → ℕ → List ℕ → Type 0
Left X n [] = X
Left X n (k ∷ ks) = Left (X × (n ≡ k → ⊥)) n ks

left_first : (X : Type 0) (n : ℕ) (ks : List ℕ) → Left X n ks → X
left_first X n [] x = x
left_first X n (k ∷ ks) x = (left_first (X × (n ≡ k → ⊥)) n ks x).0

pub left_out : (X : Type 0) (n : ℕ) (ks : List ℕ) → Left X n ks → index_in n ks ≡ length ks
left_out X n [] x = refl
left_out X n (k ∷ ks) x =
    split (eqb n k)
    (λ t. absurd ((left_first (X × (n ≡ k → ⊥)) n ks x).1 (eqb-true n k t)))
    (λ t. rw t (ap suc (left_out (X × (n ≡ k → ⊥)) n ks x)))

-- ---- the row of a key

head_tells : (row : ℕ) → kind_of row ≡ index_in (head_of row) heads
unfolding kind_of
head_tells row =
    split (ltb row row_count)
    (λ t. ruled kind_of (λ (r : ℕ). index_in (head_of r) heads) tt row (ltb-true row row_count t) refl)
    (λ t. kind_past row (ltb-false row row_count t) ∙ ap (λ (k : ℕ). index_in (numbers_in (take k kinds)) heads) (sym (kind_past row (ltb-false row row_count t))))

abbrev pub kind_facts : Kind → Key
kind_facts k =
    record {
      letters = letters k.key;
      length = length k.key;
      form = k.form;
      least = (get_or k.ranges 0 (0 to 0)).least;
      most = (get_or k.ranges 0 (0 to 0)).most;
      absent = k.absent;
    }

pub facts_at : (row at n : ℕ) {x : Key} → at ≡ head_of row → at ≡ n → x ≡ kind_facts (get_or kinds (index_in n heads) none) → x ≡ facts_of row
unfolding facts_of key_of form_of absent_of ranges_of
facts_at row at n h e f =
    f ∙ ap (λ (k : ℕ). kind_facts (get_or kinds k none)) (ap (λ (m : ℕ). index_in m heads) (sym e ∙ h) ∙ sym (head_tells row))

pub facts_past : (row at : ℕ) {x : Key} → at ≡ head_of row → Left (Unit {0}) at heads → x ≡ kind_facts none → x ≡ facts_of row
unfolding facts_of key_of form_of absent_of ranges_of
facts_past row at h l f =
    f ∙ ap (λ (k : ℕ). kind_facts (get_or kinds k none)) (sym (left_out (Unit {0}) at heads l) ∙ ap (λ (m : ℕ). index_in m heads) h ∙ sym (head_tells row))

-- ---- the letters of a key, without the blanks

part : (xs ys : List ℕ) (n : ℕ) → length xs ≤ n → take (length xs) (take n (xs ++ ys)) ≡ xs
part [] ys n h = refl
part (x ∷ xs) ys zero h = absurd (omega arith)
part (x ∷ xs) ys (suc n) h = ap (λ (l : List ℕ). x ∷ l) (part xs ys n (omega arith))

kind_any : (row : ℕ) → kind_of row < kind_count + 1
kind_any row =
    split (ltb row row_count) (λ t. omega (arith, kind_few row (ltb-true row row_count t))) (λ t. omega (arith, kind_past row (ltb-false row row_count t)))

pub key_short : (row : ℕ) → length (key_of row) ≤ 8
unfolding key_of
key_short row = leb→le (length (key_of row)) 8 (at (λ (k : ℕ). leb (length (get_or kinds k none).key) 8) (kind_count + 1) tt (kind_of row) (kind_any row))

pub key_part : (row : ℕ) → take (length (key_of row)) (letters (key_of row)) ≡ key_of row
key_part row = part (key_of row) (replicate 8 32) 8 (key_short row)

letters_long : (row : ℕ) → length (letters (key_of row)) ≡ 8
letters_long row =
    let long : 8 ≤ length (key_of row ++ replicate 8 32) = rw (length-append (key_of row) (replicate 8 32)) (omega arith) in
    length-take-le 8 (key_of row ++ replicate 8 32) long

-- ---- what a caller takes from the row of a key

module _ (row : ℕ) (k : Key) (e : k ≡ facts_of row) where
  pub facts_key : take k.length k.letters ≡ key_of row
  unfolding facts_of
  facts_key = ap (λ (x : Key). take x.length x.letters) e ∙ key_part row

  pub facts_letters : length k.letters ≡ 8
  unfolding facts_of
  facts_letters = ap (λ (x : Key). length x.letters) e ∙ letters_long row

  pub facts_short : k.length ≤ 8
  unfolding facts_of
  facts_short = let l : k.length ≡ length (key_of row) = ap (λ (x : Key). x.length) e in omega (arith, key_short row)

  pub facts_form : k.form ≡ form_of row
  unfolding facts_of
  facts_form = ap (λ (x : Key). x.form) e

  pub facts_absent : k.absent ≡ absent_of row
  unfolding facts_of
  facts_absent = ap (λ (x : Key). x.absent) e
