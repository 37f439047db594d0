-- What is written is read back: the text of numbers without a fault is read as those numbers, row by row. Assumes nothing.
use Prim.Native.Nat.{ℕ, zero, suc, ◌+◌, ◌-◌, ◌≤◌, ◌<◌, min}
use mathlib.Core.Path.{◌≡◌, refl, sym, ap, ◌∙◌}
use mathlib.Core.List.{List, [], ◌∷◌, ◌++◌, append_assoc, append-nil}
use mathlib.Core.Bool.{true}
use native.Mathlib.Omega.{arith}
use native.Mathlib.Numerals.{add-one}
use lib.ListN.{length, get_or, drop, take, set, replicate, length-append, length-replicate, get_or-append}
use lib.Seq.{get_or-take, take-suc, set_at, set-set, set_comm, set-get_or, get_or-set_other, length-take-le, ext_get_or, get_or-append-add, take_all}
use lib.Dec.{ltb, leb, eqb, leb→le, eqb→eq}
use borrow.Author.Tests.{ne_eqb, eqb-true, eqb-false, ltb-true, ltb-false, le-ltb}
use Rattle.units.specs.Numbers.{pick}
use Rattle.units.proofs.Steps.{split}
use Rattle.units.proofs.Tested.{also, also_left, also_right, given, given_then, at}
use Rattle.std.specs.Prelude.{Ok, Some, None}
use Rattle.sheet.proofs.Answers.{both_fine, passes}
use Rattle.rows.specs.declared.table.Form.{Form}
use Rattle.rows.specs.Table.{is_list, row_count, number_count, kind_count, bytes, plain, list, Range, ◌to◌, kinds, none, form_of, key_of, kind_of, ranges_of, range_of, width_of, place_of, used_ranges}
use Rattle.rows.specs.Marks.{mark_of, line_feed}
use Rattle.rows.proofs.Tables.{list_true, place_room, kind_few, for_each, kind_ranges, range_at}
use Rattle.faults.specs.Lines.{row_fault}
use Rattle.faults.specs.Ranges.{Between}
use Rattle.faults.proofs.Rows.{in_each}
use Rattle.figures.specs.Figures.{is, digit_of, after, number_at, after_at}
use Rattle.text.specs.Line.{field_at, good, fields, list_count, list_end, list_fields, values_at, line_at}
use Rattle.text.specs.Digits.{digits_in}
use Rattle.text.specs.Text.{field_text, fields_text, list_text, values_text, row_text}
use Rattle.text.proofs.Cases.{comma, plain_field}
use Rattle.text.proofs.Rows.{list_wide}
use Rattle.trips.proofs.Cuts.{past}
use Rattle.trips.proofs.Figures.{after_read, number_read}
use Rattle.trips.proofs.Fields.{domain, Sayable, field_read}
use Rattle.trips.proofs.Agree.{used, used_all, used_list, used_few}
use Rattle.trips.proofs.Back.{zeros_in}

-- ---- the first m numbers, and zeros behind them

unfoldable pub part : List ℕ → ℕ → List ℕ
part v m = take m v ++ replicate (number_count - m) 0

pub part_at : (v : List ℕ) (m j : ℕ) → m ≤ length v → j < m → get_or (part v m) j 0 ≡ get_or v j 0
unfolding part
part_at v m j h l = get_or-append (take m v) (replicate (number_count - m) 0) 0 j (rw (length-take-le m v h) l) ∙ get_or-take m v j 0 l

pub part_long : (v : List ℕ) (m : ℕ) → length v ≡ number_count → m ≤ number_count → length (part v m) ≡ number_count
unfolding part
part_long v m h l =
    let hm : m ≤ length v = omega arith in
    length-append (take m v) (replicate (number_count - m) 0) ∙ rw (length-take-le m v hm, length-replicate) (omega arith)

pub part_behind : (v : List ℕ) (m j : ℕ) → m ≤ length v → m ≤ j → get_or (part v m) j 0 ≡ 0
unfolding part
part_behind v m j h l =
    let e : j ≡ length (take m v) + (j - m) = rw (length-take-le m v h) (omega arith) in
    ap (λ (k : ℕ). get_or (take m v ++ replicate (number_count - m) 0) k 0) e ∙ get_or-append-add (take m v) (replicate (number_count - m) 0) (j - m) 0 ∙ zeros_in (number_count - m) (j - m)

pub part_set : (v : List ℕ) (m : ℕ) → length v ≡ number_count → m < number_count → set (part v m) m (get_or v m 0) ≡ part v (m + 1)
unfolding part
part_set v m h l =
    let e : number_count - m ≡ suc (number_count - (m + 1)) = omega arith in
    let hm : m ≤ length v = omega arith in
    let hl : m < length v = omega arith in
    rw e (set_at (take m v) 0 (replicate (number_count - (m + 1)) 0) (get_or v m 0) m (length-take-le m v hm)
    ∙ rw (add-one m, take-suc v m 0 hl) (sym (append_assoc (take m v) (get_or v m 0 ∷ []) (replicate (number_count - suc m) 0))))

-- numbers that are 0 between two places
pub part_over : (v : List ℕ) (m n : ℕ) → length v ≡ number_count → m ≤ n → n ≤ number_count → ((j : ℕ) → m ≤ j → j < n → get_or v j 0 ≡ 0) → part v m ≡ part v n
part_over v m n h l k z =
    ext_get_or 0 (part v m) (part v n) (part_long v m h (omega arith) ∙ sym (part_long v n h k))
    (λ j g. split (ltb j m)
    (λ t. let a = ltb-true j m t in part_at v m j (omega arith) a ∙ sym (part_at v n j (omega arith) (omega arith)))
    (λ t. split (ltb j n)
    (λ t₁. let a = ltb-false j m t in part_behind v m j (omega arith) a ∙ sym (part_at v n j (omega arith) (ltb-true j n t₁) ∙ z j a (ltb-true j n t₁)))
    (λ t₁. part_behind v m j (omega arith) (ltb-false j m t) ∙ sym (part_behind v n j (omega arith) (ltb-false j n t₁)))))

pub part_all : (v : List ℕ) → length v ≡ number_count → part v number_count ≡ v
unfolding part
part_all v h = append-nil (take number_count v) ∙ take_all number_count v (omega arith)

-- ---- the numbers of a line

-- after a number stands no digit
after_field : (form : Form) (place n j : ℕ) (v : List ℕ) (c : ℕ) (l : List ℕ) → 9 < digit_of c
    → (b : ℕ) × (r : List ℕ) × (9 < digit_of b) × (fields_text form place n (j + 1) v ++ c ∷ l ≡ b ∷ r)
unfolding fields_text digit_of mark_of pick
after_field form place zero j v c l h = (c, l, h, refl)
after_field form place (suc n) j v c l h =
    (44, (field_text form (get_or v (place + (j + 1)) 0) ++ fields_text form place n (j + 1 + 1) v) ++ c ∷ l, omega arith, rw (le-ltb (j + 1) 1 (omega arith)))

fields_read : (s : List ℕ) (form : Form) (place n j p : ℕ) (v : List ℕ) (c : ℕ) (l : List ℕ) → length v ≡ number_count → place + j + n ≤ number_count
    → ((m : ℕ) → place + j ≤ m → m < place + j + n → Sayable form (get_or v m 0)) → 9 < digit_of c → drop p s ≡ fields_text form place n j v ++ c ∷ l
    → fields s form place n j p (part v (place + j)) ≡ good (p + length (fields_text form place n j v)) (part v (place + j + n))
unfolding fields fields_text
fields_read s form place zero j p v c l hv h d hc e =
    let e₁ : p + 0 ≡ p = omega arith in
    let e₂ : place + j + 0 ≡ place + j = omega arith in
    rw (e₁, e₂)
fields_read s form place (suc n) j p v c l hv h d hc e =
    let x = get_or v (place + j) 0 in
    let t = field_text form x in
    let r = fields_text form place n (j + 1) v in
    let p₁ = p + length (mark_of j) in
    let p₂ = p₁ + length t in
    let nx = after_field form place n j v c l hc in
    let e₁ : drop p s ≡ mark_of j ++ (t ++ (r ++ c ∷ l)) = e ∙ append_assoc (mark_of j) (t ++ r) (c ∷ l) ∙ ap (λ (y : List ℕ). mark_of j ++ y) (append_assoc t r (c ∷ l)) in
    let a : after_at s p (mark_of j) ≡ Some p₁ = after_read s p (mark_of j) (t ++ (r ++ c ∷ l)) e₁ in
    let e₂ : drop p₁ s ≡ t ++ (r ++ c ∷ l) = past s p (mark_of j) (t ++ (r ++ c ∷ l)) e₁ in
    let b : field_at s p₁ form ≡ is x p₂ = field_read s p₁ form x nx.0 nx.1 (d (place + j) (omega arith) (omega arith)) nx.2 (e₂ ∙ ap (λ (y : List ℕ). t ++ y) nx.3) in
    let e₃ : drop p₂ s ≡ r ++ c ∷ l = past s p₁ t (r ++ c ∷ l) e₂ in
    let q₁ : place + (j + 1) ≡ place + j + 1 = omega arith in
    let q₂ : place + (j + 1) + n ≡ place + j + suc n = omega arith in
    let ih = fields_read s form place n (j + 1) p₂ v c l hv (omega arith) (λ m g₁ g₂. d m (omega arith) (omega arith)) hc e₃ in
    let q₃ : p₂ + length r ≡ p + length (mark_of j ++ (t ++ r)) = rw (length-append (mark_of j) (t ++ r), length-append t r) (omega arith) in
    rw (a, b, part_set v (place + j) hv (omega arith), ← q₁) (ih ∙ rw (q₂, q₃))

-- ---- the numbers of a list, whose count is not known while they are read

unfoldable uncounted : List ℕ → ℕ → ℕ → List ℕ
uncounted v place m = set (part v m) place 0

module _ (v : List ℕ) (place : ℕ) (hv : length v ≡ number_count) where
  uncounted_start : place < number_count → part v place ≡ uncounted v place (place + 1)
  unfolding uncounted
  uncounted_start h =
      let w = part v place in
      sym (set-get_or w place 0)
      ∙ ap (set w place) (part_behind v place place (omega arith) (omega arith))
      ∙ sym (set-set w place (get_or v place 0) 0)
      ∙ ap (λ (l : List ℕ). set l place 0) (part_set v place hv h)

  uncounted_next : (m : ℕ) → place < m → m < number_count → set (uncounted v place m) m (get_or v m 0) ≡ uncounted v place (m + 1)
  unfolding uncounted
  uncounted_next m l h =
      set_comm (part v m) place m 0 (get_or v m 0) (λ e. omega arith) ∙ ap (λ (w : List ℕ). set w place 0) (part_set v m hv h)

  uncounted_end : (m : ℕ) → place < m → m ≤ number_count → set (uncounted v place m) place (get_or v place 0) ≡ part v m
  unfolding uncounted
  uncounted_end m l h =
      set-set (part v m) place 0 (get_or v place 0)
      ∙ ap (set (part v m) place) (sym (part_at v m place (omega arith) l))
      ∙ set-get_or (part v m) place 0

-- a line feed ends a list
no_comma : (s : List ℕ) (k p : ℕ) (l : List ℕ) → 1 ≤ k → drop p s ≡ 10 ∷ l → after_at s p (mark_of k) ≡ None
unfolding after pick
no_comma s k p l o e = rw (comma k o, e) refl

list_stop : (s : List ℕ) (place n k p : ℕ) (v : List ℕ) → 1 ≤ k → after_at s p (mark_of k) ≡ None → list_fields s place n k p v ≡ list_end place k p v
unfolding list_fields pick
list_stop s place zero k p v o a = refl
list_stop s place (suc n) k p v o a = rw (a, ne_eqb k 0 (λ e. omega arith)) refl

list_one : (s : List ℕ) (place n k p q x t : ℕ) (v : List ℕ) → after_at s p (mark_of k) ≡ Some q → number_at s q ≡ is x t → list_fields s place (suc n) k p v ≡ list_fields s place n (k + 1) t (set v (place + 1 + k) x)
unfolding list_fields
list_one s place n k p q x t v a b = rw (a, b)

-- m numbers from number k on, where there is room for more
list_read : (s : List ℕ) (place m room k p : ℕ) (v l : List ℕ) → length v ≡ number_count → 1 ≤ k + m → place + 1 + k + m ≤ number_count
    → ((j : ℕ) → place + 1 + k ≤ j → j < place + 1 + k + m → Sayable plain (get_or v j 0)) → drop p s ≡ fields_text plain (place + 1) m k v ++ 10 ∷ l
    → list_fields s place (m + room) k p (uncounted v place (place + 1 + k)) ≡ list_end place (k + m) (p + length (fields_text plain (place + 1) m k v)) (uncounted v place (place + 1 + k + m))
unfolding fields_text digit_of pick
list_read s place zero room k p v l hv o h d e =
    let e₁ : p + 0 ≡ p = omega arith in
    let e₂ : place + 1 + k + 0 ≡ place + 1 + k = omega arith in
    let e₃ : k + 0 ≡ k = omega arith in
    let e₄ : zero + room ≡ room = omega arith in
    rw (e₁, e₂, e₃, e₄) (list_stop s place room k p (uncounted v place (place + 1 + k)) (omega arith) (no_comma s k p l (omega arith) e))
list_read s place (suc m) room k p v l hv o h d e =
    let at = place + 1 + k in
    let x = get_or v at 0 in
    let t = field_text plain x in
    let r = fields_text plain (place + 1) m (k + 1) v in
    let p₁ = p + length (mark_of k) in
    let p₂ = p₁ + length t in
    let nx = after_field plain (place + 1) m k v 10 l (omega arith) in
    let e₁ : drop p s ≡ mark_of k ++ (t ++ (r ++ 10 ∷ l)) = e ∙ append_assoc (mark_of k) (t ++ r) (10 ∷ l) ∙ ap (λ (y : List ℕ). mark_of k ++ y) (append_assoc t r (10 ∷ l)) in
    let a : after_at s p (mark_of k) ≡ Some p₁ = after_read s p (mark_of k) (t ++ (r ++ 10 ∷ l)) e₁ in
    let e₂ : drop p₁ s ≡ t ++ (r ++ 10 ∷ l) = past s p (mark_of k) (t ++ (r ++ 10 ∷ l)) e₁ in
    let b : number_at s p₁ ≡ is x p₂ = sym (plain_field s p₁) ∙ field_read s p₁ plain x nx.0 nx.1 (d at (omega arith) (omega arith)) nx.2 (e₂ ∙ ap (λ (y : List ℕ). t ++ y) nx.3) in
    let e₃ : drop p₂ s ≡ r ++ 10 ∷ l = past s p₁ t (r ++ 10 ∷ l) e₂ in
    let ih = list_read s place m room (k + 1) p₂ v l hv (omega arith) (omega arith) (λ j g₁ g₂. d j (omega arith) (omega arith)) e₃ in
    let q₀ : suc m + room ≡ suc (m + room) = omega arith in
    let q₁ : place + 1 + (k + 1) ≡ at + 1 = omega arith in
    let q₂ : place + 1 + (k + 1) + m ≡ at + suc m = omega arith in
    let q₃ : k + 1 + m ≡ k + suc m = omega arith in
    let q₄ : p₂ + length r ≡ p + length (mark_of k ++ (t ++ r)) = rw (length-append (mark_of k) (t ++ r), length-append t r) (omega arith) in
    let stored : set (uncounted v place at) at x ≡ uncounted v place (place + 1 + (k + 1)) = uncounted_next v place hv at (omega arith) (omega arith) ∙ ap (uncounted v place) (sym q₁) in
    ap (λ (n : ℕ). list_fields s place n k p (uncounted v place at)) q₀
    ∙ list_one s place (m + room) k p p₁ x p₂ (uncounted v place at) a b
    ∙ ap (list_fields s place (m + room) (k + 1) p₂) stored
    ∙ ih
    ∙ (λ i. list_end place (q₃ i) (q₄ i) (uncounted v place (q₂ i)))

-- a list whose first number is no 0 has as many as were read
count_some : (k x : ℕ) → 1 ≤ x → list_count k x ≡ k
unfolding pick
count_some k x h = split (eqb k 1) (λ t. rw (t, ne_eqb x 0 (λ e. omega arith)) (sym (eqb-true k 1 t))) (λ t. rw t)

list_end_read : (v : List ℕ) (place m p : ℕ) → length v ≡ number_count → place + 1 + m ≤ number_count → 1 ≤ m → get_or v place 0 ≡ m → 1 ≤ get_or v (place + 1) 0
    → list_end place m p (uncounted v place (place + 1 + m)) ≡ good p (part v (place + 1 + m))
unfolding uncounted
list_end_read v place m p hv h o c x =
    let w = part v (place + 1 + m) in
    let first : get_or (uncounted v place (place + 1 + m)) (place + 1) 0 ≡ get_or v (place + 1) 0 = get_or-set_other w place (place + 1) 0 0 (λ e. omega arith) ∙ part_at v (place + 1 + m) (place + 1) (omega arith) (omega arith) in
    let all : list_count m (get_or (uncounted v place (place + 1 + m)) (place + 1) 0) ≡ get_or v place 0 = ap (list_count m) first ∙ count_some m (get_or v (place + 1) 0) x ∙ sym c in
    ap (λ (n : ℕ). good p (set (uncounted v place (place + 1 + m)) place n)) all
    ∙ ap (good p) (uncounted_end v place hv (place + 1 + m) (omega arith) h)

-- 0 for none
none_read : (s : List ℕ) (place n p : ℕ) (v l : List ℕ) → drop p s ≡ bytes "=0" ++ 10 ∷ l → get_or v place 0 ≡ 0 → get_or v (place + 1) 0 ≡ 0 → list_fields s place (suc n) 0 p v ≡ good (p + 2) v
unfolding list_fields mark_of digits_in digit_of pick
none_read s place n p v l e z x =
    let a : after_at s p (bytes "=") ≡ Some (p + 1) = after_read s p (bytes "=") (48 ∷ 10 ∷ l) e in
    let b : number_at s (p + 1) ≡ is 0 (p + 1 + 1) = number_read s (p + 1) 0 10 l (omega arith) (omega arith) (past s p (bytes "=") (48 ∷ 10 ∷ l) e) in
    let two : p + 1 + 1 ≡ p + 2 = omega arith in
    let at : place + 1 + 0 ≡ place + 1 = omega arith in
    let same : set v (place + 1) 0 ≡ v = ap (set v (place + 1)) (sym x) ∙ set-get_or v (place + 1) 0 in
    let stop = list_stop s place n 1 (p + 2) v (omega arith) (no_comma s 1 (p + 2) l (omega arith) (past s p (bytes "=0") (10 ∷ l) e)) in
    let end : list_end place 1 (p + 2) v ≡ good (p + 2) v = rw x (ap (good (p + 2)) (ap (set v place) (sym z) ∙ set-get_or v place 0)) in
    rw (a, b, two, at, same) (stop ∙ end)

-- what a list keeps: as many numbers as there is room for, none of them 0
pub record Kept (v : List ℕ) (row : ℕ) : Type 0 where
  pub few : get_or v (place_of row) 0 ≤ width_of row - 1
  pub said : (j : ℕ) → place_of row + 1 ≤ j → j < place_of row + 1 + get_or v (place_of row) 0 → Sayable plain (get_or v j 0)
  pub some : 1 ≤ get_or v (place_of row) 0 → 1 ≤ get_or v (place_of row + 1) 0
  pub clear : (m : ℕ) → place_of row + 1 + get_or v (place_of row) 0 ≤ m → m < place_of row + width_of row → get_or v m 0 ≡ 0

list_line : (s : List ℕ) (row p : ℕ) (v l : List ℕ) → length v ≡ number_count → place_of row + width_of row ≤ number_count → 2 ≤ width_of row → Kept v row
    → drop p s ≡ list_text (place_of row) (width_of row - 1) v ++ 10 ∷ l
    → list_fields s (place_of row) (width_of row - 1) 0 p (part v (place_of row)) ≡ good (p + length (list_text (place_of row) (width_of row - 1) v)) (part v (place_of row + width_of row))
unfolding list_text pick
list_line s row p v l hv h wide k e =
    let place = place_of row in
    let c = get_or v place 0 in
    split (eqb c 0)
    (λ t.
    let none = eqb-true c 0 t in
    let n : width_of row - 1 ≡ suc (width_of row - 2) = omega arith in
    let zero_in : (m : ℕ) → place ≤ m → m < place + width_of row → get_or v m 0 ≡ 0 = λ m g i. split (eqb m place)
    (λ q. ap (λ (j : ℕ). get_or v j 0) (eqb-true m place q) ∙ none)
    (λ q. let ne : (m ≡ place → ⊥) = eqb-false m place q in k.clear m (omega arith) i) in
    let over : part v place ≡ part v (place + width_of row) = part_over v place (place + width_of row) hv (omega arith) h zero_in in
    let e' : drop p s ≡ bytes "=0" ++ 10 ∷ l = rw t at e in
    rw (t, n) (none_read s place (width_of row - 2) p (part v place) l e' (part_behind v place place (omega arith) (omega arith)) (part_behind v place (place + 1) (omega arith) (omega arith)) ∙ ap (good (p + 2)) over))
    (λ t.
    let ne : (c ≡ 0 → ⊥) = eqb-false c 0 t in
    let few = k.few in
    let m : min c (width_of row - 1) ≡ c = omega arith in
    let room : c + (width_of row - 1 - c) ≡ width_of row - 1 = omega arith in
    let z₁ : place + 1 + 0 ≡ place + 1 = omega arith in
    let z₂ : 0 + c ≡ c = omega arith in
    let text = fields_text plain (place + 1) c 0 v in
    let e' : drop p s ≡ text ++ 10 ∷ l = rw (t, m) at e in
    let read = rw (room, z₁, z₂) at (list_read s place c (width_of row - 1 - c) 0 p v l hv (omega arith) (omega arith) (λ j g i. k.said j (omega arith) (omega arith)) e') in
    let over : part v (place + 1 + c) ≡ part v (place + width_of row) = part_over v (place + 1 + c) (place + width_of row) hv (omega arith) h k.clear in
    rw (t, m, uncounted_start v place hv (omega arith)) (read ∙ list_end_read v place c (p + length text) hv (omega arith) (omega arith) refl (k.some (omega arith)) ∙ ap (good (p + length text)) over))

-- ---- a line

-- what a row keeps so that its line says it: each of its numbers can be said in its form, those that it has not are 0, and what a list keeps
pub record Told (v : List ℕ) (row : ℕ) : Type 0 where
  pub said : (m : ℕ) → place_of row ≤ m → m < place_of row + used v row → Sayable (form_of row) (get_or v m 0)
  pub listed : is_list (form_of row) ≡ true → Kept v row

values_read : (s : List ℕ) (row p : ℕ) (v l : List ℕ) → length v ≡ number_count → row < row_count → Told v row → drop p s ≡ values_text (form_of row) (place_of row) (width_of row) v ++ 10 ∷ l
    → values_at s (form_of row) (place_of row) (width_of row) p (part v (place_of row)) ≡ good (p + length (values_text (form_of row) (place_of row) (width_of row) v)) (part v (place_of row + width_of row))
unfolding values_at values_text digit_of pick
values_read s row p v l hv hr d e =
    split (is_list (form_of row))
    (λ t. rw t (list_line s row p v l hv (place_room row hr) (list_wide row t) (d.listed t) (rw t at e)))
    (λ t.
    let z : place_of row + 0 ≡ place_of row = omega arith in
    rw t (rw z at (fields_read s (form_of row) (place_of row) (width_of row) 0 p v 10 l hv (omega (arith, place_room row hr)) (λ m g₁ g₂. d.said m (omega arith) (omega (arith, used_all v row t))) (omega arith) (rw t at e))))

pub line_read : (s : List ℕ) (at row : ℕ) (v l : List ℕ) → length v ≡ number_count → row < row_count → Told v row → drop at s ≡ row_text row v ++ l
    → line_at s at row (part v (place_of row)) ≡ good (at + length (row_text row v)) (part v (place_of row + width_of row))
unfolding line_at row_text pick
line_read s at row v l hv hr d e =
    let k = key_of row in
    let t = values_text (form_of row) (place_of row) (width_of row) v in
    let e₁ : drop at s ≡ k ++ (t ++ 10 ∷ l) = e ∙ append_assoc k (t ++ line_feed) l ∙ ap (λ (y : List ℕ). k ++ y) (append_assoc t line_feed l) in
    let a : after_at s at k ≡ Some (at + length k) = after_read s at k (t ++ 10 ∷ l) e₁ in
    let e₂ : drop (at + length k) s ≡ t ++ 10 ∷ l = past s at k (t ++ 10 ∷ l) e₁ in
    let f = values_read s row (at + length k) v l hv hr d e₂ in
    let e₃ : drop (at + length k + length t) s ≡ 10 ∷ l = past s (at + length k) t (10 ∷ l) e₂ in
    let b : after_at s (at + length k + length t) line_feed ≡ Some (at + length k + length t + 1) = after_read s (at + length k + length t) line_feed l e₃ in
    let q : at + length k + length t + 1 ≡ at + length (k ++ (t ++ line_feed)) = rw (length-append k (t ++ line_feed), length-append t line_feed) (omega arith) in
    rw (a, f, b, q)

-- ---- a number in its range can be said in its form: one test of the table

abbrev form_at : ℕ → Range
form_at k = domain (get_or kinds k none).form

said : (k j : ℕ) → k < kind_count → j < length (kind_ranges k) → ((form_at k).least ≤ (range_at k j).least) × ((range_at k j).most ≤ (form_at k).most)
unfolding domain pick
said k j hk hj =
    let t = for_each (λ (n i : ℕ). also (leb (form_at n).least (range_at n i).least) (leb (range_at n i).most (form_at n).most)) tt k j hk hj in (
      leb→le (form_at k).least (range_at k j).least (also_left (leb (form_at k).least (range_at k j).least) (leb (range_at k j).most (form_at k).most) t),
      leb→le (range_at k j).most (form_at k).most (also_right (leb (form_at k).least (range_at k j).least) (leb (range_at k j).most (form_at k).most) t),
    )

-- the range of a number that the row has
used_range : (v : List ℕ) (row j : ℕ) → j < used v row → get_or (used_ranges v row) j (0 to 0) ≡ range_of row j
unfolding used_ranges pick
used_range v row j h =
    split (is_list (form_of row))
    (λ t. rw t (get_or-take (1 + get_or v (place_of row) 0) (ranges_of row) j (0 to 0) (omega (arith, used_list v row t))))
    (λ t. rw t)

pub ranged : (row : ℕ) (v : List ℕ) (line : ℕ) → row_fault v row line ≡ Ok tt → (j : ℕ) → j < used v row → Between (range_of row j).least (get_or v (place_of row + j) 0) (range_of row j).most
unfolding row_fault
ranged row v line f j h = rw (← (used_range v row j h)) (in_each v (place_of row) (used_ranges v row) (passes _ _ _ (both_fine _ _ f).0) j h)

sayable : (row : ℕ) (v : List ℕ) (line : ℕ) → row < row_count → row_fault v row line ≡ Ok tt → (m : ℕ) → place_of row ≤ m → m < place_of row + used v row → Sayable (form_of row) (get_or v m 0)
unfolding form_of width_of ranges_of
sayable row v line h f m g l =
    let k = kind_of row in
    let j = m - place_of row in
    let e : place_of row + (m - place_of row) ≡ m = omega arith in
    let r : Between (range_at k j).least (get_or v m 0) (range_at k j).most = rw e at (ranged row v line f j (omega arith)) in
    let t = said k j (kind_few row h) (omega (arith, used_few v row)) in
    record { low = omega (arith, t.0, r.low); high = omega (arith, t.1, r.high) }

-- in the table a list counts as many numbers as there is room for, and the first is no 0
list_most : (row : ℕ) → row < row_count → is_list (form_of row) ≡ true → (range_of row 0).most ≡ width_of row - 1
unfolding form_of width_of ranges_of kind_of
list_most row h t =
    eqb→eq (range_of row 0).most (width_of row - 1)
    (given_then (is_list (form_of row)) (eqb (range_of row 0).most (width_of row - 1))
    (at (λ (r : ℕ). given (is_list (form_of r)) (eqb (range_of r 0).most (width_of r - 1))) row_count tt row h)
    (rw t tt))

list_least : (row : ℕ) → row < row_count → is_list (form_of row) ≡ true → 1 ≤ (range_of row 1).least
unfolding form_of ranges_of kind_of
list_least row h t =
    leb→le 1 (range_of row 1).least
    (given_then (is_list (form_of row)) (leb 1 (range_of row 1).least)
    (at (λ (r : ℕ). given (is_list (form_of r)) (leb 1 (range_of r 1).least)) row_count tt row h)
    (rw t tt))

said_plain : (x : ℕ) → Sayable list x → Sayable plain x
unfolding domain pick
said_plain x b = b

list_kept : (row : ℕ) (v : List ℕ) (line : ℕ) → row < row_count → row_fault v row line ≡ Ok tt → is_list (form_of row) ≡ true → ((m : ℕ) → place_of row + used v row ≤ m → m < place_of row + width_of row → get_or v m 0 ≡ 0) → Kept v row
list_kept row v line h f t c =
    let wide = list_wide row t in
    let n = used_list v row t in
    let z : place_of row + 0 ≡ place_of row = omega arith in
    let few : get_or v (place_of row) 0 ≤ width_of row - 1 = rw (z, list_most row h t) at (ranged row v line f 0 (omega arith)).high in
    record {
      few = few;
      said = λ j g i. said_plain (get_or v j 0) (rw (list_true (form_of row) t) at (sayable row v line h f j (omega arith) (omega (arith, n))));
      some = λ o. omega (arith, list_least row h t, (ranged row v line f 1 (omega (arith, n))).low);
      clear = λ m g i. c m (omega (arith, n)) i;
    }

pub told : (row : ℕ) (v : List ℕ) (line : ℕ) → row < row_count → row_fault v row line ≡ Ok tt → ((m : ℕ) → place_of row + used v row ≤ m → m < place_of row + width_of row → get_or v m 0 ≡ 0) → Told v row
told row v line h f c = record { said = sayable row v line h f; listed = λ t. list_kept row v line h f t c }
