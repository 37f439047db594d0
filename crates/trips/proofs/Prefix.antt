-- A text cut past the longest there can be is read as the whole text: no line is read past the end of its row's longest text. Assumes nothing.
use Prim.Native.Nat.{ℕ, zero, suc, ◌+◌, ◌-◌, ◌*◌, ◌≤◌, ◌<◌}
use mathlib.Core.Path.{◌≡◌, refl, sym, ap, ◌∙◌}
use mathlib.Core.List.{List, [], ◌∷◌}
use mathlib.Core.Bool.{Bool, true, false}
use native.Mathlib.Omega.{arith}
use lib.ListN.{length, drop, take, set, replicate}
use lib.Seq.{take-nil, drop-nil, length-take-le}
use lib.Dec.{ltb, eqb}
use borrow.Author.Tests.{ltb-false, ne_eqb}
use Rattle.units.specs.Numbers.{pick}
use Rattle.units.proofs.Steps.{split, never}
use Rattle.sheet.specs.Refusals.{is_fine, or_else}
use Rattle.rows.specs.declared.table.Form.{Form}
use Rattle.rows.specs.Table.{is_signed, is_worded, is_list, row_count, number_count, key_of, form_of, place_of, width_of}
use Rattle.rows.specs.Marks.{mark_of, minus, line_feed, word_of}
use Rattle.numbers.specs.Flat.{sheet_of}
use Rattle.faults.specs.Whole.{whole_fault}
use Rattle.text.specs.Line.{Taken}
use Rattle.text.specs.Read.{Step}
use Rattle.figures.specs.Figures.{digit_of, more, number, after, number_at, after_at, signed_at}
use Rattle.text.specs.Line.{word_at, field_at, fields, list_fields, values_at, ended, line_at}
use Rattle.text.specs.Read.{judged_at, end_at, on_step, begins, passed, here_at, lines_from, reply, read_by, may_lack}
use Rattle.rows.specs.Longest.{longest_field, longest_fields, most_fields, longest_row, longest_from, longest}
use Rattle.faults.specs.Lines.{row_fault}
use Rattle.text.proofs.Cases.{past_fine, by_place, by_figure}
use Rattle.text.proofs.Lengths.{short_digits, short_word, short_field, mark_long, most_list, most_all}
use Rattle.trips.specs.Promises.{CutIsSame}
use Rattle.trips.specs.Older.{OlderCutIsSame}
use Rattle.trips.proofs.Figures.{after_back, number_back}
use Rattle.trips.proofs.Fields.{field_back}

drop_take : (n k : ℕ) (l : List ℕ) → drop n (take (n + k) l) ≡ take k (drop n l)
drop_take zero k l = let e : 0 + k ≡ k = omega arith in rw e
drop_take (suc n) k [] = rw (take-nil (suc n + k)) (drop-nil (suc n) ∙ sym (take-nil k))
drop_take (suc n) k (x ∷ l) = let e : suc n + k ≡ suc (n + k) = omega arith in rw e (drop_take n k l)

-- ---- words and numbers look no further than their longest

after_cut : (w l : List ℕ) (k at : ℕ) → length w ≤ k → after at w (take k l) ≡ after at w l
unfolding after pick
after_cut [] l k at h = refl
after_cut (c ∷ w) [] k at h = rw (take-nil k)
after_cut (c ∷ w) (b ∷ l) zero at h = absurd (omega arith)
after_cut (c ∷ w) (b ∷ l) (suc k) at h = split (eqb b c) (λ t. rw t (after_cut w l k (at + 1) (omega arith))) (λ t. rw t)

-- v with j digits more
abbrev grown : ℕ → ℕ → ℕ
grown zero v = v
grown (suc j) v = grown j (v * 10)

grown_le : (j v w : ℕ) → v ≤ w → grown j v ≤ grown j w
grown_le zero v w h = h
grown_le (suc j) v w h = grown_le j (v * 10) (w * 10) (omega arith)

more_cut : (l : List ℕ) (j k v at : ℕ) → j < k → (1 ≤ v → 99999 < grown j v) → more v at (take k l) ≡ more v at l
unfolding more pick
more_cut [] j k v at h g = rw (take-nil k)
more_cut (b ∷ l) j zero v at h g = absurd (omega arith)
more_cut (b ∷ l) zero (suc k) v at h g =
    split (ltb 9 (digit_of b)) (λ t. rw t)
    (λ t. split (ltb v 1) (λ t₁. rw (t, t₁)) (λ t₁. split (ltb 99999 v) (λ t₂. rw (t, t₁, t₂)) (λ t₂. absurd (omega (arith, g (ltb-false v 1 t₁), ltb-false 99999 v t₂)))))
more_cut (b ∷ l) (suc j) (suc k) v at h g =
    split (ltb 9 (digit_of b)) (λ t. rw t)
    (λ t. split (ltb v 1) (λ t₁. rw (t, t₁))
    (λ t₁. split (ltb 99999 v) (λ t₂. rw (t, t₁, t₂))
    (λ t₂.
    let m = g (ltb-false v 1 t₁) in
    rw (t, t₁, t₂) (more_cut l j k (v * 10 + digit_of b) (at + 1) (omega arith) (λ _. omega (arith, m, grown_le j (v * 10) (v * 10 + digit_of b) (omega arith)))))))

number_cut : (l : List ℕ) (k at : ℕ) → 7 ≤ k → number at (take k l) ≡ number at l
unfolding number pick
number_cut [] k at h = rw (take-nil k)
number_cut (b ∷ l) zero at h = absurd (omega arith)
number_cut (b ∷ l) (suc k) at h = split (ltb 9 (digit_of b)) (λ t. rw t) (λ t. rw t (more_cut l 5 k (digit_of b) (at + 1) (omega arith) (λ g. omega arith)))

module _ (s : List ℕ) (n : ℕ) where
  abbrev c : List ℕ
  c = take n s

  rest_cut : (at : ℕ) → at ≤ n → drop at c ≡ take (n - at) (drop at s)
  rest_cut at h = let e : at + (n - at) ≡ n = omega arith in rw e at (drop_take at (n - at) s)

  word_at_lem : (at : ℕ) (w : List ℕ) → at + length w ≤ n → after_at c at w ≡ after_at s at w
  word_at_lem at w h = rw (rest_cut at (omega arith)) (after_cut w (drop at s) (n - at) at (omega arith))

  number_at_lem : (at : ℕ) → at + 7 ≤ n → number_at c at ≡ number_at s at
  number_at_lem at h = rw (rest_cut at (omega arith)) (number_cut (drop at s) (n - at) at (omega arith))

  words_at : (at : ℕ) → at + 5 ≤ n → word_at c at ≡ word_at s at
  unfolding word_at
  words_at at h =
      rw (word_at_lem at (word_of 0) (omega (arith, short_word 0)), word_at_lem at (word_of 1) (omega (arith, short_word 1)), word_at_lem at (word_of 2) (omega (arith, short_word 2)), word_at_lem at (word_of 3) (omega (arith, short_word 3)))

  signed_at_lem : (at : ℕ) → at + 8 ≤ n → signed_at c at ≡ signed_at s at
  unfolding signed_at
  signed_at_lem at h =
      by_place (after_at s at minus)
      (λ a. rw (word_at_lem at minus (omega arith), a, number_at_lem at (omega arith)))
      (λ p a. let e = (after_back s at p minus a).place in rw (word_at_lem at minus (omega arith), a, number_at_lem p (omega arith)))

  field_at_lem : (at : ℕ) (form : Form) → at + longest_field form + 1 ≤ n → field_at c at form ≡ field_at s at form
  unfolding field_at longest_field pick
  field_at_lem at form h =
      split (is_worded form) (λ t. rw t (words_at at (omega (arith, rw t at h))))
      (λ t. split (is_signed form) (λ t₁. rw (t, t₁) (signed_at_lem at (omega (arith, rw (t, t₁) at h)))) (λ t₁. rw (t, t₁) (number_at_lem at (omega (arith, rw (t, t₁) at h)))))

  fields_at : (form : Form) (place k j p : ℕ) (v : List ℕ) → p + longest_fields form k + 1 ≤ n → fields c form place k j p v ≡ fields s form place k j p v
  unfolding fields longest_fields
  fields_at form place zero j p v h = refl
  fields_at form place (suc k) j p v h =
      by_place (after_at s p (mark_of j))
      (λ a. rw (word_at_lem p (mark_of j) (omega (arith, mark_long j)), a))
      (λ q a.
      let e = (after_back s p q (mark_of j) a).place in
      by_figure (field_at s q form)
      (λ b. rw (word_at_lem p (mark_of j) (omega (arith, mark_long j)), a, field_at_lem q form (omega (arith, mark_long j)), b))
      (λ x t b.
      let f = (field_back s q form x t b).place in
      rw (word_at_lem p (mark_of j) (omega (arith, mark_long j)), a, field_at_lem q form (omega (arith, mark_long j)), b)
      (fields_at form place k (j + 1) t (set v (place + j) x) (omega (arith, mark_long j, short_field form x)))))

  list_at : (place k j p : ℕ) (v : List ℕ) → p + 7 * k + 1 ≤ n → list_fields c place k j p v ≡ list_fields s place k j p v
  unfolding list_fields
  list_at place zero j p v h = refl
  list_at place (suc k) j p v h =
      by_place (after_at s p (mark_of j))
      (λ a. rw (word_at_lem p (mark_of j) (omega (arith, mark_long j)), a))
      (λ q a.
      let e = (after_back s p q (mark_of j) a).place in
      by_figure (number_at s q)
      (λ b. rw (word_at_lem p (mark_of j) (omega (arith, mark_long j)), a, number_at_lem q (omega (arith, mark_long j)), b))
      (λ x t b.
      let f = (number_back s q x t b).place in
      rw (word_at_lem p (mark_of j) (omega (arith, mark_long j)), a, number_at_lem q (omega (arith, mark_long j)), b)
      (list_at place k (j + 1) t (set v (place + 1 + j) x) (omega (arith, mark_long j, short_digits x)))))

  values_at_lem : (row p : ℕ) (v : List ℕ) → p + longest_fields (form_of row) (most_fields row) + 1 ≤ n
      → values_at c (form_of row) (place_of row) (width_of row) p v ≡ values_at s (form_of row) (place_of row) (width_of row) p v
  unfolding values_at pick
  values_at_lem row p v h =
      split (is_list (form_of row))
      (λ t. rw t (list_at (place_of row) (width_of row - 1) 0 p v (omega (arith, most_list row t))))
      (λ t. rw t (fields_at (form_of row) (place_of row) (width_of row) 0 p v (omega (arith, most_all row t))))

-- ---- where a line that was read ends

fields_near : (s : List ℕ) (form : Form) (place k j p : ℕ) (v : List ℕ) → (fields s form place k j p v).good ≡ true → (fields s form place k j p v).next ≤ p + longest_fields form k
unfolding fields longest_fields
fields_near s form place zero j p v g = omega arith
fields_near s form place (suc k) j p v g =
    by_place (after_at s p (mark_of j))
    (λ a. never (rw a at g))
    (λ q a. by_figure (field_at s q form)
    (λ b. never (rw (a, b) at g))
    (λ x t b.
    let e = (after_back s p q (mark_of j) a).place in
    let f = (field_back s q form x t b).place in
    let r = fields_near s form place k (j + 1) t (set v (place + j) x) (rw (a, b) at g) in
    rw (a, b) (omega (arith, mark_long j, short_field form x))))

list_near : (s : List ℕ) (place k j p : ℕ) (v : List ℕ) → (list_fields s place k j p v).good ≡ true → (list_fields s place k j p v).next ≤ p + 7 * k
unfolding list_fields pick
list_near s place zero j p v g = omega arith
list_near s place (suc k) j p v g =
    by_place (after_at s p (mark_of j))
    (λ a. split (eqb j 0) (λ b. never (rw (a, b) at g)) (λ b. rw (a, b) (omega arith)))
    (λ q a. by_figure (number_at s q)
    (λ b. never (rw (a, b) at g))
    (λ x t b.
    let e = (after_back s p q (mark_of j) a).place in
    let f = (number_back s q x t b).place in
    let r = list_near s place k (j + 1) t (set v (place + 1 + j) x) (rw (a, b) at g) in
    rw (a, b) (omega (arith, mark_long j, short_digits x))))

values_near : (s : List ℕ) (row p : ℕ) (v : List ℕ) → (values_at s (form_of row) (place_of row) (width_of row) p v).good ≡ true
    → (values_at s (form_of row) (place_of row) (width_of row) p v).next ≤ p + longest_fields (form_of row) (most_fields row)
unfolding values_at pick
values_near s row p v g =
    split (is_list (form_of row))
    (λ t. rw (most_list row t, t) (list_near s (place_of row) (width_of row - 1) 0 p v (rw t at g)))
    (λ t. rw (most_all row t, t) (fields_near s (form_of row) (place_of row) (width_of row) 0 p v (rw t at g)))

ended_near : (s : List ℕ) (t : Taken) (e : ℕ) → (t.good ≡ true → t.next ≤ e) → (ended s t).good ≡ true → (ended s t).next ≤ e + 1
unfolding pick
ended_near s t e h g =
    split t.good
    (λ a. by_place (after_at s t.next line_feed)
    (λ b. never (rw (a, b) at g))
    (λ q b. let p = (after_back s t.next q line_feed b).place in rw (a, b) (omega (arith, h a))))
    (λ a. never (let g' : false ≡ true = rw a at g in g'))

line_near : (s : List ℕ) (at row : ℕ) (v : List ℕ) → (line_at s at row v).good ≡ true → (line_at s at row v).next ≤ at + longest_row row
unfolding line_at
line_near s at row v g =
    by_place (after_at s at (key_of row))
    (λ a. never (rw a at g))
    (λ p a.
    let e = (after_back s at p (key_of row) a).place in
    let t = values_at s (form_of row) (place_of row) (width_of row) p v in
    let r = ended_near s t (p + longest_fields (form_of row) (most_fields row)) (values_near s row p v) (rw a at g) in
    rw a (omega arith))

here_near : (may : ℕ → Bool) (s : List ℕ) (at row line : ℕ) (v : List ℕ) → is_fine (here_at may s at row line v).answer ≡ true → (here_at may s at row line v).next ≤ at + longest_row row
unfolding here_at judged_at pick
here_near may s at row line v f =
    split (passed may s at row v)
    (λ a. rw a (omega arith))
    (λ a. split (line_at s at row v).good (λ g.
    let t = line_at s at row v in
    let fine = past_fine (row_fault t.numbers row line) t.next t.numbers (rw (a, g) at f) in
    rw (a, g, fine) (line_near s at row v g)) (λ g. never (rw (a, g) at f)))

-- ---- all lines

onward : (t : Step) (f g : ℕ → List ℕ → Step) → (is_fine t.answer ≡ true → f t.next t.numbers ≡ g t.next t.numbers) → on_step t f ≡ on_step t g
unfolding pick
onward t f g e = split (is_fine t.answer) (λ a. rw a (e a)) (λ a. rw a)

module _ (s : List ℕ) (n : ℕ) where
  ended_at : (t : Taken) → (t.good ≡ true → t.next + 1 ≤ n) → ended (take n s) t ≡ ended s t
  unfolding pick
  ended_at t h = split t.good (λ a. rw (a, word_at_lem s n t.next line_feed (h a))) (λ a. rw a)

  line_at_lem : (at row : ℕ) (v : List ℕ) → at + longest_row row ≤ n → line_at (take n s) at row v ≡ line_at s at row v
  unfolding line_at
  line_at_lem at row v h =
      by_place (after_at s at (key_of row))
      (λ a. rw (word_at_lem s n at (key_of row) (omega arith), a))
      (λ p a.
      let e = (after_back s at p (key_of row) a).place in
      let near = values_near s row p v in
      rw (word_at_lem s n at (key_of row) (omega arith), a, values_at_lem s n row p v (omega arith))
      (ended_at (values_at s (form_of row) (place_of row) (width_of row) p v) (λ g. omega (arith, near g))))

  begins_at : (at row : ℕ) → at + longest_row row ≤ n → begins (take n s) at row ≡ begins s at row
  unfolding begins
  begins_at at row h =
      by_place (after_at s at (key_of row))
      (λ a. rw (word_at_lem s n at (key_of row) (omega arith), a))
      (λ p a.
      let e = (after_back s at p (key_of row) a).place in
      rw (word_at_lem s n at (key_of row) (omega arith), a, word_at_lem s n p (mark_of 0) (omega (arith, mark_long 0))))

  here_at_lem : (may : ℕ → Bool) (at row line : ℕ) (v : List ℕ) → at + longest_row row ≤ n → here_at may (take n s) at row line v ≡ here_at may s at row line v
  unfolding here_at judged_at passed
  here_at_lem may at row line v h = rw (line_at_lem at row v h, begins_at at row h)

  passed_at : (may : ℕ → Bool) (at row : ℕ) (v : List ℕ) → at + longest_row row ≤ n → passed may (take n s) at row v ≡ passed may s at row v
  unfolding passed
  passed_at may at row v h = rw (begins_at at row h)

  end_at_lem : (line at : ℕ) (v : List ℕ) → at < n → n ≤ length s → end_at (take n s) line at v ≡ end_at s line at v
  unfolding end_at pick
  end_at_lem line at v h l =
      rw (length-take-le n s l, ne_eqb at n (λ e. omega arith), ne_eqb at (length s) (λ e. omega arith))

  lines_at : (may : ℕ → Bool) (k row line at : ℕ) (v : List ℕ) → at + longest_from k row < n → n ≤ length s → lines_from may (take n s) k row line at v ≡ lines_from may s k row line at v
  unfolding lines_from longest_from
  lines_at may zero row line at v h l = end_at_lem line at v (omega arith) l
  lines_at may (suc k) row line at v h l =
      let near = here_near may s at row line v in
      let t = here_at may s at row line v in
      let later = pick (passed may s at row v) line (line + 1) in
      rw (here_at_lem may at row line v (omega arith), passed_at may at row v (omega arith))
      (onward t (λ p w. lines_from may (take n s) k (row + 1) later p w) (λ p w. lines_from may s k (row + 1) later p w)
      (λ f. lines_at may k (row + 1) later t.next t.numbers (omega (arith, near f)) l))

read_cut : (may : ℕ → Bool) (t : List ℕ) → longest < length t → read_by may (take (longest + 1) t) ≡ read_by may t
unfolding read_by
read_cut may t h =
    let e = lines_at t (longest + 1) may row_count 0 1 0 (replicate number_count 0) (omega arith) (omega arith) in
    ap (λ (x : Step). reply (or_else x.answer (whole_fault (sheet_of x.numbers))) (sheet_of x.numbers)) e

pub cut_is_same : CutIsSame
cut_is_same t h = read_cut (may_lack false) t h

pub older_cut_is_same : OlderCutIsSame
older_cut_is_same t h = read_cut (may_lack true) t h
