-- How long the parts of a text can be, part by part. Assumes nothing.
use Prim.Native.Nat.{ℕ, zero, suc, ◌+◌, ◌-◌, ◌*◌, ◌/◌, ◌%◌, ◌≤◌, min}
use mathlib.Core.Path.{◌≡◌, refl}
use mathlib.Core.Bool.{true, false}
use mathlib.Core.List.{List, [], ◌∷◌, ◌++◌}
use native.Mathlib.Omega.{arith}
use lib.ListN.{length, get_or, length-append}
use lib.Dec.{ltb, eqb, leb→le}
use Rattle.units.specs.Numbers.{pick}
use Rattle.units.proofs.Steps.{split}
use Rattle.rows.specs.declared.table.Form.{Form}
use Rattle.rows.specs.Table.{is_list, is_signed, is_worded, plain, list, key_of, form_of, width_of, place_of, ranges_of, kind_of, present}
use Rattle.rows.specs.Marks.{mark_of, words, word_of, line_feed}
use Rattle.rows.specs.Longest.{longest_field, longest_fields, most_fields, longest_row, longest_from, longest}
use Rattle.text.specs.Digits.{digits_in, digits}
use Rattle.text.specs.Text.{signed_text, field_text, fields_text, list_text, values_text, row_text, here_text, text_from}
use Rattle.rows.proofs.Tables.{list_true}
use Rattle.text.proofs.Rows.{list_wide}

short_in : (f n : ℕ) → length (digits_in f n) ≤ f + 1
unfolding digits_in pick
short_in zero n = omega arith
short_in (suc f) n =
    split (ltb n 10) (λ t. rw t (omega arith))
    (λ t. rw (t, length-append (digits_in f (n / 10)) ((48 + n % 10) ∷ [])) (omega (arith, short_in f (n / 10))))

pub short_digits : (n : ℕ) → length (digits n) ≤ 6
short_digits n = short_in 5 n

pub short_word : (x : ℕ) → length (word_of x) ≤ 4
unfolding words
short_word zero = omega arith
short_word (suc zero) = omega arith
short_word (suc (suc zero)) = omega arith
short_word (suc (suc (suc zero))) = omega arith
short_word (suc (suc (suc (suc n)))) = omega arith

short_signed : (x : ℕ) → length (signed_text x) ≤ 7
unfolding signed_text pick
short_signed x =
    split (ltb x 1000000)
    (λ t. rw t (omega (arith, short_digits ((1000000 - x) % 1000000))))
    (λ t. rw t (omega (arith, short_digits ((x - 1000000) % 1000000))))

pub short_field : (form : Form) (x : ℕ) → length (field_text form x) ≤ longest_field form
unfolding field_text longest_field pick
short_field form x =
    split (is_worded form) (λ t. rw t (short_word x))
    (λ t. split (is_signed form) (λ t₁. rw (t, t₁) (short_signed x)) (λ t₁. rw (t, t₁) (short_digits (x % 1000000))))

pub seven : (form : Form) → longest_field form ≤ 7
unfolding longest_field pick
seven form =
    split (is_worded form) (λ t. rw t (omega arith)) (λ t. split (is_signed form) (λ t₁. rw (t, t₁) (omega arith)) (λ t₁. rw (t, t₁) (omega arith)))

pub mark_long : (j : ℕ) → length (mark_of j) ≡ 1
unfolding mark_of pick
mark_long j = split (ltb j 1) (λ t. rw t) (λ t. rw t)

pub short_fields : (form : Form) (place n j : ℕ) (v : List ℕ) → length (fields_text form place n j v) ≤ longest_fields form n
unfolding fields_text longest_fields
short_fields form place zero j v = omega arith
short_fields form place (suc n) j v =
    rw (length-append (mark_of j) (field_text form (get_or v (place + j) 0) ++ fields_text form place n (j + 1) v), length-append (field_text form (get_or v (place + j) 0)) (fields_text form place n (j + 1) v), mark_long j)
    (omega (arith, short_field form (get_or v (place + j) 0), short_fields form place n (j + 1) v))

pub eight_each : (form : Form) (n : ℕ) → longest_fields form n ≤ 8 * n
unfolding longest_fields
eight_each form zero = omega arith
eight_each form (suc n) = omega (arith, seven form, eight_each form n)

-- seven bytes for each number of a list
plain_seven : (n : ℕ) → longest_fields plain n ≡ 7 * n
unfolding longest_fields longest_field pick
plain_seven zero = refl
plain_seven (suc n) = omega (arith, plain_seven n)

list_seven : (n : ℕ) → longest_fields list n ≡ 7 * n
unfolding longest_fields longest_field pick
list_seven zero = refl
list_seven (suc n) = omega (arith, list_seven n)

pub short_list : (place most : ℕ) (v : List ℕ) → 1 ≤ most → length (list_text place most v) ≤ 7 * most
unfolding list_text pick
short_list place most v h =
    let count = get_or v place 0 in
    split (eqb count 0)
    (λ t. rw t (omega arith))
    (λ t. rw t (omega (arith, short_fields plain (place + 1) (min count most) 0 v, plain_seven (min count most))))

pub short_values : (form : Form) (place n : ℕ) (v : List ℕ) → 1 ≤ n → (is_list form ≡ true → 2 ≤ n) → length (values_text form place n v) ≤ 8 * n
unfolding values_text pick
short_values form place n v h l =
    split (is_list form)
    (λ t. rw t (omega (arith, l t, short_list place (n - 1) v (omega (arith, l t)))))
    (λ t. rw t (omega (arith, short_fields form place n 0 v, eight_each form n)))

-- a list does not say how many its numbers are
pub most_list : (row : ℕ) → is_list (form_of row) ≡ true → longest_fields (form_of row) (most_fields row) ≡ 7 * (width_of row - 1)
unfolding most_fields pick
most_list row t = rw (t, list_true (form_of row) t) (list_seven (width_of row - 1))

pub most_all : (row : ℕ) → is_list (form_of row) ≡ false → longest_fields (form_of row) (most_fields row) ≡ longest_fields (form_of row) (width_of row)
unfolding most_fields pick
most_all row t = rw t

short_line : (row : ℕ) (v : List ℕ) → length (values_text (form_of row) (place_of row) (width_of row) v) ≤ longest_fields (form_of row) (most_fields row)
unfolding values_text pick
short_line row v =
    split (is_list (form_of row))
    (λ t. rw (most_list row t, t) (short_list (place_of row) (width_of row - 1) v (omega (arith, list_wide row t))))
    (λ t. rw (most_all row t, t) (short_fields (form_of row) (place_of row) (width_of row) 0 v))

pub short_row : (row : ℕ) (v : List ℕ) → length (row_text row v) ≤ longest_row row
unfolding row_text
short_row row v =
    let t = values_text (form_of row) (place_of row) (width_of row) v in
    rw (length-append (key_of row) (t ++ line_feed), length-append t line_feed) (omega (arith, short_line row v))

pub short_here : (row : ℕ) (v : List ℕ) → length (here_text row v) ≤ longest_row row
unfolding here_text pick
short_here row v = split (present v row) (λ t. rw t (short_row row v)) (λ t. rw t (omega arith))

pub short_text : (v : List ℕ) (n row : ℕ) → length (text_from v n row) ≤ longest_from n row
unfolding text_from longest_from
short_text v zero row = omega arith
short_text v (suc n) row =
    rw (length-append (here_text row v) (text_from v n (row + 1))) (omega (arith, short_here row v, short_text v n (row + 1)))

-- the places of a text are small
pub longest_small : longest ≤ 8000
unfolding longest_from longest_fields longest_field most_fields pick key_of form_of width_of ranges_of kind_of
longest_small = leb→le longest 8000 tt
