-- Reading a number in a line's form is inverse to writing it, form by form. Assumes nothing.
use Prim.Native.Nat.{ℕ, zero, suc, ◌+◌, ◌-◌, ◌%◌, ◌≤◌, ◌<◌}
use mathlib.Core.Path.{◌≡◌, refl, sym, ap, ◌∙◌}
use mathlib.Core.List.{List, ◌∷◌, ◌++◌}
use native.Mathlib.Omega.{arith}
use lib.ListN.{length, drop}
use lib.Dec.{ltb}
use borrow.Author.Tests.{le-ltb, lt-ltb, ltb-true, ltb-false}
use Rattle.std.specs.Prelude.{Option, Some, None}
use Rattle.units.specs.Numbers.{pick}
use Rattle.units.proofs.Steps.{split}
use Rattle.rows.specs.declared.table.Form.{Form}
use Rattle.rows.specs.Table.{is_signed, is_worded, Range, ◌to◌}
use Rattle.rows.specs.Marks.{minus, words, word_of}
use Rattle.faults.specs.Ranges.{Between}
use Rattle.figures.specs.declared.Figure.{Figure}
use Rattle.figures.specs.Figures.{is, digit_of, number, after, number_at, after_at, signed_at}
use Rattle.text.specs.Line.{named_at, word_at, field_at}
use Rattle.figures.proofs.Small.{bad_is, same_value, same_next, number_small}
use Rattle.text.proofs.Cases.{by_place, by_figure}
use Rattle.text.specs.Digits.{digits}
use Rattle.text.specs.Text.{figures, signed_text, field_text}
use Rattle.trips.proofs.Cuts.{Cut, cut_then, cut_same, past}
use Rattle.trips.proofs.Figures.{number_back, number_read, after_back, after_read}

small_mod : (x : ℕ) → x < 1000000 → x % 1000000 ≡ x
small_mod x h = omega arith

-- ---- a number that was read is written so

named_back : (s : List ℕ) (at n : ℕ) (other : Option Figure) (x q : ℕ) → named_at s at n other ≡ is x q → (other ≡ is x q → Cut s at q (word_of x)) → Cut s at q (word_of x)
named_back s at n other x q e or =
    by_place (after_at s at (word_of n))
    (λ a. or (rw a at e))
    (λ p a.
    let e' : is n p ≡ is x q = rw a at e in
    let en : n ≡ x = same_value e' in
    let eq : p ≡ q = same_next e' in
    cut_same (ap word_of en) (after_back s at q (word_of n) (a ∙ ap Some eq)))

word_back : (s : List ℕ) (at x q : ℕ) → word_at s at ≡ is x q → Cut s at q (word_of x)
unfolding word_at
word_back s at x q e =
    named_back s at 0 _ x q e (λ e₁. named_back s at 1 _ x q e₁ (λ e₂. named_back s at 2 _ x q e₂ (λ e₃. named_back s at 3 _ x q e₃ (λ e₄. bad_is e₄))))

plain_back : (s : List ℕ) (at x q : ℕ) → number_at s at ≡ is x q → Cut s at q (figures x)
plain_back s at x q e = rw (small_mod x (number_small s at x q e)) (number_back s at x q e)

signed_back : (s : List ℕ) (at x q : ℕ) → signed_at s at ≡ is x q → Cut s at q (signed_text x)
unfolding signed_at signed_text pick
signed_back s at x q e =
    by_place (after_at s at minus)
    (λ a. by_figure (number_at s at)
    (λ b. bad_is (rw (a, b) at e))
    (λ v r b.
    let e' : is (1000000 + v) r ≡ is x q = rw (a, b) at e in
    let ev : 1000000 + v ≡ x = same_value e' in
    let er : r ≡ q = same_next e' in
    let hv = number_small s at v r b in
    let em : (x - 1000000) % 1000000 ≡ v = omega arith in
    rw (le-ltb x 1000000 (omega arith), em) (number_back s at v q (b ∙ ap (is v) er))))
    (λ p a. by_figure (number_at s p)
    (λ b. bad_is (rw (a, b) at e))
    (λ v r b. split (ltb v 1)
    (λ t. bad_is (rw (a, b, t) at e))
    (λ t.
    let e' : is (1000000 - v) r ≡ is x q = rw (a, b, t) at e in
    let ev : 1000000 - v ≡ x = same_value e' in
    let er : r ≡ q = same_next e' in
    let hv = number_small s p v r b in
    let h₁ : 1 ≤ v = ltb-false v 1 t in
    let em : (1000000 - x) % 1000000 ≡ v = omega arith in
    rw (lt-ltb x 1000000 (omega arith), em) (cut_then (after_back s at p minus a) (number_back s p v q (b ∙ ap (is v) er))))))

pub field_back : (s : List ℕ) (at : ℕ) (form : Form) (x q : ℕ) → field_at s at form ≡ is x q → Cut s at q (field_text form x)
unfolding field_at field_text pick
field_back s at form x q e =
    split (is_worded form) (λ t. rw t (word_back s at x q (rw t at e)))
    (λ t. split (is_signed form) (λ t₁. rw (t, t₁) (signed_back s at x q (rw (t, t₁) at e))) (λ t₁. rw (t, t₁) (plain_back s at x q (rw (t, t₁) at e))))

-- ---- a number that was written is read so, where its form can say it

unfoldable pub domain : Form → Range
domain form = pick (is_worded form) (0 to 3) (pick (is_signed form) (1 to 1999999) (0 to 999999))

abbrev pub Sayable : Form → ℕ → Type 0
Sayable form x = Between (domain form).least x (domain form).most

word_read : (s : List ℕ) (at x : ℕ) (l : List ℕ) → x ≤ 3 → drop at s ≡ word_of x ++ l → word_at s at ≡ is x (at + length (word_of x))
unfolding word_at words after pick
word_read s at zero l h e = rw e (ap (is 0) (omega arith))
word_read s at (suc zero) l h e = rw e (ap (is 1) (omega arith))
word_read s at (suc (suc zero)) l h e = rw e (ap (is 2) (omega arith))
word_read s at (suc (suc (suc zero))) l h e = rw e (ap (is 3) (omega arith))
word_read s at (suc (suc (suc (suc n)))) l h e = absurd (omega arith)

minus_bad : (s : List ℕ) (at : ℕ) (l : List ℕ) → drop at s ≡ minus ++ l → number_at s at ≡ None
unfolding number digit_of pick
minus_bad s at l e = rw e

no_minus : (s : List ℕ) (at n q : ℕ) → number_at s at ≡ is n q → after_at s at minus ≡ None
no_minus s at n q e =
    by_place (after_at s at minus) (λ a. a) (λ p a. bad_is (sym (minus_bad s at (drop p s) (after_back s at p minus a).here) ∙ e))

minus_long : length minus ≡ 1
minus_long = refl

signed_read : (s : List ℕ) (at x c : ℕ) (l : List ℕ) → 1 ≤ x → x ≤ 1999999 → 9 < digit_of c → drop at s ≡ signed_text x ++ c ∷ l
    → signed_at s at ≡ is x (at + length (signed_text x))
unfolding signed_at signed_text pick
signed_read s at x c l h₁ h₂ h e =
    split (ltb x 1000000)
    (λ t.
    let hx : x < 1000000 = ltb-true x 1000000 t in
    let n = (1000000 - x) % 1000000 in
    let hn : 1 ≤ n = omega arith in
    let en : 1000000 - n ≡ x = omega arith in
    let e' : drop at s ≡ minus ++ (digits n ++ c ∷ l) = rw t at e in
    let a = after_read s at minus (digits n ++ c ∷ l) e' in
    let r = number_read s (at + 1) n c l (omega arith) h (past s at minus (digits n ++ c ∷ l) e') in
    rw (t, a, r, le-ltb n 1 hn, en) (ap (is x) (omega arith)))
    (λ t.
    let hx : 1000000 ≤ x = ltb-false x 1000000 t in
    let n = (x - 1000000) % 1000000 in
    let en : 1000000 + n ≡ x = omega arith in
    let e' : drop at s ≡ digits n ++ c ∷ l = rw t at e in
    let r = number_read s at n c l (omega arith) h e' in
    rw (t, no_minus s at n (at + length (digits n)) r, r, en))

pub field_read : (s : List ℕ) (at : ℕ) (form : Form) (x c : ℕ) (l : List ℕ) → Sayable form x → 9 < digit_of c → drop at s ≡ field_text form x ++ c ∷ l
    → field_at s at form ≡ is x (at + length (field_text form x))
unfolding domain field_at field_text pick
field_read s at form x c l d h e =
    split (is_worded form)
    (λ t. let d' : Between 0 x 3 = rw t at d in rw t (word_read s at x (c ∷ l) d'.high (rw t at e)))
    (λ t. split (is_signed form)
    (λ t₁. let d' : Between 1 x 1999999 = rw (t, t₁) at d in rw (t, t₁) (signed_read s at x c l d'.low d'.high h (rw (t, t₁) at e)))
    (λ t₁.
    let d' : Between 0 x 999999 = rw (t, t₁) at d in
    let hx : x < 1000000 = omega (arith, d'.high) in
    rw (t, t₁, small_mod x hx) (number_read s at x c l hx h (rw (t, t₁, small_mod x hx) at e))))
