-- "Numbers are decimal without leading zeros", of at most 6 digits: numbers and words in a text. A place is an index of the text.
use Rattle.std.specs.Prelude.{ℕ, ◌+◌, ◌-◌, ◌*◌, List, [], ◌∷◌, Option, Some, None, drop, ltb, eqb}
use Rattle.units.specs.Numbers.{pick}
use Rattle.figures.specs.declared.Figure.{Figure}

-- a number v that was found, and the place past it
abbrev pub is : ℕ → ℕ → Option Figure
is v p = Some (record { value = v; next = p })

-- a digit's value, 10 of any other byte
unfoldable pub digit_of : ℕ → ℕ
digit_of b = pick (ltb b 48) 10 (pick (ltb 57 b) 10 (b - 48))

-- more digits after a number v that is read up to the place `at`, where l is the rest of the text. A digit after 0 makes a leading zero, and one
-- after a number above 99999 is a seventh
unfoldable pub more : ℕ → ℕ → List ℕ → Option Figure
more v at [] = is v at
more v at (b ∷ l) =
    pick (ltb 9 (digit_of b)) (is v at) (pick (ltb v 1) None (pick (ltb 99999 v) None (more (v * 10 + digit_of b) (at + 1) l)))

-- a number at the place `at`, where l is the rest of the text
unfoldable pub number : ℕ → List ℕ → Option Figure
number at [] = None
number at (b ∷ l) = pick (ltb 9 (digit_of b)) None (more (digit_of b) (at + 1) l)

abbrev pub number_at : List ℕ → ℕ → Option Figure
number_at s at = number at (drop at s)

-- the place past the word w, where l is the rest of the text
unfoldable pub after : ℕ → List ℕ → List ℕ → Option ℕ
after at [] l = Some at
after at (c ∷ w) [] = None
after at (c ∷ w) (b ∷ l) = pick (eqb b c) (after (at + 1) w l) None

abbrev pub after_at : List ℕ → ℕ → List ℕ → Option ℕ
after_at s at w = after at w (drop at s)

-- what follows where a word or a number was found, and what follows where not
abbrev pub on_place : {A : Type 0} → Option ℕ → (ℕ → A) → A → A
on_place (Some p) f d = f p
on_place None f d = d

abbrev pub on_figure : {A : Type 0} → Option Figure → (ℕ → ℕ → A) → A → A
on_figure (Some n) f d = f n.value n.next
on_figure None f d = d

-- the byte of `-`
abbrev pub minus : List ℕ
minus = 45 ∷ []

-- "only `grade` may carry `-`, and `-0` is malformed". It is kept as 1,000,000 more than it is
unfoldable pub signed_at : List ℕ → ℕ → Option Figure
signed_at s at =
    on_place (after_at s at minus)
    (λ p. on_figure (number_at s p) (λ v q. pick (ltb v 1) None (is (1000000 - v) q)) None)
    (on_figure (number_at s at) (λ v q. is (1000000 + v) q) None)
