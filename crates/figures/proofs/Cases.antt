-- One law for each case of the definitions of numbers and words, at a place of the text. Assumes nothing.
use Prim.Native.Nat.{ℕ, ◌+◌, ◌*◌, ◌≤◌, ◌<◌}
use mathlib.Core.Path.{◌≡◌}
use mathlib.Core.List.{List}
use lib.ListN.{length, get_or, drop, drop_of_length-le}
use borrow.Author.Tests.{le-ltb, lt-ltb, eq-eqb, ne_eqb}
use Rattle.units.specs.Numbers.{pick}
use Rattle.units.proofs.Walk.{rest_at}
use Rattle.std.specs.Prelude.{Some, None}
use Rattle.figures.specs.Figures.{is, digit_of, more, number, after}

module _ (s : List ℕ) (i : ℕ) where
  module _ (v : ℕ) where
    pub more_out : length s ≤ i → more v i (drop i s) ≡ is v i
    unfolding more
    more_out h = rw (drop_of_length-le s h)

    pub more_stop : i < length s → 9 < digit_of (get_or s i 0) → more v i (drop i s) ≡ is v i
    unfolding more pick
    more_stop h d = rw (rest_at 0 s i h) (rw (lt-ltb _ _ d))

    pub more_zero : i < length s → digit_of (get_or s i 0) ≤ 9 → v < 1 → more v i (drop i s) ≡ None
    unfolding more pick
    more_zero h d z = rw (rest_at 0 s i h) (rw (le-ltb _ _ d, lt-ltb _ _ z))

    pub more_long : i < length s → digit_of (get_or s i 0) ≤ 9 → 1 ≤ v → 99999 < v → more v i (drop i s) ≡ None
    unfolding more pick
    more_long h d z w = rw (rest_at 0 s i h) (rw (le-ltb _ _ d, le-ltb _ _ z, lt-ltb _ _ w))

    pub more_step : i < length s → digit_of (get_or s i 0) ≤ 9 → 1 ≤ v → v ≤ 99999
        → more v i (drop i s) ≡ more (v * 10 + digit_of (get_or s i 0)) (i + 1) (drop (i + 1) s)
    unfolding more pick
    more_step h d z w = rw (rest_at 0 s i h) (rw (le-ltb _ _ d, le-ltb _ _ z, le-ltb _ _ w))

  pub number_out : length s ≤ i → number i (drop i s) ≡ None
  unfolding number
  number_out h = rw (drop_of_length-le s h)

  pub number_bad : i < length s → 9 < digit_of (get_or s i 0) → number i (drop i s) ≡ None
  unfolding number pick
  number_bad h d = rw (rest_at 0 s i h) (rw (lt-ltb _ _ d))

  pub number_step : i < length s → digit_of (get_or s i 0) ≤ 9 → number i (drop i s) ≡ more (digit_of (get_or s i 0)) (i + 1) (drop (i + 1) s)
  unfolding number pick
  number_step h d = rw (rest_at 0 s i h) (rw (le-ltb _ _ d))

-- a word against the text, from index i of the word and place p of the text
module _ (s w : List ℕ) (i p : ℕ) where
  pub after_end : length w ≤ i → after p (drop i w) (drop p s) ≡ Some p
  unfolding after
  after_end h = rw (drop_of_length-le w h)

  pub after_out : i < length w → length s ≤ p → after p (drop i w) (drop p s) ≡ None
  unfolding after
  after_out h e = rw (rest_at 0 w i h, drop_of_length-le s e)

  pub after_ne : i < length w → p < length s → (get_or s p 0 ≡ get_or w i 0 → ⊥) → after p (drop i w) (drop p s) ≡ None
  unfolding after pick
  after_ne h e d = rw (rest_at 0 w i h, rest_at 0 s p e) (rw (ne_eqb _ _ d))

  pub after_step : i < length w → p < length s → get_or s p 0 ≡ get_or w i 0 → after p (drop i w) (drop p s) ≡ after (p + 1) (drop (i + 1) w) (drop (p + 1) s)
  unfolding after pick
  after_step h e d = rw (rest_at 0 w i h, rest_at 0 s p e) (rw (eq-eqb _ _ d))
