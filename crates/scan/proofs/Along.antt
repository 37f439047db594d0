-- The search by the library's, and that what it finds lies between where it starts and the end. Assumes nothing.
use Prim.Native.Nat.{ℕ, ◌+◌, ◌-◌, ◌≤◌, min}
use mathlib.Core.Bool.{Bool, not}
use mathlib.Core.Path.{◌≡◌, refl, sym, ◌∙◌}
use mathlib.Core.List.{List, [], ◌∷◌}
use native.Mathlib.Omega.{arith}
use lib.Dec.{eqb, ltb}
use lib.ListN.{length, drop, take, drop_of_length-le, length-drop}
use borrow.Author.Tests.{ltb-true, ltb-false}
use Rattle.std.proofs.Math.Seq.{drop-length}
use Rattle.std.proofs.lemmas.List.{take_rest}
use Rattle.std.proofs.lemmas.List.Sums.{prefix_len-le-length}
use Rattle.std.proofs.lemmas.Option.{cond_some, none-some}
use Rattle.std.specs.List.{position, position_or_len}
use Rattle.std.specs.Prelude.{◌==◌, Some, None}
use Rattle.units.specs.Numbers.{pick}
use Rattle.units.proofs.Steps.{cases, split}
use Rattle.scan.specs.Find.{find_from, find_at}

-- the search is a search for the first byte that is equal
pub by_position : (byte at : ℕ) (rest : List ℕ) → find_from byte at rest ≡ at + position_or_len (λ b. b == byte) rest
unfolding find_from pick
by_position byte at [] = omega arith
by_position byte at (b ∷ rest) =
    split (eqb b byte)
    (λ t. rw t (omega arith))
    (λ t. rw (t, by_position byte (at + 1) rest) (omega arith))

found : (p : ℕ → Bool) (xs : List ℕ) (i : ℕ) → position p xs ≡ Some i → position_or_len p xs ≡ i
found p xs i e = (cond_some _ _ _ e).1

none : (p : ℕ → Bool) (xs : List ℕ) → position p xs ≡ None → position_or_len p xs ≡ length xs
none p xs e =
    split (ltb (position_or_len p xs) (length xs))
    (λ t. let h : None ≡ Some (position_or_len p xs) = rw t at (sym e) in absurd (none-some (position_or_len p xs) h))
    (λ t. omega (arith, ltb-false _ _ t, prefix_len-le-length (λ x. not (p x)) xs))

-- a place past the text's end has the rest that the end has
ends : (s : List ℕ) (at : ℕ) → drop (min at (length s)) s ≡ drop at s
ends s at =
    split (ltb at (length s))
    (λ t. let e : min at (length s) ≡ at = omega (arith, ltb-true at (length s) t) in rw e refl)
    (λ t. let e : min at (length s) ≡ length s = omega (arith, ltb-false at (length s) t) in rw (e, drop-length s, drop_of_length-le s (ltb-false at (length s) t)) refl)

module _ (s : List ℕ) (from byte m : ℕ) (e : m ≡ min from (length s)) where
  rest : take (length s - m) (drop m s) ≡ drop from s
  rest = rw (take_rest s m, e) (ends s from)

  pub here : (i : ℕ) → Some i ≡ position (λ b. b == byte) (take (length s - m) (drop m s)) → m + i ≡ find_at s from byte
  here i h =
      let p = found (λ b. b == byte) (drop from s) i (sym (h ∙ rw rest refl)) in
      rw (by_position byte (min from (length s)) (drop from s), p, e)

  pub nowhere : None ≡ position (λ b. b == byte) (take (length s - m) (drop m s)) → length s ≡ find_at s from byte
  nowhere h =
      let p = none (λ b. b == byte) (drop from s) (sym (h ∙ rw rest refl)) in
      rw (by_position byte (min from (length s)) (drop from s), p) (omega (arith, length-drop from s))

pub within : (byte at : ℕ) (rest : List ℕ) → (at ≤ find_from byte at rest) × (find_from byte at rest ≤ at + length rest)
unfolding find_from
within byte at [] = (omega arith, omega arith)
within byte at (b ∷ rest) =
    let w = within byte (at + 1) rest in
    cases (λ (n : ℕ). (at ≤ n) × (n ≤ at + length (b ∷ rest))) (eqb b byte) at (find_from byte (at + 1) rest)
    (λ e. (omega arith, omega arith))
    (λ e. (omega arith, omega arith))

-- what is found lies in the text, and not before the place where the search starts
pub found_within : (s : List ℕ) (from byte : ℕ) → from ≤ length s → (from ≤ find_at s from byte) × (find_at s from byte ≤ length s)
found_within s from byte h =
    let e : min from (length s) ≡ from = omega arith in
    let w = within byte from (drop from s) in
    rw e (w.0, omega (arith, w.1, length-drop from s))
