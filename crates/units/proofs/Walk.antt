-- A walk along the first n entries of an array: what is left at a place, and at the end. Assumes nothing.
use mathlib.Core.Path.{◌≡◌, refl, sym, ◌∙◌}
use mathlib.Core.List.{List, [], ◌∷◌}
use Prim.Native.Nat.{ℕ, ◌+◌, ◌<◌, ◌≤◌, min}
use native.Mathlib.Numerals.{add-one}
use lib.ListN.{length, get_or, take, drop, drop_of_length-le}
use lib.Seq.{drop-cons, get_or-take, length-take-le, take_all}
use lib.Dec.{leb}
use borrow.Author.Tests.{leb-true, leb-false}
use native.Mathlib.Omega.{arith}
use mathlib.Core.Bool.{Bool, true, false}

-- what is left of a list from a place on
pub rest_at : {A : Type 0} (d : A) (xs : List A) (i : ℕ) → i < length xs → drop i xs ≡ get_or xs i d ∷ drop (i + 1) xs
rest_at d xs i h = rw (add-one i) (drop-cons xs i d h)

module _ {A : Type 0} (xs : List A) (n : ℕ) (fits : n ≤ length xs) where
  pub left_at : (d : A) (i : ℕ) → i < n → drop i (take n xs) ≡ get_or xs i d ∷ drop (i + 1) (take n xs)
  left_at d i h = rw (add-one, ← get_or-take n xs i d h) (drop-cons (take n xs) i d (rw (length-take-le n xs fits) h))

  pub none_left : (i : ℕ) → n ≤ i → drop i (take n xs) ≡ []
  none_left i h = drop_of_length-le (take n xs) {i = i} (rw (length-take-le n xs fits) h)

-- a count past the array's end counts the whole array
counted_by : {A : Type 0} (xs : List A) (n k : ℕ) → length xs ≡ k → (b : Bool) → leb n k ≡ b → take (min n k) xs ≡ take n xs
counted_by xs n k e true t = let m : min n k ≡ n = omega (arith, leb-true n k t) in rw m refl
counted_by xs n k e false t =
    take_all (min n k) xs (omega (arith, leb-false n k t)) ∙ sym (take_all n xs (omega (arith, leb-false n k t)))

pub counted : {A : Type 0} (xs : List A) (n k : ℕ) → length xs ≡ k → take (min n k) xs ≡ take n xs
counted xs n k e = counted_by xs n k e (leb n k) refl
