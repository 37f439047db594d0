-- The first entries of an array with zeros for the rest: how many, which, and what is left of it. Assumes nothing.
use Prim.Native.Nat.{ℕ, ◌+◌, ◌-◌, ◌≤◌, ◌<◌, min}
use mathlib.Core.Path.{◌≡◌, sym, ap, ◌∙◌}
use mathlib.Core.List.{List, ◌++◌}
use native.Mathlib.Omega.{arith}
use lib.ListN.{length, get_or, take, replicate, length-append, length-take, length-replicate, get_or-replicate, get_or-eq_default, get_or-append}
use lib.Seq.{get_or-take, length-take-le, ext_get_or, get_or-append-add}
use lib.Dec.{ltb}
use borrow.Author.Tests.{ltb-true, ltb-false}
use Rattle.units.proofs.Steps.{split}
use Rattle.trips.specs.Promises.{kept}

module _ {A : Type 0} (d : A) (n : ℕ) (xs : List A) where
  pub kept_long : length (kept d n xs) ≡ length xs
  unfolding kept
  kept_long = rw (length-append (take n xs) (replicate (length xs - n) d), length-take n xs, length-replicate (length xs - n) d) (omega arith)

  past_end : (i : ℕ) → length xs ≤ i → get_or (kept d n xs) i d ≡ d
  past_end i h = let l : length (kept d n xs) ≤ i = omega (arith, kept_long) in get_or-eq_default (kept d n xs) d l

  pub kept_at : (i : ℕ) → i < n → get_or (kept d n xs) i d ≡ get_or xs i d
  unfolding kept
  kept_at i h =
      split (ltb i (length xs))
      (λ t.
      let l : i < length (take n xs) = rw (length-take n xs) (omega (arith, ltb-true i (length xs) t)) in
      get_or-append (take n xs) (replicate (length xs - n) d) d i l ∙ get_or-take n xs i d h)
      (λ t. let l = ltb-false i (length xs) t in past_end i l ∙ sym (get_or-eq_default xs d l))

  pub kept_past : (i : ℕ) → n ≤ i → get_or (kept d n xs) i d ≡ d
  unfolding kept
  kept_past i h =
      split (ltb i (length xs))
      (λ t.
      let l : i < length xs = ltb-true i (length xs) t in
      let m : n ≤ length xs = omega arith in
      let e : i ≡ length (take n xs) + (i - n) = rw (length-take-le n xs m) (omega arith) in
      ap (λ (k : ℕ). get_or (take n xs ++ replicate (length xs - n) d) k d) e
      ∙ get_or-append-add (take n xs) (replicate (length xs - n) d) (i - n) d
      ∙ get_or-replicate (length xs - n) (i - n) d d (omega arith))
      (λ t. past_end i (ltb-false i (length xs) t))

  pub kept_take : take n (kept d n xs) ≡ take n xs
  kept_take =
      ext_get_or d (take n (kept d n xs)) (take n xs) (length-take n (kept d n xs) ∙ ap (λ (k : ℕ). min n k) kept_long ∙ sym (length-take n xs))
      (λ i h.
      let l : i < n = omega (arith, length-take n (kept d n xs)) in
      get_or-take n (kept d n xs) i d l ∙ kept_at i l ∙ sym (get_or-take n xs i d l))

  pub kept_same : ((i : ℕ) → n ≤ i → get_or xs i d ≡ d) → kept d n xs ≡ xs
  kept_same z =
      ext_get_or d (kept d n xs) xs kept_long
      (λ i h. split (ltb i n) (λ t. kept_at i (ltb-true i n t)) (λ t. let l = ltb-false i n t in kept_past i l ∙ sym (z i l)))
