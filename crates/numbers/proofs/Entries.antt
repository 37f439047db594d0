-- Entries of an array one by one: how many, which, and that an array is its entries. Assumes nothing.
use mathlib.Core.Path.{◌≡◌, refl, sym, ap, ◌∙◌}
use mathlib.Core.List.{List, [], ◌∷◌, ◌++◌, append_assoc, append-nil}
use Prim.Native.Nat.{ℕ, zero, suc, ◌+◌, ◌-◌, ◌<◌, ◌≤◌}
use native.Mathlib.Nat.{zero-add}
use native.Mathlib.Numerals.{add-one}
use native.Mathlib.Omega.{arith}
use lib.ListN.{length, get_or, set, take, drop, length-drop}
use lib.Seq.{take-suc-set, take_all, ext_get_or, length-take-le, get_or-take, get_or-drop}
use Rattle.numbers.specs.Flat.{entries_from}

module _ {A : Type 0} (f : ℕ → A) where
  pub entries_long : (n i : ℕ) → length (entries_from f n i) ≡ n
  unfolding entries_from
  entries_long zero i = refl
  entries_long (suc n) i = ap suc (entries_long n (i + 1))

  pub entries_at : (n i j : ℕ) (d : A) → j < n → get_or (entries_from f n i) j d ≡ f (i + j)
  unfolding entries_from
  entries_at zero i j d h = absurd (omega arith)
  entries_at (suc n) i zero d h = let e : i + 0 ≡ i = omega arith in rw e refl
  entries_at (suc n) i (suc j) d h = let e : i + suc j ≡ i + 1 + j = omega arith in rw e (entries_at n (i + 1) j d (omega arith))

-- a list is its entries
pub entries_all : {A : Type 0} (xs : List A) (n : ℕ) (d : A) → length xs ≡ n → entries_from (λ (i : ℕ). get_or xs i d) n 0 ≡ xs
entries_all xs n d l =
    ext_get_or d (entries_from (λ (i : ℕ). get_or xs i d) n 0) xs (entries_long (λ (i : ℕ). get_or xs i d) n 0 ∙ sym l)
    (λ j h. entries_at (λ (i : ℕ). get_or xs i d) n 0 j d (omega (arith, entries_long (λ (i : ℕ). get_or xs i d) n 0)) ∙ ap (λ (k : ℕ). get_or xs k d) (zero-add j))

-- n entries that stand one after the other
pub part_entries : (v : List ℕ) (k n : ℕ) → k + n ≤ length v → take n (drop k v) ≡ entries_from (λ (i : ℕ). get_or v (k + i) 0) n 0
part_entries v k n h =
    let f : ℕ → ℕ = λ (i : ℕ). get_or v (k + i) 0 in
    let l : length (take n (drop k v)) ≡ n = length-take-le n (drop k v) (omega (arith, length-drop k v)) in
    ext_get_or 0 (take n (drop k v)) (entries_from f n 0) (l ∙ sym (entries_long f n 0))
    (λ j b.
    let c : j < n = omega (arith, l) in
    let z : 0 + j ≡ j = omega arith in
    get_or-take n (drop k v) j 0 c ∙ get_or-drop k v j 0 ∙ sym (rw z at (entries_at f n 0 j 0 c)))
