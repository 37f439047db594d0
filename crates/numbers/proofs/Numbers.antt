-- Numbers stored part after part, and what stands past the last. Assumes nothing.
use mathlib.Core.Path.{◌≡◌, refl, sym, ap, ◌∙◌}
use mathlib.Core.List.{List, [], ◌∷◌, ◌++◌}
use Prim.Native.Nat.{ℕ, suc, ◌+◌, ◌-◌, ◌*◌, ◌<◌, ◌≤◌}
use native.Mathlib.Nat.{mul-add, mul-one}
use native.Mathlib.Numerals.{add-one}
use native.Mathlib.Omega.{arith}
use lib.ListN.{length, get_or, set, get_or-eq_default}
use lib.Seq.{sets}
use Rattle.numbers.specs.Flat.{itself, numbers_from}

pub sets_then : (v a b : List ℕ) (at : ℕ) → sets v at (a ++ b) ≡ sets (sets v at a) (at + length a) b
sets_then v [] b at = let e : at + 0 ≡ at = omega arith in rw e refl
sets_then v (x ∷ a) b at = let e : at + suc (length a) ≡ suc at + length a = omega arith in rw e (sets_then (set v at x) a b (suc at))

-- one entry of an array more: of n + 1 entries from entry i on, each of w numbers, the first is stored
pub next_entry : {A : Type 0} (f : A → List ℕ) (d : A) (xs : List A) (v : List ℕ) (at w n i : ℕ) → i < n → length (f (get_or xs i d)) ≡ w
    → sets v (at + w * i) (numbers_from f d (n - i) i xs) ≡ sets (sets v (at + w * i) (f (get_or xs i d))) (at + w * (i + 1)) (numbers_from f d (n - (i + 1)) (i + 1) xs)
unfolding numbers_from
next_entry f d xs v at w n i h e =
    let m : n - i ≡ suc (n - (i + 1)) = omega arith in
    let p : at + w * i + length (f (get_or xs i d)) ≡ at + w * (i + 1) = omega (arith, e, mul_suc_of w i) in
    rw m (sets_then v (f (get_or xs i d)) _ (at + w * i) ∙ rw p refl)
  where
    mul_suc_of : (w i : ℕ) → w * (i + 1) ≡ w * i + w
    mul_suc_of w i = mul-add w i 1 ∙ ap (λ (k : ℕ). w * i + k) (mul-one w)

-- the same of numbers that are their own
pub next_number_lem : (xs v : List ℕ) (at n i : ℕ) → i < n
    → sets v (at + i) (numbers_from itself 0 (n - i) i xs) ≡ sets (set v (at + i) (get_or xs i 0)) (at + (i + 1)) (numbers_from itself 0 (n - (i + 1)) (i + 1) xs)
unfolding numbers_from
next_number_lem xs v at n i h =
    let m : n - i ≡ suc (n - (i + 1)) = omega arith in
    let p : at + (i + 1) ≡ suc (at + i) = omega arith in
    rw (m, p) refl

pub past : (v : List ℕ) (n k : ℕ) → length v ≡ n → n ≤ k → 0 ≡ get_or v k 0
past v n k e h = let l : length v ≤ k = omega arith in sym (get_or-eq_default v 0 {n = k} l)

-- stores one after the other
pub two : (v : List ℕ) (at a b : ℕ) → set (set v at a) (at + 1) b ≡ sets v at (a ∷ b ∷ [])
two v at a b = rw add-one refl

pub eight : (v : List ℕ) (at a b c d e f g h : ℕ)
    → set (set (set (set (set (set (set (set v at a) (at + 1) b) (at + 2) c) (at + 3) d) (at + 4) e) (at + 5) f) (at + 6) g) (at + 7) h ≡ sets v at (a ∷ b ∷ c ∷ d ∷ e ∷ f ∷ g ∷ h ∷ [])
eight v at a b c d e f g h =
    let e1 : at + 1 ≡ suc at = omega arith in
    let e2 : at + 2 ≡ suc (suc at) = omega arith in
    let e3 : at + 3 ≡ suc (suc (suc at)) = omega arith in
    let e4 : at + 4 ≡ suc (suc (suc (suc at))) = omega arith in
    let e5 : at + 5 ≡ suc (suc (suc (suc (suc at)))) = omega arith in
    let e6 : at + 6 ≡ suc (suc (suc (suc (suc (suc at))))) = omega arith in
    let e7 : at + 7 ≡ suc (suc (suc (suc (suc (suc (suc at)))))) = omega arith in
    rw (e1, e2, e3, e4, e5, e6, e7) refl
