-- A rule proved at every number below a bound, or at every entry of a list, by one test that antt computes.
-- Assumes nothing.
use mathlib.Core.Path.{◌≡◌, refl, sym, subst}
use mathlib.Core.Bool.{Bool, true, false}
use mathlib.Core.List.{List, [], ◌∷◌}
use Prim.Native.Nat.{ℕ, zero, suc, ◌<◌}
use native.Mathlib.Nat.{not-suc-le-zero}
use native.Mathlib.Omega.{arith}
use lib.Dec.{T, eqb}
use lib.ListN.{get_or}
use borrow.Author.Tests.{eqb-true, eqb-false}
-- the tests that these laws are of
pub use Rattle.units.specs.Lists.{also, all}

pub also_left : (a b : Bool) → T (also a b) → T a
also_left true b t = tt
also_left false b t = t

pub also_right : (a b : Bool) → T (also a b) → T b
also_right true b t = t
also_right false b t = absurd t

-- the second test, asked only where the first passes
abbrev pub given : Bool → Bool → Bool
given true b = b
given false b = true

pub given_then : (a b : Bool) → T (given a b) → T a → T b
given_then true b t u = t
given_then false b t u = absurd u

-- the test passes at each number below n
abbrev pub all_below : (ℕ → Bool) → ℕ → Bool
all_below f zero = true
all_below f (suc n) = also (f n) (all_below f n)

last : (f : ℕ → Bool) (n : ℕ) → T (f n) → (k : ℕ) → (k < n → T (f k)) → k < suc n → (b : Bool) → eqb k n ≡ b → T (f k)
last f n t k below h true e = subst (λ (m : ℕ). T (f m)) (sym (eqb-true k n e)) t
last f n t k below h false e = below (omega (arith, eqb-false k n e))

pub at : (f : ℕ → Bool) (n : ℕ) → T (all_below f n) → (k : ℕ) → k < n → T (f k)
at f zero t k h = absurd (not-suc-le-zero h)
at f (suc n) t k h = last f n (also_left (f n) (all_below f n) t) k (at f n (also_right (f n) (all_below f n) t) k) h (eqb k n) refl

-- at any place, inside the list or past it, where the test passes at what stands for an entry past the end
pub entry : {A : Type 0} (f : A → Bool) (xs : List A) (d : A) → T (all f xs) → T (f d) → (k : ℕ) → T (f (get_or xs k d))
entry f [] d t u k = u
entry f (x ∷ xs) d t u zero = also_left (f x) (all f xs) t
entry f (x ∷ xs) d t u (suc k) = entry f xs d (also_right (f x) (all f xs) t) u k
