-- What a fact of every entry of a list says at a place of the list, by walking there. Assumes nothing.
use mathlib.Core.List.{List, [], ◌∷◌}
use Prim.Native.Nat.{ℕ, zero, suc, ◌<◌}
use native.Mathlib.Nat.{not-suc-le-zero, le_of_suc-le-suc}
use native.Mathlib.Omega.{arith}
use lib.ListN.{get_or, length}
use Rattle.units.specs.Lists.{All}

-- at a place inside the list
pub all_in : {A : Type 0} (P : A → Type 0) (xs : List A) (d : A) → All P xs → (k : ℕ) → k < length xs → P (get_or xs k d)
all_in P [] d a k h = absurd (not-suc-le-zero h)
all_in P (x ∷ xs) d a zero h = a.0
all_in P (x ∷ xs) d a (suc k) h = all_in P xs d a.1 k (le_of_suc-le-suc h)

-- what holds at every place of a list holds of all of it
pub all_from : {A : Type 0} (P : A → Type 0) (xs : List A) (d : A) → ((k : ℕ) → k < length xs → P (get_or xs k d)) → All P xs
all_from P [] d f = tt
all_from P (x ∷ xs) d f = (f 0 (omega arith), all_from P xs d (λ k h. f (suc k) (omega arith)))
