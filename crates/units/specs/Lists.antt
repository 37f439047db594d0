-- What is said of every entry of a list: as a fact, and as a test that antt computes.
use Rattle.std.specs.Prelude.{Bool, true, false, List, [], ◌∷◌}

-- P holds of each entry
abbrev pub All : {A : Type 0} → (A → Type 0) → List A → Type 0
All P [] = Unit {0}
All P (x ∷ xs) = P x × All P xs

-- the first test, and then the second
abbrev pub also : Bool → Bool → Bool
also true b = b
also false b = false

-- the test passes at each entry
abbrev pub all : {A : Type 0} → (A → Bool) → List A → Bool
all f [] = true
all f (x ∷ xs) = also (f x) (all f xs)
