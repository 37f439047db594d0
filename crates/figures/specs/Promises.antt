-- What is promised of numbers and words alone, each with the paper's sentence. proofs/ has a proof of each type.
use Rattle.std.specs.Prelude.{◌≡◌, List, ◌∷◌, ℕ, None}
use Rattle.figures.specs.Figures.{signed_at}

-- "`-0` is malformed", whatever follows it: 45 and 48 are its bytes
abbrev pub MinusZeroIsBad : Type 0
MinusZeroIsBad = (rest : List ℕ) → signed_at (45 ∷ 48 ∷ rest) 0 ≡ None
