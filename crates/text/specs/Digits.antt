-- "Numbers are decimal without leading zeros": the digits of a number as bytes.
use Rattle.std.specs.Prelude.{ℕ, zero, suc, ◌+◌, ◌/◌, ◌%◌, List, [], ◌∷◌, ◌++◌, ltb}
use Rattle.units.specs.Numbers.{pick}

-- of a number with at most f + 1 digits
unfoldable pub digits_in : ℕ → ℕ → List ℕ
digits_in zero n = (48 + n) ∷ []
digits_in (suc f) n = pick (ltb n 10) ((48 + n) ∷ []) (digits_in f (n / 10) ++ (48 + n % 10) ∷ [])

-- no number has over 6
abbrev pub digits : ℕ → List ℕ
digits n = digits_in 5 n
