-- The first place of a byte: `at` is the place where the rest of the text starts.
use Rattle.std.specs.Prelude.{ℕ, ◌+◌, min, List, [], ◌∷◌, eqb, length, drop}
use Rattle.units.specs.Numbers.{pick}

unfoldable pub find_from : ℕ → ℕ → List ℕ → ℕ
find_from byte at [] = at
find_from byte at (b ∷ rest) = pick (eqb b byte) at (find_from byte (at + 1) rest)

abbrev pub find_at : List ℕ → ℕ → ℕ → ℕ
find_at s from byte = find_from byte (min from (length s)) (drop from s)
