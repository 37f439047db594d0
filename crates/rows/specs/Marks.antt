-- "Key=value lines in this order, each ended by a line feed": what stands between the key and the numbers of a line, and the words for vehicles.
use Rattle.std.specs.Prelude.{ℕ, List, [], ◌∷◌, ltb, get_or}
use Rattle.units.specs.Numbers.{pick}
use Rattle.rows.specs.Table.{bytes}

-- before number j of a line: the sign between key and value, and commas between the numbers
unfoldable pub mark_of : ℕ → List ℕ
mark_of j = pick (ltb j 1) (bytes "=") (bytes ",")

abbrev pub minus : List ℕ
minus = bytes "-"

abbrev pub line_feed : List ℕ
line_feed = 10 ∷ []

-- "car, su, bus, wb50"
unfoldable pub words : List (List ℕ)
words = bytes "car" ∷ bytes "su" ∷ bytes "bus" ∷ bytes "wb50" ∷ []

abbrev pub word_of : ℕ → List ℕ
word_of x = get_or words x []
