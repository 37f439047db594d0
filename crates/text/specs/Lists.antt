-- "`dwell=` with rising phase numbers and commas between, or 0 for none": what stands after the key, and what is read of it.
use Rattle.std.specs.Prelude.{ℕ, suc, Bool, true, false, List, [], ◌∷◌, ◌++◌, replicate, take}
use Prim.Native.String as S
use Rattle.units.specs.Numbers.{pick}
use Rattle.units.specs.Lists.{also, all}
use Rattle.rows.specs.Table.{bytes, same, list, most_phases}
use Rattle.rows.specs.Marks.{line_feed}
use Rattle.text.specs.Line.{Taken, values_at, ended}
use Rattle.text.specs.Text.{values_text}

-- a line's text after its key; whether it is well made, and then how many numbers it has, and they
pub record Case : Type 0 where
  pub text : S.String
  pub good : Bool
  pub numbers : List ℕ

abbrev pub well : S.String → List ℕ → Case
well text numbers = record { text = text; good = true; numbers = numbers }

abbrev pub malformed : S.String → Case
malformed text = record { text = text; good = false; numbers = [] }

abbrev pub room : ℕ
room = suc most_phases

unfoldable pub read_case : S.String → Taken
read_case text = ended (bytes text ++ line_feed) (values_at (bytes text ++ line_feed) list 0 room 0 (replicate room 0))

-- a well-made line has these numbers and zeros behind them, and they are written as it
unfoldable pub right : Case → Bool
right c =
    pick c.good
    (also (read_case c.text).good
    (also (same (read_case c.text).numbers (take room (c.numbers ++ replicate room 0))) (same (values_text list 0 room (read_case c.text).numbers) (bytes c.text))))
    (pick (read_case c.text).good false true)

abbrev pub list_cases : List Case
list_cases =
    -- "or 0 for none", which it stands for only when it is alone; where it is not, or above 8, it is out of range
    well "=0" (0 ∷ [])
    ∷ well "=0,2" (2 ∷ 0 ∷ 2 ∷ [])
    ∷ well "=2,0" (2 ∷ 2 ∷ 0 ∷ [])
    ∷ well "=9" (1 ∷ 9 ∷ [])
    -- one to eight numbers
    ∷ well "=4" (1 ∷ 4 ∷ [])
    ∷ well "=4,2" (2 ∷ 4 ∷ 2 ∷ [])
    ∷ well "=1,2,3,4,5,6,7,8" (8 ∷ 1 ∷ 2 ∷ 3 ∷ 4 ∷ 5 ∷ 6 ∷ 7 ∷ 8 ∷ [])
    ∷ malformed "=1,2,3,4,5,6,7,8,9"
    -- a number must stand, and after each comma
    ∷ malformed "="
    ∷ malformed "=,2"
    ∷ malformed "=2,"
    ∷ malformed "=2,,4"
    ∷ malformed "2"
    -- each is a number as elsewhere: "decimal without leading zeros", "only `grade` may carry `-`", not "over 6 digits"
    ∷ malformed "=00"
    ∷ malformed "=-2"
    ∷ malformed "=4,2,1000000"
    ∷ []

abbrev pub ListsAreRead : Bool
ListsAreRead = all right list_cases
