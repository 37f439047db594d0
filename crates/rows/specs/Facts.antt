-- What the code's own table has of a row: its key in eight letters, blanks last, how many they are, the form, the range of the row's first number, and what
-- the row stands for where it may be absent.
use Rattle.std.specs.Prelude.{ℕ, List, ◌++◌, length, take, replicate}
use Rattle.rows.specs.Table.{kinds, numbers_in, kind_of, key_of, form_of, absent_of, range_of}
use Rattle.rows.specs.declared.table.Key.{Key}

abbrev pub letters : List ℕ → List ℕ
letters key = take 8 (key ++ replicate 8 32)

unfoldable pub facts_of : ℕ → Key
facts_of row =
    record {
      letters = letters (key_of row);
      length = length (key_of row);
      form = form_of row;
      least = (range_of row 0).least;
      most = (range_of row 0).most;
      absent = absent_of row;
    }

-- where the first number of the row's kind stands
abbrev pub head_of : ℕ → ℕ
head_of row = numbers_in (take (kind_of row) kinds)
