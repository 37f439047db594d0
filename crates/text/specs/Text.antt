-- The text of a sheet: for each row of the table that the sheet has, its key, its numbers and a line feed.
use Rattle.std.specs.Prelude.{ℕ, zero, suc, ◌+◌, ◌-◌, ◌%◌, min, List, [], ◌++◌, get_or, ltb, eqb}
use Rattle.units.specs.Numbers.{pick}
use Rattle.sheet.specs.declared.Sheet.{Sheet}
use Rattle.rows.specs.declared.table.Form.{Form}
use Rattle.rows.specs.Table.{is_signed, is_worded, is_list, bytes, row_count, plain, key_of, form_of, place_of, width_of, present}
use Rattle.rows.specs.Marks.{mark_of, minus, line_feed, word_of}
use Rattle.numbers.specs.Flat.{flat_of}
use Rattle.text.specs.Digits.{digits}

-- a number's last six digits, which are all that one in any range has
abbrev pub figures : ℕ → List ℕ
figures x = digits (x % 1000000)

-- a grade is kept as 1,000,000 more than it is
unfoldable pub signed_text : ℕ → List ℕ
signed_text x = pick (ltb x 1000000) (minus ++ figures (1000000 - x)) (figures (x - 1000000))

unfoldable pub field_text : Form → ℕ → List ℕ
field_text form x = pick (is_worded form) (word_of x) (pick (is_signed form) (signed_text x) (figures x))

-- n numbers of that form from number j of a line on, which stand in v from `place` on
unfoldable pub fields_text : Form → ℕ → ℕ → ℕ → List ℕ → List ℕ
fields_text form place zero j v = []
fields_text form place (suc n) j v = mark_of j ++ (field_text form (get_or v (place + j) 0) ++ fields_text form place n (j + 1) v)

-- a list: "numbers and commas between, or 0 for none". How many they are stands in v at `place`, at most `most` of them after it
unfoldable pub list_text : ℕ → ℕ → List ℕ → List ℕ
list_text place most v = pick (eqb (get_or v place 0) 0) (bytes "=0") (fields_text plain (place + 1) (min (get_or v place 0) most) 0 v)

-- the numbers of a line by its form, which has room for n from `place` on
unfoldable pub values_text : Form → ℕ → ℕ → List ℕ → List ℕ
values_text form place n v = pick (is_list form) (list_text place (n - 1) v) (fields_text form place n 0 v)

unfoldable pub row_text : ℕ → List ℕ → List ℕ
row_text row v = key_of row ++ (values_text (form_of row) (place_of row) (width_of row) v ++ line_feed)

-- the line of a row that the sheet has; one past its count has none
unfoldable pub here_text : ℕ → List ℕ → List ℕ
here_text row v = pick (present v row) (row_text row v) []

-- n rows from `row` on
unfoldable pub text_from : List ℕ → ℕ → ℕ → List ℕ
text_from v zero row = []
text_from v (suc n) row = here_text row v ++ text_from v n (row + 1)

abbrev pub text_of : Sheet → List ℕ
text_of s = text_from (flat_of s) row_count 0
