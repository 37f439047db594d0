-- How long a text can be, row by row: a number has at most 6 digits, a word 4 letters, a grade a sign more; how many numbers a list has is not written
use Rattle.std.specs.Prelude.{ℕ, zero, suc, ◌+◌, ◌-◌, length}
use Rattle.units.specs.Numbers.{pick}
use Rattle.rows.specs.declared.table.Form.{Form}
use Rattle.rows.specs.Table.{is_worded, is_signed, is_list, row_count, key_of, form_of, width_of}

unfoldable pub longest_field : Form → ℕ
longest_field form = pick (is_worded form) 4 (pick (is_signed form) 7 6)

unfoldable pub longest_fields : Form → ℕ → ℕ
longest_fields form zero = 0
longest_fields form (suc n) = 1 + longest_field form + longest_fields form n

unfoldable pub most_fields : ℕ → ℕ
most_fields row = pick (is_list (form_of row)) (width_of row - 1) (width_of row)

abbrev pub longest_row : ℕ → ℕ
longest_row row = length (key_of row) + longest_fields (form_of row) (most_fields row) + 1

unfoldable pub longest_from : ℕ → ℕ → ℕ
longest_from zero row = 0
longest_from (suc n) row = longest_row row + longest_from n (row + 1)

-- with every row that there is room for
abbrev pub longest : ℕ
longest = longest_from row_count 0
