-- `far_columns::entry` meets its contract: past the last column and past the last row stands 0, and elsewhere the table's entry. That the code's blocks are the table's rows in fives is computed over all of it,
-- where a need about the code's blocks is met by a law of `blocks`. Assumes nothing.
use mathlib.Core.Path.{refl, sym, ◌∙◌, ap}
use native.Mathlib.Omega.{arith}
use Rattle.units.specs.Numbers.{tenths}
use Rattle.far_table.specs.FarTable.{far_table}
use Rattle.far_table.proofs.FarColumns.{kept, outside_row, outside_column}
use Rattle.far_columns.proofs.entry.Goals as goal

pub returns-then-col-ge15 : goal.returns-then-col-ge15
returns-then-col-ge15 c = rw (sym (outside_column c.args.row c.args.col (omega arith))) refl

pub returns-then-row-ge24 : goal.returns-then-row-ge24
returns-then-row-ge24 c =
    let a = c.args in rw (sym (outside_row a.row a.col (omega arith))) refl

pub returns : goal.returns
unfolding far_table
returns c =
    let a = c.args in ap tenths (c.from.ensures ∙ kept a.row a.col (omega arith) (omega arith))
