-- `columns::entry` meets its contract: past the last column and past the last row stands 0, and elsewhere the printed entry. That the code's rows are the printed ones is computed over the whole table,
-- where a need about the code's rows is met by a law of `decimals`. Assumes nothing.
use mathlib.Core.Path.{refl, sym, ◌∙◌, ap}
use Prim.Native.Nat.{ℕ, ◌+◌}
use Rattle.units.specs.Numbers.{hundredths}
use Rattle.table.specs.Table.{table}
use Rattle.table.proofs.Columns.{printed, outside_row, outside_column}
use native.Mathlib.Omega.{arith}
use Rattle.columns.proofs.entry.Goals as goal

pub returns-then-col-ge14 : goal.returns-then-col-ge14
returns-then-col-ge14 c = rw (sym (outside_column c.args.row c.args.col (omega arith))) refl

pub returns-then-row-ge16 : goal.returns-then-row-ge16
returns-then-row-ge16 c =
    let a = c.args in rw (sym (outside_row a.row a.col (omega arith))) refl

pub returns : goal.returns
unfolding table
returns c =
    let a = c.args in ap hundredths (ap (λ (n : ℕ). 100 + n) c.from.ensures ∙ printed a.row a.col (omega arith) (omega arith))
