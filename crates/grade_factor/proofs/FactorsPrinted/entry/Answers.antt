-- `grade_factor::Factors::entry` meets its contract: an entry is small. Assumes nothing.
use mathlib.Core.Path.{ap}
use native.Mathlib.Omega.{arith}
use borrow.Author.Rules.{Fits-under}
use Rattle.units.specs.declared.Hundredths.{Hundredths}
use Rattle.table.proofs.Columns.{small}
use Rattle.grade_factor.proofs.FactorsPrinted.entry.Goals as goal

pub overflow_cast-result : goal.overflow_cast-result
overflow_cast-result c =
    Fits-under _ _ 201 (omega (arith, ap (λ (h : Hundredths). h.0) c.entry.ensures, small c.args.row c.args.col)) tt
