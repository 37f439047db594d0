-- `FarTimes::entry` meets its contract: a far time is small. Assumes nothing.
use mathlib.Core.Path.{ap}
use native.Mathlib.Omega.{arith}
use borrow.Author.Rules.{Fits-under}
use Rattle.units.specs.declared.Tenths.{Tenths}
use Rattle.far_table.proofs.FarColumns.{small}
use Rattle.far_time.proofs.FarTimesPrinted.entry.Goals as goal

pub overflow_cast-result : goal.overflow_cast-result
overflow_cast-result c =
    Fits-under _ _ 1049 (omega (arith, ap (λ (h : Tenths). h.0) c.entry.ensures, small c.args.row c.args.col)) tt
