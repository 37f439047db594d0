-- `ruled::line22` meets its contract: half of a number has room for 20 more. Assumes nothing.
use native.Mathlib.Omega.{arith}
use Rattle.units.proofs.Rounding.{up_le}
use Rattle.ruled.proofs.line22.Goals as goal

pub overflow_add-result : goal.overflow_add-result
overflow_add-result c =
    omega (arith, c.div_up.ensures, up_le c.args.l21.0 2 9223372036854775808 (omega arith) (omega arith))
