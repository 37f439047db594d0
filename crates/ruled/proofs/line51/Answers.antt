-- `ruled::line51` meets its contract: ten times a tenth of a number of 32 bits has room. Assumes nothing.
use native.Mathlib.Omega.{arith}
use Rattle.units.proofs.Rounding.{up_le_self}
use Rattle.ruled.proofs.line51.Goals as goal

pub overflow_mul-result : goal.overflow_mul-result
overflow_mul-result c =
    omega (arith, c.div_up.ensures, up_le_self c.from.result 10, c.from.ensures)
