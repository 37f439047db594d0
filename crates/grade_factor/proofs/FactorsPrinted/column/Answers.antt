-- `Factors::column` meets its contract: the column stands inside Table 628-B. The grade goes on as bits, and the number of the bits is the grade. Assumes nothing.
use Prim.Native.Nat.{min}
use native.Mathlib.Omega.{arith}
use Rattle.scale.proofs.Places.{column_stands}
use Rattle.grade_factor.proofs.FactorsPrinted.column.Goals as goal

pub returns-clause-inside : goal.returns-clause-inside
returns-clause-inside c =
    rw c.column.ensures (omega (arith, (column_stands c.args.vehicle (min c.uphill.result 80) (omega arith)).inside))
