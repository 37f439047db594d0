-- `acceleration::graded` meets its contract: the product fits, and is taken up. Assumes nothing.
use native.Mathlib.Nat.{mul-le-mul}
use native.Mathlib.Omega.{arith}
use mathlib.Core.Path.{ap}
use Rattle.units.specs.Numbers.{tenths}
use Rattle.curve.specs.Curve.{graded_of}
use Rattle.acceleration.proofs.graded.Goals as goal

pub overflow_mul-time : goal.overflow_mul-time
overflow_mul-time c =
    let a = c.args in
    omega (arith, mul-le-mul {n₁ = a.time.0} {m₁ = a.factor.over} {n₂ = 4294967295} {m₂ = 100000} (omega arith) (omega arith))

pub returns : goal.returns
unfolding graded_of
returns c = ap tenths c.div_up.ensures
