-- `acceleration::joined` meets its contract: both products are small. Assumes nothing.
use mathlib.Core.Path.{ap}
use Prim.Native.Nat.{ℕ, ◌-◌, ◌*◌, ◌≤◌}
use native.Mathlib.Nat.{mul-le-mul}
use native.Mathlib.Omega.{arith}
use Rattle.units.specs.Numbers.{tenths}
use Rattle.scale.specs.Scale.{mix_of}
use Rattle.curve.specs.Curve.{joined_of}
use Rattle.acceleration.proofs.joined.Goals as goal

-- the two products, with room in 64 bits for their sum
curve_part : (past start under : ℕ) → start ≤ 8589934590 → under ≤ 500 → (start * under ≤ 4294967295000) × ((25 - past) * (start * under) ≤ 107374182375000)
curve_part past start under hs hu =
    let whole = mul-le-mul {n₁ = start} {m₁ = under} {n₂ = 8589934590} {m₂ = 500} hs hu in
    (omega (arith, whole), omega (arith, mul-le-mul {n₁ = 25 - past} {m₁ = start * under} {n₂ = 25} {m₂ = 4294967295000} (omega arith) (omega (arith, whole))))

far_part : (past over : ℕ) → past ≤ 25 → over ≤ 524000 → past * over ≤ 13100000
far_part past over hp ho = omega (arith, mul-le-mul {n₁ = past} {m₁ = over} {n₂ = 25} {m₂ = 524000} hp ho)

pub overflow_mul-over : goal.overflow_mul-over
overflow_mul-over c =
    let a = c.args in
    omega (arith, curve_part (a.distance.0 - 400) a.start.0 a.end.under (omega arith) (omega arith))

pub overflow_mul-over-2 : goal.overflow_mul-over-2
overflow_mul-over-2 c =
    let a = c.args in
    omega (arith, curve_part (a.distance.0 - 400) a.start.0 a.end.under (omega arith) (omega arith))

pub overflow_mul-over-3 : goal.overflow_mul-over-3
overflow_mul-over-3 c =
    let a = c.args in
    omega (arith, far_part (a.distance.0 - 400) a.end.over (omega arith) (omega arith))

pub overflow_add-over : goal.overflow_add-over
overflow_add-over c =
    let a = c.args in
    omega (arith, curve_part (a.distance.0 - 400) a.start.0 a.end.under (omega arith) (omega arith), far_part (a.distance.0 - 400) a.end.over (omega arith) (omega arith))

pub returns : goal.returns
unfolding joined_of mix_of
returns c = ap tenths c.div_up.ensures
