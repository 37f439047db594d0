-- `units::div_up` meets its contract: the quotient, and one more where something is left over. Assumes nothing.
use mathlib.Core.Path.{sym}
use Prim.Native.Nat.{◌/◌, ◌<◌}
use native.Mathlib.Nat.{div-mul-le_self, le-mul_of_pos_right}
use native.Mathlib.Omega.{arith}
use Rattle.units.proofs.Rounding.{up_exact, up_more, up_zero}
use Rattle.units.proofs.div_up.Goals as goal

pub returns-then-d-eq0 : goal.returns-then-d-eq0
returns-then-d-eq0 c = rw c.if-d-eq0.true (sym (up_zero c.args.n))

pub overflow_mul-q : goal.overflow_mul-q
overflow_mul-q c = omega (arith, div-mul-le_self c.args.n c.args.d)

pub overflow_add-result : goal.overflow_add-result
overflow_add-result c =
    let a = c.args in
    let pos : 0 < a.d = omega arith in
    omega (arith, div-mul-le_self a.n a.d, le-mul_of_pos_right (a.n / a.d) pos, c.if-q-d.false)

pub returns-then-q-d : goal.returns-then-q-d
returns-then-q-d c = sym (up_exact c.args.n c.args.d (omega arith) c.if-q-d.true)

pub returns-else-q-d : goal.returns-else-q-d
returns-else-q-d c = omega (arith, up_more c.args.n c.args.d (omega arith) c.if-q-d.false)
