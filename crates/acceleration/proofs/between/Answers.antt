-- `acceleration::between` meets its contract: a part of the rise is at most the rise, so nothing runs over. Assumes nothing.
use mathlib.Core.Path.{◌≡◌, refl}
use Prim.Native.Nat.{◌-◌, ◌*◌, ◌≤◌}
use native.Mathlib.Omega.{arith}
use Rattle.units.specs.Numbers.{up}
use Rattle.units.proofs.Rounding.{up_part}
use Rattle.curve.specs.Curve.{between_of}
use Rattle.acceleration.proofs.between.Goals.{After-div_up-part}
use Rattle.acceleration.proofs.between.Goals as goal

-- the part, by the definition's own numbers, and at most the rise
module _ (c : After-div_up-part) where
  part_is : c.div_up-part.result ≡ up ((c.args.q.tenths - c.args.p.tenths) * (c.args.distance.0 - c.args.p.feet)) (c.args.q.feet - c.args.p.feet)
  part_is =
      rw (c.div_up-part.ensures, c.from-3.ensures, c.from-2.ensures, c.saturating_sub-width.ensures, c.saturating_sub-run.ensures, c.from.ensures, c.saturating_sub-rise.ensures) refl

  small : c.div_up-part.result ≤ c.args.q.tenths - c.args.p.tenths
  small = rw part_is (up_part (c.args.q.tenths - c.args.p.tenths) (c.args.distance.0 - c.args.p.feet) (c.args.q.feet - c.args.p.feet) (omega arith))

pub overflow_add-result : goal.overflow_add-result
overflow_add-result c = omega (arith, c.from-4.ensures, small c.before)

pub returns : goal.returns
unfolding between_of
returns c = (rw (c.from-4.ensures, part_is c.before) refl, omega (arith, c.from-4.ensures, small c.before))
