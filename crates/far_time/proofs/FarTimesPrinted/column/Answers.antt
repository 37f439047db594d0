-- `FarTimes::column` meets its contract: its tests are the definition's, and the column stands inside Table 628-B. Assumes nothing.
use mathlib.Core.Path.{◌≡◌, ◌∙◌, refl, sym, ap}
use Prim.Native.Nat.{ℕ, min}
use native.Mathlib.Omega.{arith}
use mir.Facts.{to_z-of_z}
use Rattle.units.proofs.Steps.{pick_yes, pick_not}
use Rattle.scale.specs.Scale.{climb, column_of}
use Rattle.scale.proofs.Places.{column_stands}
use Rattle.far.specs.Far.{after_car, far_column_of}
use Rattle.far.proofs.Times.{chosen_low, chosen_steep}
use Rattle.far_time.proofs.FarTimesPrinted.column.Goals as goal

pub returns-then-is_car-clause-value : goal.returns-then-is_car-clause-value
unfolding far_column_of
returns-then-is_car-clause-value c =
    pick_yes _ _ _ _ (sym c.is_car.ensures ∙ c.if-is_car.true) refl

pub after_car-requires : goal.after_car-requires
after_car-requires c = rw c.column.ensures (omega (arith, (column_stands c.args.vehicle (min 0 80) (omega arith)).inside))

pub returns-then-g-lt10-clause-value : goal.returns-then-g-lt10-clause-value
unfolding far_column_of
returns-then-g-lt10-clause-value c =
    -- the grade goes to `uphill` as bits, and the number of the bits is the grade
    let climbed : c.uphill-g.result ≡ climb c.args.grade = c.uphill-g.ensures ∙ ap climb (to_z-of_z c.ranges.grade) in
    let a = c.args in
    pick_not _ _ _ _ (sym c.is_car.ensures ∙ c.if-is_car.false)
    (c.after_car.ensures ∙ ap after_car (c.column.ensures ∙ ap (column_of a.vehicle) (sym (chosen_low a.grade (omega (arith, climbed))))))

pub after_car-requires-2 : goal.after_car-requires-2
after_car-requires-2 c =
    rw c.column-2.ensures (omega (arith, (column_stands c.args.vehicle (min c.uphill-g.result 80) (omega arith)).inside))

pub returns-clause-value : goal.returns-clause-value
unfolding far_column_of
returns-clause-value c =
    -- the grade goes to `uphill` as bits, and the number of the bits is the grade
    let climbed : c.uphill-g.result ≡ climb c.args.grade = c.uphill-g.ensures ∙ ap climb (to_z-of_z c.ranges.grade) in
    let a = c.args in
    let g = ap (λ (n : ℕ). min n 80) climbed ∙ sym (chosen_steep a.grade (omega (arith, climbed))) in
    pick_not _ _ _ _ (sym c.is_car.ensures ∙ c.if-is_car.false)
    (c.after_car-2.ensures ∙ ap after_car (c.column-2.ensures ∙ ap (column_of a.vehicle) g))

pub returns-then-g-lt10-clause-inside : goal.returns-then-g-lt10-clause-inside
returns-then-g-lt10-clause-inside c =
    rw (c.after_car.ensures, c.column.ensures) (omega (arith, (column_stands c.args.vehicle (min 0 80) (omega arith)).inside))

pub returns-clause-inside : goal.returns-clause-inside
returns-clause-inside c =
    rw (c.after_car-2.ensures, c.column-2.ensures) (omega (arith, (column_stands c.args.vehicle (min c.uphill-g.result 80) (omega arith)).inside))
