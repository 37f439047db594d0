-- `acceleration::acceleration` meets its contract: its tests are the definition's. The grade goes on as bits, and the number of the bits is the grade. Assumes nothing.
use mathlib.Core.Path.{◌∙◌, ap}
use native.Mathlib.Omega.{arith}
use lib.IntN.{ℤ}
use mir.Facts.{to_z-of_z}
use borrow.Author.Tests.{le-leb, lt-leb, lt-ltb, le-ltb}
use Rattle.units.specs.Numbers.{up, feet, tenths}
use Rattle.units.proofs.Steps.{pick_yes, pick_not}
use Rattle.scale.specs.declared.Fraction.{Fraction}
use Rattle.far.specs.Far.{far_of, far_time_of}
use Rattle.far.proofs.Times.{far_fits}
use Rattle.curve.specs.Curve.{curve_time_of, joined_of, acceleration_of}
use Rattle.acceleration.proofs.acceleration.Goals as goal

pub returns-then-distance-le400 : goal.returns-then-distance-le400
unfolding acceleration_of
returns-then-distance-le400 c =
    let a = c.args in
    let ps = a.points.now in
    pick_yes _ _ _ _ (le-leb a.distance.0 400 (omega arith))
    (c.by_curve.ensures.0 ∙ ap (λ (g : ℤ). curve_time_of ps a.vehicle g a.distance) (to_z-of_z c.ranges.grade))

pub joined-requires : goal.joined-requires
joined-requires c =
    (c.by_curve-at_400.ensures.1, rw c.far-at_425.ensures (far_fits _ _ _).0, rw c.far-at_425.ensures (far_fits _ _ _).2, omega arith, omega arith)

pub returns-then-distance-lt425 : goal.returns-then-distance-lt425
unfolding acceleration_of
returns-then-distance-lt425 c =
    let a = c.args in
    let ps = a.points.now in
    let same = to_z-of_z c.ranges.grade in
    let start = c.by_curve-at_400.ensures.0 ∙ ap (λ (g : ℤ). curve_time_of ps a.vehicle g (feet 400)) same in
    let end = c.far-at_425.ensures ∙ ap (λ (g : ℤ). far_of a.vehicle g (feet 425)) same in
    pick_not _ _ _ _ (lt-leb a.distance.0 400 (omega arith))
    (pick_yes _ _ _ _ (lt-ltb a.distance.0 425 (omega arith)) (c.joined.ensures ∙ (λ i. joined_of (start i) (end i) a.distance)))

pub returns : goal.returns
unfolding acceleration_of far_time_of
returns c =
    let a = c.args in
    let far = c.far-far.ensures ∙ ap (λ (g : ℤ). far_of a.vehicle g a.distance) (to_z-of_z c.ranges.grade) in
    pick_not _ _ _ _ (lt-leb a.distance.0 400 (omega arith))
    (pick_not _ _ _ _ (le-ltb a.distance.0 425 (omega arith)) (ap tenths (c.div_up.ensures ∙ ap (λ (f : Fraction). up f.over f.under) far)))
