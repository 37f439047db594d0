-- `grade_factor::factor` meets its contract: its tests are the definition's, and the places stand inside the table. Assumes nothing.
use mathlib.Core.Path.{◌≡◌, ◌∙◌, sym, ap}
use Prim.Native.Nat.{ℕ, ◌-◌, ◌*◌, ◌≤◌, min}
use lib.IntN.{ℤ}
use native.Mathlib.Omega.{arith}
use mir.Facts.{to_z-of_z}
use borrow.Author.Tests.{lt-ltb, le-ltb}
use Rattle.units.proofs.Steps.{pick_yes, pick_not}
use Rattle.sheet.specs.declared.Vehicle.{Vehicle}
use Rattle.table.specs.Table.{entry_of}
use Rattle.scale.specs.declared.Fraction.{Fraction}
use Rattle.scale.specs.declared.Place.{Place}
use Rattle.scale.specs.Scale.{climb, column_of, every_of, read_of}
use Rattle.scale.proofs.Places.{column_stands}
use Rattle.factor.specs.Factor.{row_of, table_of, factor_of}
use Rattle.factor.proofs.Bounds.{widths}
use Rattle.factor.proofs.Rows.{row_every, row_stands}
use Rattle.grade_factor.proofs.factor.Goals.{then-is_car-via-then-is_car, then-is_car-via-else-is_car+then-uphill-lt10}
use Rattle.grade_factor.proofs.factor.Goals as goal

pub returns-then-is_car : goal.returns-then-is_car
unfolding factor_of
returns-then-is_car c =
    elim c.then-is_car.branch [
      | then-is_car-via-then-is_car w ↦ pick_yes _ _ _ _ (sym c.is_car.ensures ∙ w.if-is_car.true) c.one_to_one.ensures
      | then-is_car-via-else-is_car+then-uphill-lt10 w ↦
          let climbed : w.uphill.result ≡ climb c.args.grade = w.uphill.ensures ∙ ap climb (to_z-of_z c.ranges.grade) in
          pick_not _ _ _ _ (sym c.is_car.ensures ∙ w.if-is_car.false)
          (pick_yes _ _ _ _ (lt-ltb (climb c.args.grade) 10 (omega (arith, climbed))) c.one_to_one.ensures)
    ]

-- what is read, at the definition's own places
module _ (v : Vehicle) (g : ℤ) (d : ℕ) where
  abbrev column : Place
  column = column_of v (min (climb g) 80)

  abbrev row : Place
  row = row_of (min d 400)

  placed_so : (z : ℤ) (f : Fraction) → z ≡ g → f ≡ read_of entry_of (column_of v (min (climb z) 80)) (every_of 0 25 (min d 400 - 25)) → f ≡ read_of entry_of column row
  placed_so z f same e = e ∙ (λ i. read_of entry_of (column_of v (min (climb (same i)) 80)) (row_every (min d 400) (omega arith) i))

  narrow : column.width * row.width ≤ 500
  narrow = (widths column row (column_stands v (min (climb g) 80) (omega arith)) (row_stands (min d 400) (omega arith))).1

pub overflow_mul-result : goal.overflow_mul-result
overflow_mul-result c =
    let a = c.args in
    let read = placed_so a.vehicle a.grade a.distance.0 _ c.read-over.result (to_z-of_z c.ranges.grade) c.read-over.ensures in
    omega (arith, ap (λ (f : Fraction). f.under) read, narrow a.vehicle a.grade a.distance.0)

pub returns : goal.returns
unfolding factor_of table_of
returns c =
    let a = c.args in
    -- the grade goes to `uphill` as bits, and the number of the bits is the grade
    let climbed : c.uphill.result ≡ climb a.grade = c.uphill.ensures ∙ ap climb (to_z-of_z c.ranges.grade) in
    let read = placed_so a.vehicle a.grade a.distance.0 _ c.read-over.result (to_z-of_z c.ranges.grade) c.read-over.ensures in
    pick_not _ _ _ _ (sym c.is_car.ensures ∙ c.if-is_car.false)
    (pick_not _ _ _ _ (le-ltb (climb a.grade) 10 (omega (arith, climbed))) (ap (λ (f : Fraction). record { over = f.over; under = 100 * f.under }) read))
