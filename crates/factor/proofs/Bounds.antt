-- How large the factor's numbers are, and that it is never below 1 or above 2: it lies between the entries that it mixes. Assumes nothing.
use Prim.Native.Nat.{◌*◌, ◌≤◌, min}
use native.Mathlib.Omega.{arith}
use lib.IntN.{ℤ}
use Rattle.units.proofs.Steps.{cases}
use Rattle.units.specs.declared.Feet.{Feet}
use Rattle.sheet.specs.declared.Vehicle.{Vehicle}
use Rattle.table.specs.Table.{entry_of}
use Rattle.table.proofs.Columns.{small, least}
use Rattle.scale.specs.declared.Fraction.{Fraction}
use Rattle.scale.specs.declared.Place.{Place}
use Rattle.scale.specs.Scale.{climb, is_car, column_of, Standing}
use Rattle.scale.proofs.Places.{column_stands}
use Rattle.scale.proofs.Mixes.{areas, spread_le, spread_ge}
use Rattle.factor.specs.Factor.{one, row_of, table_of, factor_of}
use Rattle.factor.specs.Promises.{FactorFits, FactorNeverBelowOne, FactorNeverAboveTwo}
use Rattle.factor.proofs.Rows.{row_stands}

abbrev Fits : Fraction → Type 0
Fits f = (f.over ≤ 100000) × (1 ≤ f.under) × (f.under ≤ 50000)

abbrev Slows : Fraction → Type 0
Slows f = f.under ≤ f.over

abbrev AtMostTwo : Fraction → Type 0
AtMostTwo f = f.over ≤ 2 * f.under

-- two columns and two rows of the table
module _ (c r : Place) (hc : Standing 20 14 c) (hr : Standing 25 16 r) where
  pub widths : (1 ≤ c.width * r.width) × (c.width * r.width ≤ 500)
  widths = areas entry_of 20 14 25 16 c r hc hr

  table_fits : Fits (table_of c r)
  unfolding table_of
  table_fits = (omega (arith, widths, spread_le entry_of 20 14 25 16 c r hc hr 200 small), omega (arith, widths), omega (arith, widths))

  table_slows : Slows (table_of c r)
  unfolding table_of
  table_slows = spread_ge entry_of 20 14 25 16 c r hc hr 100 least

  table_two : AtMostTwo (table_of c r)
  unfolding table_of
  table_two = omega (arith, spread_le entry_of 20 14 25 16 c r hc hr 200 small)

-- what holds of 1 and of every fraction of the table holds of the factor
module _ (P : Fraction → Type 0) (at_one : P one) (in_table : (c r : Place) → Standing 20 14 c → Standing 25 16 r → P (table_of c r)) where
  every_factor : (v : Vehicle) (g : ℤ) (d : Feet) → P (factor_of v g d)
  unfolding factor_of
  every_factor v g d =
      cases P (is_car v) one _ (λ e. at_one)
      (λ e. cases P _ one _ (λ e. at_one)
      (λ e. in_table (column_of v (min (climb g) 80)) (row_of (min d.0 400)) (column_stands v (min (climb g) 80) (omega arith)) (row_stands (min d.0 400) (omega arith))))

pub factor_bounds : FactorFits
factor_bounds = every_factor Fits (omega arith, omega arith, omega arith) table_fits

pub factor_slows : FactorNeverBelowOne
factor_slows = every_factor Slows (omega arith) table_slows

pub factor_two : FactorNeverAboveTwo
factor_two = every_factor AtMostTwo (omega arith) table_two
