-- Where the factor is 1, by the definition's two tests and by a column that has 1 in every row; and that it does not change below 25 ft. Assumes nothing.
use mathlib.Core.Path.{◌≡◌, refl, ap}
use mathlib.Core.Bool.{Bool}
use Prim.Native.Nat.{ℕ, min}
use native.Mathlib.Omega.{arith}
use lib.Dec.{T, eqb, ltb, eqb→eq}
use borrow.Author.Tests.{ltb-false}
use Rattle.units.specs.Numbers.{pick}
use Rattle.units.specs.declared.Feet.{Feet}
use Rattle.units.proofs.Steps.{cases}
use Rattle.units.proofs.Tested.{all_below, at}
use Rattle.sheet.specs.declared.Vehicle.TheVariants.{Su, Bus}
use Rattle.table.specs.Table.{table, entry_of}
use Rattle.scale.specs.declared.Fraction.{Fraction}
use Rattle.scale.specs.declared.Place.{Place}
use Rattle.scale.specs.Scale.{climb, is_car, placed, place_on, column_of, mix_of, line_of, spread_of}
use Rattle.scale.proofs.Signs.{climbs_less}
use Rattle.scale.proofs.Promised.{first_column}
use Rattle.factor.specs.Factor.{one, row_of, table_of, factor_of}
use Rattle.factor.specs.Promises.{OneForCars, OneBelowTen, OneForSuUpToTwo, OneForBusAtOne, RowTwentyFive}
use Rattle.factor.proofs.Rows.{row_held}

pub one_for_cars : OneForCars
unfolding factor_of pick
one_for_cars g d = refl

pub one_below_ten : OneBelowTen
unfolding factor_of
one_below_ten v g d h =
    cases (λ (f : Fraction). f ≡ one) (is_car v) one _ (λ e. refl)
    (λ e. cases (λ (f : Fraction). f ≡ one) _ one _ (λ e. refl) (λ e. absurd (omega (arith, ltb-false, climbs_less 10 (omega arith) g h))))

-- over the column at c stands 1, whatever the row
abbrev pub is_one : Place → ℕ → Bool
is_one c d = eqb (table_of c (row_of d)).over (table_of c (row_of d)).under

abbrev IsOne : Fraction → Type 0
IsOne f = f.over ≡ f.under

one_at : (c : Place) → T (all_below (is_one c) 401) → (d : Feet) → IsOne (table_of c (row_of (min d.0 400)))
one_at c t d = eqb→eq _ _ (at (is_one c) 401 t (min d.0 400) (omega arith))

su_one : T (all_below (is_one (placed 0 0 20)) 401)
unfolding table_of spread_of line_of mix_of entry_of table row_of place_on pick
su_one = tt

pub one_for_su : OneForSuUpToTwo
unfolding factor_of
one_for_su g d h =
    cases IsOne (is_car Su) one _ (λ e. refl)
    (λ e. cases IsOne _ one _ (λ e. refl)
    (λ e. rw (first_column.0 (min (climb g) 80) (omega (arith, climbs_less 21 (omega arith) g h))) (one_at (placed 0 0 20) su_one d)))

bus_one : T (all_below (is_one (column_of Bus 10)) 401)
unfolding column_of table_of spread_of line_of mix_of entry_of table row_of place_on pick
bus_one = tt

pub one_for_bus : OneForBusAtOne
unfolding factor_of climb pick
one_for_bus d = one_at (column_of Bus 10) bus_one d

pub row_twenty_five : RowTwentyFive
unfolding factor_of
row_twenty_five v g d h =
    ap (λ (r : Place). pick (is_car v) one (pick (ltb (climb g) 10) one (table_of (column_of v (min (climb g) 80)) r)))
    (row_held (min d.0 400) (omega arith))
