-- What is promised of the factor, for a reader of the definitions.
use Rattle.std.specs.Prelude.{◌≡◌, true, ℕ, ◌*◌, ◌≤◌, ℤ, pos}
use Rattle.std.specs.Int.Signed.{lt_z}
use Rattle.units.specs.Numbers.{feet}
use Rattle.units.specs.declared.Feet.{Feet}
use Rattle.sheet.specs.declared.Vehicle.{Vehicle}
use Rattle.sheet.specs.declared.Vehicle.TheVariants.{Car, Su, Bus, Wb50}
use Rattle.factor.specs.Factor.{factor_of, one}

-- "The factor is 1 for a car"
abbrev pub OneForCars : Type 0
OneForCars = (g : ℤ) (d : Feet) → factor_of Car g d ≡ one

-- "and for any grade below 10", level and downhill among them
abbrev pub OneBelowTen : Type 0
OneBelowTen = (v : Vehicle) (g : ℤ) (d : Feet) → lt_z g (pos 10) ≡ true → factor_of v g d ≡ one

-- "for SU (1 up to 2)": up to 2 percent
abbrev pub OneForSuUpToTwo : Type 0
OneForSuUpToTwo = (g : ℤ) (d : Feet) → lt_z g (pos 21) ≡ true → (factor_of Su g d).over ≡ (factor_of Su g d).under

-- "for bus (1 at 1)": at 1 percent
abbrev pub OneForBusAtOne : Type 0
OneForBusAtOne = (d : Feet) → (factor_of Bus (pos 10) d).over ≡ (factor_of Bus (pos 10) d).under

-- "row 25 below 25 ft"
abbrev pub RowTwentyFive : Type 0
RowTwentyFive = (v : Vehicle) (g : ℤ) (d : Feet) → d.0 ≤ 25 → factor_of v g d ≡ factor_of v g (feet 25)

-- the factor in thousandths, exact
abbrev pub InThousandths : Vehicle → ℕ → ℕ → ℕ → Type 0
InThousandths v g d n = (factor_of v (pos g) (feet d)).over * 1000 ≡ n * (factor_of v (pos g) (feet d)).under

-- document 002's example, 80 ft at 4 percent, where it has 1.30; and two places between rows and columns, worked out by hand from Table 628-B:
-- bus, 110 ft, 3 percent, 1.08 at 100 ft and 1.09 at 125; SU, 60 ft, 5 percent, 1.13 at 50 ft and 1.145 at 75
abbrev pub FactorIsExact : Type 0
FactorIsExact = InThousandths Wb50 40 80 1302 × InThousandths Bus 30 110 1084 × InThousandths Su 50 60 1136

-- nothing is divided by 0, and the fraction's numbers are small
abbrev pub FactorFits : Type 0
FactorFits =
    (v : Vehicle) (g : ℤ) (d : Feet) →
    ((factor_of v g d).over ≤ 100000) × (1 ≤ (factor_of v g d).under) × ((factor_of v g d).under ≤ 50000)

-- a grade never makes a vehicle faster
abbrev pub FactorNeverBelowOne : Type 0
FactorNeverBelowOne = (v : Vehicle) (g : ℤ) (d : Feet) → (factor_of v g d).under ≤ (factor_of v g d).over

-- and never takes more than twice the time
abbrev pub FactorNeverAboveTwo : Type 0
FactorNeverAboveTwo = (v : Vehicle) (g : ℤ) (d : Feet) → (factor_of v g d).over ≤ 2 * (factor_of v g d).under
