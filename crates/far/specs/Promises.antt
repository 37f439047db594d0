-- What is promised of the far times, for a reader of the definitions.
use Rattle.std.specs.Prelude.{◌≡◌, true, ℕ, ◌+◌, ◌*◌, ◌<◌, ◌≤◌, ℤ, pos}
use Rattle.std.specs.Int.Signed.{lt_z}
use Rattle.units.specs.Numbers.{TakenUp, feet}
use Rattle.units.specs.declared.Feet.{Feet}
use Rattle.sheet.specs.declared.Vehicle.{Vehicle}
use Rattle.sheet.specs.declared.Vehicle.TheVariants.{Car, Su, Bus, Wb50}
use Rattle.far_table.specs.FarTable.{far_entry_of}
use Rattle.scale.specs.Scale.{placed}
use Rattle.far.specs.Far.{far_column_of, far_of, far_time_of}

-- "and taken up": the exact fraction, rounded once
abbrev pub FarTakenUp : Type 0
FarTakenUp = (v : Vehicle) (g : ℤ) (d : Feet) → TakenUp (far_of v g d).over (far_of v g d).under (far_time_of v g d).0

-- from 425 to 1000 ft, for any vehicle and grade, no farther distance takes less time
abbrev pub FarNeverFalls : Type 0
FarNeverFalls =
    (v : Vehicle) (g : ℤ) (d e : Feet) → 425 ≤ d.0 → d.0 ≤ e.0 → e.0 ≤ 1000
    → (far_time_of v g d).0 ≤ (far_time_of v g e).0

-- at a row's own distance, 425 and every 25 ft from it: the table's entry, where the grade is a column's own or the first column serves
abbrev pub AnEntryAtItsColumn : Type 0
AnEntryAtItsColumn =
    (v : Vehicle) (g : ℤ) (k : ℕ) → k < 24 → (far_column_of v g).past ≡ 0
    → (far_time_of v g (feet (425 + 25 * k))).0 ≡ far_entry_of k (far_column_of v g).step

-- and elsewhere from the one column's entry to the next one's
abbrev pub BetweenTwoColumns : Type 0
BetweenTwoColumns =
    (v : Vehicle) (g : ℤ) (k : ℕ) → k < 24 → 0 < (far_column_of v g).past
    → let t = (far_time_of v g (feet (425 + 25 * k))).0 in
    (far_entry_of k (far_column_of v g).step ≤ t) × (t ≤ far_entry_of k ((far_column_of v g).step + 1))

-- "a car has one"
abbrev pub OneColumnForCars : Type 0
OneColumnForCars = (g : ℤ) → far_column_of Car g ≡ placed 0 0 1

-- "the first column serves below 10": level and downhill among them
abbrev pub FirstBelowTen : Type 0
FirstBelowTen =
    (g : ℤ) → lt_z g (pos 10) ≡ true
    → (far_column_of Su g ≡ placed 1 0 20) × (far_column_of Bus g ≡ placed 5 0 10) × (far_column_of Wb50 g ≡ placed 10 0 20)

-- "and below its own grade": SU's is 2 percent, the bus's 1
abbrev pub FirstBelowItsOwn : Type 0
FirstBelowItsOwn =
    ((g : ℤ) → lt_z g (pos 21) ≡ true → far_column_of Su g ≡ placed 1 0 20)
    × ((g : ℤ) → lt_z g (pos 11) ≡ true → far_column_of Bus g ≡ placed 5 0 10)

-- from 1 percent on WB-50 stands between its columns: there half way between 0 and 2
abbrev pub HalfWayAtTen : Type 0
HalfWayAtTen = far_column_of Wb50 (pos 10) ≡ placed 10 10 20

-- nothing is divided by 0, and the fraction's numbers are small
abbrev pub FarFits : Type 0
FarFits = (v : Vehicle) (g : ℤ) (d : Feet) → ((far_of v g d).over ≤ 524000) × (1 ≤ (far_of v g d).under) × ((far_of v g d).under ≤ 500)

-- from the least entry to the largest: 14.7 to 104.8 seconds
abbrev pub FarWithin : Type 0
FarWithin = (v : Vehicle) (g : ℤ) (d : Feet) → (147 ≤ (far_time_of v g d).0) × ((far_time_of v g d).0 ≤ 1048)
