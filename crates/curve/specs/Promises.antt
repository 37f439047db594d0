-- What is promised of the level time and of the time on a grade, for a reader of the definitions.
use Rattle.std.specs.Prelude.{◌≡◌, true, List, [], ◌∷◌, ℕ, ◌+◌, ◌-◌, ◌*◌, ◌<◌, ◌≤◌, ℤ, pos}
use Rattle.std.specs.Int.Signed.{lt_z}
use Rattle.units.specs.Numbers.{TakenUp, feet}
use Rattle.units.specs.declared.Feet.{Feet}
use Rattle.units.specs.declared.Tenths.{Tenths}
use Rattle.sheet.specs.declared.Point.{Point}
use Rattle.sheet.specs.declared.Vehicle.{Vehicle}
use Rattle.sheet.specs.declared.Vehicle.TheVariants.{Car}
use Rattle.factor.specs.Factor.{factor_of}
use Rattle.far.specs.Far.{far_of, far_time_of}
use Rattle.curve.specs.Curve.{level_of, graded_of, curve_time_of, acceleration_of}

-- from each point to the next the distance rises and the time does not fall
abbrev pub RisingFrom : Point → List Point → Type 0
RisingFrom p [] = Unit {0}
RisingFrom p (q ∷ qs) = (p.feet < q.feet) × (p.tenths ≤ q.tenths) × RisingFrom q qs

abbrev pub Rising : List Point → Type 0
Rising [] = Unit {0}
Rising (p ∷ ps) = RisingFrom p ps

-- q is the point after p
pub data Next (p q : Point) : List Point → Type 0 where
  here : {ps : List Point} → Next p q (p ∷ q ∷ ps)
  later : {o : Point} {ps : List Point} → Next p q ps → Next p q (o ∷ ps)

-- r is on the straight line between p and q at d, up to a tenth
abbrev pub OnTheLine : Point → Point → Feet → ℕ → Type 0
OnTheLine p q d r =
    let width = q.feet - p.feet in
    TakenUp ((q.tenths - p.tenths) * (d.0 - p.feet) + p.tenths * width) width r

-- "The level time lies on the straight line between the two points around the distance, up to a tenth."
abbrev pub LevelOnTheLine : Type 0
LevelOnTheLine =
    (ps : List Point) (p q : Point) (d : Feet) → Rising ps → Next p q ps → p.feet ≤ d.0 → d.0 ≤ q.feet →
    OnTheLine p q d (level_of ps d).0

-- "It is multiplied by the grade factor and taken up again": the exact fraction, rounded once
abbrev pub GradedTakenUp : Type 0
GradedTakenUp =
    (v : Vehicle) (g : ℤ) (d : Feet) (t : Tenths) →
    let f = factor_of v g d in
    TakenUp (t.0 * f.over) f.under (graded_of f t).0

-- "P10's 401 is accepted", and to 400 ft nothing changes: every time is document 01's
abbrev pub AsBeforeToFourHundred : Type 0
AsBeforeToFourHundred =
    (ps : List Point) (v : Vehicle) (g : ℤ) (d : Feet) → d.0 ≤ 400 → acceleration_of ps v g d ≡ curve_time_of ps v g d

-- "Between 400 and 425 the time runs straight from the entered curve's graded time at 400": at both ends too, and taken up once
abbrev pub JoinTakenUp : Type 0
JoinTakenUp =
    (ps : List Point) (v : Vehicle) (g : ℤ) (d : Feet) → 400 ≤ d.0 → d.0 ≤ 425 →
    let at400 = (curve_time_of ps v g (feet 400)).0 in
    let far = far_of v g (feet 425) in
    TakenUp ((425 - d.0) * (at400 * far.under) + (d.0 - 400) * far.over) (25 * far.under) (acceleration_of ps v g d).0

-- from 425 ft on it is the far time, whatever the points
abbrev pub FarFromFourTwentyFive : Type 0
FarFromFourTwentyFive =
    (ps : List Point) (v : Vehicle) (g : ℤ) (d : Feet) → 425 ≤ d.0 → acceleration_of ps v g d ≡ far_time_of v g d

-- and from there to 1000 ft never falls with distance
abbrev pub NeverFallsFarOut : Type 0
NeverFallsFarOut =
    (ps : List Point) (v : Vehicle) (g : ℤ) (d e : Feet) → 425 ≤ d.0 → d.0 ≤ e.0 → e.0 ≤ 1000
    → (acceleration_of ps v g d).0 ≤ (acceleration_of ps v g e).0

-- to 400 ft "it" is the level time in whole tenths
abbrev pub AccelerationTakenUp : Type 0
AccelerationTakenUp =
    (ps : List Point) (v : Vehicle) (g : ℤ) (d : Feet) → d.0 ≤ 400 →
    let f = factor_of v g d in
    TakenUp ((level_of ps d).0 * f.over) f.under (acceleration_of ps v g d).0

-- "The factor is 1 for a car"
abbrev pub LevelForCars : Type 0
LevelForCars = (ps : List Point) (g : ℤ) (d : Feet) → d.0 ≤ 400 → acceleration_of ps Car g d ≡ level_of ps d

-- "and for any grade below 10", level and downhill among them
abbrev pub LevelBelowTen : Type 0
LevelBelowTen =
    (ps : List Point) (v : Vehicle) (g : ℤ) (d : Feet) → lt_z g (pos 10) ≡ true → d.0 ≤ 400 → acceleration_of ps v g d ≡ level_of ps d

-- "A car may carry a grade; it isn't used": at any distance
abbrev pub AnyGradeForCars : Type 0
AnyGradeForCars = (ps : List Point) (g h : ℤ) (d : Feet) → acceleration_of ps Car g d ≡ acceleration_of ps Car h d

-- every point's time is at most b
abbrev pub TimesWithin : ℕ → List Point → Type 0
TimesWithin b [] = Unit {0}
TimesWithin b (p ∷ ps) = (p.tenths ≤ b) × TimesWithin b ps

-- no level time is longer than every point's
abbrev pub LevelWithin : Type 0
LevelWithin = (b : ℕ) (ps : List Point) (d : Feet) → TimesWithin b ps → (level_of ps d).0 ≤ b

-- to 400 ft a grade never makes a vehicle faster, and never takes more than twice the time
abbrev pub BetweenOnceAndTwice : Type 0
BetweenOnceAndTwice =
    (ps : List Point) (v : Vehicle) (g : ℤ) (d : Feet) → d.0 ≤ 400
    → ((level_of ps d).0 ≤ (acceleration_of ps v g d).0) × ((acceleration_of ps v g d).0 ≤ 2 * (level_of ps d).0)

-- "0 to 9999" tenths at a point
abbrev pub AccelerationWithin : Type 0
AccelerationWithin =
    (ps : List Point) (v : Vehicle) (g : ℤ) (d : Feet) → TimesWithin 9999 ps → (acceleration_of ps v g d).0 ≤ 19998
