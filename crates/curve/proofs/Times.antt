-- The laws of the level time and of the time on a grade: what `up` says of each, and along the points by induction; and where the acceleration time is document 01's, where the far one. Assumes nothing.
use mathlib.Core.Path.{◌≡◌, refl, ◌∙◌, ap}
use mathlib.Core.List.{List, [], ◌∷◌}
use Prim.Native.Nat.{ℕ, ◌-◌, ◌*◌, ◌<◌, ◌≤◌}
use native.Mathlib.Nat.{add-mul, mul-le-mul_left, le_of_mul-le-mul_right, mul_assoc, mul_comm, mul-one, mul-zero, div-one}
use native.Mathlib.Omega.{arith}
use mathlib.Core.Bool.{true}
use lib.Dec.{leb}
use lib.IntN.{ℤ, pos}
use lib.Signed.{lt_z}
use borrow.Author.Tests.{leb-true, le-leb, lt-leb, le-ltb}
use Rattle.units.specs.Numbers.{up, TakenUp, pick, tenths}
use Rattle.units.specs.declared.Feet.{Feet}
use Rattle.units.specs.declared.Tenths.{Tenths}
use Rattle.units.proofs.Rounding.{up_part, up_le, up_enough, up_least, up_taken, up_product}
use Rattle.units.proofs.Steps.{cases}
use Rattle.sheet.specs.declared.Point.{Point}
use Rattle.sheet.specs.declared.Vehicle.{Vehicle}
use Rattle.sheet.specs.declared.Vehicle.TheVariants.{Car}
use Rattle.factor.specs.Factor.{one, factor_of}
use Rattle.factor.proofs.Bounds.{factor_bounds, factor_slows, factor_two}
use Rattle.factor.proofs.Ones.{one_for_cars, one_below_ten}
use Rattle.far.specs.Far.{far_column_of, far_of, far_time_of}
use Rattle.far.proofs.Times.{far_never_falls}
use Rattle.curve.specs.Curve.{between_of, level_from, level_of, graded_of, curve_time_of, acceleration_of}
use Rattle.curve.specs.Promises.{OnTheLine, RisingFrom, Rising, Next, LevelOnTheLine, GradedTakenUp, AsBeforeToFourHundred, FarFromFourTwentyFive, NeverFallsFarOut, AccelerationTakenUp, LevelForCars, LevelBelowTen, AnyGradeForCars, TimesWithin, LevelWithin, BetweenOnceAndTwice}
use Rattle.curve.specs.Promises.Next.{here, later}

-- between two points: taken up, and on the line
module _ (p q : Point) (d : Feet) (wide : p.feet < q.feet) where
  abbrev width : ℕ
  width = q.feet - p.feet

  abbrev exact : ℕ
  exact = (q.tenths - p.tenths) * (d.0 - p.feet)

  pub on_the_line : OnTheLine p q d (between_of p q d).0
  unfolding between_of
  on_the_line =
      let pos : 0 < width = omega arith in
      let sum = add-mul p.tenths (up exact width) width in
      (omega (arith, sum, up_enough exact width pos), omega (arith, sum, up_least exact width pos))

-- at the second point it is that point's time
at_second : (p q : Point) (d : Feet) → p.feet < q.feet → p.tenths ≤ q.tenths → d.0 ≡ q.feet → (between_of p q d).0 ≡ q.tenths
unfolding between_of
at_second p q d wide slow e =
    let rise = q.tenths - p.tenths in
    let width = q.feet - p.feet in
    let run : d.0 - p.feet ≡ width = omega arith in
    let pos : 0 < width = omega arith in
    let whole : up (rise * (d.0 - p.feet)) width ≡ rise = rw run (up_product rise width pos) in
    omega arith

-- a point that follows in a rising list is farther than those before it
farther : (p q : Point) {ps : List Point} (o : Point) → RisingFrom o ps → Next p q ps → o.feet < p.feet
farther p q o r here = r.0
farther p q o r (later {o = a} n) = omega (arith, farther p q a r.2 n)

-- where the distance is the first point's own, the line gives that point's time
at_first : (p q : Point) (d : Feet) (r : ℕ) → p.feet < q.feet → d.0 ≡ p.feet → r ≡ p.tenths → OnTheLine p q d r
at_first p q d r wide e f =
    let none : d.0 - p.feet ≡ 0 = omega arith in
    rw (none, f, mul-zero) (omega arith, omega arith)

-- the points around the distance are the first two of the list, or the walk along it comes to them
line_of : (p q : Point) (d : Feet) {os : List Point} → Rising os → Next p q os → p.feet ≤ d.0 → d.0 ≤ q.feet → OnTheLine p q d (level_of os d).0
unfolding level_of level_from pick
line_of p q d r here lo hi = rw (le-leb d.0 q.feet hi) (on_the_line p q d r.0)
line_of p q d r (later {o = o} (here {ps = ps})) lo hi =
    cases (λ (t : Tenths). OnTheLine p q d t.0) (leb d.0 p.feet) (between_of o p d) _
    (λ t. let e : d.0 ≡ p.feet = omega (arith, leb-true d.0 p.feet t) in
    at_first p q d (between_of o p d).0 r.2.0 e (at_second o p d r.0 r.1 e))
    (λ t. line_of p q d {os = p ∷ q ∷ ps} r.2 here lo hi)
line_of p q d r (later {o = o} (later {o = a} {ps = ps} n)) lo hi =
    rw (lt-leb d.0 a.feet (omega (arith, farther p q a r.2 n))) (line_of p q d {os = a ∷ ps} r.2 (later n) lo hi)

pub level_line : LevelOnTheLine
level_line ps p q d r n lo hi = line_of p q d r n lo hi

-- no level time is longer than the longest of the points, along them by induction
between_within : (b : ℕ) (p q : Point) (d : Feet) → p.tenths ≤ b → q.tenths ≤ b → d.0 ≤ q.feet → (between_of p q d).0 ≤ b
unfolding between_of
between_within b p q d hp hq h =
    omega (arith, up_part (q.tenths - p.tenths) (d.0 - p.feet) (q.feet - p.feet) (omega arith))

from_within : (b : ℕ) (p : Point) (qs : List Point) (d : Feet) → p.tenths ≤ b → TimesWithin b qs → (level_from p qs d).0 ≤ b
unfolding level_from
from_within b p [] d h a = h
from_within b p (q ∷ qs) d h a =
    cases (λ (t : Tenths). t.0 ≤ b) (leb d.0 q.feet) (between_of p q d) (level_from q qs d)
    (λ t. between_within b p q d h a.0 (leb-true d.0 q.feet t))
    (λ t. from_within b q qs d a.0 a.1)

pub level_le : LevelWithin
unfolding level_of
level_le b [] d a = omega arith
level_le b (p ∷ ps) d a = from_within b p ps d a.0 a.1

pub graded_up : GradedTakenUp
unfolding graded_of
graded_up v g d t =
    let f = factor_of v g d in
    up_taken (t.0 * f.over) f.under (factor_bounds v g d).1

-- ---- document 01's time, by the curve alone

module _ (ps : List Point) (v : Vehicle) (g : ℤ) (d : Feet) where
  curve_up : TakenUp ((level_of ps d).0 * (factor_of v g d).over) (factor_of v g d).under (curve_time_of ps v g d).0
  unfolding curve_time_of
  curve_up = graded_up v g d (level_of ps d)

  pub curve_once_and_twice : ((level_of ps d).0 ≤ (curve_time_of ps v g d).0) × ((curve_time_of ps v g d).0 ≤ 2 * (level_of ps d).0)
  unfolding curve_time_of graded_of
  curve_once_and_twice =
      let t = (level_of ps d).0 in
      let f = factor_of v g d in
      let pos : 0 < f.under = (factor_bounds v g d).1 in
      let slow = mul-le-mul_left t (factor_slows v g d) in
      let twice = mul-le-mul_left t (factor_two v g d) in
      (le_of_mul-le-mul_right (omega (arith, up_enough (t * f.over) f.under pos)) pos, up_le (t * f.over) f.under (2 * t) pos (omega (arith, mul_assoc 2 t f.under, mul_assoc t 2 f.under, mul_comm t 2)))

-- times 1 is itself
graded_one : (t : Tenths) → graded_of one t ≡ t
unfolding graded_of up
graded_one t = ap tenths (rw (mul-one, div-one) (omega arith))

curve_for_cars : (ps : List Point) (g : ℤ) (d : Feet) → curve_time_of ps Car g d ≡ level_of ps d
unfolding curve_time_of
curve_for_cars ps g d = rw (one_for_cars g d) (graded_one (level_of ps d))

curve_below_ten : (ps : List Point) (v : Vehicle) (g : ℤ) (d : Feet) → lt_z g (pos 10) ≡ true → curve_time_of ps v g d ≡ level_of ps d
unfolding curve_time_of
curve_below_ten ps v g d h = rw (one_below_ten v g d h) (graded_one (level_of ps d))

-- ---- and where the acceleration time is that, the joined one or the far one

pub as_before : AsBeforeToFourHundred
unfolding acceleration_of pick
as_before ps v g d h = rw (le-leb d.0 400 h) refl

pub far_from : FarFromFourTwentyFive
unfolding acceleration_of pick
far_from ps v g d h = rw (lt-leb d.0 400 (omega arith), le-ltb d.0 425 h) refl

pub acceleration_up : AccelerationTakenUp
acceleration_up ps v g d h = rw (as_before ps v g d h) (curve_up ps v g d)

pub once_and_twice : BetweenOnceAndTwice
once_and_twice ps v g d h = rw (as_before ps v g d h) (curve_once_and_twice ps v g d)

pub level_for_cars : LevelForCars
level_for_cars ps g d h = as_before ps Car g d h ∙ curve_for_cars ps g d

pub level_below_ten : LevelBelowTen
level_below_ten ps v g d b h = as_before ps v g d h ∙ curve_below_ten ps v g d b

pub never_falls : NeverFallsFarOut
never_falls ps v g d e from le to =
    rw (far_from ps v g d from, far_from ps v g e (omega arith)) (far_never_falls v g d e from le to)

pub any_grade : AnyGradeForCars
unfolding acceleration_of curve_time_of factor_of far_time_of far_of far_column_of pick
any_grade ps g h d = refl
