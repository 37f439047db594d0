-- Acceleration times, in the paper's words and order: "24, 49 and 54 are acceleration times over 23, 48 and 20." Which line is over which distance, and on which grade, stands with the lines.
use Rattle.std.specs.Prelude.{◌+◌, ◌-◌, ◌*◌, List, [], ◌∷◌, leb, ltb, ℤ}
use Rattle.units.specs.Numbers.{up, pick, feet, tenths}
use Rattle.units.specs.declared.Feet.{Feet}
use Rattle.units.specs.declared.Tenths.{Tenths}
use Rattle.sheet.specs.declared.Point.{Point}
use Rattle.sheet.specs.declared.Vehicle.{Vehicle}
use Rattle.scale.specs.declared.Fraction.{Fraction}
use Rattle.scale.specs.Scale.{placed, mix_of}
use Rattle.factor.specs.Factor.{factor_of}
use Rattle.far.specs.Far.{far_of, far_time_of}

-- "The level time lies on the straight line between the two points around the distance, up to a tenth."
unfoldable pub between_of : Point → Point → Feet → Tenths
between_of p q d = tenths (p.tenths + up ((q.tenths - p.tenths) * (d.0 - p.feet)) (q.feet - p.feet))

-- from the point p on, over the points that follow it; past the last point it is the last point's time
unfoldable pub level_from : Point → List Point → Feet → Tenths
level_from p [] d = tenths p.tenths
level_from p (q ∷ qs) d = pick (leb d.0 q.feet) (between_of p q d) (level_from q qs d)

unfoldable pub level_of : List Point → Feet → Tenths
level_of [] d = tenths 0
level_of (p ∷ ps) d = level_from p ps d

-- "It is multiplied by the grade factor and taken up again."
unfoldable pub graded_of : Fraction → Tenths → Tenths
graded_of f t = tenths (up (t.0 * f.over) f.under)

-- document 01's time over a distance: the level time, by the points; then the factor, by vehicle, grade and distance
unfoldable pub curve_time_of : List Point → Vehicle → ℤ → Feet → Tenths
curve_time_of ps v g d = graded_of (factor_of v g d) (level_of ps d)

-- "Between 400 and 425 the time runs straight from the entered curve's graded time at 400" to the far time at 425, which is exact; taken up once
unfoldable pub joined_of : Tenths → Fraction → Feet → Tenths
joined_of at400 far d = tenths (up (mix_of (at400.0 * far.under) far.over (placed 0 (d.0 - 400) 25)) (25 * far.under))

-- the acceleration time over a distance: to 400 ft by the curve, from 425 ft by the far times
unfoldable pub acceleration_of : List Point → Vehicle → ℤ → Feet → Tenths
acceleration_of ps v g d =
    pick (leb d.0 400) (curve_time_of ps v g d)
    (pick (ltb d.0 425) (joined_of (curve_time_of ps v g (feet 400)) (far_of v g (feet 425)) d)
    (far_time_of v g d))
