-- `to_numbers::with_points` meets its contract: at each turn the entries left come to the same numbers. Assumes nothing.
use mathlib.Core.Path.{◌≡◌}
use Prim.Native.Nat.{◌-◌}
use lib.Seq.{sets}
use Rattle.sheet.specs.Zero.{zero_point}
use Rattle.rows.specs.Table.{most_points, place_for}
use Rattle.numbers.specs.Flat.{point_place, point_numbers, numbers_from}
use Rattle.to_numbers.proofs.with_points.Given as goal

abbrev pub invariant-loop-i : goal.invariant-loop-i
invariant-loop-i l = sets l.v (point_place l.i) (numbers_from point_numbers zero_point (most_points - l.i) l.i l.points) ≡ sets l.initial.v (place_for "point") (numbers_from point_numbers zero_point most_points 0 l.points)
