-- `accept::points_fault` meets its contract: at each point the rows left have the first fault of all. Assumes nothing.
use Prim.Native.Nat.{min}
use Rattle.rows.specs.Table.{most_points}
use Rattle.faults.proofs.Values.{PointsLeft}
use Rattle.accept.proofs.points_fault.Given as goal

abbrev pub invariant-loop-i : goal.invariant-loop-i
invariant-loop-i l = PointsLeft l.fn.s.points (min l.fn.s.point_count most_points) l.absent l.before l.i
