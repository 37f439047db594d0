-- `acceleration::level_time` meets its contract: what is left of the points gives the level time of all of them. Assumes nothing.
use mathlib.Core.Path.{◌≡◌}
use lib.ListN.{drop}
use Rattle.curve.specs.Curve.{level_of, level_from}
use Rattle.acceleration.proofs.level_time.Given as goal

abbrev pub invariant-loop-q : goal.invariant-loop-q
invariant-loop-q l = level_of l.points l.distance ≡ level_from l.p (drop l.q-index l.rest) l.distance
