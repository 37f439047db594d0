-- What the call does, in the tick's third step: to the count, and to the stage.
use Rattle.std.specs.Prelude.{ℕ, ◌+◌, Bool, false, eqb}
use Rattle.units.specs.Numbers.{pick}
use Rattle.phase.specs.declared.Light.{Light}
use Rattle.phase.specs.declared.Walker.{Walker}
use Rattle.phase.specs.Times.{one_more}
use Rattle.stage.specs.declared.Lengths.{Lengths}
use Rattle.stage.specs.declared.Place.{Place}
use Rattle.stage.specs.declared.Place.TheVariants.{Normal, Train}
use Rattle.stage.specs.declared.Stage.{Stage}
use Rattle.stage.specs.declared.Stage.TheVariants.{TrackGreen, TrackYellow, TrackRed, Open, Ending, ClearanceGreen, AllRed}
use Rattle.stage.specs.declared.Then.{Then}
use Rattle.stage.specs.declared.Then.TheVariants.{ToTrack, ToPhase, ToClearance, ToAllRed, ToDwell}
use Rattle.stage.specs.Commands.{asked}
use Rattle.stage.specs.Shown.{in_normal}
use Rattle.flow.specs.declared.Now.{Now}

-- ---- the count
-- "Between transfer and the end of dwell the call is read only at the end of track red and in dwell", and "a call back on meanwhile counts from the
-- tick after" the one with which normal track green returns: a tick counts the call that begins in normal operation; with the count at line 3 the
-- transfer has begun
unfoldable pub counting : Lengths → Now → Bool
counting t now = pick (eqb now.count t.l03) false (in_normal now.stage)

-- "The call must be seen on for line 3 ticks running; off sets the count to 0 .. The count stops at line 3"
unfoldable pub count_to : Lengths → Bool → ℕ → ℕ
count_to t call n = pick call (one_more n t.l03) 0

-- "and is 0 whenever normal operation returns": `end` is the stage at the tick's end
unfoldable pub count_after : Lengths → Bool → Bool → Stage → ℕ → ℕ
count_after t call counted end n = pick counted (count_to t call n) (pick (in_normal end) 0 n)

-- ---- the stage
-- "At the end of that tick the transfer begins: an unended phase is asked to end, no new phase starts, and when the phase or the track red is over,
-- track clearance green starts. From track green it starts at once". The last two are never asked: only a tick of normal operation counts the call
unfoldable pub answered : Stage → Stage
answered TrackGreen = ClearanceGreen 0
answered (TrackYellow p z k) = TrackYellow p ToClearance k
answered (TrackRed p z k) = TrackRed p ToClearance k
answered (Open p n g w) = asked p n ToClearance g w
answered (Ending p n z l w) = Ending p n ToClearance l w
answered (ClearanceGreen k) = ClearanceGreen 0
answered AllRed = ClearanceGreen 0

-- "When the call goes off, the running phase is ended by the ordinary rules before normal track green returns": it is asked to end if it was not,
-- and what was next is dropped; only a clearance green that is owed, which no run brings to dwell, would still be
unfoldable pub unless_owed : Then → Then
unless_owed ToTrack = ToTrack
unless_owed (ToPhase n) = ToTrack
unless_owed ToClearance = ToClearance
unless_owed ToAllRed = ToTrack
unless_owed ToDwell = ToTrack

unfoldable pub open_dropped : ℕ → ℕ → ℕ → Place → Stage
open_dropped n g w Normal = Open Normal n g w
open_dropped n g w Train = asked Train n ToTrack g w

unfoldable pub ending_dropped : ℕ → Then → Light → Walker → Place → Stage
ending_dropped n z l w Normal = Ending Normal n z l w
ending_dropped n z l w Train = Ending Train n (unless_owed z) l w

-- all red of dwell "ends on the first tick with the call off, and track green in normal operation follows"
unfoldable pub dropped : Stage → Stage
dropped TrackGreen = TrackGreen
dropped (TrackYellow p z k) = TrackYellow p z k
dropped (TrackRed p z k) = TrackRed p z k
dropped (Open p n g w) = open_dropped n g w p
dropped (Ending p n z l w) = ending_dropped n z l w p
dropped (ClearanceGreen k) = ClearanceGreen k
dropped AllRed = TrackGreen

-- with n counted before a tick that sees the call on, the count becomes line 3 on it
unfoldable pub becomes : Lengths → ℕ → Bool
becomes t n = eqb (n + 1) t.l03

-- the transfer begins with such a tick, where it counts the call
unfoldable pub begins : Lengths → Bool → ℕ → Bool
begins t counted n = pick counted (becomes t n) false

unfoldable pub called : Lengths → Bool → Bool → ℕ → Stage → Stage
called t call counted n st = pick call (pick (begins t counted n) (answered st) st) (dropped st)

-- a unit handed over in normal operation with the count at line 3 already: the transfer has begun, and the first settling finds it so
unfoldable pub overdue : Lengths → ℕ → Stage → Stage
overdue t n st = pick (eqb n t.l03) (pick (in_normal st) (answered st) st) st
