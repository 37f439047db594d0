-- "Commands: none, or end, next n. In track green it starts track yellow and red, then phase n (a unit handed over there with next 0 goes back to
-- track green). In a phase n is 0 (track) or another listed phase, and the end may be asked once. An end in any other stage, track clearance
-- green included, or with any other n is refused 23." In dwell (2026-01): "Dwell starts in all red. There end, next n starts a named phase; in a
-- phase n is another named phase, or 0 for all red." "23 now also covers dwell."
use Rattle.std.specs.Prelude.{ℕ, Bool, true, false, eqb}
use Rattle.units.specs.Numbers.{pick}
use Rattle.sheet.specs.declared.Sheet.{Sheet}
use Rattle.sheet.specs.Entries.{named}
use Rattle.phase.specs.declared.Light.TheVariants.{Green}
use Rattle.phase.specs.declared.Walker.TheVariants.{Walk}
use Rattle.stage.specs.declared.Command.{Command}
use Rattle.stage.specs.declared.Command.TheVariants.{None, End}
use Rattle.stage.specs.declared.Place.{Place}
use Rattle.stage.specs.declared.Place.TheVariants.{Normal, Train}
use Rattle.stage.specs.declared.Stage.{Stage}
use Rattle.stage.specs.declared.Stage.TheVariants.{TrackGreen, TrackYellow, TrackRed, Open, Ending, ClearanceGreen, AllRed}
use Rattle.stage.specs.declared.Then.{Then}
use Rattle.stage.specs.declared.Then.TheVariants.{ToTrack, ToPhase, ToAllRed}
use Rattle.stage.specs.Listed.{listed}

-- a phase that may start in the place: a listed one in normal operation, a named one in dwell
unfoldable pub may_start : Sheet → Place → ℕ → Bool
may_start s Normal n = listed s n
may_start s Train n = named s n

-- in phase m: 0, or another phase that may start there
unfoldable pub allowed_in : Sheet → Place → ℕ → ℕ → Bool
allowed_in s p m n = pick (eqb n m) false (pick (eqb n 0) true (may_start s p n))

unfoldable pub allowed_at : Sheet → Stage → ℕ → Bool
allowed_at s TrackGreen n = may_start s Normal n
allowed_at s (TrackYellow p z k) n = false
allowed_at s (TrackRed p z k) n = false
allowed_at s (Open p m g w) n = allowed_in s p m n
allowed_at s (Ending p m z l w) n = false
allowed_at s (ClearanceGreen k) n = false
allowed_at s AllRed n = may_start s Train n

unfoldable pub allowed : Sheet → Stage → Command → Bool
allowed s st None = true
allowed s st (End n) = allowed_at s st n

-- what follows where the command's number is 0: "0 (track)", in dwell "0 for all red"
unfoldable pub home : Place → Then
home Normal = ToTrack
home Train = ToAllRed

-- what follows, by a command's number
unfoldable pub next : Place → ℕ → Then
next p n = pick (eqb n 0) (home p) (ToPhase n)

-- a phase is asked to end
abbrev pub asked : Place → ℕ → Then → ℕ → ℕ → Stage
asked p m z g w = Ending p m z (Green g) (Walk w)

-- what an end that is allowed makes of the stage: from all red the phase starts at once
unfoldable pub ended : ℕ → Stage → Stage
ended n TrackGreen = TrackYellow Normal (ToPhase n) 0
ended n (TrackYellow p z k) = TrackYellow p z k
ended n (TrackRed p z k) = TrackRed p z k
ended n (Open p m g w) = asked p m (next p n) g w
ended n (Ending p m z l w) = Ending p m z l w
ended n (ClearanceGreen k) = ClearanceGreen k
ended n AllRed = Open Train n 0 0

unfoldable pub obeyed : Stage → Command → Stage
obeyed st None = st
obeyed st (End n) = ended n st
