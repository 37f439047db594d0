-- "Stage changes then due are made at once .., intervals of length 0 included": what follows a stage where its change is due, just entered, else
-- the stage as it is. Line 51 is above 0 on every accepted sheet, so clearance green just entered is not over. `call` is the call on this tick.
use Rattle.std.specs.Prelude.{ℕ, Bool, Some, None}
use Rattle.units.specs.Numbers.{pick}
use Rattle.sheet.specs.declared.Sheet.{Sheet}
use Rattle.phase.specs.declared.Light.{Light}
use Rattle.phase.specs.declared.Walker.{Walker}
use Rattle.phase.specs.Times.{served}
use Rattle.phase.specs.Ending.{Settled, settle_phase}
use Rattle.stage.specs.declared.Lengths.{Lengths}
use Rattle.stage.specs.declared.Place.{Place}
use Rattle.stage.specs.declared.Place.TheVariants.{Train}
use Rattle.stage.specs.declared.Stage.{Stage}
use Rattle.stage.specs.declared.Stage.TheVariants.{TrackGreen, TrackYellow, TrackRed, Open, Ending, ClearanceGreen, AllRed}
use Rattle.stage.specs.declared.Then.{Then}
use Rattle.stage.specs.declared.Then.TheVariants.{ToTrack, ToPhase, ToClearance, ToAllRed, ToDwell}
use Rattle.stage.specs.Listed.{phase_of}

-- what follows: "then phase n", in the place of what was before it; "when the phase or the track red is over, track clearance green starts"; "0 for
-- all red"; "then dwell if the call is on, else track green in normal operation", where "Dwell starts in all red"
unfoldable pub enter : Bool → Place → Then → Stage
enter call p ToTrack = TrackGreen
enter call p (ToPhase n) = Open p n 0 0
enter call p ToClearance = ClearanceGreen 0
enter call p ToAllRed = AllRed
enter call p ToDwell = pick call AllRed TrackGreen

unfoldable pub settle_red : Lengths → Bool → Place → Then → ℕ → Stage
settle_red t call p z k = pick (served t.track_red k) (enter call p z) (TrackRed p z k)

unfoldable pub settle_yellow : Lengths → Bool → Place → Then → ℕ → Stage
settle_yellow t call p z k = pick (served t.track_yellow k) (settle_red t call p z 0) (TrackYellow p z k)

-- track clearance green "lasts line 51 ticks, then track yellow and red, then dwell if the call is on"
unfoldable pub settle_green : Lengths → Bool → ℕ → Stage
settle_green t call k = pick (served t.l51 k) (settle_yellow t call Train ToDwell 0) (ClearanceGreen k)

-- a phase that was asked to end
unfoldable pub settled_as : Bool → Place → ℕ → Then → Settled → Stage
settled_as call p n z (Some (l, w)) = Ending p n z l w
settled_as call p n z None = enter call p z

abbrev pub settle_ending : Sheet → Bool → Place → ℕ → Then → Light → Walker → Stage
settle_ending s call p n z l w = settled_as call p n z (settle_phase (phase_of s n) l w)

unfoldable pub settle : Lengths → Sheet → Bool → Stage → Stage
settle t s call TrackGreen = TrackGreen
settle t s call (TrackYellow p z k) = settle_yellow t call p z k
settle t s call (TrackRed p z k) = settle_red t call p z k
settle t s call (Open p n g w) = Open p n g w
settle t s call (Ending p n z l w) = settle_ending s call p n z l w
settle t s call (ClearanceGreen k) = settle_green t call k
settle t s call AllRed = AllRed
