-- Which stage is shown.
use Rattle.std.specs.Prelude.{ℕ, Bool, true, false, eqb}
use Rattle.units.specs.Numbers.{both}
use Rattle.stage.specs.declared.Stage.{Stage}
use Rattle.stage.specs.declared.Stage.TheVariants.{TrackGreen, TrackYellow, TrackRed, Open, Ending, ClearanceGreen, AllRed}
use Rattle.stage.specs.declared.Place.{Place}
use Rattle.stage.specs.declared.Place.TheVariants.{Normal, Train}
use Rattle.stage.specs.declared.Then.{Then}
use Rattle.stage.specs.declared.Then.TheVariants.{ToTrack, ToPhase, ToClearance, ToAllRed, ToDwell}

-- what follows is normal operation still: not the track clearance green that is owed once the transfer has begun, nor dwell
unfoldable pub stays_normal : Then → Bool
stays_normal ToTrack = true
stays_normal (ToPhase n) = true
stays_normal ToClearance = false
stays_normal ToAllRed = false
stays_normal ToDwell = false

unfoldable pub is_normal : Place → Bool
is_normal Normal = true
is_normal Train = false

unfoldable pub normal_before : Place → Then → Bool
normal_before p z = both (is_normal p) (stays_normal z)

-- "In normal operation the unit shows track green, track yellow, track red, or a phase": until the transfer begins
unfoldable pub in_normal : Stage → Bool
in_normal TrackGreen = true
in_normal (TrackYellow p z k) = normal_before p z
in_normal (TrackRed p z k) = normal_before p z
in_normal (Open p n g w) = is_normal p
in_normal (Ending p n z l w) = normal_before p z
in_normal (ClearanceGreen k) = false
in_normal AllRed = false

-- "normal track green with the call count at 0", where alone the loader takes a sheet
unfoldable pub resting : Stage → ℕ → Bool
resting TrackGreen count = eqb count 0
resting (TrackYellow p z k) count = false
resting (TrackRed p z k) count = false
resting (Open p n g w) count = false
resting (Ending p n z l w) count = false
resting (ClearanceGreen k) count = false
resting AllRed count = false
