-- The stage of a stage's numbers is that stage: part by part, each variant computed. Assumes nothing.
use mathlib.Core.Path.{◌≡◌, refl}
use Rattle.units.specs.Numbers.{pick}
use Rattle.phase.specs.declared.Light.{Light}
use Rattle.phase.specs.declared.Light.TheVariants.{Green, Yellow, Red}
use Rattle.phase.specs.declared.Walker.{Walker}
use Rattle.phase.specs.declared.Walker.TheVariants.{Walk, Clearance}
use Rattle.stage.specs.declared.Place.{Place}
use Rattle.stage.specs.declared.Place.TheVariants.{Normal, Train}
use Rattle.stage.specs.declared.Stage.TheVariants.{TrackGreen, TrackYellow, TrackRed, Open, Ending, ClearanceGreen, AllRed}
use Rattle.stage.specs.declared.Then.{Then}
use Rattle.stage.specs.declared.Then.TheVariants.{ToTrack, ToPhase, ToClearance, ToAllRed, ToDwell}
use Rattle.state.specs.State.{place_number, then_number, next_number, light_number, light_time, walker_number, walker_time, numbers_of, place_of, then_of, light_of, walker_of, stage_of}
use Rattle.state.specs.Promises.{NothingLost}

place_back : (p : Place) → place_of (place_number p) ≡ p
unfolding place_of place_number pick
place_back Normal = refl
place_back Train = refl

then_back : (z : Then) → then_of (then_number z) (next_number z) ≡ z
unfolding then_of then_number next_number pick
then_back ToTrack = refl
then_back (ToPhase n) = refl
then_back ToClearance = refl
then_back ToAllRed = refl
then_back ToDwell = refl

light_back : (l : Light) → light_of (light_number l) (light_time l) ≡ l
unfolding light_of light_number light_time pick
light_back (Green k) = refl
light_back (Yellow k) = refl
light_back (Red k) = refl

walker_back : (w : Walker) → walker_of (walker_number w) (walker_time w) ≡ w
unfolding walker_of walker_number walker_time pick
walker_back (Walk k) = refl
walker_back (Clearance k) = refl

pub nothing_lost : NothingLost
unfolding numbers_of stage_of light_time walker_time pick
nothing_lost TrackGreen = refl
nothing_lost (TrackYellow p z k) = rw (place_back p, then_back z) refl
nothing_lost (TrackRed p z k) = rw (place_back p, then_back z) refl
nothing_lost (Open p n g w) = rw (place_back p) refl
nothing_lost (Ending p n z l w) = rw (place_back p, then_back z, light_back l, walker_back w) refl
nothing_lost (ClearanceGreen k) = refl
nothing_lost AllRed = refl
