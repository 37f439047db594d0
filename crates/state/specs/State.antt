-- A stage as plain numbers. What a stage does not have is 0; read back, a number beyond the last that is named is taken for the last.
use Rattle.std.specs.Prelude.{ℕ, eqb}
use Rattle.units.specs.Numbers.{pick}
use Rattle.phase.specs.declared.Light.{Light}
use Rattle.phase.specs.declared.Light.TheVariants.{Green, Yellow, Red}
use Rattle.phase.specs.declared.Walker.{Walker}
use Rattle.phase.specs.declared.Walker.TheVariants.{Walk, Clearance}
use Rattle.stage.specs.declared.Place.{Place}
use Rattle.stage.specs.declared.Place.TheVariants.{Normal, Train}
use Rattle.stage.specs.declared.Stage.{Stage}
use Rattle.stage.specs.declared.Stage.TheVariants.{TrackGreen, TrackYellow, TrackRed, Open, Ending, ClearanceGreen, AllRed}
use Rattle.stage.specs.declared.Then.{Then}
use Rattle.stage.specs.declared.Then.TheVariants.{ToTrack, ToPhase, ToClearance, ToAllRed, ToDwell}
use Rattle.state.specs.declared.State.{State}

unfoldable pub place_number : Place → ℕ
place_number Normal = 0
place_number Train = 1

unfoldable pub then_number : Then → ℕ
then_number ToTrack = 0
then_number (ToPhase n) = 1
then_number ToClearance = 2
then_number ToAllRed = 4
then_number ToDwell = 3

unfoldable pub next_number : Then → ℕ
next_number ToTrack = 0
next_number (ToPhase n) = n
next_number ToClearance = 0
next_number ToAllRed = 0
next_number ToDwell = 0

unfoldable pub light_number : Light → ℕ
light_number (Green k) = 0
light_number (Yellow k) = 1
light_number (Red k) = 2

unfoldable pub light_time : Light → ℕ
light_time (Green k) = k
light_time (Yellow k) = k
light_time (Red k) = k

unfoldable pub walker_number : Walker → ℕ
walker_number (Walk k) = 0
walker_number (Clearance k) = 1

unfoldable pub walker_time : Walker → ℕ
walker_time (Walk k) = k
walker_time (Clearance k) = k

-- a stage without a phase
abbrev pub track : ℕ → Place → Then → ℕ → State
track kind p z k =
    record {
      kind = kind;
      place = place_number p;
      follows = then_number z;
      next = next_number z;
      phase = 0;
      light = 0;
      spent = k;
      walker = 0;
      walked = 0;
    }

abbrev pub in_phase : ℕ → Place → ℕ → Then → Light → Walker → State
in_phase kind p n z l w =
    record {
      kind = kind;
      place = place_number p;
      follows = then_number z;
      next = next_number z;
      phase = n;
      light = light_number l;
      spent = light_time l;
      walker = walker_number w;
      walked = walker_time w;
    }

unfoldable pub numbers_of : Stage → State
numbers_of TrackGreen = track 0 Normal ToTrack 0
numbers_of (TrackYellow p z k) = track 1 p z k
numbers_of (TrackRed p z k) = track 2 p z k
numbers_of (Open p n g w) = in_phase 3 p n ToTrack (Green g) (Walk w)
numbers_of (Ending p n z l w) = in_phase 4 p n z l w
numbers_of (ClearanceGreen k) = track 5 Normal ToTrack k
numbers_of AllRed = track 6 Normal ToTrack 0

unfoldable pub place_of : ℕ → Place
place_of n = pick (eqb n 0) Normal Train

unfoldable pub then_of : ℕ → ℕ → Then
then_of n next = pick (eqb n 0) ToTrack (pick (eqb n 1) (ToPhase next) (pick (eqb n 2) ToClearance (pick (eqb n 3) ToDwell ToAllRed)))

unfoldable pub light_of : ℕ → ℕ → Light
light_of n k = pick (eqb n 0) (Green k) (pick (eqb n 1) (Yellow k) (Red k))

unfoldable pub walker_of : ℕ → ℕ → Walker
walker_of n k = pick (eqb n 0) (Walk k) (Clearance k)

-- what follows, and the whole stage
abbrev pub follows : State → Then
follows n = then_of n.follows n.next

unfoldable pub stage_of : State → Stage
stage_of n =
    pick (eqb n.kind 0) TrackGreen
    (pick (eqb n.kind 1) (TrackYellow (place_of n.place) (follows n) n.spent)
    (pick (eqb n.kind 2) (TrackRed (place_of n.place) (follows n) n.spent)
    (pick (eqb n.kind 3) (Open (place_of n.place) n.phase n.spent n.walked)
    (pick (eqb n.kind 4) (Ending (place_of n.place) n.phase (follows n) (light_of n.light n.spent) (walker_of n.walker n.walked))
    (pick (eqb n.kind 5) (ClearanceGreen n.spent) AllRed)))))
