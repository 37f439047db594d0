-- Side streets during dwell, worked: a sheet with phases 2, 4 and 6 that names the first two, run from dwell's all red. Phase 4 is that of the paper's
-- sheet: asked to end as it begins it is over with tick 225.
use Rattle.std.specs.Prelude.{ℕ, Bool, true, false, List, [], ◌∷◌, ◌++◌, ◌≡◌, pos, replicate}
use Rattle.sheet.specs.declared.Phase.{Phase}
use Rattle.sheet.specs.declared.Sheet.{Sheet}
use Rattle.sheet.specs.declared.Vehicle.TheVariants.{Car}
use Rattle.sheet.specs.Zero.{zero_phase, zero_point}
use Rattle.phase.specs.declared.Light.TheVariants.{Green, Yellow, Red}
use Rattle.phase.specs.declared.Walker.TheVariants.{Walk, Clearance}
use Rattle.stage.specs.declared.Command.{Command}
use Rattle.stage.specs.declared.Command.TheVariants.{None, End}
use Rattle.stage.specs.declared.Lengths.{Lengths}
use Rattle.stage.specs.declared.Place.TheVariants.{Train}
use Rattle.stage.specs.declared.Stage.TheVariants.{TrackGreen, Open, Ending, AllRed}
use Rattle.stage.specs.declared.Then.TheVariants.{ToTrack, ToPhase, ToAllRed}
use Rattle.flow.specs.declared.Now.{Now}
use Rattle.flow.specs.Promises.{now}
use Rattle.flow.specs.Tick.{ticked}

abbrev phase : ℕ → ℕ → ℕ → ℕ → ℕ → ℕ → ℕ → ℕ → Phase
phase n g o y r w c m = record { number = n; green = g; other = o; yellow = y; red = r; walk = w; clearance = c; mode = m }

-- what a tick looks at of a sheet; all else is 0
unfoldable pub side_streets : Sheet
side_streets =
    record {
      issue = 0;
      vehicle = Car;
      grade = pos 0;
      grade2 = pos 0;
      l01 = 0;
      l02 = 0;
      phase_count = 3;
      phases = phase 2 50 0 40 15 0 0 0 ∷ phase 4 40 0 35 20 70 100 1 ∷ phase 6 50 0 40 15 0 0 0 ∷ replicate 5 zero_phase;
      track_yellow = 40;
      track_red = 20;
      dwell_count = 2;
      dwell = 2 ∷ 4 ∷ replicate 6 0;
      l18 = 0;
      l19 = 0;
      l20 = 0;
      l28 = 0;
      l30 = 0;
      l31 = 0;
      l33 = 0;
      l37 = 0;
      l39 = 0;
      l47 = 0;
      l56 = 0;
      l57 = 0;
      l58 = 0;
      point_count = 0;
      points = replicate 16 zero_point;
    }

abbrev pub lengths : Lengths
lengths = record { l03 = 2; l51 = 490; track_yellow = 40; track_red = 20 }

-- the command and the call of a tick
pub record Turn : Type 0 where
  pub command : Command
  pub call : Bool

abbrev pub turn : Command → Bool → Turn
turn c call = record { command = c; call = call }

abbrev pub on : ℕ → List Turn
on n = replicate n (turn None true)

abbrev pub off : ℕ → List Turn
off n = replicate n (turn None false)

unfoldable pub ran : Now → List Turn → Now
ran x [] = x
ran x (k ∷ ks) = ran (ticked lengths side_streets x k.command k.call).now ks

-- from all red, with the count at line 3, as where dwell begins
abbrev pub after : List Turn → Now
after ks = ran (now AllRed 2) ks

abbrev pub starts_four : List Turn
starts_four = turn (End 4) true ∷ []

abbrev pub RefusesIn : List Turn → ℕ → Type 0
RefusesIn ks n = (ticked lengths side_streets (after ks) (End n) true).allowed ≡ false

-- "There end, next n starts a named phase", at once; not 6, which is not named, and not 0
abbrev pub StartsNamed : Type 0
StartsNamed =
    (after starts_four ≡ now (Open Train 4 0 0) 2) × RefusesIn [] 6 × RefusesIn [] 0
    × (after (turn (End 6) true ∷ []) ≡ now AllRed 2)

-- "in a phase n is another named phase, or 0 for all red": from 4 by its yellow and red to 2, and from 2 to all red; not 6, not 4 again, nor twice
abbrev pub four_then_two : List Turn
four_then_two = starts_four ++ (turn (End 2) true ∷ [])

abbrev pub GoesOnToTwo : Type 0
GoesOnToTwo =
    RefusesIn starts_four 6 × RefusesIn starts_four 4 × RefusesIn four_then_two 0
    × (after (four_then_two ++ on 223) ≡ now (Ending Train 4 (ToPhase 2) (Red 19) (Clearance 100)) 2)
    × (after (four_then_two ++ on 224) ≡ now (Open Train 2 0 0) 2)
    × (after (four_then_two ++ on 224 ++ (turn (End 0) true ∷ on 103)) ≡ now (Ending Train 2 ToAllRed (Red 14) (Clearance 0)) 2)
    × (after (four_then_two ++ on 224 ++ (turn (End 0) true ∷ on 104)) ≡ now AllRed 2)

-- "When the call goes off, the running phase is ended by the ordinary rules before normal track green returns": green runs on, then yellow and red
abbrev pub starts_as_it_goes_off : List Turn
starts_as_it_goes_off = turn (End 4) false ∷ []

abbrev pub EndsByTheRules : Type 0
EndsByTheRules =
    (after starts_as_it_goes_off ≡ now (Ending Train 4 ToTrack (Green 0) (Walk 0)) 2)
    × (after (starts_as_it_goes_off ++ off 170) ≡ now (Ending Train 4 ToTrack (Yellow 0) (Clearance 100)) 2)
    × (after (starts_as_it_goes_off ++ off 224) ≡ now (Ending Train 4 ToTrack (Red 19) (Clearance 100)) 2)
    × (after (starts_as_it_goes_off ++ off 225) ≡ now TrackGreen 0)

-- what was next is dropped
abbrev pub NextIsDropped : Type 0
NextIsDropped =
    (after (four_then_two ++ off 1) ≡ now (Ending Train 4 ToTrack (Green 2) (Walk 2)) 2) × (after (four_then_two ++ off 224) ≡ now TrackGreen 0)

-- "a call back on meanwhile counts from the tick after that": not on the tick with which normal track green is back
abbrev pub CountsFromTheNext : Type 0
CountsFromTheNext =
    (after (starts_as_it_goes_off ++ on 224) ≡ now (Ending Train 4 ToTrack (Red 19) (Clearance 100)) 2)
    × (after (starts_as_it_goes_off ++ on 225) ≡ now TrackGreen 0) × (after (starts_as_it_goes_off ++ on 226) ≡ now TrackGreen 1)

-- a phase that is over on the tick on which the call goes off: the next is found started in the first step, and is asked to end in the third
abbrev pub OffAsItIsOver : Type 0
OffAsItIsOver = after (four_then_two ++ on 223 ++ off 1) ≡ now (Ending Train 2 ToTrack (Green 0) (Clearance 0)) 2
