-- Settling leaves no change due, and twice is once: test by test, each leaf a stage just entered or one whose test failed. Assumes nothing.
use Prim.Native.Nat.{ℕ, ◌<◌}
use mathlib.Core.Bool.{Bool}
use mathlib.Core.Path.{◌≡◌, refl}
use lib.Dec.{leb}
use borrow.Author.Tests.{leb-false, lt-leb}
use Rattle.units.specs.Numbers.{pick}
use Rattle.units.proofs.Steps.{cases}
use Rattle.sheet.specs.declared.Sheet.{Sheet}
use Rattle.std.specs.Prelude.{Some, None}
use Rattle.phase.specs.Ending.{Settled, settle_phase}
use Rattle.phase.specs.Promises as phases
use Rattle.phase.proofs.Rest as phase_rest
use Rattle.stage.specs.declared.Lengths.{Lengths}
use Rattle.stage.specs.declared.Place.{Place}
use Rattle.stage.specs.declared.Place.TheVariants.{Train}
use Rattle.stage.specs.declared.Stage.{Stage}
use Rattle.stage.specs.declared.Stage.TheVariants.{TrackGreen, TrackYellow, TrackRed, Open, Ending, ClearanceGreen, AllRed}
use Rattle.stage.specs.declared.Then.{Then}
use Rattle.stage.specs.declared.Then.TheVariants.{ToTrack, ToPhase, ToClearance, ToAllRed, ToDwell}
use Rattle.stage.specs.Listed.{phase_of}
use Rattle.flow.specs.Settling.{enter, settle_red, settle_yellow, settle_green, settled_as, settle}
use Rattle.flow.specs.Promises.{Rests, NothingDue, TwiceIsOnce, EndsAtRest}

module _ (t : Lengths) (s : Sheet) (call : Bool) (lasts : 0 < t.l51) where
  enter_rests : (p : Place) (z : Then) → Rests t s (enter call p z)
  unfolding enter
  enter_rests p ToTrack = tt
  enter_rests p (ToPhase n) = tt
  enter_rests p ToClearance = lasts
  enter_rests p ToAllRed = tt
  enter_rests p ToDwell = cases (Rests t s) call _ _ (λ e. tt) (λ e. tt)

  red_rests : (p : Place) (z : Then) (k : ℕ) → Rests t s (settle_red t call p z k)
  unfolding settle_red
  red_rests p z k =
      cases (Rests t s) (leb t.track_red k) (enter call p z) (TrackRed p z k) (λ e. enter_rests p z) (λ e. leb-false t.track_red k e)

  yellow_rests : (p : Place) (z : Then) (k : ℕ) → Rests t s (settle_yellow t call p z k)
  unfolding settle_yellow
  yellow_rests p z k =
      cases (Rests t s) (leb t.track_yellow k) (settle_red t call p z 0) (TrackYellow p z k)
      (λ e. red_rests p z 0) (λ e. leb-false t.track_yellow k e)

  green_rests : (k : ℕ) → Rests t s (settle_green t call k)
  unfolding settle_green
  green_rests k =
      cases (Rests t s) (leb t.l51 k) (settle_yellow t call Train ToDwell 0) (ClearanceGreen k)
      (λ e. yellow_rests Train ToDwell 0) (λ e. leb-false t.l51 k e)

  settled_rests : (p : Place) (n : ℕ) (z : Then) (x : Settled) → phases.Rests (phase_of s n) x → Rests t s (settled_as call p n z x)
  unfolding settled_as
  settled_rests p n z (Some (l, w)) r = r
  settled_rests p n z None r = enter_rests p z

  settle_rests : (st : Stage) → Rests t s (settle t s call st)
  unfolding settle
  settle_rests TrackGreen = tt
  settle_rests (TrackYellow p z k) = yellow_rests p z k
  settle_rests (TrackRed p z k) = red_rests p z k
  settle_rests (Open p n g w) = tt
  settle_rests (Ending p n z l w) = settled_rests p n z (settle_phase (phase_of s n) l w) (phase_rest.nothing_due (phase_of s n) l w)
  settle_rests (ClearanceGreen k) = green_rests k
  settle_rests AllRed = tt

-- what is at rest settles to itself
module _ (t : Lengths) (s : Sheet) (call : Bool) where
  settled_kept : (p : Place) (n : ℕ) (z : Then) (x : Settled) (st : Stage) → settled_as call p n z x ≡ st → (y : Settled) → y ≡ x → settled_as call p n z y ≡ st
  settled_kept p n z x st e y d = rw d e

  pub kept : (st : Stage) → Rests t s st → settle t s call st ≡ st
  unfolding settle settle_red settle_yellow settle_green settled_as pick
  kept TrackGreen r = refl
  kept (TrackYellow p z k) r = rw (lt-leb t.track_yellow k r) refl
  kept (TrackRed p z k) r = rw (lt-leb t.track_red k r) refl
  kept (Open p n g w) r = refl
  kept (Ending p n z l w) r =
      settled_kept p n z (Some (l, w)) (Ending p n z l w) refl (settle_phase (phase_of s n) l w) (phase_rest.kept (phase_of s n) (Some (l, w)) r)
  kept (ClearanceGreen k) r = rw (lt-leb t.l51 k r) refl
  kept AllRed r = refl

pub nothing_due : NothingDue
nothing_due t s call st lasts = settle_rests t s call lasts st

pub twice_is_once : TwiceIsOnce
twice_is_once t s call again st lasts = kept t s again (settle t s call st) (nothing_due t s call st lasts)

pub ends_at_rest : EndsAtRest
ends_at_rest t s now c call lasts = search nothing_due
