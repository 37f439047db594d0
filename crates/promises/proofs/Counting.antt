-- While a call is counted the unit stays in normal operation: each step of the tick does. Assumes nothing.
use Prim.Native.Nat.{ℕ, ◌+◌, ◌<◌}
use mathlib.Core.Bool.{Bool, true, false}
use mathlib.Core.Path.{◌≡◌, refl, sym, ap, ◌∙◌}
use native.Mathlib.Omega.{arith}
use lib.Dec.{leb, eqb}
use borrow.Author.Tests.{ne_eqb}
use Rattle.units.specs.Numbers.{pick}
use Rattle.units.proofs.Steps.{cases, never, both_left, both_right}
use Rattle.sheet.specs.declared.Sheet.{Sheet}
use Rattle.std.specs.Prelude.{Some, None}
use Rattle.phase.specs.Ending.{Settled, settle_phase}
use Rattle.stage.specs.declared.Command.{Command}
use Rattle.stage.specs.declared.Command.TheVariants.{None as NoCommand, End}
use Rattle.stage.specs.declared.Lengths.{Lengths}
use Rattle.stage.specs.declared.Place.{Place}
use Rattle.stage.specs.declared.Place.TheVariants.{Normal, Train}
use Rattle.stage.specs.declared.Stage.{Stage}
use Rattle.stage.specs.declared.Stage.TheVariants.{TrackGreen, TrackYellow, TrackRed, Open, Ending, ClearanceGreen, AllRed}
use Rattle.stage.specs.declared.Then.{Then}
use Rattle.stage.specs.declared.Then.TheVariants.{ToTrack, ToPhase, ToClearance, ToAllRed, ToDwell}
use Rattle.stage.specs.Commands.{home, next, ended, obeyed}
use Rattle.stage.specs.Listed.{phase_of}
use Rattle.stage.specs.Shown.{in_normal, is_normal, normal_before, stays_normal}
use Rattle.stage.specs.Times.{add_one}
use Rattle.flow.specs.declared.Now.{Now}
use Rattle.flow.specs.Calls.{counting, answered, becomes, begins, called, overdue}
use Rattle.flow.specs.Settling.{enter, settle_red, settle_yellow, settled_as, settle}
use Rattle.flow.specs.Tick.{heard, after_times, after_command, end_of}
use Rattle.flow.proofs.Transfer.{normal_added}

abbrev Normally : Stage → Type 0
Normally st = in_normal st ≡ true

-- ---- settling
module _ (t : Lengths) (s : Sheet) (call : Bool) where
  enter_normal : (p : Place) (z : Then) → normal_before p z ≡ true → Normally (enter call p z)
  unfolding enter in_normal normal_before stays_normal
  enter_normal p ToTrack e = refl
  enter_normal p (ToPhase n) e = both_left (is_normal p) _ e
  enter_normal p ToClearance e = never (both_right (is_normal p) _ e)
  enter_normal p ToAllRed e = never (both_right (is_normal p) _ e)
  enter_normal p ToDwell e = never (both_right (is_normal p) _ e)

  red_normal : (p : Place) (z : Then) (k : ℕ) → normal_before p z ≡ true → Normally (settle_red t call p z k)
  unfolding settle_red in_normal
  red_normal p z k e =
      cases Normally (leb t.track_red k) (enter call p z) (TrackRed p z k) (λ b. enter_normal p z e) (λ b. e)

  yellow_normal : (p : Place) (z : Then) (k : ℕ) → normal_before p z ≡ true → Normally (settle_yellow t call p z k)
  unfolding settle_yellow in_normal
  yellow_normal p z k e =
      cases Normally (leb t.track_yellow k) (settle_red t call p z 0) (TrackYellow p z k) (λ b. red_normal p z 0 e) (λ b. e)

  settled_normal : (p : Place) (n : ℕ) (z : Then) (x : Settled) → normal_before p z ≡ true → Normally (settled_as call p n z x)
  unfolding settled_as in_normal
  settled_normal p n z (Some (l, w)) e = e
  settled_normal p n z None e = enter_normal p z e

  settle_normal : (st : Stage) → Normally st → Normally (settle t s call st)
  unfolding settle in_normal
  settle_normal TrackGreen e = e
  settle_normal (TrackYellow p z k) e = yellow_normal p z k e
  settle_normal (TrackRed p z k) e = red_normal p z k e
  settle_normal (Open p n g w) e = e
  settle_normal (Ending p n z l w) e = settled_normal p n z (settle_phase (phase_of s n) l w) e
  settle_normal (ClearanceGreen k) e = never e
  settle_normal AllRed e = e

-- ---- the command
next_normal : (p : Place) (n : ℕ) → is_normal p ≡ true → normal_before p (next p n) ≡ true
unfolding normal_before is_normal next home stays_normal pick
next_normal Normal n e = cases (λ (z : Then). stays_normal z ≡ true) (eqb n 0) ToTrack (ToPhase n) (λ e. refl) (λ e. refl)
next_normal Train n e = never e

ended_normal : (n : ℕ) (st : Stage) → Normally st → Normally (ended n st)
unfolding ended in_normal normal_before is_normal stays_normal pick
ended_normal n TrackGreen e = refl
ended_normal n (TrackYellow p z k) e = e
ended_normal n (TrackRed p z k) e = e
ended_normal n (Open p m g w) e = next_normal p n e
ended_normal n (Ending p m z l w) e = e
ended_normal n (ClearanceGreen k) e = e
ended_normal n AllRed e = never e

obeyed_normal : (st : Stage) (c : Command) → Normally st → Normally (obeyed st c)
unfolding obeyed
obeyed_normal st NoCommand e = e
obeyed_normal st (End n) e = ended_normal n st e

-- ---- a tick that does not bring the count to line 3
module _ (t : Lengths) (s : Sheet) (x : Now) (c : Command) (normal : Normally x.stage) (less : x.count < t.l03) where
  pub counts : counting t x ≡ true
  unfolding counting pick
  counts = rw (ne_eqb x.count t.l03 (λ e. omega arith)) normal

  not_overdue : (st : Stage) → overdue t x.count st ≡ st
  unfolding overdue pick
  not_overdue st = rw (ne_eqb x.count t.l03 (λ e. omega arith)) refl

  first_normal : (call : Bool) → Normally (after_times t s call x)
  first_normal call =
      settle_normal t s call _ (ap in_normal (not_overdue (add_one t s x.stage)) ∙ normal_added t s x.stage ∙ normal)

  second_normal : (call : Bool) → Normally (after_command t s c call (after_times t s call x))
  second_normal call = settle_normal t s call _ (obeyed_normal (after_times t s call x) (heard s (after_times t s call x) c) (first_normal call))

  still_on : (counted : Bool) (st : Stage) → (x.count + 1 ≡ t.l03 → ⊥) → called t true counted x.count st ≡ st
  unfolding called begins becomes pick
  still_on true st n = rw (ne_eqb (x.count + 1) t.l03 n) refl
  still_on false st n = refl

  pub normal_tick : (x.count + 1 ≡ t.l03 → ⊥) → Normally (end_of t s c true x)
  normal_tick n =
      settle_normal t s true _ (ap in_normal (still_on (counting t x) (after_command t s c true (after_times t s true x)) n) ∙ second_normal true)
