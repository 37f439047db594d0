-- Past the transfer: while the call stays on, the unit does not come back to normal operation, and unless clearance green is owed or shows it is not
-- owed again. Assumes nothing.
use Prim.Native.Nat.{ℕ}
use mathlib.Core.Bool.{true, false}
use mathlib.Core.Path.{◌≡◌, refl}
use lib.Dec.{leb, eqb}
use Rattle.units.specs.Numbers.{pick}
use Rattle.units.proofs.Steps.{cases}
use Rattle.sheet.specs.declared.Sheet.{Sheet}
use Rattle.std.specs.Prelude.{Some, None}
use Rattle.phase.specs.Ending.{Settled, settle_phase}
use Rattle.stage.specs.declared.Command.{Command}
use Rattle.stage.specs.declared.Lengths.{Lengths}
use Rattle.stage.specs.declared.Place.{Place}
use Rattle.stage.specs.declared.Place.TheVariants.{Normal, Train}
use Rattle.stage.specs.declared.Stage.{Stage}
use Rattle.stage.specs.declared.Stage.TheVariants.{TrackGreen, TrackYellow, TrackRed, Open, Ending, ClearanceGreen, AllRed}
use Rattle.stage.specs.declared.Then.{Then}
use Rattle.stage.specs.declared.Then.TheVariants.{ToTrack, ToPhase, ToClearance, ToAllRed, ToDwell}
use Rattle.stage.specs.Commands.{home, next, ended}
use Rattle.stage.specs.Listed.{phase_of}
use Rattle.stage.specs.Shown.{in_normal, is_normal, normal_before, stays_normal}
use Rattle.stage.specs.Times.{add_one}
use Rattle.flow.specs.declared.Now.{Now}
use Rattle.flow.specs.Settling.{enter, settle_red, settle_yellow, settle_green, settled_as, settle}
use Rattle.flow.specs.Tick.{after_times, end_of}
use Rattle.flow.proofs.Steps.{first_keeps, second_keeps, third_keeps}

-- `Owes` says whether clearance green may be owed or show
abbrev pub PastThen : Type 0 → Then → Place → Type 0
PastThen Owes ToTrack p = ⊥
PastThen Owes (ToPhase n) Normal = ⊥
PastThen Owes (ToPhase n) Train = Unit {0}
PastThen Owes ToClearance p = Owes
PastThen Owes ToAllRed p = Unit {0}
PastThen Owes ToDwell p = Unit {0}

abbrev pub Past : Type 0 → Stage → Type 0
Past Owes TrackGreen = ⊥
Past Owes (TrackYellow p z k) = PastThen Owes z p
Past Owes (TrackRed p z k) = PastThen Owes z p
Past Owes (Open Normal n g w) = ⊥
Past Owes (Open Train n g w) = Unit {0}
Past Owes (Ending p n z l w) = PastThen Owes z p
Past Owes (ClearanceGreen k) = Owes
Past Owes AllRed = Unit {0}

module _ (Owes : Type 0) where
  then_is_not : (z : Then) (p : Place) → PastThen Owes z p → normal_before p z ≡ false
  unfolding normal_before is_normal stays_normal pick
  then_is_not ToTrack p h = absurd h
  then_is_not (ToPhase n) Normal h = absurd h
  then_is_not (ToPhase n) Train h = refl
  then_is_not ToClearance Normal h = refl
  then_is_not ToClearance Train h = refl
  then_is_not ToAllRed Normal h = refl
  then_is_not ToAllRed Train h = refl
  then_is_not ToDwell Normal h = refl
  then_is_not ToDwell Train h = refl

  pub past_is_not : (st : Stage) → Past Owes st → in_normal st ≡ false
  unfolding in_normal is_normal
  past_is_not TrackGreen h = absurd h
  past_is_not (TrackYellow p z k) h = then_is_not z p h
  past_is_not (TrackRed p z k) h = then_is_not z p h
  past_is_not (Open Normal n g w) h = absurd h
  past_is_not (Open Train n g w) h = refl
  past_is_not (Ending p n z l w) h = then_is_not z p h
  past_is_not (ClearanceGreen k) h = refl
  past_is_not AllRed h = refl

  module _ (t : Lengths) (s : Sheet) where
    added : (st : Stage) → Past Owes st → Past Owes (add_one t s st)
    unfolding add_one
    added TrackGreen h = h
    added (TrackYellow p z k) h = h
    added (TrackRed p z k) h = h
    added (Open Normal n g w) h = h
    added (Open Train n g w) h = h
    added (Ending p n z l w) h = h
    added (ClearanceGreen k) h = h
    added AllRed h = h

    -- ---- settling, with the call on
    entered : (z : Then) (p : Place) → PastThen Owes z p → Past Owes (enter true p z)
    unfolding enter pick
    entered ToTrack p h = absurd h
    entered (ToPhase n) Normal h = absurd h
    entered (ToPhase n) Train h = tt
    entered ToClearance p h = h
    entered ToAllRed p h = tt
    entered ToDwell p h = tt

    red : (p : Place) (z : Then) (k : ℕ) → PastThen Owes z p → Past Owes (settle_red t true p z k)
    unfolding settle_red
    red p z k h = cases (Past Owes) (leb t.track_red k) (enter true p z) (TrackRed p z k) (λ b. entered z p h) (λ b. h)

    yellow : (p : Place) (z : Then) (k : ℕ) → PastThen Owes z p → Past Owes (settle_yellow t true p z k)
    unfolding settle_yellow
    yellow p z k h =
        cases (Past Owes) (leb t.track_yellow k) (settle_red t true p z 0) (TrackYellow p z k) (λ b. red p z 0 h) (λ b. h)

    -- the yellow that follows clearance green
    pub after_green_lem : Past Owes (settle_yellow t true Train ToDwell 0)
    after_green_lem = yellow Train ToDwell 0 tt

    green : (k : ℕ) → Owes → Past Owes (settle_green t true k)
    unfolding settle_green
    green k h = cases (Past Owes) (leb t.l51 k) (settle_yellow t true Train ToDwell 0) (ClearanceGreen k) (λ b. after_green_lem) (λ b. h)

    ending : (p : Place) (n : ℕ) (z : Then) (y : Settled) → PastThen Owes z p → Past Owes (settled_as true p n z y)
    unfolding settled_as
    ending p n z (Some (l, w)) h = h
    ending p n z None h = entered z p h

    settled : (st : Stage) → Past Owes st → Past Owes (settle t s true st)
    unfolding settle
    settled TrackGreen h = h
    settled (TrackYellow p z k) h = yellow p z k h
    settled (TrackRed p z k) h = red p z k h
    settled (Open p n g w) h = h
    settled (Ending p n z l w) h = ending p n z (settle_phase (phase_of s n) l w) h
    settled (ClearanceGreen k) h = green k h
    settled AllRed h = h

  -- ---- the command
  next_past : (n : ℕ) → PastThen Owes (next Train n) Train
  unfolding next home
  next_past n = cases (λ (z : Then). PastThen Owes z Train) (eqb n 0) ToAllRed (ToPhase n) (λ e. tt) (λ e. tt)

  obeys : (st : Stage) (n : ℕ) → Past Owes st → Past Owes (ended n st)
  unfolding ended
  obeys TrackGreen n h = absurd h
  obeys (TrackYellow p z k) n h = h
  obeys (TrackRed p z k) n h = h
  obeys (Open Normal m g w) n h = absurd h
  obeys (Open Train m g w) n h = next_past n
  obeys (Ending p m z l w) n h = h
  obeys (ClearanceGreen k) n h = h
  obeys AllRed n h = tt

  -- ---- the tick: from what the times make due on, and the whole
  module _ (t : Lengths) (s : Sheet) (c : Command) (x : Now) (away : in_normal x.stage ≡ false) where
    pub past_from : Past Owes (after_times t s true x) → Past Owes (end_of t s c true x)
    past_from h =
        third_keeps (Past Owes) t s (settled t s) x away _
        (second_keeps (Past Owes) t s true (settled t s) (λ st n e i. obeys st n i) c (after_times t s true x) h)

  pub past_tick : (t : Lengths) (s : Sheet) (c : Command) (x : Now) → Past Owes x.stage → Past Owes (end_of t s c true x)
  past_tick t s c x h =
      let away = past_is_not x.stage h in
      past_from t s c x away
      (first_keeps (Past Owes) t s true (settled t s) (λ st n e i. obeys st n i) x away (added t s x.stage h))
