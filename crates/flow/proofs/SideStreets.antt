-- Dwell goes on while the call stays on, and ends when it goes off: through the three steps, stage by stage. Assumes nothing.
use Prim.Native.Nat.{ℕ, ◌<◌}
use mathlib.Core.Bool.{Bool, true, false}
use mathlib.Core.Logic.{◌⊎◌, inl, inr}
use mathlib.Core.Path.{◌≡◌, refl, sym, subst, ap, ◌∙◌}
use lib.Dec.{eqb}
use Rattle.units.specs.Numbers.{pick}
use Rattle.units.proofs.Steps.{cases}
use Rattle.sheet.specs.declared.Sheet.{Sheet}
use Rattle.sheet.specs.Entries.{named}
use Rattle.phase.specs.declared.Light.TheVariants.{Green}
use Rattle.phase.specs.declared.Walker.TheVariants.{Walk}
use Rattle.std.specs.Prelude.{Some, None}
use Rattle.phase.specs.Ending.{Settled, settle_phase}
use Rattle.stage.specs.declared.Command.{Command}
use Rattle.stage.specs.declared.Lengths.{Lengths}
use Rattle.stage.specs.declared.Place.TheVariants.{Normal, Train}
use Rattle.stage.specs.declared.Stage.{Stage}
use Rattle.stage.specs.declared.Stage.TheVariants.{TrackGreen, TrackYellow, TrackRed, Open, Ending, ClearanceGreen, AllRed}
use Rattle.stage.specs.declared.Then.{Then}
use Rattle.stage.specs.declared.Then.TheVariants.{ToTrack, ToPhase, ToClearance, ToAllRed, ToDwell}
use Rattle.stage.specs.Commands.{allowed_at, allowed, home, next, ended}
use Rattle.stage.specs.Listed.{phase_of}
use Rattle.stage.specs.Shown.{in_normal, is_normal, normal_before}
use Rattle.stage.specs.Times.{add_one}
use Rattle.stage.proofs.Named.{only_named_may_start}
use Rattle.flow.specs.declared.Now.{Now}
use Rattle.flow.specs.Calls.{counting, count_after, unless_owed, open_dropped, ending_dropped, dropped}
use Rattle.flow.specs.Settling.{enter, settled_as, settle}
use Rattle.flow.specs.Tick.{after_times, after_command, end_of, ticked}
use Rattle.flow.specs.Promises.{now, GoesOn, InDwell, DwellStays, NotNamedRefused, Leaving, OffLeaves}
use Rattle.flow.proofs.Steps.{uncounted, called_off, first_keeps, second_keeps, third_keeps}

pub dwell_is_not : (st : Stage) → InDwell st → in_normal st ≡ false
unfolding in_normal is_normal normal_before pick
dwell_is_not TrackGreen h = absurd h
dwell_is_not (TrackYellow p z k) h = absurd h
dwell_is_not (TrackRed p z k) h = absurd h
dwell_is_not (Open Normal n g w) h = absurd h
dwell_is_not (Open Train n g w) h = refl
dwell_is_not (Ending Normal n z l w) h = absurd h
dwell_is_not (Ending Train n z l w) h = refl
dwell_is_not (ClearanceGreen k) h = refl
dwell_is_not AllRed h = refl

module _ (t : Lengths) (s : Sheet) where
  added : (st : Stage) → InDwell st → InDwell (add_one t s st)
  unfolding add_one
  added TrackGreen h = h
  added (TrackYellow p z k) h = h
  added (TrackRed p z k) h = h
  added (Open Normal n g w) h = h
  added (Open Train n g w) h = h
  added (Ending Normal n z l w) h = h
  added (Ending Train n z l w) h = h
  added (ClearanceGreen k) h = h
  added AllRed h = h

  module _ (call : Bool) where
    entered : (z : Then) → GoesOn z → InDwell (enter call Train z)
    unfolding enter
    entered ToTrack h = absurd h
    entered (ToPhase m) h = tt
    entered ToClearance h = absurd h
    entered ToAllRed h = tt
    entered ToDwell h = absurd h

    over_or_not : (n : ℕ) (z : Then) (y : Settled) → GoesOn z → InDwell (settled_as call Train n z y)
    unfolding settled_as
    over_or_not n z (Some (l, w)) h = h
    over_or_not n z None h = entered z h

    settled : (st : Stage) → InDwell st → InDwell (settle t s call st)
    unfolding settle
    settled TrackGreen h = absurd h
    settled (TrackYellow p z k) h = absurd h
    settled (TrackRed p z k) h = absurd h
    settled (Open p n g w) h = h
    settled (Ending Normal n z l w) h = absurd h
    settled (Ending Train n z l w) h = over_or_not n z (settle_phase (phase_of s n) l w) h
    settled (ClearanceGreen k) h = absurd h
    settled AllRed h = tt

next_goes_on : (n : ℕ) → GoesOn (next Train n)
unfolding next home
next_goes_on n = cases GoesOn (eqb n 0) ToAllRed (ToPhase n) (λ e. tt) (λ e. tt)

obeys : (st : Stage) (n : ℕ) → InDwell st → InDwell (ended n st)
unfolding ended
obeys TrackGreen n h = absurd h
obeys (TrackYellow p z k) n h = h
obeys (TrackRed p z k) n h = h
obeys (Open Normal m g w) n h = absurd h
obeys (Open Train m g w) n h = next_goes_on n
obeys (Ending p m z l w) n h = h
obeys (ClearanceGreen k) n h = h
obeys AllRed n h = tt

-- ---- after the first step, and after the second
module _ (t : Lengths) (s : Sheet) (call : Bool) (x : Now) (h : InDwell x.stage) where
  first : InDwell (after_times t s call x)
  first = first_keeps InDwell t s call (settled t s call) (λ st n e i. obeys st n i) x (dwell_is_not x.stage h) (added t s x.stage h)

  second : (c : Command) → InDwell (after_command t s c call (after_times t s call x))
  second c = second_keeps InDwell t s call (settled t s call) (λ st n e i. obeys st n i) c (after_times t s call x) first

pub dwell_stays : DwellStays
dwell_stays t s x c h = third_keeps InDwell t s (settled t s true) x (dwell_is_not x.stage h) _ (second t s true x h c)

-- ---- a phase that is not named
module _ (s : Sheet) (m : ℕ) (some : 0 < m) (not : named s m ≡ false) where
  not_at : (st : Stage) → InDwell st → allowed_at s st m ≡ false
  unfolding allowed_at
  not_at TrackGreen h = absurd h
  not_at (TrackYellow p z k) h = refl
  not_at (TrackRed p z k) h = refl
  not_at (Open Normal i g w) h = absurd h
  not_at (Open Train i g w) h = (only_named_may_start s m not).1 i g w some
  not_at (Ending p i z l w) h = refl
  not_at (ClearanceGreen k) h = refl
  not_at AllRed h = (only_named_may_start s m not).0

pub not_named_refused : NotNamedRefused
unfolding allowed
not_named_refused t s x call m h some not = not_at s m some not (after_times t s call x) (first t s call x h)

-- ---- the call goes off
abbrev Left : Stage → Type 0
Left st = (st ≡ TrackGreen) ⊎ ((n : ℕ) × Leaving n st)

asked_leaves : (n : ℕ) (y : Settled) → Left (settled_as false Train n ToTrack y)
unfolding settled_as enter
asked_leaves n (Some (l, w)) = inr (n, (refl, refl, refl))
asked_leaves n None = inl refl

dropped_then : (z : Then) → GoesOn z → unless_owed z ≡ ToTrack
unfolding unless_owed
dropped_then ToTrack h = refl
dropped_then (ToPhase m) h = refl
dropped_then ToClearance h = absurd h
dropped_then ToAllRed h = refl
dropped_then ToDwell h = refl

drop_leaves : (t : Lengths) (s : Sheet) (st : Stage) → InDwell st → Left (settle t s false (dropped st))
unfolding settle dropped open_dropped ending_dropped
drop_leaves t s TrackGreen h = absurd h
drop_leaves t s (TrackYellow p z k) h = absurd h
drop_leaves t s (TrackRed p z k) h = absurd h
drop_leaves t s (Open Normal n g w) h = absurd h
drop_leaves t s (Open Train n g w) h = asked_leaves n (settle_phase (phase_of s n) (Green g) (Walk w))
drop_leaves t s (Ending Normal n z l w) h = absurd h
drop_leaves t s (Ending Train n z l w) h =
    subst (λ (y : Then). Left (settled_as false Train n y (settle_phase (phase_of s n) l w))) (sym (dropped_then z h)) (asked_leaves n (settle_phase (phase_of s n) l w))
drop_leaves t s (ClearanceGreen k) h = absurd h
drop_leaves t s AllRed h = inl refl

-- the count where normal operation returns
green_counts : (t : Lengths) (call counted : Bool) (n : ℕ) → counted ≡ false → count_after t call counted TrackGreen n ≡ 0
unfolding count_after in_normal pick
green_counts t call counted n e = rw e refl

off_now : (t : Lengths) (s : Sheet) (x : Now) (c : Command) → counting t x ≡ false → Left (end_of t s c false x)
    → ((ticked t s x c false).now ≡ now TrackGreen 0) ⊎ ((n : ℕ) × Leaving n (end_of t s c false x))
off_now t s x c u (inl e) =
    inl (ap (λ (v : Stage). now v (count_after t false (counting t x) v x.count)) e ∙ ap (now TrackGreen) (green_counts t false (counting t x) x.count u))
off_now t s x c u (inr h) = inr h

pub off_leaves : OffLeaves
off_leaves t s x c h =
    let st = after_command t s c false (after_times t s false x) in
    off_now t s x c (uncounted t x.stage x.count (dwell_is_not x.stage h))
    (subst (λ (v : Stage). Left (settle t s false v)) (sym (called_off t (counting t x) x.count st)) (drop_leaves t s st (second t s false x h c)))
