-- Every phase of dwell is named: a phase is started there by a command that is allowed, and by nothing else. Assumes nothing.
use Prim.Native.Nat.{ℕ}
use mathlib.Core.Bool.{Bool, true}
use mathlib.Core.Path.{◌≡◌}
use lib.Dec.{leb, eqb}
use Rattle.units.specs.Numbers.{pick}
use Rattle.units.proofs.Steps.{cases, split, never}
use Rattle.sheet.specs.declared.Sheet.{Sheet}
use Rattle.sheet.specs.Entries.{named}
use Rattle.std.specs.Prelude.{Some, None}
use Rattle.phase.specs.Ending.{Settled, settle_phase}
use Rattle.stage.specs.declared.Lengths.{Lengths}
use Rattle.stage.specs.declared.Place.{Place}
use Rattle.stage.specs.declared.Place.TheVariants.{Normal, Train}
use Rattle.stage.specs.declared.Stage.{Stage}
use Rattle.stage.specs.declared.Stage.TheVariants.{TrackGreen, TrackYellow, TrackRed, Open, Ending, ClearanceGreen, AllRed}
use Rattle.stage.specs.declared.Then.{Then}
use Rattle.stage.specs.declared.Then.TheVariants.{ToTrack, ToPhase, ToClearance, ToAllRed, ToDwell}
use Rattle.stage.specs.Commands.{may_start, allowed_in, allowed_at, home, next, ended}
use Rattle.stage.specs.Listed.{phase_of}
use Rattle.stage.specs.Shown.{in_normal}
use Rattle.stage.specs.Times.{add_one}
use Rattle.flow.specs.Calls.{counting, answered, unless_owed, open_dropped, ending_dropped, dropped, begins, called, overdue}
use Rattle.flow.specs.Settling.{enter, settle_red, settle_yellow, settle_green, settled_as, settle}
use Rattle.flow.specs.Tick.{after_times, after_command}
use Rattle.flow.specs.Promises.{NextNamed, OnlyNamed, NamedKept}
use Rattle.flow.proofs.Steps.{heard_keeps}

module _ (t : Lengths) (s : Sheet) where
  -- ---- what follows is named where it is a phase of dwell
  abbrev Next : Place → Then → Type 0
  Next Normal z = Unit {0}
  Next Train z = NextNamed s z

  abbrev Here : Place → ℕ → Type 0
  Here Normal n = Unit {0}
  Here Train n = named s n ≡ true

  abbrev Only : Stage → Type 0
  Only st = OnlyNamed s st

  -- ---- settling
  module _ (call : Bool) where
    enters : (p : Place) (z : Then) → Next p z → Only (enter call p z)
    unfolding enter
    enters p ToTrack h = tt
    enters Normal (ToPhase n) h = tt
    enters Train (ToPhase n) h = h
    enters p ToClearance h = tt
    enters p ToAllRed h = tt
    enters p ToDwell h = cases Only call AllRed TrackGreen (λ e. tt) (λ e. tt)

    red : (p : Place) (z : Then) (k : ℕ) → Next p z → Only (settle_red t call p z k)
    unfolding settle_red
    red Normal z k h = cases Only (leb t.track_red k) (enter call Normal z) (TrackRed Normal z k) (λ e. enters Normal z h) (λ e. h)
    red Train z k h = cases Only (leb t.track_red k) (enter call Train z) (TrackRed Train z k) (λ e. enters Train z h) (λ e. h)

    yellow : (p : Place) (z : Then) (k : ℕ) → Next p z → Only (settle_yellow t call p z k)
    unfolding settle_yellow
    yellow Normal z k h = cases Only (leb t.track_yellow k) (settle_red t call Normal z 0) (TrackYellow Normal z k) (λ e. red Normal z 0 h) (λ e. h)
    yellow Train z k h = cases Only (leb t.track_yellow k) (settle_red t call Train z 0) (TrackYellow Train z k) (λ e. red Train z 0 h) (λ e. h)

    green : (k : ℕ) → Only (settle_green t call k)
    unfolding settle_green
    green k = cases Only (leb t.l51 k) (settle_yellow t call Train ToDwell 0) (ClearanceGreen k) (λ e. yellow Train ToDwell 0 tt) (λ e. tt)

    ending : (p : Place) (n : ℕ) (z : Then) (y : Settled) → Here p n → Next p z → Only (settled_as call p n z y)
    unfolding settled_as
    ending Normal n z (Some (l, w)) i h = tt
    ending Train n z (Some (l, w)) i h = (i, h)
    ending p n z None i h = enters p z h

    settles : (st : Stage) → Only st → Only (settle t s call st)
    unfolding settle
    settles TrackGreen h = h
    settles (TrackYellow Normal z k) h = yellow Normal z k h
    settles (TrackYellow Train z k) h = yellow Train z k h
    settles (TrackRed Normal z k) h = red Normal z k h
    settles (TrackRed Train z k) h = red Train z k h
    settles (Open p n g w) h = h
    settles (Ending Normal n z l w) h = ending Normal n z (settle_phase (phase_of s n) l w) tt tt
    settles (Ending Train n z l w) h = ending Train n z (settle_phase (phase_of s n) l w) h.0 h.1
    settles (ClearanceGreen k) h = green k
    settles AllRed h = h

  -- ---- the times
  adds : (st : Stage) → Only st → Only (add_one t s st)
  unfolding add_one
  adds TrackGreen h = h
  adds (TrackYellow Normal z k) h = h
  adds (TrackYellow Train z k) h = h
  adds (TrackRed Normal z k) h = h
  adds (TrackRed Train z k) h = h
  adds (Open Normal n g w) h = h
  adds (Open Train n g w) h = h
  adds (Ending Normal n z l w) h = h
  adds (Ending Train n z l w) h = h
  adds (ClearanceGreen k) h = h
  adds AllRed h = h

  -- ---- the command
  next_named : (i n : ℕ) → allowed_in s Train i n ≡ true → NextNamed s (next Train n)
  unfolding allowed_in may_start next home pick
  next_named i n e =
      split (eqb n i) (λ h. never (rw h at e)) (λ h. split (eqb n 0) (λ z. rw z tt) (λ z. rw z (rw (h, z) at e)))

  ends : (st : Stage) (n : ℕ) → allowed_at s st n ≡ true → Only st → Only (ended n st)
  unfolding allowed_at may_start ended
  ends TrackGreen n e h = tt
  ends (TrackYellow p z k) n e h = h
  ends (TrackRed p z k) n e h = h
  ends (Open Normal i g w) n e h = tt
  ends (Open Train i g w) n e h = (h, next_named i n e)
  ends (Ending p i z l w) n e h = h
  ends (ClearanceGreen k) n e h = h
  ends AllRed n e h = e

  -- ---- the call
  answers : (st : Stage) → Only st → Only (answered st)
  unfolding answered
  answers TrackGreen h = tt
  answers (TrackYellow Normal z k) h = tt
  answers (TrackYellow Train z k) h = tt
  answers (TrackRed Normal z k) h = tt
  answers (TrackRed Train z k) h = tt
  answers (Open Normal n g w) h = tt
  answers (Open Train n g w) h = (h, tt)
  answers (Ending Normal n z l w) h = tt
  answers (Ending Train n z l w) h = (h.0, tt)
  answers (ClearanceGreen k) h = tt
  answers AllRed h = tt

  owed_named : (z : Then) → NextNamed s (unless_owed z)
  unfolding unless_owed
  owed_named ToTrack = tt
  owed_named (ToPhase n) = tt
  owed_named ToClearance = tt
  owed_named ToAllRed = tt
  owed_named ToDwell = tt

  drops : (st : Stage) → Only st → Only (dropped st)
  unfolding dropped open_dropped ending_dropped
  drops TrackGreen h = h
  drops (TrackYellow p z k) h = h
  drops (TrackRed p z k) h = h
  drops (Open Normal n g w) h = h
  drops (Open Train n g w) h = (h, tt)
  drops (Ending Normal n z l w) h = h
  drops (Ending Train n z l w) h = (h.0, owed_named z)
  drops (ClearanceGreen k) h = h
  drops AllRed h = tt

  due : (n : ℕ) (st : Stage) → Only st → Only (overdue t n st)
  unfolding overdue
  due n st h =
      cases Only (eqb n t.l03) (pick (in_normal st) (answered st) st) st
      (λ _. cases Only (in_normal st) (answered st) st (λ _. answers st h) (λ _. h)) (λ _. h)

  calls : (call counted : Bool) (n : ℕ) (st : Stage) → Only st → Only (called t call counted n st)
  unfolding called
  calls call counted n st h =
      cases Only call (pick (begins t counted n) (answered st) st) (dropped st)
      (λ _. cases Only (begins t counted n) (answered st) st (λ _. answers st h) (λ _. h)) (λ _. drops st h)

pub named_kept : NamedKept
named_kept t s x c call h =
    let first = settles t s call _ (due t s x.count _ (adds t s x.stage h)) in
    let st = after_times t s call x in
    let second = settles t s call _ (heard_keeps (OnlyNamed s) s st c first (λ n e. ends t s st n e first)) in
    settles t s call _ (calls t s call (counting t x) x.count (after_command t s c call st) second)
