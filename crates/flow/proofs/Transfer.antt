-- In the transfer nothing moves but the time: no command is taken, the call changes nothing, and what follows is clearance green. Assumes nothing.
use Prim.Native.Nat.{ℕ, ◌+◌, ◌<◌}
use mathlib.Core.Bool.{Bool, true, false}
use mathlib.Core.Logic.{◌⊎◌, inl, inr}
use mathlib.Core.Path.{◌≡◌, refl, sym, ◌∙◌, ap, subst}
use lib.Dec.{leb, eqb}
use borrow.Author.Tests.{eq-eqb}
use Rattle.units.specs.Numbers.{pick}
use Rattle.units.proofs.Steps.{cases}
use Rattle.sheet.specs.declared.Sheet.{Sheet}
use Rattle.std.specs.Prelude.{Some, None}
use Rattle.phase.specs.Ending.{Settled, settle_phase}
use Rattle.stage.specs.declared.Command.{Command}
use Rattle.stage.specs.declared.Command.TheVariants.{None as NoCommand, End}
use Rattle.stage.specs.declared.Lengths.{Lengths}
use Rattle.stage.specs.declared.Place.{Place}
use Rattle.stage.specs.declared.Place.TheVariants.{Normal, Train}
use Rattle.stage.specs.declared.Stage.{Stage}
use Rattle.stage.specs.declared.Stage.TheVariants.{TrackGreen, TrackYellow, TrackRed, Open, Ending, ClearanceGreen, AllRed}
use Rattle.stage.specs.declared.Then.{Then}
use Rattle.stage.specs.declared.Then.TheVariants.{ToTrack, ToPhase, ToClearance, ToAllRed, ToDwell}
use Rattle.stage.specs.Commands.{allowed_at, allowed, asked, obeyed}
use Rattle.stage.specs.Listed.{phase_of}
use Rattle.stage.specs.Shown.{in_normal}
use Rattle.stage.specs.Times.{add_one}
use Rattle.flow.specs.declared.Now.{Now}
use Rattle.flow.specs.Calls.{counting, answered, unless_owed, open_dropped, ending_dropped, dropped, becomes, begins, called, overdue}
use Rattle.flow.specs.Settling.{enter, settle_red, settle_yellow, settled_as, settle}
use Rattle.flow.specs.Tick.{heard, after_times, after_command, after_call, end_of}
use Rattle.flow.specs.Promises.{Rests, OwedThen, Owed, TransferBegins, phase_shown, InTransfer, NoNewPhase}
use Rattle.flow.proofs.Rest.{kept, nothing_due}

-- ---- no command is taken in these stages
abbrev pub Firm : Stage → Type 0
Firm TrackGreen = ⊥
Firm (TrackYellow p z i) = Unit {0}
Firm (TrackRed p z i) = Unit {0}
Firm (Open p n g w) = ⊥
Firm (Ending p n z l w) = Unit {0}
Firm (ClearanceGreen j) = Unit {0}
Firm AllRed = ⊥

firm_allowed : (s : Sheet) (st : Stage) (n : ℕ) → Firm st → allowed_at s st n ≡ false
unfolding allowed_at
firm_allowed s TrackGreen n f = absurd f
firm_allowed s (TrackYellow p z i) n f = refl
firm_allowed s (TrackRed p z i) n f = refl
firm_allowed s (Open p m g w) n f = absurd f
firm_allowed s (Ending p m z l w) n f = refl
firm_allowed s (ClearanceGreen j) n f = refl
firm_allowed s AllRed n f = absurd f

unheard : (s : Sheet) (st : Stage) (c : Command) → Firm st → heard s st c ≡ NoCommand
unfolding heard allowed pick
unheard s st NoCommand f = refl
unheard s st (End n) f = rw (firm_allowed s st n f) refl

obeyed_none : (st : Stage) → obeyed st NoCommand ≡ st
unfolding obeyed
obeyed_none st = refl

-- so the second step leaves them, where no change is due
pub unmoved : (t : Lengths) (s : Sheet) (c : Command) (call : Bool) (st : Stage) → Firm st → Rests t s st → after_command t s c call st ≡ st
unmoved t s c call st f r =
    ap (λ (d : Command). settle t s call (obeyed st d)) (unheard s st c f)
    ∙ ap (λ (v : Stage). settle t s call v) (obeyed_none st) ∙ kept t s call st r

-- ---- green is owed with phase n shown or none, or it just shows
abbrev pub Coming : ℕ → Stage → Type 0
Coming n TrackGreen = ⊥
Coming n (TrackYellow p z k) = z ≡ ToClearance
Coming n (TrackRed p z k) = z ≡ ToClearance
Coming n (Open p m g w) = ⊥
Coming n (Ending p m z l w) = (z ≡ ToClearance) × (m ≡ n)
Coming n (ClearanceGreen k) = k ≡ 0
Coming n AllRed = ⊥

owed_is : (z : Then) → OwedThen z → z ≡ ToClearance
owed_is ToTrack o = absurd o
owed_is (ToPhase n) o = absurd o
owed_is ToClearance o = refl
owed_is ToAllRed o = absurd o
owed_is ToDwell o = absurd o

-- "an unended phase is asked to end"
open_asked : (p : Place) (n g w : ℕ) → asked p n ToClearance g w ≡ answered (Open p n g w)
unfolding answered
open_asked p n g w = refl

pub answered_coming : (st : Stage) → Coming (phase_shown st) (answered st)
unfolding answered
answered_coming TrackGreen = refl
answered_coming (TrackYellow p z k) = refl
answered_coming (TrackRed p z k) = refl
answered_coming (Open p m g w) = subst (Coming m) (open_asked p m g w) (refl, refl)
answered_coming (Ending p m z l w) = (refl, refl)
answered_coming (ClearanceGreen k) = refl
answered_coming AllRed = refl

coming_firm : (n : ℕ) (st : Stage) → Coming n st → Firm st
coming_firm n TrackGreen h = h
coming_firm n (TrackYellow p z k) h = tt
coming_firm n (TrackRed p z k) h = tt
coming_firm n (Open p m g w) h = h
coming_firm n (Ending p m z l w) h = tt
coming_firm n (ClearanceGreen k) h = tt
coming_firm n AllRed h = h

coming_shows : (n : ℕ) (st : Stage) → Coming n st → (phase_shown st ≡ n) ⊎ (phase_shown st ≡ 0)
coming_shows n TrackGreen h = inr refl
coming_shows n (TrackYellow p z k) h = inr refl
coming_shows n (TrackRed p z k) h = inr refl
coming_shows n (Open p m g w) h = absurd h
coming_shows n (Ending p m z l w) h = inl h.1
coming_shows n (ClearanceGreen k) h = inr refl
coming_shows n AllRed h = inr refl

coming_owed : (n : ℕ) (st : Stage) → Coming n st → (st ≡ ClearanceGreen 0) ⊎ Owed st
coming_owed n TrackGreen h = absurd h
coming_owed n (TrackYellow p z k) h = inr (subst OwedThen (sym h) tt)
coming_owed n (TrackRed p z k) h = inr (subst OwedThen (sym h) tt)
coming_owed n (Open p m g w) h = absurd h
coming_owed n (Ending p m z l w) h = inr (subst OwedThen (sym h.0) tt)
coming_owed n (ClearanceGreen k) h = inl (ap ClearanceGreen h)
coming_owed n AllRed h = absurd h

-- ---- settling
module _ (t : Lengths) (s : Sheet) (call : Bool) (lasts : 0 < t.l51) (n : ℕ) where
  enter_coming : (p : Place) (z : Then) → z ≡ ToClearance → Coming n (enter call p z)
  unfolding enter
  enter_coming p z e = subst (λ (y : Then). Coming n (enter call p y)) (sym e) refl

  red_coming : (p : Place) (z : Then) (k : ℕ) → z ≡ ToClearance → Coming n (settle_red t call p z k)
  unfolding settle_red
  red_coming p z k e = cases (Coming n) (leb t.track_red k) (enter call p z) (TrackRed p z k) (λ b. enter_coming p z e) (λ b. e)

  yellow_coming : (p : Place) (z : Then) (k : ℕ) → z ≡ ToClearance → Coming n (settle_yellow t call p z k)
  unfolding settle_yellow
  yellow_coming p z k e =
      cases (Coming n) (leb t.track_yellow k) (settle_red t call p z 0) (TrackYellow p z k) (λ b. red_coming p z 0 e) (λ b. e)

  settled_coming : (p : Place) (m : ℕ) (z : Then) (x : Settled) → z ≡ ToClearance → m ≡ n → Coming n (settled_as call p m z x)
  unfolding settled_as
  settled_coming p m z (Some (l, w)) e d = (e, d)
  settled_coming p m z None e d = enter_coming p z e

  green_coming : (k : ℕ) → k ≡ 0 → Coming n (settle t s call (ClearanceGreen k))
  green_coming k e = subst (Coming n) (sym (kept t s call (ClearanceGreen k) (subst (λ (i : ℕ). i < t.l51) (sym e) lasts))) e

  settle_coming : (st : Stage) → Coming n st → Coming n (settle t s call st)
  unfolding settle
  settle_coming TrackGreen h = h
  settle_coming (TrackYellow p z k) h = yellow_coming p z k h
  settle_coming (TrackRed p z k) h = red_coming p z k h
  settle_coming (Open p m g w) h = h
  settle_coming (Ending p m z l w) h = settled_coming p m z (settle_phase (phase_of s m) l w) h.0 h.1
  settle_coming (ClearanceGreen k) h = green_coming k h
  settle_coming AllRed h = h

-- ---- the call changes nothing
coming_answered : (n : ℕ) (st : Stage) → Coming n st → answered st ≡ st
unfolding answered
coming_answered n TrackGreen h = absurd h
coming_answered n (TrackYellow p z i) h = ap (λ (y : Then). TrackYellow p y i) (sym h)
coming_answered n (TrackRed p z i) h = ap (λ (y : Then). TrackRed p y i) (sym h)
coming_answered n (Open p m g w) h = absurd h
coming_answered n (Ending p m z l w) h = ap (λ (y : Then). Ending p m y l w) (sym h.0)
coming_answered n (ClearanceGreen j) h = ap ClearanceGreen (sym h)
coming_answered n AllRed h = absurd h

coming_dropped : (n : ℕ) (st : Stage) → Coming n st → dropped st ≡ st
unfolding dropped open_dropped ending_dropped unless_owed
coming_dropped n TrackGreen h = refl
coming_dropped n (TrackYellow p z i) h = refl
coming_dropped n (TrackRed p z i) h = refl
coming_dropped n (Open p m g w) h = absurd h
coming_dropped n (Ending Normal m z l w) h = refl
coming_dropped n (Ending Train m z l w) h = ap (λ (y : Then). Ending Train m y l w) (ap unless_owed h.0 ∙ sym h.0)
coming_dropped n (ClearanceGreen j) h = refl
coming_dropped n AllRed h = absurd h

pub coming_called : (t : Lengths) (call counted : Bool) (i n : ℕ) (st : Stage) → Coming n st → called t call counted i st ≡ st
unfolding called
coming_called t call counted i n st h =
    cases (λ (v : Stage). v ≡ st) call (pick (begins t counted i) (answered st) st) (dropped st)
    (λ _. cases (λ (v : Stage). v ≡ st) (begins t counted i) (answered st) st (λ _. coming_answered n st h) (λ _. refl))
    (λ _. coming_dropped n st h)

-- ---- so it passes through the second and third step as it is
pub through : (t : Lengths) (s : Sheet) (c : Command) (call : Bool) (x : Now) (n : ℕ) (st : Stage)
    → Coming n st → Rests t s st → after_call t s call x (after_command t s c call st) ≡ st
through t s c call x n st h r =
    ap (λ (v : Stage). after_call t s call x v) (unmoved t s c call st (coming_firm n st h) r)
    ∙ ap (λ (v : Stage). settle t s call v) (coming_called t call (counting t x) x.count n st h) ∙ kept t s call st r

-- ---- a tick in the transfer
owed_added : (t : Lengths) (s : Sheet) (st : Stage) → Owed st → Coming (phase_shown st) (add_one t s st)
unfolding add_one
owed_added t s TrackGreen o = absurd o
owed_added t s (TrackYellow p z k) o = owed_is z o
owed_added t s (TrackRed p z k) o = owed_is z o
owed_added t s (Open p n g w) o = absurd o
owed_added t s (Ending p n z l w) o = (owed_is z o, refl)
owed_added t s (ClearanceGreen k) o = absurd o
owed_added t s AllRed o = absurd o

pub overdue_coming : (t : Lengths) (i n : ℕ) (st : Stage) → Coming n st → overdue t i st ≡ st
unfolding overdue
overdue_coming t i n st h =
    cases (λ (v : Stage). v ≡ st) (eqb i t.l03) (pick (in_normal st) (answered st) st) st
    (λ _. cases (λ (v : Stage). v ≡ st) (in_normal st) (answered st) st (λ _. coming_answered n st h) (λ _. refl)) (λ _. refl)

-- handed over in normal operation with the count at line 3
shown_added : (t : Lengths) (s : Sheet) (st : Stage) → phase_shown (add_one t s st) ≡ phase_shown st
unfolding add_one
shown_added t s TrackGreen = refl
shown_added t s (TrackYellow p z k) = refl
shown_added t s (TrackRed p z k) = refl
shown_added t s (Open p n g w) = refl
shown_added t s (Ending p n z l w) = refl
shown_added t s (ClearanceGreen k) = refl
shown_added t s AllRed = refl

pub normal_added : (t : Lengths) (s : Sheet) (st : Stage) → in_normal (add_one t s st) ≡ in_normal st
unfolding add_one in_normal
normal_added t s TrackGreen = refl
normal_added t s (TrackYellow p z k) = refl
normal_added t s (TrackRed p z k) = refl
normal_added t s (Open p n g w) = refl
normal_added t s (Ending p n z l w) = refl
normal_added t s (ClearanceGreen k) = refl
normal_added t s AllRed = refl

overdue_answered : (t : Lengths) (i : ℕ) (st : Stage) → i ≡ t.l03 → in_normal st ≡ true → overdue t i st ≡ answered st
unfolding overdue pick
overdue_answered t i st e h = rw (eq-eqb i t.l03 e) (rw h refl)

module _ (t : Lengths) (s : Sheet) (x : Now) where
  abbrev shown : ℕ
  shown = phase_shown x.stage

  abbrev later : Stage
  later = add_one t s x.stage

  first_coming : InTransfer t x → Coming shown (overdue t x.count later)
  first_coming (inl o) =
      let h = owed_added t s x.stage o in
      subst (Coming shown) (sym (overdue_coming t x.count shown later h)) h
  first_coming (inr b) =
      subst (Coming shown) (sym (overdue_answered t x.count later b.1 (normal_added t s x.stage ∙ b.0)))
      (subst (λ (n : ℕ). Coming n (answered later)) (shown_added t s x.stage) (answered_coming later))

  transfer_coming : (c : Command) (call : Bool) → 0 < t.l51 → InTransfer t x → Coming shown (end_of t s c call x)
  transfer_coming c call lasts i =
      let h = settle_coming t s call lasts shown (overdue t x.count later) (first_coming i) in
      subst (Coming shown) (sym (through t s c call x shown (after_times t s call x) h (nothing_due t s call _ lasts))) h

pub no_new_phase : NoNewPhase
no_new_phase t s x c call lasts i = coming_shows (phase_shown x.stage) (end_of t s c call x) (transfer_coming t s x c call lasts i)

-- ---- the tick on which it begins
pub begins_now : (t : Lengths) (n : ℕ) (st : Stage) → n + 1 ≡ t.l03 → called t true true n st ≡ answered st
unfolding called begins becomes pick
begins_now t n st e = rw (eq-eqb (n + 1) t.l03 e) refl

pub transfer_begins : TransferBegins
transfer_begins t s x c lasts h e =
    let st = after_command t s c true (after_times t s true x) in
    let d = settle_coming t s true lasts (phase_shown st) (answered st) (answered_coming st) in
    let q : called t true (counting t x) x.count st ≡ answered st =
    ap (λ (b : Bool). called t true b x.count st) h ∙ begins_now t x.count st e in
    coming_owed (phase_shown st) (end_of t s c true x) (subst (λ (v : Stage). Coming (phase_shown st) (settle t s true v)) (sym q) d)
