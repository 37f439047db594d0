-- Where clearance green is owed each tick takes one off what is left of the stage, and then it shows, whatever command and call come; it shows for
-- line 51; and then none is owed. Assumes nothing.
use Prim.Native.Nat.{ℕ, suc, ◌+◌, ◌≤◌, ◌<◌}
use mathlib.Core.Bool.{Bool, true, false}
use mathlib.Core.Path.{◌≡◌, refl, sym, ap, subst, ◌∙◌}
use native.Mathlib.Omega.{arith}
use lib.Dec.{leb, eqb}
use borrow.Author.Tests.{leb-false, lt-ltb, le-leb}
use Rattle.units.specs.Numbers.{pick}
use Rattle.units.proofs.Steps.{cases, both_right}
use Rattle.sheet.specs.declared.Sheet.{Sheet}
use Rattle.transfer.specs.declared.Users.TheVariants.{Vehicles, Pedestrians}
use Rattle.lines.specs.Worksheet.{worksheet_of}
use Rattle.phase.specs.declared.Light.{Light}
use Rattle.phase.specs.declared.Light.TheVariants.{Green}
use Rattle.phase.specs.declared.Walker.{Walker}
use Rattle.phase.specs.declared.Walker.TheVariants.{Walk}
use Rattle.std.specs.Prelude.{Some, None}
use Rattle.phase.specs.Ending.{Settled, settle_phase}
use Rattle.phase.specs.Times.{one_more}
use Rattle.phase.specs.Promises as phases
use Rattle.phase.proofs.Left.{Left, tick_left, left_none, ends_from, settle_left}
use Rattle.stage.specs.declared.Command.{Command}
use Rattle.stage.specs.declared.Lengths.{Lengths}
use Rattle.stage.specs.declared.Place.{Place}
use Rattle.stage.specs.declared.Stage.{Stage}
use Rattle.stage.specs.declared.Stage.TheVariants.{TrackGreen, TrackYellow, TrackRed, Open, Ending, ClearanceGreen, AllRed}
use Rattle.stage.specs.declared.Then.{Then}
use Rattle.stage.specs.declared.Then.TheVariants.{ToClearance}
use Rattle.stage.specs.Fitness.{then_fits, phase_fits, stage_fits}
use Rattle.stage.specs.Listed.{phase_of}
use Rattle.stage.specs.Shown.{in_normal}
use Rattle.stage.specs.Times.{add_one}
use Rattle.stage.proofs.Fit.{phase_told}
use Rattle.flow.specs.declared.Now.{Now}
use Rattle.flow.specs.Calls.{counting, answered, begins, called, overdue}
use Rattle.flow.specs.Settling.{enter, settle_red, settle_yellow, settle_green, settled_as, settle}
use Rattle.flow.specs.Tick.{after_times, after_command, after_call, end_of}
use Rattle.flow.specs.Promises.{now, Rests, phase_shown}
use Rattle.flow.proofs.Rest.{kept, nothing_due}
use Rattle.flow.proofs.Past.{Past, after_green_lem, past_from}
use Rattle.flow.proofs.Steps.{uncounted, on_time}
use Rattle.flow.proofs.Transfer as flow
use Rattle.measured.specs.Measured.{accepted}
use Rattle.promises.proofs.Sheets.{listed_fair, listed_time}

pub up_one : (k n : ℕ) → k < n → one_more k n ≡ k + 1
unfolding one_more pick
up_one k n h = rw (lt-ltb k n h) refl

-- clearance green is owed, and the stage is at rest and over within k ticks
abbrev pub Within : Lengths → Sheet → ℕ → Stage → Type 0
Within t s k TrackGreen = ⊥
Within t s k (TrackYellow p z i) = (z ≡ ToClearance) × (i < t.track_yellow) × (t.track_yellow + t.track_red ≤ i + k)
Within t s k (TrackRed p z i) = (z ≡ ToClearance) × (i < t.track_red) × (t.track_red ≤ i + k)
Within t s k (Open p n g w) = ⊥
Within t s k (Ending p n z l w) = (z ≡ ToClearance) × Left (phase_of s n) k (Some (l, w))
Within t s k (ClearanceGreen j) = ⊥
Within t s k AllRed = ⊥

-- with none left it would be over
abbrev IsOver : Settled → Type 0
IsOver (Some (l, w)) = ⊥
IsOver None = Prim.Unit {0}

pub none_left : (t : Lengths) (s : Sheet) (st : Stage) → Within t s 0 st → ⊥
none_left t s TrackGreen h = h
none_left t s (TrackYellow p z i) h = omega (arith, h.1, h.2)
none_left t s (TrackRed p z i) h = omega (arith, h.1, h.2)
none_left t s (Open p n g w) h = h
none_left t s (Ending p n z l w) h = subst IsOver (sym (left_none (phase_of s n) (Some (l, w)) h.1)) tt
none_left t s (ClearanceGreen j) h = h
none_left t s AllRed h = h

-- it shows, or comes within k ticks
pub data Next (t : Lengths) (s : Sheet) (k : ℕ) : Stage → Type 0 where
  shown : Next t s k (ClearanceGreen 0)
  within : (st : Stage) → Within t s k st → Next t s k st

within_coming : (t : Lengths) (s : Sheet) (k : ℕ) (st : Stage) → Within t s k st → flow.Coming (phase_shown st) st
within_coming t s k TrackGreen h = h
within_coming t s k (TrackYellow p z i) h = h.0
within_coming t s k (TrackRed p z i) h = h.0
within_coming t s k (Open p n g w) h = h
within_coming t s k (Ending p n z l w) h = (h.0, refl)
within_coming t s k (ClearanceGreen j) h = absurd h
within_coming t s k AllRed h = h

next_coming : (t : Lengths) (s : Sheet) (k : ℕ) (st : Stage) → Next t s k st → flow.Coming (phase_shown st) st
next_coming t s k _ shown = refl
next_coming t s k st (within _ h) = within_coming t s k st h

-- ---- the times
module _ (t : Lengths) (s : Sheet) (call : Bool) where
  owed_enter : (p : Place) (z : Then) → z ≡ ToClearance → enter call p z ≡ ClearanceGreen 0
  unfolding enter
  owed_enter p z e = rw e refl

  enter_next : (k : ℕ) (p : Place) (z : Then) → z ≡ ToClearance → Next t s k (enter call p z)
  enter_next k p z e = subst (Next t s k) (sym (owed_enter p z e)) shown

  red_next : (k : ℕ) (p : Place) (z : Then) (i : ℕ) → z ≡ ToClearance → t.track_red ≤ i + k → Next t s k (settle_red t call p z i)
  unfolding settle_red
  red_next k p z i o h =
      cases (Next t s k) (leb t.track_red i) (enter call p z) (TrackRed p z i)
      (λ e. enter_next k p z o) (λ e. within (TrackRed p z i) (o, leb-false t.track_red i e, h))

  yellow_next : (k : ℕ) (p : Place) (z : Then) (i : ℕ) → z ≡ ToClearance → i ≤ t.track_yellow → t.track_yellow + t.track_red ≤ i + k
      → Next t s k (settle_yellow t call p z i)
  unfolding settle_yellow
  yellow_next k p z i o m h =
      cases (Next t s k) (leb t.track_yellow i) (settle_red t call p z 0) (TrackYellow p z i)
      (λ e. red_next k p z 0 o (omega arith)) (λ e. within (TrackYellow p z i) (o, leb-false t.track_yellow i e, h))

  ending_next : (k : ℕ) (p : Place) (n : ℕ) (z : Then) (x : Settled) → z ≡ ToClearance → Left (phase_of s n) k x → Next t s k (settled_as call p n z x)
  unfolding settled_as
  ending_next k p n z (Some (l, w)) o h = within (Ending p n z l w) (o, h)
  ending_next k p n z None o h = enter_next k p z o

  next : (k : ℕ) (st : Stage) → Within t s (suc k) st → Next t s k (settle t s call (add_one t s st))
  unfolding add_one settle phases.tick
  next k TrackGreen h = absurd h
  next k (TrackYellow p z i) h = rw (up_one i t.track_yellow h.1) (yellow_next k p z (i + 1) h.0 (omega (arith, h.1)) (omega (arith, h.2)))
  next k (TrackRed p z i) h = rw (up_one i t.track_red h.1) (red_next k p z (i + 1) h.0 (omega (arith, h.2)))
  next k (Open p n g w) h = absurd h
  next k (Ending p n z l w) h = ending_next k p n z _ h.0 (tick_left (phase_of s n) k (Some (l, w)) h.1)
  next k (ClearanceGreen j) h = absurd h
  next k AllRed h = absurd h

within_added : (t : Lengths) (s : Sheet) (k : ℕ) (st : Stage) → Within t s k st → flow.Coming (phase_shown st) (add_one t s st)
unfolding add_one
within_added t s k TrackGreen h = h
within_added t s k (TrackYellow p z i) h = h.0
within_added t s k (TrackRed p z i) h = h.0
within_added t s k (Open p n g w) h = h
within_added t s k (Ending p n z l w) h = (h.0, refl)
within_added t s k (ClearanceGreen j) h = absurd h
within_added t s k AllRed h = h

-- ---- a tick of the stage in which it is owed
module _ (t : Lengths) (s : Sheet) (c : Command) (call : Bool) (x : Now) (lasts : 0 < t.l51) where
  pub next_tick : (k : ℕ) → Within t s (suc k) x.stage → Next t s k (end_of t s c call x)
  next_tick k h =
      let first : after_times t s call x ≡ settle t s call (add_one t s x.stage) =
      ap (settle t s call) (flow.overdue_coming t x.count (phase_shown x.stage) (add_one t s x.stage) (within_added t s (suc k) x.stage h)) in
      let a : Next t s k (after_times t s call x) = subst (Next t s k) (sym first) (next t s call k x.stage h) in
      let st = after_times t s call x in
      subst (Next t s k) (sym (flow.through t s c call x (phase_shown st) st (next_coming t s k st a) (nothing_due t s call _ lasts))) a

-- ---- a stage that is not of normal operation: the call is not counted in it, and left on it changes nothing
module _ (t : Lengths) (s : Sheet) (x : Now) (away : in_normal x.stage ≡ false) where
  not_counting : counting t x ≡ false
  not_counting = uncounted t x.stage x.count away

  left_on : (st : Stage) → called t true (counting t x) x.count st ≡ st
  unfolding called begins pick
  left_on st = rw not_counting refl

  -- the first step, and the two that follow it where no command is taken
  pub goes_on : (c : Command) (later st : Stage) → add_one t s x.stage ≡ later → in_normal later ≡ false → settle t s true later ≡ st
      → flow.Firm st → Rests t s st → end_of t s c true x ≡ st
  goes_on c later st e n q f r =
      let first : after_times t s true x ≡ st =
      ap (λ (v : Stage). settle t s true (overdue t x.count v)) e ∙ ap (settle t s true) (on_time t x.count later n) ∙ q in
      ap (λ (v : Stage). after_call t s true x (after_command t s c true v)) first
      ∙ ap (λ (v : Stage). after_call t s true x v) (flow.unmoved t s c true st f r)
      ∙ ap (settle t s true) (left_on st) ∙ kept t s true st r

-- ---- while it shows
green_away : (j : ℕ) → in_normal (ClearanceGreen j) ≡ false
unfolding in_normal
green_away j = refl

module _ (t : Lengths) (s : Sheet) (c : Command) (i j : ℕ) where
  green_later : j < t.l51 → add_one t s (ClearanceGreen j) ≡ ClearanceGreen (j + 1)
  unfolding add_one
  green_later h = ap ClearanceGreen (up_one j t.l51 h)

  pub green_tick : j + 1 < t.l51 → end_of t s c true (now (ClearanceGreen j) i) ≡ ClearanceGreen (j + 1)
  green_tick h =
      goes_on t s (now (ClearanceGreen j) i) (green_away j) c (ClearanceGreen (j + 1)) (ClearanceGreen (j + 1)) (green_later (omega arith)) (green_away (j + 1))
      (kept t s true (ClearanceGreen (j + 1)) h) tt h

-- ---- the last tick of line 51: it has shown, and none is owed
module _ (t : Lengths) (s : Sheet) (c : Command) where
  green_over_lem : (k : ℕ) → t.l51 ≤ k → Past ⊥ (settle t s true (ClearanceGreen k))
  unfolding settle settle_green pick
  green_over_lem k h = rw (le-leb t.l51 k h) (after_green_lem ⊥ t s)

  pub last_tick : (i j : ℕ) → j + 1 ≡ t.l51 → Past ⊥ (end_of t s c true (now (ClearanceGreen j) i))
  last_tick i j e =
      let x = now (ClearanceGreen j) i in
      let first : after_times t s true x ≡ settle t s true (ClearanceGreen (j + 1)) =
      ap (λ (v : Stage). settle t s true (overdue t i v)) (green_later t s c i j (omega arith))
      ∙ ap (settle t s true) (on_time t i (ClearanceGreen (j + 1)) (green_away (j + 1))) in
      past_from ⊥ t s c x (green_away j) (subst (Past ⊥) (sym first) (green_over_lem (j + 1) (omega arith)))

-- ---- the tick on which the call has been on for line 3 ticks: line 16 is enough for whatever shows
module _ (t : Lengths) (s : Sheet) (a : accepted s ≡ true) (lasts : 0 < t.l51) where
  abbrev l16 : ℕ
  l16 = (worksheet_of s).lines.l16.0

  green_now : (call : Bool) → settle t s call (ClearanceGreen 0) ≡ ClearanceGreen 0
  green_now call = kept t s call (ClearanceGreen 0) lasts

  pub phase_left : (n : ℕ) (l : Light) (w : Walker) → phase_fits s n l w ≡ true → Left (phase_of s n) l16 (settle_phase (phase_of s n) l w)
  phase_left n l w e =
      let f = phase_told s n l w e in
      let of = listed_time s a in
      settle_left (phase_of s n) l16 l w f.light f.walker
      (ends_from (phase_of s n) (listed_fair s a n f.is_listed) l16 (of Vehicles n f.is_listed) (of Pedestrians n f.is_listed) l w)

  pub due : t.track_yellow + t.track_red ≤ l16 → (call : Bool) (st : Stage) → Rests t s st → stage_fits t s st ≡ true → Next t s l16 (settle t s call (answered st))
  unfolding answered settle stage_fits
  due track call TrackGreen r f = subst (Next t s l16) (sym (green_now call)) shown
  due track call (TrackYellow p z k) r f = yellow_next t s call l16 p ToClearance k refl (omega arith) (omega arith)
  due track call (TrackRed p z k) r f = red_next t s call l16 p ToClearance k refl (omega arith)
  due track call (Open p n g w) r f = ending_next t s call l16 p n ToClearance _ refl (phase_left n (Green g) (Walk w) f)
  due track call (Ending p n z l w) r f = ending_next t s call l16 p n ToClearance _ refl (phase_left n l w (both_right (then_fits s z) _ f))
  due track call (ClearanceGreen k) r f = subst (Next t s l16) (sym (green_now call)) shown
  due track call AllRed r f = subst (Next t s l16) (sym (green_now call)) shown
