-- Once the call has gone off in a phase of dwell: the same phase goes on ending, and then normal track green is back. Assumes nothing.
use Prim.Native.Nat.{ℕ, ◌<◌}
use mathlib.Core.Bool.{Bool, true, false}
use mathlib.Core.Logic.{◌⊎◌, inl, inr}
use mathlib.Core.Path.{◌≡◌, refl, sym, subst, ap, ◌∙◌}
use Rattle.units.specs.Numbers.{pick}
use Rattle.units.proofs.Steps.{cases}
use Rattle.sheet.specs.declared.Sheet.{Sheet}
use Rattle.phase.specs.declared.Light.{Light}
use Rattle.phase.specs.declared.Walker.{Walker}
use Rattle.std.specs.Prelude.{Some, None}
use Rattle.phase.specs.Ending.{Settled, settle_phase}
use Rattle.phase.specs.Times.{add_light, add_walker}
use Rattle.stage.specs.declared.Command.{Command}
use Rattle.stage.specs.declared.Lengths.{Lengths}
use Rattle.stage.specs.declared.Place.TheVariants.{Normal, Train}
use Rattle.stage.specs.declared.Stage.{Stage}
use Rattle.stage.specs.declared.Stage.TheVariants.{TrackGreen, TrackYellow, TrackRed, Open, Ending, ClearanceGreen, AllRed}
use Rattle.stage.specs.declared.Then.TheVariants.{ToTrack, ToPhase}
use Rattle.stage.specs.Commands.{ended}
use Rattle.stage.specs.Listed.{phase_of}
use Rattle.stage.specs.Shown.{in_normal, is_normal, normal_before, stays_normal}
use Rattle.stage.specs.Times.{add_one}
use Rattle.flow.specs.declared.Now.{Now}
use Rattle.flow.specs.Calls.{counting, count_after, answered, unless_owed, ending_dropped, dropped, begins, called, overdue}
use Rattle.flow.specs.Settling.{enter, settled_as, settle}
use Rattle.flow.specs.Tick.{after_times, after_command, after_call, end_of, ticked}
use Rattle.flow.specs.Promises.{Rests, Leaving, Back, LeavesOnly}
use Rattle.flow.proofs.Rest.{kept, nothing_due}
use Rattle.flow.proofs.Steps.{uncounted, on_time, heard_keeps}
use Rattle.flow.proofs.Transfer.{unmoved}

-- ---- the stage of it, by its times
abbrev pub leave : ℕ → Light → Walker → Stage
leave n l w = Ending Train n ToTrack l w

pub leave_is_not : (n : ℕ) (l : Light) (w : Walker) → in_normal (leave n l w) ≡ false
unfolding in_normal normal_before is_normal pick
leave_is_not n l w = refl

-- what a call that is off or not counted makes of it
pub leave_called : (t : Lengths) (call counted : Bool) (i n : ℕ) (l : Light) (w : Walker) → counted ≡ false → called t call counted i (leave n l w) ≡ leave n l w
unfolding called begins dropped ending_dropped unless_owed pick
leave_called t true counted i n l w u = rw u refl
leave_called t false counted i n l w u = refl

-- the second and third step leave it
pub leave_through : (t : Lengths) (s : Sheet) (c : Command) (call : Bool) (x : Now) (n : ℕ) (l : Light) (w : Walker)
    → counting t x ≡ false → Rests t s (leave n l w) → after_call t s call x (after_command t s c call (leave n l w)) ≡ leave n l w
leave_through t s c call x n l w u r =
    ap (λ (v : Stage). after_call t s call x v) (unmoved t s c call (leave n l w) tt r)
    ∙ ap (settle t s call) (leave_called t call (counting t x) x.count n l w u) ∙ kept t s call (leave n l w) r

-- ---- normal track green, and what a command makes of it
abbrev Home : Stage → Type 0
Home st = (st ≡ TrackGreen) ⊎ ((m : ℕ) × (st ≡ TrackYellow Normal (ToPhase m) 0))

green_ended : (n : ℕ) → ended n TrackGreen ≡ TrackYellow Normal (ToPhase n) 0
unfolding ended
green_ended n = refl

green_dropped : dropped TrackGreen ≡ TrackGreen
unfolding dropped
green_dropped = refl

yellow_dropped : (m : ℕ) → dropped (TrackYellow Normal (ToPhase m) 0) ≡ TrackYellow Normal (ToPhase m) 0
unfolding dropped
yellow_dropped m = refl

home_dropped : (st : Stage) → Home st → Home (dropped st)
home_dropped st (inl e) = inl (ap dropped e ∙ green_dropped)
home_dropped st (inr (m, e)) = inr (m, ap dropped e ∙ yellow_dropped m)

green_is_normal : in_normal TrackGreen ≡ true
unfolding in_normal
green_is_normal = refl

yellow_is_normal : (m : ℕ) → in_normal (TrackYellow Normal (ToPhase m) 0) ≡ true
unfolding in_normal normal_before is_normal stays_normal pick
yellow_is_normal m = refl

home_is_normal : (st : Stage) → Home st → in_normal st ≡ true
home_is_normal st (inl e) = ap in_normal e ∙ green_is_normal
home_is_normal st (inr (m, e)) = ap in_normal e ∙ yellow_is_normal m

not_begun : (t : Lengths) (counted : Bool) (i : ℕ) (st : Stage) → counted ≡ false → pick (begins t counted i) (answered st) st ≡ st
unfolding begins pick
not_begun t counted i st u = rw u refl

module _ (t : Lengths) (s : Sheet) (some : 0 < t.track_yellow) (call : Bool) where
  home_settles : (st : Stage) → Home st → Home (settle t s call st)
  home_settles st (inl e) = inl (ap (settle t s call) e ∙ kept t s call TrackGreen tt)
  home_settles st (inr (m, e)) = inr (m, ap (settle t s call) e ∙ kept t s call (TrackYellow Normal (ToPhase m) 0) some)

  green_obeys : (c : Command) → Home (after_command t s c call TrackGreen)
  green_obeys c = home_settles _ (heard_keeps Home s TrackGreen c (inl refl) (λ n a. inr (n, green_ended n)))

  home_called : (counted : Bool) (i : ℕ) (st : Stage) → counted ≡ false → Home st → Home (called t call counted i st)
  unfolding called
  home_called counted i st u h =
      cases Home call (pick (begins t counted i) (answered st) st) (dropped st)
      (λ _. subst Home (sym (not_begun t counted i st u)) h) (λ _. home_dropped st h)

pub leaving_is : (n : ℕ) (st : Stage) → Leaving n st → (l : Light) × (w : Walker) × (st ≡ leave n l w)
leaving_is n TrackGreen h = absurd h
leaving_is n (TrackYellow p z k) h = absurd h
leaving_is n (TrackRed p z k) h = absurd h
leaving_is n (Open p m g w) h = absurd h
leaving_is n (Ending p m z l w) (a, b, c) = (l, w, λ i. Ending (a i) (c i) (b i) l w)
leaving_is n (ClearanceGreen k) h = absurd h
leaving_is n AllRed h = absurd h

-- the count where normal operation returns
none_counted : (t : Lengths) (call counted : Bool) (end : Stage) (n : ℕ) → counted ≡ false → in_normal end ≡ true → count_after t call counted end n ≡ 0
unfolding count_after pick
none_counted t call counted end n e h = rw e (rw h refl)

-- the first step
first : (t : Lengths) (s : Sheet) (call : Bool) (x : Now) (n : ℕ) (l : Light) (w : Walker) → x.stage ≡ leave n l w
    → after_times t s call x ≡ settled_as call Train n ToTrack (settle_phase (phase_of s n) (add_light (phase_of s n) l) (add_walker (phase_of s n) w))
unfolding settle add_one
first t s call x n l w e =
    ap (λ (v : Stage). settle t s call (overdue t x.count (add_one t s v))) e
    ∙ ap (settle t s call) (on_time t x.count (add_one t s (leave n l w)) (leave_is_not n (add_light (phase_of s n) l) (add_walker (phase_of s n) w)))

-- ---- a tick of it
abbrev pub comes_to : Sheet → ℕ → Light → Walker → Settled
comes_to s n l w = settle_phase (phase_of s n) (add_light (phase_of s n) l) (add_walker (phase_of s n) w)

module _ (t : Lengths) (s : Sheet) (c : Command) (call : Bool) (x : Now) (n : ℕ) (lasts : 0 < t.l51) (some : 0 < t.track_yellow) where
  -- what the phase has come to decides: it goes on ending so, or normal track green is back
  abbrev pub Comes : Settled → Type 0
  Comes y = ((l : Light) × (w : Walker) × (y ≡ Some (l, w)) × (end_of t s c call x ≡ leave n l w)) ⊎ Back (ticked t s x c call).now

  after_first : counting t x ≡ false → (y : Settled) → after_times t s call x ≡ settled_as call Train n ToTrack y → Comes y
  unfolding settled_as enter
  after_first u (Some (l, w)) e =
      let r : Rests t s (leave n l w) = subst (Rests t s) e (nothing_due t s call _ lasts) in
      inl (l, w, refl, ap (λ (v : Stage). after_call t s call x (after_command t s c call v)) e ∙ leave_through t s c call x n l w u r)
  after_first u None e =
      let h : Home (end_of t s c call x) =
      subst (λ (v : Stage). Home (after_call t s call x (after_command t s c call v))) (sym e)
      (home_settles t s some call _ (home_called t s some call (counting t x) x.count _ u (green_obeys t s some call c))) in
      inr (none_counted t call (counting t x) (end_of t s c call x) x.count u (home_is_normal _ h), h)

  pub leave_tick : (l : Light) (w : Walker) → x.stage ≡ leave n l w → Comes (comes_to s n l w)
  leave_tick l w e =
      after_first (uncounted t x.stage x.count (ap in_normal e ∙ leave_is_not n l w)) (comes_to s n l w) (first t s call x n l w e)

  comes_leaving : (y : Settled) → Comes y → Leaving n (end_of t s c call x) ⊎ Back (ticked t s x c call).now
  comes_leaving y (inl (l, w, d, e)) = inl (subst (Leaving n) (sym e) (refl, refl, refl))
  comes_leaving y (inr b) = inr b

pub leaves_only : LeavesOnly
leaves_only t s x c call n lasts some h =
    let e = leaving_is n x.stage h in
    comes_leaving t s c call x n lasts some (comes_to s n e.0 e.1) (leave_tick t s c call x n lasts some e.0 e.1 e.2)
