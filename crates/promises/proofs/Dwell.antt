-- Dwell over any events: only named phases run in it, it is not left while the call stays on, and once the call has gone off each tick takes one off
-- what is left of the phase, for which line 16 is enough. Assumes nothing.
use Prim.Native.Nat.{ℕ, zero, suc, ◌≤◌, ◌<◌}
use mathlib.Core.Bool.{Bool, true, false}
use mathlib.Core.List.{List, [], ◌∷◌}
use mathlib.Core.Logic.{◌⊎◌, inl, inr}
use mathlib.Core.Path.{◌≡◌, refl, sym, ap, subst, ◌∙◌}
use native.Mathlib.Omega.{arith}
use Rattle.units.specs.Numbers.{pick}
use Rattle.units.proofs.Steps.{cases, never, both_right}
use Rattle.sheet.specs.declared.Sheet.{Sheet}
use Rattle.sheet.specs.Refusals.{is_fine}
use Rattle.sheet.specs.Zero.{zero_sheet}
use Rattle.phase.specs.declared.Light.{Light}
use Rattle.phase.specs.declared.Walker.{Walker}
use Rattle.phase.specs.Ending.{Settled}
use Rattle.std.specs.Prelude.{Some, None}
use Rattle.phase.specs.Promises as phases
use Rattle.phase.proofs.Left.{Left, tick_left, left_none}
use Rattle.phase.proofs.Rest as phase_rest
use Rattle.stage.specs.declared.Command.{Command}
use Rattle.stage.specs.declared.Stage.{Stage}
use Rattle.stage.specs.declared.Stage.TheVariants.{TrackGreen, TrackYellow, TrackRed, Open, Ending, ClearanceGreen, AllRed}
use Rattle.stage.specs.declared.Then.TheVariants.{ToTrack}
use Rattle.stage.specs.Fitness.{then_fits, stage_fits}
use Rattle.stage.specs.Listed.{phase_of}
use Rattle.flow.specs.declared.Now.{Now}
use Rattle.flow.specs.Tick.{ticked}
use Rattle.flow.specs.Promises.{now, Rests, InDwell, OnlyNamed, Leaving, Back}
use Rattle.flow.proofs.Leaving.{leave, comes_to, leaving_is, leave_tick}
use Rattle.flow.proofs.Named.{named_kept}
use Rattle.flow.proofs.Rest.{ends_at_rest}
use Rattle.flow.proofs.SideStreets.{dwell_stays, off_leaves}
use Rattle.measured.specs.Measured.{lengths_of}
use Rattle.unit.specs.declared.Reply.{Reply}
use Rattle.unit.specs.declared.Unit.{Unit}
use Rattle.unit.specs.Unit.{now_of, fits, tick_of, fresh, restarted, start_of, load_answer, load_of}
use Rattle.unit.specs.Runs.{Event, tick, load, answer_to, run}
use Rattle.unit.proofs.Fit.{fits_sheet, fits_told, onward, tick_is, onward_fits}
use Rattle.unit.proofs.Kept.{fits_kept, start_fits}
use Rattle.unit.proofs.Refused.{not_loaded}
use Rattle.promises.specs.Demand.{CallOn, ticks_in, up_to, at_end}
use Rattle.promises.specs.Dwell.{line16, OnlyNamedInDwell, DwellNotLeft, LeftInTime, DwellLeftInTime}
use Rattle.promises.proofs.Between.{elsewhere_refuses, same_end}
use Rattle.promises.proofs.Coming.{phase_left}
use Rattle.promises.proofs.Greens.{sixteen, unit_lasts}
use Rattle.promises.proofs.Sheets as sheets

-- ---- only named phases
abbrev Named : Unit → Type 0
Named u = OnlyNamed u.sheet u.stage

named_on : (u : Unit) (e : Event) → Named u → Named (answer_to u e).unit
unfolding answer_to tick_of restarted
named_on u (tick c call) h =
    cases (λ (r : Reply). Named r.unit) (fits u) _ _ (λ f. named_kept (lengths_of u.sheet) u.sheet (now_of u) c call h) (λ f. h)
named_on u (load s) h = cases (λ (r : Reply). Named r.unit) (is_fine (load_answer u s)) _ _ (λ e. tt) (λ e. h)

named_run : (es : List Event) (u : Unit) → Named u → Named (run u es)
unfolding run
named_run [] u h = h
named_run (e ∷ es) u h = named_run es (answer_to u e).unit (named_on u e h)

named_start : (s : Sheet) → Named (start_of s).unit
unfolding restarted
named_start s = cases (λ (r : Reply). Named r.unit) _ _ _ (λ e. tt) (λ e. tt)

pub only_named : OnlyNamedInDwell
only_named s a past = named_run past (start_of s).unit (named_start s)

-- ---- not left while the call stays on
elsewhere : (u : Unit) (s : Sheet) → InDwell u.stage → is_fine (load_of u s).answer ≡ false
elsewhere u s h = elsewhere_refuses u s (λ e. subst InDwell e h)

record Dwells (u v : Unit) : Type 0 where
  dwell : InDwell v.stage
  sheet : v.sheet ≡ u.sheet

dwells : (es : List Event) → CallOn es → (u : Unit) → fits u ≡ true → InDwell u.stage → Dwells u (run u es)
unfolding run answer_to
dwells [] o u f h = record { dwell = h; sheet = refl }
dwells (tick c false ∷ es) o u f h = never (search o.0)
dwells (tick c true ∷ es) o u f h =
    let d = dwells es o.1 (onward u c true) (onward_fits u c true f) (dwell_stays (lengths_of u.sheet) u.sheet (now_of u) c h) in
    subst (λ (v : Unit). Dwells u (run v es)) (sym (tick_is u c true f)) (record { dwell = d.dwell; sheet = d.sheet })
dwells (load s ∷ es) o u f h =
    subst (λ (v : Unit). Dwells u (run v es)) (sym (not_loaded u s (elsewhere u s h))) (dwells es o u f h)

pub dwell_not_left : DwellNotLeft
dwell_not_left s a past h es o =
    let u = run (start_of s).unit past in
    let d = dwells es o u (fits_kept (start_of s).unit past (start_fits s a)) h in
    (d.dwell, named_run es u (only_named s a past), d.sheet)

-- ---- left in time: the phase that ends is over within k ticks
record Leaves (u : Unit) (n k : ℕ) : Type 0 where
  light : Light
  walker : Walker
  stage : u.stage ≡ leave n light walker
  left : Left (phase_of u.sheet n) k (Some (light, walker))

leaves_leaving : (u : Unit) (n k : ℕ) → Leaves u n k → Leaving n u.stage
leaves_leaving u n k h = subst (Leaving n) (sym h.stage) (refl, refl, refl)

leaves_refuses : (u : Unit) (s : Sheet) (n k : ℕ) → Leaves u n k → is_fine (load_of u s).answer ≡ false
leaves_refuses u s n k h = elsewhere_refuses u s (λ e. subst (Leaving n) e (leaves_leaving u n k h))

-- with none left it would be over
abbrev IsOver : Settled → Type 0
IsOver (Some (l, w)) = ⊥
IsOver None = Prim.Unit {0}

none_leaves : (u : Unit) (n : ℕ) → Leaves u n 0 → ⊥
none_leaves u n h = subst IsOver (sym (left_none (phase_of u.sheet n) (Some (h.light, h.walker)) h.left)) tt

unit_yellow : (u : Unit) → fits u ≡ true → 0 < (lengths_of u.sheet).track_yellow
unit_yellow u f = omega (arith, (sheets.is_sound u.sheet (fits_sheet u f)).track_yellow.low)

-- one tick takes one off
module _ (u : Unit) (c : Command) (call : Bool) (n k : ℕ) (f : fits u ≡ true) (h : Leaves u n (suc k)) where
  one_off : Left (phase_of u.sheet n) k (comes_to u.sheet n h.light h.walker)
  unfolding phases.tick
  one_off = tick_left (phase_of u.sheet n) k (Some (h.light, h.walker)) h.left

  leaves_tick : Leaves (onward u c call) n k ⊎ Back (now_of (onward u c call))
  leaves_tick =
      by_outcome (leave_tick (lengths_of u.sheet) u.sheet c call (now_of u) n (unit_lasts u f) (unit_yellow u f) h.light h.walker h.stage)
    where
      by_outcome : (((l : Light) × (w : Walker) × (comes_to u.sheet n h.light h.walker ≡ Some (l, w)) × ((onward u c call).stage ≡ leave n l w)) ⊎ Back (now_of (onward u c call)))
          → Leaves (onward u c call) n k ⊎ Back (now_of (onward u c call))
      by_outcome (inl (l, w, e, d)) = inl (record { light = l; walker = w; stage = d; left = subst (Left (phase_of u.sheet n) k) e one_off })
      by_outcome (inr b) = inr b

-- ---- along the events
-- normal track green is back already
back_now : (phase : ℕ) (u : Unit) (es : List Event) (most : ℕ) → Back (now_of u) → LeftInTime phase u es most
unfolding run
back_now phase u es most b = record { back = 0; in_time = omega arith; ending = λ n a l. absurd (omega arith); returned = λ a. b }

module _ (phase : ℕ) (u : Unit) (here : Leaving phase u.stage) where
  -- no more events
  not_yet : (k : ℕ) → LeftInTime phase u [] (suc k)
  unfolding run
  not_yet k = record { back = suc k; in_time = omega arith; ending = still; returned = λ a. absurd (omega arith) }
    where
      still : (n : ℕ) → n ≤ 0 → n < suc k → Leaving phase (at_end u [] n).stage
      still zero a l = here
      still (suc n) a l = absurd (omega arith)

  -- after a tick
  one_later : (c : Command) (call : Bool) (es : List Event) (k : ℕ) → LeftInTime phase (tick_of u c call).unit es k → LeftInTime phase u (tick c call ∷ es) (suc k)
  unfolding run answer_to
  one_later c call es k h = record { back = suc h.back; in_time = omega (arith, h.in_time); ending = before; returned = λ a. h.returned (omega arith) }
    where
      before : (n : ℕ) → n ≤ suc (ticks_in es) → n < suc h.back → Leaving phase (at_end u (tick c call ∷ es) n).stage
      before zero a l = here
      before (suc n) a l = h.ending n (omega arith) (omega arith)

-- after a load that is refused
unloaded : (phase : ℕ) (u : Unit) (s : Sheet) → is_fine (load_of u s).answer ≡ false → (es : List Event) (k : ℕ) → LeftInTime phase u es k → LeftInTime phase u (load s ∷ es) k
unloaded phase u s r es k h =
    record {
      back = h.back;
      in_time = h.in_time;
      ending = λ n a l. subst (λ (v : Unit). Leaving phase v.stage) (sym (same_end u s r es n)) (h.ending n a l);
      returned = λ a. subst (λ (v : Unit). Back (now_of v)) (sym (same_end u s r es h.back)) (h.returned a);
    }

by_tick : (n : ℕ) (v : Unit) (es : List Event) (k : ℕ) → (Leaves v n k → LeftInTime n v es k) → Leaves v n k ⊎ Back (now_of v) → LeftInTime n v es k
by_tick n v es k rec (inl h) = rec h
by_tick n v es k rec (inr b) = back_now n v es k b

left_within : (es : List Event) (u : Unit) (n k : ℕ) → fits u ≡ true → Leaves u n k → LeftInTime n u es k
left_within es u n zero f h = absurd (none_leaves u n h)
left_within [] u n (suc k) f h = not_yet n u (leaves_leaving u n (suc k) h) k
left_within (tick c call ∷ es) u n (suc k) f h =
    let v = onward u c call in
    let r = by_tick n v es k (left_within es v n k (onward_fits u c call f)) (leaves_tick u c call n k f h) in
    one_later n u (leaves_leaving u n (suc k) h) c call es k (subst (λ (w : Unit). LeftInTime n w es k) (sym (tick_is u c call f)) r)
left_within (load s ∷ es) u n (suc k) f h = unloaded n u s (leaves_refuses u s n (suc k) h) es (suc k) (left_within es u n (suc k) f h)

-- ---- the tick on which the call goes off
-- line 16 is enough for a phase that is ending, and at rest
at_rest : (u : Unit) (n : ℕ) → fits u ≡ true → Rests (lengths_of u.sheet) u.sheet u.stage → Leaving n u.stage → Leaves u n (sixteen u.sheet)
unfolding stage_fits
at_rest u n f r h =
    let s = u.sheet in
    let e = leaving_is n u.stage h in
    let l = e.0 in
    let w = e.1 in
    let fit : stage_fits (lengths_of s) s (leave n l w) ≡ true = subst (λ (v : Stage). stage_fits (lengths_of s) s v ≡ true) e.2 (fits_told u f).stage in
    let rests : phases.Rests (phase_of s n) (Some (l, w)) = subst (Rests (lengths_of s) s) e.2 r in
    record {
      light = l;
      walker = w;
      stage = e.2;
      left =
          subst (Left (phase_of s n) (sixteen s)) (phase_rest.kept (phase_of s n) (Some (l, w)) rests)
          (phase_left (lengths_of s) s (fits_sheet u f) (unit_lasts u f) n l w (both_right (then_fits s ToTrack) _ fit));
    }

by_off : (v : Unit) (es : List Event) → fits v ≡ true → Rests (lengths_of v.sheet) v.sheet v.stage
    → (now_of v ≡ now TrackGreen 0) ⊎ ((n : ℕ) × Leaving n v.stage) → (phase : ℕ) × LeftInTime phase v es (line16 v)
by_off v es f r (inl e) = (0, back_now 0 v es (line16 v) (subst Back (sym e) (refl, inl refl)))
by_off v es f r (inr (n, h)) = (n, left_within es v n (sixteen v.sheet) f (at_rest v n f r h))

pub dwell_left_in_time : DwellLeftInTime
dwell_left_in_time s a past h c es =
    let u = run (start_of s).unit past in
    let f = fits_kept (start_of s).unit past (start_fits s a) in
    let v = onward u c false in
    subst (λ (w : Unit). (phase : ℕ) × LeftInTime phase w es (line16 u)) (sym (tick_is u c false f))
    (by_off v es (onward_fits u c false f) (ends_at_rest (lengths_of u.sheet) u.sheet (now_of u) c false (unit_lasts u f))
    (off_leaves (lengths_of u.sheet) u.sheet (now_of u) c h))
