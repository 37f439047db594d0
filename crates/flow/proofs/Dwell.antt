-- Track red after clearance green, dwell's all red, and the command that a tick takes: each by going through the three steps. Assumes nothing.
use Prim.Native.Nat.{ℕ, ◌+◌, ◌<◌}
use mathlib.Core.Bool.{Bool, true, false}
use mathlib.Core.Path.{◌≡◌, refl, ◌∙◌, ap}
use native.Mathlib.Omega.{arith}
use borrow.Author.Tests.{le-leb, lt-ltb}
use Rattle.units.specs.Numbers.{pick}
use Rattle.units.proofs.Steps.{cases}
use Rattle.sheet.specs.declared.Sheet.{Sheet}
use Rattle.sheet.specs.Entries.{named}
use Rattle.phase.specs.Times.{one_more}
use Rattle.stage.specs.declared.Command.{Command}
use Rattle.stage.specs.declared.Command.TheVariants.{None, End}
use Rattle.stage.specs.declared.Lengths.{Lengths}
use Rattle.stage.specs.declared.Place.TheVariants.{Normal, Train}
use Rattle.stage.specs.declared.Stage.{Stage}
use Rattle.stage.specs.declared.Stage.TheVariants.{TrackGreen, TrackYellow, TrackRed, Open, AllRed}
use Rattle.stage.specs.declared.Then.TheVariants.{ToPhase, ToDwell}
use Rattle.stage.specs.Commands.{may_start, allowed_at, allowed, ended, obeyed}
use Rattle.stage.specs.Listed.{listed}
use Rattle.stage.specs.Shown.{in_normal, is_normal, normal_before, stays_normal}
use Rattle.stage.specs.Times.{add_one}
use Rattle.flow.specs.declared.Now.{Now}
use Rattle.flow.specs.Calls.{counting, count_after, dropped, called}
use Rattle.flow.specs.Settling.{enter, settle_red, settle}
use Rattle.flow.specs.Tick.{heard, after_times, after_command, after_call, ticked}
use Rattle.flow.specs.Promises.{now, RedEnds, AllRedStays, AllRedEnds, NamedStarts, JudgedAfterTimes, JudgedInDwell, AsWithNone}
use Rattle.flow.proofs.Rest.{kept}
use Rattle.flow.proofs.Steps.{uncounted, on_time, left_on, by_steps}

-- ---- the third step where the tick counts no call
module _ (t : Lengths) (s : Sheet) (x : Now) (u : counting t x ≡ false) where
  on_kept : (st : Stage) → settle t s true st ≡ st → settle t s true (called t true (counting t x) x.count st) ≡ st
  on_kept st e = ap (settle t s true) (left_on t (counting t x) x.count st u) ∙ e

  on_count : (end : Stage) → in_normal end ≡ false → count_after t true (counting t x) end x.count ≡ x.count
  unfolding count_after pick
  on_count end e = rw u (rw e refl)

  off_count : (end : Stage) → in_normal end ≡ true → count_after t false (counting t x) end x.count ≡ 0
  unfolding count_after pick
  off_count end e = rw u (rw e refl)

red_off : (t : Lengths) (s : Sheet) (counted : Bool) (n : ℕ) → settle t s false (called t false counted n AllRed) ≡ TrackGreen
unfolding called dropped settle pick
red_off t s counted n = refl

green_off : (t : Lengths) (s : Sheet) (counted : Bool) (n : ℕ) → settle t s false (called t false counted n TrackGreen) ≡ TrackGreen
unfolding called dropped settle pick
green_off t s counted n = refl

green_is_normal : in_normal TrackGreen ≡ true
unfolding in_normal
green_is_normal = refl

-- ---- all red
all_red_is_not : in_normal AllRed ≡ false
unfolding in_normal
all_red_is_not = refl

opened_is_not : (m : ℕ) → in_normal (Open Train m 0 0) ≡ false
unfolding in_normal is_normal
opened_is_not m = refl

all_red_first : (t : Lengths) (s : Sheet) (call : Bool) (n : ℕ) → after_times t s call (now AllRed n) ≡ AllRed
unfolding add_one settle
all_red_first t s call n = ap (settle t s call) (on_time t n AllRed all_red_is_not)

all_red_none : (t : Lengths) (s : Sheet) (call : Bool) → after_command t s None call AllRed ≡ AllRed
unfolding heard allowed obeyed settle pick
all_red_none t s call = refl

pub all_red_stays : AllRedStays
all_red_stays t s n =
    let u = uncounted t AllRed n all_red_is_not in
    by_steps t s (now AllRed n) None true AllRed AllRed AllRed n (all_red_first t s true n) (all_red_none t s true)
    (on_kept t s (now AllRed n) u AllRed (kept t s true AllRed tt)) (on_count t s (now AllRed n) u AllRed all_red_is_not)

pub all_red_ends : AllRedEnds
all_red_ends t s n =
    let u = uncounted t AllRed n all_red_is_not in
    by_steps t s (now AllRed n) None false AllRed AllRed TrackGreen 0 (all_red_first t s false n) (all_red_none t s false)
    (red_off t s (counting t (now AllRed n)) n) (off_count t s (now AllRed n) u TrackGreen green_is_normal)

-- ---- a named phase starts from it, on a tick that comes to all red in its first step
module _ (t : Lengths) (s : Sheet) (x : Now) (m : ℕ) (h : named s m ≡ true) (u : counting t x ≡ false) (first : after_times t s true x ≡ AllRed) where
  may : allowed s AllRed (End m) ≡ true
  unfolding allowed allowed_at may_start
  may = h

  opens : after_command t s (End m) true AllRed ≡ Open Train m 0 0
  unfolding heard obeyed ended pick
  opens = rw may (kept t s true (Open Train m 0 0) tt)

  starts : ticked t s x (End m) true ≡ record { now = now (Open Train m 0 0) x.count; allowed = true }
  starts =
      let q =
      by_steps t s x (End m) true AllRed (Open Train m 0 0) (Open Train m 0 0) x.count first opens
      (on_kept t s x u (Open Train m 0 0) (kept t s true (Open Train m 0 0) tt)) (on_count t s x u (Open Train m 0 0) (opened_is_not m)) in
      let a : (ticked t s x (End m) true).allowed ≡ true = ap (λ (v : Stage). allowed s v (End m)) first ∙ may in
      λ i. record { now = q i; allowed = a i }

pub named_starts : NamedStarts
named_starts t s n m h = starts t s (now AllRed n) m h (uncounted t AllRed n all_red_is_not) (all_red_first t s true n)

-- ---- the last tick of red
module _ (t : Lengths) (s : Sheet) (n k : ℕ) (e : k + 1 ≡ t.track_red) where
  abbrev red : Now
  red = now (TrackRed Train ToDwell k) n

  red_is_not : (i : ℕ) → in_normal (TrackRed Train ToDwell i) ≡ false
  unfolding in_normal normal_before is_normal pick
  red_is_not i = refl

  red_added : add_one t s (TrackRed Train ToDwell k) ≡ TrackRed Train ToDwell (k + 1)
  unfolding add_one one_more pick
  red_added = rw (lt-ltb k t.track_red (omega arith)) refl

  red_served : (call : Bool) → settle t s call (TrackRed Train ToDwell (k + 1)) ≡ pick call AllRed TrackGreen
  unfolding settle settle_red enter pick
  red_served call = rw (le-leb t.track_red (k + 1) (omega arith)) refl

  red_over : (call : Bool) → after_times t s call red ≡ pick call AllRed TrackGreen
  red_over call = rw red_added (rw (on_time t n (TrackRed Train ToDwell (k + 1)) (red_is_not (k + 1))) (search red_served))

  red_uncounted : counting t red ≡ false
  red_uncounted = uncounted t (TrackRed Train ToDwell k) n (red_is_not k)

green_none : (t : Lengths) (s : Sheet) (call : Bool) → after_command t s None call TrackGreen ≡ TrackGreen
unfolding heard allowed obeyed settle pick
green_none t s call = refl

pub red_ends : RedEnds
unfolding pick
red_ends t s n k e =
    let x = red t s n k e in
    let u = red_uncounted t s n k e in (
      by_steps t s x None true AllRed AllRed AllRed n (red_over t s n k e true) (all_red_none t s true)
          (on_kept t s x u AllRed (kept t s true AllRed tt)) (on_count t s x u AllRed all_red_is_not),
      by_steps t s x None false TrackGreen TrackGreen TrackGreen 0 (red_over t s n k e false) (green_none t s false)
          (green_off t s (counting t x) n) (off_count t s x u TrackGreen green_is_normal),
    )

-- ---- a command on that tick
module _ (t : Lengths) (s : Sheet) (m : ℕ) (h : listed s m ≡ true) (p : 0 < t.track_yellow) where
  abbrev started : Stage
  started = TrackYellow Normal (ToPhase m) 0

  judged : allowed s TrackGreen (End m) ≡ true
  unfolding allowed allowed_at may_start
  judged = h

  yellow_starts : after_command t s (End m) false TrackGreen ≡ started
  unfolding heard obeyed ended pick
  yellow_starts = rw judged (kept t s false started p)

  yellow_stays : (counted : Bool) (n : ℕ) → settle t s false (called t false counted n started) ≡ started
  unfolding called dropped pick
  yellow_stays counted n = kept t s false started p

  yellow_is_normal : in_normal started ≡ true
  unfolding in_normal normal_before is_normal stays_normal pick
  yellow_is_normal = refl

pub judged_after_times : JudgedAfterTimes
unfolding pick
judged_after_times t s n k m e p h =
    let x = red t s n k e in
    let q =
    by_steps t s x (End m) false TrackGreen (started t s m h p) (started t s m h p) 0 (red_over t s n k e false) (yellow_starts t s m h p)
    (yellow_stays t s m h p (counting t x) n) (off_count t s x (red_uncounted t s n k e) (started t s m h p) (yellow_is_normal t s m h p)) in
    let a : (ticked t s x (End m) false).allowed ≡ true = ap (λ (v : Stage). allowed s v (End m)) (red_over t s n k e false) ∙ judged t s m h p in
    λ i. record { now = q i; allowed = a i }

pub judged_in_dwell : JudgedInDwell
unfolding pick
judged_in_dwell t s n k m e h = starts t s (red t s n k e) m h (red_uncounted t s n k e) (red_over t s n k e true)

-- ---- a command that is not allowed
not_heard : (s : Sheet) (st : Stage) (c : Command) → allowed s st c ≡ false → heard s st c ≡ heard s st None
unfolding heard pick
not_heard s st c e = rw e (cases (λ (d : Command). None ≡ d) (allowed s st None) None None (λ _. refl) (λ _. refl))

pub as_with_none : AsWithNone
as_with_none t s x c call e =
    let first = after_times t s call x in
    let end : Command → Stage = λ (d : Command). after_call t s call x (settle t s call (obeyed first d)) in
    ap (λ (d : Command). now (end d) (count_after t call (counting t x) (end d) x.count)) (not_heard s first c e)
