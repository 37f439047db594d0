-- Ticks one by one: what is left of them comes to the same end, and a running unit made from a unit comes where the unit comes. Assumes nothing.
use Prim.Native.Nat.{ℕ, zero, suc, ◌+◌, ◌-◌, ◌<◌, ◌≤◌}
use mathlib.Core.Bool.{Bool}
use mathlib.Core.Path.{◌≡◌, refl, ap, ◌∙◌}
use lib.ListN.{replicate}
use Rattle.units.proofs.Turns.{turn_left, none_left}
use Rattle.stage.specs.declared.Command.TheVariants.{None}
use Rattle.unit.specs.declared.Unit.{Unit}
use Rattle.unit.specs.Unit.{now_of}
use Rattle.unit.specs.Runs.{Event, tick, answer_to, run}
use Rattle.running.specs.declared.Answered.{Answered}
use Rattle.running.specs.declared.Running.{Running}
use Rattle.running.specs.Running.{running_of, reply_to}
use Rattle.running.proofs.Same.{same_reply}
use Rattle.exported_unit.specs.Exported.{goes_on, told_of, told_by, more_ticks}

module _ {X : Type 0} (after : X → Event → X) (call : Bool) (n i : ℕ) (x : X) where
  pub goes_left : i < n → goes_on after call (n - i) x ≡ goes_on after call (n - (i + 1)) (after x (tick None call))
  unfolding goes_on
  goes_left = turn_left (goes_on after call) (λ v. after v (tick None call)) (λ v. refl) (λ m v. refl) n i x

  pub goes_no_more : n ≤ i → goes_on after call (n - i) x ≡ x
  unfolding goes_on
  goes_no_more = none_left (goes_on after call) (λ v. after v (tick None call)) (λ v. refl) (λ m v. refl) n i x

-- a unit's ticks are a run of them
unit_goes : (call : Bool) (n : ℕ) (u : Unit) → goes_on (λ v e. (answer_to v e).unit) call n u ≡ run u (replicate n (tick None call))
unfolding goes_on run
unit_goes call zero u = refl
unit_goes call (suc n) u = unit_goes call n (answer_to u (tick None call)).unit

pub unit_told : (u : Unit) (e : Event) (call : Bool) (more : ℕ) → told_of (λ v e. (answer_to v e).unit) now_of ((answer_to u e).unit, (answer_to u e).answer) call more ≡ told_by (more_ticks (answer_to u e) call more)
unit_told u e call more =
    ap (λ (v : Unit). record { answer = (answer_to u e).answer; now = now_of v }) (unit_goes call more (answer_to u e).unit)

-- made from a unit, it comes where the unit comes
running_goes : (call : Bool) (n : ℕ) (u : Unit) → goes_on (λ r e. (reply_to r e).running) call n (running_of u) ≡ running_of (run u (replicate n (tick None call)))
unfolding goes_on run
running_goes call zero u = refl
running_goes call (suc n) u =
    ap (λ (k : Answered). goes_on (λ r e. (reply_to r e).running) call n k.running) (same_reply u (tick None call)) ∙ running_goes call n (answer_to u (tick None call)).unit

pub running_told : (u : Unit) (e : Event) (call : Bool) (more : ℕ) → told_of (λ r e. (reply_to r e).running) (λ (r : Running). r.now) ((reply_to (running_of u) e).running, (reply_to (running_of u) e).answer) call more ≡ told_by (more_ticks (answer_to u e) call more)
running_told u e call more =
    ap (λ (k : Answered). record { answer = k.answer; now = (goes_on (λ r e. (reply_to r e).running) call more k.running).now }) (same_reply u e)
    ∙ ap (λ (r : Running). record { answer = (answer_to u e).answer; now = r.now }) (running_goes call more (answer_to u e).unit)
