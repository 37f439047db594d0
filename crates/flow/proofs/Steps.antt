-- A tick step by step: what each of the three steps keeps, the tick keeps; and where the call is not counted, and left on, it changes nothing.
-- Assumes nothing.
use Prim.Native.Nat.{ℕ}
use mathlib.Core.Bool.{Bool, true, false}
use mathlib.Core.Path.{◌≡◌, refl, sym, subst, ◌∙◌, ap}
use lib.Dec.{eqb}
use Rattle.units.specs.Numbers.{pick}
use Rattle.units.proofs.Steps.{cases}
use Rattle.sheet.specs.declared.Sheet.{Sheet}
use Rattle.stage.specs.declared.Command.{Command}
use Rattle.stage.specs.declared.Command.TheVariants.{None, End}
use Rattle.stage.specs.declared.Lengths.{Lengths}
use Rattle.stage.specs.declared.Stage.{Stage}
use Rattle.stage.specs.Commands.{allowed_at, allowed, ended, obeyed}
use Rattle.stage.specs.Shown.{in_normal}
use Rattle.stage.specs.Times.{add_one}
use Rattle.flow.specs.declared.Now.{Now}
use Rattle.flow.specs.Calls.{counting, count_after, dropped, begins, called, overdue}
use Rattle.flow.specs.Settling.{settle}
use Rattle.flow.specs.Tick.{heard, after_times, after_command, after_call, end_of, ticked}
use Rattle.flow.specs.Promises.{now}
use Rattle.flow.proofs.Transfer.{normal_added}

-- ---- a stage that is not of normal operation is not counted in, and the call finds the transfer begun nowhere
pub uncounted : (t : Lengths) (st : Stage) (n : ℕ) → in_normal st ≡ false → counting t (now st n) ≡ false
unfolding counting
uncounted t st n e = cases (λ (b : Bool). b ≡ false) (eqb n t.l03) false (in_normal st) (λ _. refl) (λ _. e)

pub on_time : (t : Lengths) (n : ℕ) (st : Stage) → in_normal st ≡ false → overdue t n st ≡ st
unfolding overdue pick
on_time t n st e = rw e (cases (λ (v : Stage). v ≡ st) (eqb n t.l03) st st (λ _. refl) (λ _. refl))

-- the call left on, where it is not counted
pub left_on : (t : Lengths) (counted : Bool) (n : ℕ) (st : Stage) → counted ≡ false → called t true counted n st ≡ st
unfolding called begins pick
left_on t counted n st u = rw u refl

pub called_off : (t : Lengths) (counted : Bool) (n : ℕ) (st : Stage) → called t false counted n st ≡ dropped st
unfolding called pick
called_off t counted n st = refl

-- ---- the unit at the tick's end, from the three steps
module _ (t : Lengths) (s : Sheet) (x : Now) (c : Command) (call : Bool) where
  pub by_steps : (first second end : Stage) (n : ℕ) → after_times t s call x ≡ first → after_command t s c call first ≡ second
      → settle t s call (called t call (counting t x) x.count second) ≡ end → count_after t call (counting t x) end x.count ≡ n
      → (ticked t s x c call).now ≡ now end n
  by_steps first second end n p q r e =
      let d : end_of t s c call x ≡ end = ap (λ (v : Stage). after_call t s call x (after_command t s c call v)) p ∙ ap (λ (v : Stage). after_call t s call x v) q ∙ r in
      ap (λ (v : Stage). now v (count_after t call (counting t x) v x.count)) d ∙ ap (λ (m : ℕ). now end m) e

-- ---- what a command leaves: an end is obeyed only where it is allowed
pub heard_keeps : (P : Stage → Type 0) (s : Sheet) (st : Stage) (c : Command) → P st → ((n : ℕ) → allowed_at s st n ≡ true → P (ended n st)) → P (obeyed st (heard s st c))
unfolding heard allowed obeyed
heard_keeps P s st None h f = cases (λ (d : Command). P (obeyed st d)) true None None (λ _. h) (λ _. h)
heard_keeps P s st (End n) h f = cases (λ (d : Command). P (obeyed st d)) (allowed_at s st n) (End n) None (λ e. f n e) (λ _. h)

-- ---- what settling and the command keep, the first two steps do, from a stage that is not of normal operation
module _ (P : Stage → Type 0) (t : Lengths) (s : Sheet) (call : Bool)
    (settles : (st : Stage) → P st → P (settle t s call st)) (ends : (st : Stage) (n : ℕ) → allowed_at s st n ≡ true → P st → P (ended n st)) where
  pub first_keeps : (x : Now) → in_normal x.stage ≡ false → P (add_one t s x.stage) → P (after_times t s call x)
  first_keeps x away h =
      settles _ (subst P (sym (on_time t x.count (add_one t s x.stage) (normal_added t s x.stage ∙ away))) h)

  pub second_keeps : (c : Command) (st : Stage) → P st → P (after_command t s c call st)
  second_keeps c st h = settles _ (heard_keeps P s st c h (λ n e. ends st n e h))

-- and with the call left on the third too
pub third_keeps : (P : Stage → Type 0) (t : Lengths) (s : Sheet) → ((st : Stage) → P st → P (settle t s true st))
    → (x : Now) → in_normal x.stage ≡ false → (st : Stage) → P st → P (after_call t s true x st)
third_keeps P t s settles x away st h =
    settles _ (subst P (sym (left_on t (counting t x) x.count st (uncounted t x.stage x.count away))) h)
