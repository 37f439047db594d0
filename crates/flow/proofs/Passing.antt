-- Ticks without a command, one after the other: one of those left, and none. Assumes nothing.
use Prim.Native.Nat.{ℕ, ◌+◌, ◌-◌, ◌<◌, ◌≤◌}
use mathlib.Core.Bool.{Bool}
use mathlib.Core.Path.{◌≡◌, refl}
use Rattle.units.proofs.Turns.{turn_left, none_left}
use Rattle.sheet.specs.declared.Sheet.{Sheet}
use Rattle.stage.specs.declared.Command.TheVariants.{None}
use Rattle.stage.specs.declared.Lengths.{Lengths}
use Rattle.flow.specs.declared.Now.{Now}
use Rattle.flow.specs.Tick.{ticked, passing}

module _ (t : Lengths) (s : Sheet) (call : Bool) (n i : ℕ) (x : Now) where
  pub pass_step : i < n → passing t s call (n - i) x ≡ passing t s call (n - (i + 1)) (ticked t s x None call).now
  unfolding passing
  pass_step = turn_left (passing t s call) (λ x. (ticked t s x None call).now) (λ x. refl) (λ n x. refl) n i x

  pub pass_end : n ≤ i → passing t s call (n - i) x ≡ x
  unfolding passing
  pass_end = none_left (passing t s call) (λ x. (ticked t s x None call).now) (λ x. refl) (λ n x. refl) n i x
