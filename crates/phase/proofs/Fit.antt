-- No time of a phase comes above its length: one more tick stops there, and a change starts the next interval at 0. Assumes nothing.
use Prim.Native.Nat.{ℕ, ◌+◌, ◌≤◌}
use mathlib.Core.Bool.{true}
use mathlib.Core.Path.{◌≡◌}
use native.Mathlib.Omega.{arith}
use lib.Dec.{ltb, leb}
use borrow.Author.Tests.{ltb-true, leb-true, le-leb}
use Rattle.units.proofs.Steps.{cases}
use Rattle.sheet.specs.declared.Phase.{Phase}
use Rattle.phase.specs.declared.Light.{Light}
use Rattle.phase.specs.declared.Light.TheVariants.{Green, Yellow, Red}
use Rattle.phase.specs.declared.Walker.{Walker}
use Rattle.phase.specs.declared.Walker.TheVariants.{Walk, Clearance}
use Rattle.std.specs.Prelude.{Some, None}
use Rattle.phase.specs.Times.{one_more, green_time, add_light, add_walker, light_fits, walker_fits}
use Rattle.phase.specs.Ending.{Settled, after_walk, green_over, after_green, after_yellow, over_or_stays, settle_phase}
use Rattle.phase.specs.Promises.{Fits, FitsKept, tick}

-- a time that fits, one tick later
pub one_more_fits : (k n : ℕ) → leb k n ≡ true → leb (one_more k n) n ≡ true
unfolding one_more
one_more_fits k n h =
    le-leb (one_more k n) n (cases (λ (x : ℕ). x ≤ n) (ltb k n) (k + 1) k (λ e. omega (arith, ltb-true k n e)) (λ e. leb-true k n h))

-- a time that has just begun
pub none_fits : (n : ℕ) → leb 0 n ≡ true
none_fits n = le-leb 0 n (omega arith)

module _ (p : Phase) where
  pub add_light_fits : (l : Light) → light_fits p l ≡ true → light_fits p (add_light p l) ≡ true
  unfolding light_fits add_light
  add_light_fits (Green k) h = one_more_fits k (green_time p) h
  add_light_fits (Yellow k) h = one_more_fits k p.yellow h
  add_light_fits (Red k) h = one_more_fits k p.red h

  pub add_walker_fits : (w : Walker) → walker_fits p w ≡ true → walker_fits p (add_walker p w) ≡ true
  unfolding walker_fits add_walker
  add_walker_fits (Walk k) h = one_more_fits k p.walk h
  add_walker_fits (Clearance k) h = one_more_fits k p.clearance h

  abbrev WalkerFits : Walker → Type 0
  WalkerFits w = walker_fits p w ≡ true

  abbrev LightFits : Light → Type 0
  LightFits l = light_fits p l ≡ true

  walk_fits : (w : Walker) → WalkerFits w → WalkerFits (after_walk p w)
  unfolding walker_fits after_walk
  walk_fits (Walk k) h = cases WalkerFits (leb p.walk k) (Clearance 0) (Walk k) (λ e. none_fits p.clearance) (λ e. h)
  walk_fits (Clearance k) h = h

  green_fits : (w : Walker) (l : Light) → LightFits l → LightFits (after_green p w l)
  unfolding light_fits after_green
  green_fits w (Green k) h = cases LightFits (green_over p w k) (Yellow 0) (Green k) (λ e. none_fits p.yellow) (λ e. h)
  green_fits w (Yellow k) h = h
  green_fits w (Red k) h = h

  yellow_fits : (l : Light) → LightFits l → LightFits (after_yellow p l)
  unfolding light_fits after_yellow
  yellow_fits (Green k) h = h
  yellow_fits (Yellow k) h = cases LightFits (leb p.yellow k) (Red 0) (Yellow k) (λ e. none_fits p.red) (λ e. h)
  yellow_fits (Red k) h = h

  pub settle_fits : (l : Light) (w : Walker) → LightFits l → WalkerFits w → Fits p (settle_phase p l w)
  unfolding over_or_stays
  settle_fits l w h i =
      cases (Fits p) _ None (Some (after_yellow p (after_green p (after_walk p w) l), after_walk p w))
      (λ e. tt)
      (λ e. (yellow_fits _ (green_fits (after_walk p w) l h), walk_fits w i))

  tick_fits : (x : Settled) → Fits p x → Fits p (tick p x)
  unfolding tick
  tick_fits (Some (l, w)) h = settle_fits (add_light p l) (add_walker p w) (add_light_fits l h.0) (add_walker_fits w h.1)
  tick_fits None h = tt

pub fits_kept : FitsKept
fits_kept p = (settle_fits p, tick_fits p)
