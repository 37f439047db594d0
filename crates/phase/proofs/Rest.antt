-- Settling leaves no change due, makes none too soon, and twice is once: by cases on light and walker, test by test. Assumes nothing.
use Prim.Native.Nat.{ℕ, ◌<◌}
use mathlib.Core.Bool.{Bool, false}
use mathlib.Core.Logic.{◌⊎◌, inl, inr}
use mathlib.Core.Path.{◌≡◌, refl, sym, ◌∙◌}
use lib.Dec.{leb, eqb}
use borrow.Author.Tests.{leb-false, lt-leb, eqb-true, eq-eqb}
use Rattle.units.specs.Numbers.{pick}
use Rattle.units.proofs.Steps.{cases, split, never}
use Rattle.sheet.specs.declared.Phase.{Phase}
use Rattle.phase.specs.declared.Light.{Light}
use Rattle.phase.specs.declared.Light.TheVariants.{Green, Yellow, Red}
use Rattle.phase.specs.declared.Walker.{Walker}
use Rattle.phase.specs.declared.Walker.TheVariants.{Walk, Clearance}
use Rattle.std.specs.Prelude.{Some, None}
use Rattle.phase.specs.Times.{green_time}
use Rattle.phase.specs.Ending.{Settled, after_walk, walk_over, clearance_over, green_over, after_green, after_yellow, phase_over, over_or_stays, settle_phase}
use Rattle.phase.specs.Promises.{WalkRuns, ClearanceRuns, GreenRuns, GreenWaits, RedWaits, WalkerRests, LightRests, Rests, NothingDue, again, TwiceIsOnce}

module _ (p : Phase) where
  -- ---- not too soon
  not_cleared : (w : Walker) → ClearanceRuns p w → clearance_over p w ≡ false
  unfolding clearance_over
  not_cleared (Walk j) r = refl
  not_cleared (Clearance j) r = lt-leb p.clearance j r

  walking : (w : Walker) → WalkRuns w → walk_over w ≡ false
  unfolding walk_over
  walking (Walk j) r = refl
  walking (Clearance j) r = absurd r

  green_runs : (k : ℕ) (w : Walker) → GreenRuns p w k → green_over p w k ≡ false
  unfolding green_over pick
  green_runs k w (inl h) = rw (lt-leb (green_time p) k h) refl
  green_runs k w (inr (inl r)) = rw (walking w r) (cases (λ (b : Bool). b ≡ false) (leb (green_time p) k) false false (λ e. refl) (λ e. refl))
  green_runs k w (inr (inr (m, r))) =
      rw (eq-eqb p.mode 1 m, not_cleared w r)
      (cases (λ (b : Bool). b ≡ false) (leb (green_time p) k) (pick (walk_over w) false false) false
      (λ e. cases (λ (b : Bool). b ≡ false) (walk_over w) false false (λ f. refl) (λ f. refl)) (λ e. refl))

  pub green_waits : (k : ℕ) (w : Walker) → GreenRuns p (after_walk p w) k → settle_phase p (Green k) w ≡ Some (Green k, after_walk p w)
  unfolding over_or_stays after_yellow after_green phase_over pick
  green_waits k w r = rw (green_runs k (after_walk p w) r) refl

  pub red_waits : (k : ℕ) (w : Walker) → ((k < p.red) ⊎ ClearanceRuns p (after_walk p w)) → settle_phase p (Red k) w ≡ Some (Red k, after_walk p w)
  unfolding over_or_stays after_yellow after_green phase_over pick
  red_waits k w (inl h) = rw (lt-leb p.red k h) refl
  red_waits k w (inr r) = rw (not_cleared (after_walk p w) r) (cases (λ (b : Bool). pick {A = Settled} b None (Some (Red k, after_walk p w)) ≡ Some (Red k, after_walk p w)) (leb p.red k) false false (λ e. refl) (λ e. refl))

  -- ---- nothing left due
  still_green : (k : ℕ) (w : Walker) → green_over p w k ≡ false → GreenRuns p w k
  unfolding green_over walk_over clearance_over pick
  still_green k (Walk j) e = inr (inl tt)
  still_green k (Clearance j) e =
      split (leb (green_time p) k)
      (λ s.
      split (eqb p.mode 1)
      (λ m. inr (inr (eqb-true p.mode 1 m, leb-false p.clearance j (rw (s, m) at e))))
      (λ m. never (sym (rw (s, m) at e))))
      (λ s. inl (leb-false (green_time p) k s))

  still_red : (k : ℕ) (w : Walker) → phase_over p (Red k) w ≡ false → (k < p.red) ⊎ ClearanceRuns p w
  unfolding phase_over clearance_over pick
  still_red k (Walk j) e = inr tt
  still_red k (Clearance j) e =
      split (leb p.red k) (λ s. inr (leb-false p.clearance j (rw s at e))) (λ s. inl (leb-false p.red k s))

  walk_rests : (w : Walker) → WalkerRests p (after_walk p w)
  unfolding after_walk
  walk_rests (Walk k) = cases (WalkerRests p) (leb p.walk k) (Clearance 0) (Walk k) (λ e. tt) (λ e. leb-false p.walk k e)
  walk_rests (Clearance k) = tt

  -- a light at rest, unless the phase is over
  abbrev LitRests : Walker → Light → Type 0
  LitRests w l = phase_over p l w ≡ false → LightRests p l w

  yellow_rests : (k : ℕ) (w : Walker) → LitRests w (pick (leb p.yellow k) (Red 0) (Yellow k))
  yellow_rests k w = cases (LitRests w) (leb p.yellow k) (Red 0) (Yellow k) (λ e. still_red 0 w) (λ e o. leb-false p.yellow k e)

  light_rests : (w : Walker) (l : Light) → LitRests w (after_yellow p (after_green p w l))
  unfolding after_green after_yellow
  light_rests w (Green k) =
      cases (λ (l : Light). LitRests w (after_yellow p l)) (green_over p w k) (Yellow 0) (Green k) (λ e. yellow_rests 0 w) (λ e o. still_green k w e)
  light_rests w (Yellow k) = yellow_rests k w
  light_rests w (Red k) = still_red k w

  pub nothing_due : (l : Light) (w : Walker) → Rests p (settle_phase p l w)
  unfolding over_or_stays
  nothing_due l w =
      cases (Rests p) _ None (Some (after_yellow p (after_green p (after_walk p w) l), after_walk p w))
      (λ e. tt)
      (λ e. (light_rests (after_walk p w) l e, walk_rests w))

  -- ---- what is at rest settles to itself
  walk_kept : (w : Walker) → WalkerRests p w → after_walk p w ≡ w
  unfolding after_walk pick
  walk_kept (Walk k) r = rw (lt-leb p.walk k r) refl
  walk_kept (Clearance k) r = refl

  yellow_waits : (k : ℕ) (w : Walker) → k < p.yellow → settle_phase p (Yellow k) w ≡ Some (Yellow k, after_walk p w)
  unfolding over_or_stays after_yellow after_green phase_over pick
  yellow_waits k w h = rw (lt-leb p.yellow k h) refl

  pub kept : (x : Settled) → Rests p x → again p x ≡ x
  kept (Some (Green k, w)) r =
      let e = walk_kept w r.1 in
      green_waits k w (rw e r.0) ∙ rw e
  kept (Some (Yellow k, w)) r = yellow_waits k w r.0 ∙ rw (walk_kept w r.1)
  kept (Some (Red k, w)) r =
      let e = walk_kept w r.1 in
      red_waits k w (rw e r.0) ∙ rw e
  kept None r = refl

pub green_waits_all : GreenWaits
green_waits_all = green_waits

pub red_waits_all : RedWaits
red_waits_all = red_waits

pub nothing_due_all : NothingDue
nothing_due_all = nothing_due

pub twice_is_once : TwiceIsOnce
twice_is_once p l w = kept p (settle_phase p l w) (nothing_due p l w)
