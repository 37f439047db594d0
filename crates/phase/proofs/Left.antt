-- A phase that was asked to end is over within k ticks: linear bounds on what is left of light and walker, of which a tick takes one off.
-- The key step: green at rest with suc k ticks left still has yellow + red within k. Assumes nothing.
use Prim.Native.Nat.{ℕ, zero, suc, ◌+◌, ◌≤◌, min}
use mathlib.Core.Bool.{true}
use mathlib.Core.Logic.{inl, inr}
use mathlib.Core.Path.{◌≡◌, refl}
use native.Mathlib.Omega.{arith}
use lib.Dec.{ltb, leb, eqb}
use borrow.Author.Tests.{ltb-true, ltb-false, leb-true, eqb-true, eqb-false}
use Rattle.units.specs.Numbers.{pick}
use Rattle.units.proofs.Steps.{cases, split}
use Rattle.sheet.specs.declared.Phase.{Phase}
use Rattle.transfer.specs.declared.Users.TheVariants.{Vehicles, Pedestrians}
use Rattle.transfer.specs.Transfer.{pedestrian_time, time_of}
use Rattle.phase.specs.declared.Light.{Light}
use Rattle.phase.specs.declared.Light.TheVariants.{Green, Yellow, Red}
use Rattle.phase.specs.declared.Walker.{Walker}
use Rattle.phase.specs.declared.Walker.TheVariants.{Walk, Clearance}
use Rattle.std.specs.Prelude.{Some, None}
use Rattle.phase.specs.Times.{one_more, green_time, add_light, add_walker, light_fits, walker_fits}
use Rattle.phase.specs.Ending.{Settled, after_walk, walk_over, clearance_over, green_over, after_green, after_yellow, phase_over, over_or_stays, settle_phase}
use Rattle.phase.specs.Promises.{WalkerRests, Rests, Fits, tick, ticks, Fair, OverInTime, ModeOne, ModeTwo}
use Rattle.phase.proofs.Fit.{settle_fits, add_light_fits, add_walker_fits}
use Rattle.phase.proofs.Rest.{nothing_due}

pub one_more_min : (k n : ℕ) → leb k n ≡ true → one_more k n ≡ min n (k + 1)
unfolding one_more
one_more_min k n h =
    cases (λ (x : ℕ). x ≡ min n (k + 1)) (ltb k n) (k + 1) k
    (λ e. omega (arith, ltb-true k n e)) (λ e. omega (arith, ltb-false k n e, leb-true k n h))

module _ (p : Phase) where
  -- n in mode 1, where green waits for the clearance; else 0
  unfoldable pub waited : ℕ → ℕ
  waited n = pick (eqb p.mode 1) n 0

  data Mode : Type 0 where
    one : p.mode ≡ 1 → ((n : ℕ) → waited n ≡ n) → Mode
    other : (p.mode ≡ 1 → ⊥) → ((n : ℕ) → waited n ≡ 0) → Mode

  mode : Mode
  unfolding waited pick
  mode = split (eqb p.mode 1) (λ e. one (eqb-true p.mode 1 e) (λ n. rw e refl)) (λ e. other (eqb-false p.mode 1 e) (λ n. rw e refl))

  -- ---- what is left
  -- the clearance is over within k ticks
  abbrev Clears : ℕ → Walker → Type 0
  Clears k (Walk j) = p.walk + p.clearance ≤ j + k
  Clears k (Clearance j) = p.clearance ≤ j + k

  -- what green waits for, and yellow and red after it, are over within k ticks
  abbrev Frees : ℕ → Walker → Type 0
  Frees k (Walk j) = p.walk + waited p.clearance + p.yellow + p.red ≤ j + k
  Frees k (Clearance j) = waited (p.clearance + p.yellow + p.red) ≤ j + k

  abbrev Ends : ℕ → Light → Walker → Type 0
  Ends k (Green i) w = (green_time p + p.yellow + p.red ≤ i + k) × Frees k w × Clears k w
  Ends k (Yellow i) w = (p.yellow + p.red ≤ i + k) × Clears k w
  Ends k (Red i) w = (p.red ≤ i + k) × Clears k w

  abbrev EndsIn : ℕ → Settled → Type 0
  EndsIn k (Some (l, w)) = Ends k l w
  EndsIn k None = Unit {0}

  -- over, or at most so many ticks from it
  pub record Left (k : ℕ) (x : Settled) : Type 0 where
    pub fits : Fits p x
    pub rests : Rests p x
    pub ends : EndsIn k x

  -- ---- one more tick of the times
  green_room : (k i : ℕ) (w : Walker) → Rests p (Some (Green i, w)) → Ends (suc k) (Green i) w → p.yellow + p.red ≤ k
  green_room k i w (inl h, q) e = omega (arith, e.0)
  green_room k i (Walk j) (inr (inl r), q) e = omega (arith, e.1)
  green_room k i (Clearance j) (inr (inl r), q) e = absurd r
  green_room k i (Walk j) (inr (inr (m, r)), q) e = omega (arith, e.1)
  green_room k i (Clearance j) (inr (inr (m, r)), q) e = by mode
    where
      by : Mode → p.yellow + p.red ≤ k
      by (one n z) = omega (arith, e.1, z (p.clearance + p.yellow + p.red))
      by (other n z) = absurd (n m)

  add_clears : (k : ℕ) (w : Walker) → walker_fits p w ≡ true → WalkerRests p w → Clears (suc k) w → Clears k (add_walker p w)
  unfolding walker_fits add_walker
  add_clears k (Walk j) f r e = rw (one_more_min j p.walk f) (omega arith)
  add_clears k (Clearance j) f r e = rw (one_more_min j p.clearance f) (omega arith)

  add_frees : (k : ℕ) (w : Walker) → p.yellow + p.red ≤ k → walker_fits p w ≡ true → WalkerRests p w → Frees (suc k) w → Frees k (add_walker p w)
  unfolding walker_fits add_walker
  add_frees k (Walk j) room f r e = rw (one_more_min j p.walk f) (omega arith)
  add_frees k (Clearance j) room f r e = rw (one_more_min j p.clearance f) (by mode)
    where
      by : Mode → waited (p.clearance + p.yellow + p.red) ≤ min p.clearance (j + 1) + k
      by (one n z) = omega (arith, z (p.clearance + p.yellow + p.red))
      by (other n z) = omega (arith, z (p.clearance + p.yellow + p.red))

  add_ends : (k : ℕ) (l : Light) (w : Walker) → Fits p (Some (l, w)) → Rests p (Some (l, w)) → Ends (suc k) l w → Ends k (add_light p l) (add_walker p w)
  unfolding light_fits add_light
  add_ends k (Green i) w f r e =
      let room = green_room k i w r e in
      (rw (one_more_min i (green_time p) f.0) (omega (arith, e.0)), add_frees k w room f.1 r.1 e.1, add_clears k w f.1 r.1 e.2)
  add_ends k (Yellow i) w f r e = (rw (one_more_min i p.yellow f.0) (omega (arith, e.0, r.0)), add_clears k w f.1 r.1 e.1)
  add_ends k (Red i) w f r e = (rw (one_more_min i p.red f.0) (omega (arith, e.0)), add_clears k w f.1 r.1 e.1)

  -- ---- the changes due take nothing from it
  walk_frees : (k j : ℕ) → j ≤ p.walk → Frees k (Walk j) → Frees k (Clearance 0)
  walk_frees k j f e = by mode
    where
      by : Mode → waited (p.clearance + p.yellow + p.red) ≤ 0 + k
      by (one n z) = omega (arith, z (p.clearance + p.yellow + p.red), z p.clearance)
      by (other n z) = omega (arith, z (p.clearance + p.yellow + p.red))

  walk_ends : (k j : ℕ) (l : Light) → j ≤ p.walk → Ends k l (Walk j) → Ends k l (Clearance 0)
  walk_ends k j (Green i) f e = (e.0, walk_frees k j f e.1, omega (arith, e.2))
  walk_ends k j (Yellow i) f e = (e.0, omega (arith, e.1))
  walk_ends k j (Red i) f e = (e.0, omega (arith, e.1))

  after_walk_ends : (k : ℕ) (l : Light) (w : Walker) → walker_fits p w ≡ true → Ends k l w → Ends k l (after_walk p w)
  unfolding walker_fits after_walk
  after_walk_ends k l (Walk j) f e = cases (Ends k l) (leb p.walk j) (Clearance 0) (Walk j) (λ t. walk_ends k j l (leb-true j p.walk f) e) (λ t. e)
  after_walk_ends k l (Clearance j) f e = e

  abbrev LightEnds : ℕ → Walker → Light → Type 0
  LightEnds k w l = Ends k l w

  green_ends : (k i : ℕ) (w : Walker) → i ≤ green_time p → Ends k (Green i) w → Ends k (Yellow 0) w
  green_ends k i w f e = (omega (arith, e.0), e.2)

  yellow_ends : (k : ℕ) (w : Walker) (i : ℕ) → i ≤ p.yellow → Ends k (Yellow i) w → LightEnds k w (pick (leb p.yellow i) (Red 0) (Yellow i))
  yellow_ends k w i f e = cases (LightEnds k w) (leb p.yellow i) (Red 0) (Yellow i) (λ t. (omega (arith, e.0), e.1)) (λ t. e)

  light_ends : (k : ℕ) (w : Walker) (l : Light) → light_fits p l ≡ true → Ends k l w → Ends k (after_yellow p (after_green p w l)) w
  unfolding light_fits after_green after_yellow
  light_ends k w (Green i) f e =
      cases (λ (l : Light). Ends k (after_yellow p l) w) (green_over p w i) (Yellow 0) (Green i)
      (λ t. yellow_ends k w 0 (omega arith) (green_ends k i w (leb-true i (green_time p) f) e)) (λ t. e)
  light_ends k w (Yellow i) f e = yellow_ends k w i (leb-true i p.yellow f) e
  light_ends k w (Red i) f e = e

  settle_ends : (k : ℕ) (l : Light) (w : Walker) → light_fits p l ≡ true → walker_fits p w ≡ true → Ends k l w → EndsIn k (settle_phase p l w)
  unfolding over_or_stays
  settle_ends k l w f g e =
      cases (EndsIn k) _ None (Some (after_yellow p (after_green p (after_walk p w) l), after_walk p w))
      (λ t. tt)
      (λ t. light_ends k (after_walk p w) l f (after_walk_ends k l w g e))

  pub settle_left : (k : ℕ) (l : Light) (w : Walker) → light_fits p l ≡ true → walker_fits p w ≡ true → Ends k l w → Left k (settle_phase p l w)
  settle_left k l w f g e = record { fits = settle_fits p l w f g; rests = nothing_due p l w; ends = settle_ends k l w f g e }

  -- ---- a tick takes one off
  pub tick_left : (k : ℕ) (x : Settled) → Left (suc k) x → Left k (tick p x)
  unfolding tick
  tick_left k (Some (l, w)) h =
      settle_left k (add_light p l) (add_walker p w) (add_light_fits p l h.fits.0) (add_walker_fits p w h.fits.1)
      (add_ends k l w h.fits h.rests h.ends)
  tick_left k None h = record { fits = tt; rests = tt; ends = tt }

  -- with none left it is over
  rested : (l : Light) (w : Walker) → Rests p (Some (l, w)) → Ends 0 l w → ⊥
  rested (Green i) w (inl h, q) e = omega (arith, e.0)
  rested (Green i) (Walk j) (inr h, q) e = omega (arith, e.1)
  rested (Green i) (Clearance j) (inr (inl h), q) e = h
  rested (Green i) (Clearance j) (inr (inr (m, h)), q) e = omega (arith, e.2)
  rested (Yellow i) w (h, q) e = omega (arith, e.0)
  rested (Red i) w (inl h, q) e = omega (arith, e.0)
  rested (Red i) (Walk j) (inr h, q) e = omega (arith, e.1)
  rested (Red i) (Clearance j) (inr h, q) e = omega (arith, e.1)

  pub left_none : (x : Settled) → Left 0 x → x ≡ None
  left_none (Some (l, w)) h = absurd (rested l w h.rests h.ends)
  left_none None h = refl

  over_within : (k : ℕ) (x : Settled) → Left k x → ticks p k x ≡ None
  unfolding ticks
  over_within zero x h = left_none x h
  over_within (suc k) x h = over_within k (tick p x) (tick_left k x h)

  -- ---- whatever was served
  -- in the words of the pedestrian time: what green waits for, and the clearance
  frees_all : Fair p → (n : ℕ) → (time_of Vehicles p).0 ≤ n → (time_of Pedestrians p).0 ≤ n
      → (p.walk + waited p.clearance + p.yellow + p.red ≤ n) × (p.walk + p.clearance ≤ n)
  unfolding time_of pedestrian_time waited pick
  frees_all f n v h =
      split (eqb p.mode 0)
      (λ z. let m = eqb-true p.mode 0 z in let a = f.none m in (rw m (omega arith), omega arith))
      (λ z.
      split (eqb p.mode 1)
      (λ o. let b = rw (z, o) at h in (rw o (omega arith), omega arith))
      (λ o.
      let b = rw (z, o) at h in
      let two : p.mode ≡ 2 = omega (arith, f.modes, eqb-false p.mode 0 z, eqb-false p.mode 1 o) in
      let y = f.enough two in
      (rw o (omega arith), omega arith)))

  frees_from : (n : ℕ) (w : Walker) → p.walk + waited p.clearance + p.yellow + p.red ≤ n → Frees n w
  frees_from n (Walk j) h = omega arith
  frees_from n (Clearance j) h = by mode
    where
      by : Mode → waited (p.clearance + p.yellow + p.red) ≤ j + n
      by (one m z) = omega (arith, z (p.clearance + p.yellow + p.red), z p.clearance)
      by (other m z) = omega (arith, z (p.clearance + p.yellow + p.red))

  clears_from : (n : ℕ) (w : Walker) → p.walk + p.clearance ≤ n → Clears n w
  clears_from n (Walk j) h = omega arith
  clears_from n (Clearance j) h = omega arith

  pub ends_from : Fair p → (n : ℕ) → (time_of Vehicles p).0 ≤ n → (time_of Pedestrians p).0 ≤ n → (l : Light) (w : Walker) → Ends n l w
  unfolding time_of
  ends_from f n v h (Green i) w = let a = frees_all f n v h in (omega arith, frees_from n w a.0, clears_from n w a.1)
  ends_from f n v h (Yellow i) w = let a = frees_all f n v h in (omega arith, clears_from n w a.1)
  ends_from f n v h (Red i) w = let a = frees_all f n v h in (omega arith, clears_from n w a.1)

pub over_in_time : OverInTime
over_in_time p f n v h l w i j = over_within p n _ (settle_left p n l w i j (ends_from p f n v h l w))

pub mode_one : ModeOne
unfolding ticks tick pick one_more add_light add_walker after_walk walk_over clearance_over green_over after_green after_yellow phase_over over_or_stays
mode_one = (refl, refl, refl, refl, refl)

pub mode_two : ModeTwo
unfolding ticks tick pick one_more add_light add_walker after_walk walk_over clearance_over green_over after_green after_yellow phase_over over_or_stays
mode_two = (refl, refl, refl, refl)
