-- The rules of a phase line and of a point line, from the test to what it says and back. Assumes nothing.
use mathlib.Core.Path.{◌≡◌, sym, ◌∙◌}
use mathlib.Core.Bool.{true, false}
use Prim.Native.Nat.{ℕ, ◌+◌, ◌<◌, ◌≤◌}
use lib.Dec.{leb, eqb}
use borrow.Author.Tests.{leb-true, ltb-true, eqb-true}
use Rattle.units.proofs.Steps.{steps, split, never, both_left, both_right}
use Rattle.sheet.specs.declared.Phase.{Phase}
use Rattle.sheet.specs.declared.Point.{Point}
use Rattle.std.specs.Prelude.{Ok}
use Rattle.sheet.proofs.Answers.{both_fine, passes, fine_both, holds}
use Rattle.faults.specs.Lines.{quiet_in_mode_zero, clears_yellow_and_red, phase_fault, starts_at_zero, point_rises}

-- ---- 5 and 6

pub record Quiet (p : Phase) : Type 0 where
  pub walk : p.mode ≡ 0 → p.walk ≡ 0
  pub clearance : p.mode ≡ 0 → p.clearance ≡ 0

quiet_walk : (p : Phase) → quiet_in_mode_zero p ≡ true → p.mode ≡ 0 → p.walk ≡ 0
unfolding quiet_in_mode_zero
quiet_walk p t m =
    split (eqb p.walk 0) (eqb-true p.walk 0) (λ e. let f : false ≡ quiet_in_mode_zero p = search steps in never (f ∙ t))

quiet_clearance : (p : Phase) → quiet_in_mode_zero p ≡ true → p.mode ≡ 0 → p.clearance ≡ 0
unfolding quiet_in_mode_zero
quiet_clearance p t m =
    let w = quiet_walk p t m in
    split (eqb p.clearance 0) (eqb-true p.clearance 0) (λ e. let f : false ≡ quiet_in_mode_zero p = search steps in never (f ∙ t))

pub quiet_holds : (p : Phase) → Quiet p → true ≡ quiet_in_mode_zero p
unfolding quiet_in_mode_zero
quiet_holds p h =
    split (eqb p.mode 0)
    (λ e.
    let m = eqb-true p.mode 0 e in
    let w = h.walk m in
    let c = h.clearance m in
    search steps)
    (λ e. search steps)

clears : (p : Phase) → clears_yellow_and_red p ≡ true → p.mode ≡ 2 → p.yellow + p.red ≤ p.clearance
unfolding clears_yellow_and_red
clears p t m =
    split (leb (p.yellow + p.red) p.clearance)
    (leb-true (p.yellow + p.red) p.clearance)
    (λ e. let f : false ≡ clears_yellow_and_red p = search steps in never (f ∙ t))

pub clears_holds : (p : Phase) → (p.mode ≡ 2 → p.yellow + p.red ≤ p.clearance) → true ≡ clears_yellow_and_red p
unfolding clears_yellow_and_red
clears_holds p h =
    split (eqb p.mode 2) (λ e. let c = h (eqb-true p.mode 2 e) in search steps) (λ e. search steps)

-- ---- 3, 5 and 6: the phase p after the phase `before`

pub record PhaseKept (before p : Phase) : Type 0 where
  pub rises : before.number < p.number
  pub quiet : Quiet p
  pub late : p.mode ≡ 2 → p.yellow + p.red ≤ p.clearance

pub phase_kept : (before p : Phase) (line : ℕ) → phase_fault before p line ≡ Ok tt → PhaseKept before p
unfolding phase_fault
phase_kept before p line e =
    let first = both_fine _ _ e in
    let rest = both_fine _ _ first.1 in
    let t = passes _ _ _ first.0 in
    let q : quiet_in_mode_zero p ≡ true = passes _ _ _ rest.0 in
    record { rises = search ltb-true; quiet = record { walk = quiet_walk p q; clearance = quiet_clearance p q }; late = clears p (passes _ _ _ rest.1) }

pub phase_fine : (before p : Phase) → PhaseKept before p → (line : ℕ) → phase_fault before p line ≡ Ok tt
unfolding phase_fault
phase_fine before p h line =
    let l = h.rises in
    fine_both _ _ (holds _ _ _ (search steps))
    (fine_both _ _ (holds _ _ _ (sym (quiet_holds p h.quiet))) (holds _ _ _ (sym (clears_holds p h.late))))

-- ---- 4

pub record AtZero (p : Point) : Type 0 where
  pub feet : p.feet ≡ 0
  pub tenths : p.tenths ≡ 0

pub at_zero : (p : Point) → starts_at_zero p ≡ true → AtZero p
unfolding starts_at_zero
at_zero p t = record { feet = search (eqb-true, both_left, both_right); tenths = search (eqb-true, both_left, both_right) }

pub at_zero_holds : (p : Point) → AtZero p → true ≡ starts_at_zero p
unfolding starts_at_zero
at_zero_holds p h =
    let f = h.feet in
    let t = h.tenths in
    search steps

-- the point p after the point `before`
pub record Rises (before p : Point) : Type 0 where
  pub feet : before.feet < p.feet
  pub tenths : before.tenths ≤ p.tenths

pub point_rises_lem : (before p : Point) → point_rises before p ≡ true → Rises before p
unfolding point_rises
point_rises_lem before p t = record { feet = search (ltb-true, both_left, both_right); tenths = search (leb-true, both_left, both_right) }

pub point_rises_holds : (before p : Point) → Rises before p → true ≡ point_rises before p
unfolding point_rises
point_rises_holds before p h =
    let f = h.feet in
    let t = h.tenths in
    search steps
