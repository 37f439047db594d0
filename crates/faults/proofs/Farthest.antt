-- How far line 48 may be: what `farthest` says in the request's two clauses, both ways. Assumes nothing.
use mathlib.Core.Logic.{◌⊎◌, inl, inr}
use Prim.Native.Nat.{ℕ, ◌<◌, ◌≤◌}
use native.Mathlib.Omega.{arith}
use borrow.Author.Tests.{ltb-true, ltb-false}
use Rattle.units.proofs.Steps.{cases}
use Rattle.faults.specs.Whole.{farthest}

pub not_below : (a b : ℕ) → (a < b → ⊥) → b ≤ a
not_below a b n = omega arith

module _ (last n : ℕ) where
  pub reaches : (n ≤ 1000) × (last < 400 → n ≤ last) → n ≤ farthest last
  unfolding farthest
  reaches h =
      cases (λ (k : ℕ). n ≤ k) _ _ _ (λ e. h.1 (omega (arith, ltb-true))) (λ e. omega (arith, h.0))

  pub within : n ≤ farthest last → (n ≤ 1000) × (last < 400 → n ≤ last)
  unfolding farthest
  within =
      cases (λ (k : ℕ). n ≤ k → (n ≤ 1000) × (last < 400 → n ≤ last)) _ _ _
      (λ e h. (omega (arith, ltb-true), λ l. h))
      (λ e h. (omega arith, λ l. absurd (omega (arith, ltb-false))))

  pub too_far : (1000 < n) ⊎ ((last < 400) × (last < n)) → farthest last < n
  unfolding farthest
  too_far (inl h) = cases (λ (k : ℕ). k < n) _ _ _ (λ e. omega (arith, ltb-true)) (λ e. omega arith)
  too_far (inr h) = cases (λ (k : ℕ). k < n) _ _ _ (λ e. h.1) (λ e. absurd (omega (arith, h.0, ltb-false)))

  pub not_too_far : ((1000 < n) ⊎ ((last < 400) × (last < n)) → ⊥) → n ≤ farthest last
  not_too_far none = reaches (not_below 1000 n (λ l. none (inl l)), λ s. not_below last n (λ l. none (inr (s, l))))
