-- A number that was read is below 1,000,000, along its digits. Assumes nothing.
use Prim.Native.Nat.{ℕ, ◌+◌, ◌*◌, ◌<◌}
use mathlib.Core.Path.{◌≡◌, ap}
use mathlib.Core.List.{List, [], ◌∷◌}
use native.Mathlib.Omega.{arith}
use lib.Dec.{ltb}
use lib.ListN.{drop}
use borrow.Author.Tests.{ltb-false}
use Rattle.units.specs.Numbers.{pick}
use Rattle.units.proofs.Steps.{split}
use Rattle.std.specs.Prelude.{None}
use Rattle.figures.specs.Figures.{is, digit_of, more, number, number_at, on_figure}

pub bad_is : {X : Type 0} {v q : ℕ} → None ≡ is v q → X
bad_is e = absurd (let z : ◌≡◌ {A = ℕ} 0 1 = cc in omega arith)

-- two numbers found are the same number at the same place
pub same_value : {w at v q : ℕ} → is w at ≡ is v q → w ≡ v
same_value e = ap (λ o. on_figure o (λ x p. x) 0) e

pub same_next : {w at v q : ℕ} → is w at ≡ is v q → at ≡ q
same_next e = ap (λ o. on_figure o (λ x p. p) 0) e

more_small : (l : List ℕ) (w at v q : ℕ) → w < 1000000 → more w at l ≡ is v q → v < 1000000
unfolding more pick
more_small [] w at v q h e = omega (arith, same_value e)
more_small (b ∷ l) w at v q h e =
    split (ltb 9 (digit_of b))
    (λ t. let e' : is w at ≡ is v q = rw t at e in omega (arith, same_value e'))
    (λ t. split (ltb w 1)
    (λ t₁. bad_is (rw (t, t₁) at e))
    (λ t₁. split (ltb 99999 w)
    (λ t₂. bad_is (rw (t, t₁, t₂) at e))
    (λ t₂. more_small l (w * 10 + digit_of b) (at + 1) v q (omega (arith, ltb-false 9 (digit_of b) t, ltb-false 99999 w t₂)) (rw (t, t₁, t₂) at e))))

first_small : (l : List ℕ) (at v q : ℕ) → number at l ≡ is v q → v < 1000000
unfolding number pick
first_small [] at v q e = bad_is e
first_small (b ∷ l) at v q e =
    split (ltb 9 (digit_of b))
    (λ t. bad_is (rw t at e))
    (λ t. more_small l (digit_of b) (at + 1) v q (omega (arith, ltb-false 9 (digit_of b) t)) (rw t at e))

pub number_small : (s : List ℕ) (at v q : ℕ) → number_at s at ≡ is v q → v < 1000000
number_small s at v q e = first_small (drop at s) at v q e
