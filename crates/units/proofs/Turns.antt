-- A walk by turns, one after the other: what is left of n turns after i of them comes to the same end. For any step, so once for all loops that count
-- their turns. Assumes nothing.
use Prim.Native.Nat.{ℕ, suc, ◌+◌, ◌-◌, ◌<◌, ◌≤◌}
use mathlib.Core.Path.{◌≡◌}
use native.Mathlib.Omega.{arith}

module _ {X : Type 0} (after : ℕ → X → X) (turn : X → X) (ends : (x : X) → after 0 x ≡ x) (goes_on : (n : ℕ) (x : X) → after (suc n) x ≡ after n (turn x)) (n i : ℕ) (x : X) where
  pub turn_left : i < n → after (n - i) x ≡ after (n - (i + 1)) (turn x)
  turn_left l =
      let e : n - i ≡ suc (n - (i + 1)) = omega arith in
      rw e (goes_on (n - (i + 1)) x)

  pub none_left : n ≤ i → after (n - i) x ≡ x
  none_left l =
      let e : n - i ≡ 0 = omega arith in
      rw e (ends x)
