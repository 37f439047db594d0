-- What the test of a grade against 0 says of its climb, by the grade's sign. Assumes nothing.
use mathlib.Core.Path.{◌≡◌, refl, sym}
use mathlib.Core.Bool.{true, false}
use Prim.Native.Nat.{ℕ, ◌<◌}
use native.Mathlib.Omega.{arith}
use lib.Dec.{T}
use lib.IntN.{ℤ, pos, negsuc, nat_abs}
use lib.Signed.{lt_z, non_neg}
use borrow.Author.Tests.{ltb-true}
use Rattle.units.proofs.Steps.{never}
use Rattle.scale.specs.Scale.{climb}

pub below : (z : ℤ) → lt_z z (pos 0) ≡ true → 0 ≡ climb z
unfolding climb
below (pos n) e = omega (arith, ltb-true n 0 e)
below (negsuc n) e = refl

pub above : (z : ℤ) → lt_z z (pos 0) ≡ false → nat_abs z ≡ climb z
unfolding climb
above (pos n) e = refl
above (negsuc n) e = never (sym e)

pub nonneg : (z : ℤ) → lt_z z (pos 0) ≡ false → T (non_neg z)
nonneg (pos n) e = tt
nonneg (negsuc n) e = never (sym e)

-- a grade below a bound climbs less than it
pub climbs_less : (n : ℕ) → 0 < n → (z : ℤ) → lt_z z (pos n) ≡ true → climb z < n
unfolding climb
climbs_less n h (pos m) e = ltb-true m n e
climbs_less n h (negsuc m) e = omega arith
