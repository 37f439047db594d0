-- `scaled::uphill` meets its contract: a grade that is not below 0 is the number read, and one below 0 is none. Assumes nothing.
use mathlib.Core.Path.{◌≡◌, refl}
use Prim.Native.Nat.{ℕ}
use native.Mathlib.Omega.{arith}
use lib.IntN.{ℤ, pos, negsuc, nat_abs}
use mir.Syntax.{w16}
use mir.Val.{SFits}
use mir.Facts.{to_z-of_z}
use Rattle.std.specs.Prelude.{Result, Ok, Err}
use Rattle.std.specs.Result.{OkIff, result_unwrap_or}
use Rattle.std.specs.Int.{FitsUnsignedBits}
use Rattle.scale.specs.Scale.{climb}
use Rattle.scaled.proofs.uphill.Goals as goal

read : {E : Type 0} (z : ℤ) (r : Result ℕ E) → SFits w16 z → OkIff r (FitsUnsignedBits 64 z) (nat_abs z) → result_unwrap_or r 0 ≡ climb z
unfolding climb
read (pos n) (Ok x) fits h = h.1
read (pos n) (Err e) fits h = absurd (h (omega (arith, fits.sfits)))
read (negsuc n) (Ok x) fits h = absurd h.0
read (negsuc n) (Err e) fits h = refl

pub returns : goal.returns
returns c =
    rw c.unwrap_or.ensures (read c.args.grade c.try_from.result c.ranges.grade (rw (to_z-of_z c.ranges.grade) at c.try_from.ensures))
