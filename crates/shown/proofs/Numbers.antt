-- Asked of numbers, `shown::same` has the tests of numbers. Assumes nothing.
use Prim.Native.Nat.{ℕ}
use mathlib.Core.Path.{◌≡◌, refl}
use mathlib.Core.Bool.{Bool}
use lib.Dec.{eqb}
use Rattle.std.proofs.Common.{nat_eq}
use Rattle.units.specs.Numbers.{both}
use Rattle.shown.specs.declared.Shown.{Shown}
use Rattle.shown.specs.Shown.{same_shown}

pub same_numbers : (a b : Shown ℕ ℕ) → same_shown nat_eq nat_eq a b ≡ both (eqb a.stage b.stage) (both (eqb a.phase b.phase) (eqb a.walker b.walker))
unfolding same_shown
same_numbers a b = refl
