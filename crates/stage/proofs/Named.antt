-- In dwell only a named phase may start: test by test. Assumes nothing.
use Prim.Native.Nat.{ℕ, ◌<◌}
use mathlib.Core.Bool.{Bool, false}
use mathlib.Core.Path.{◌≡◌, refl}
use native.Mathlib.Omega.{arith}
use lib.Dec.{eqb}
use borrow.Author.Tests.{ne_eqb}
use Rattle.units.specs.Numbers.{pick}
use Rattle.units.proofs.Steps.{cases}
use Rattle.sheet.specs.declared.Sheet.{Sheet}
use Rattle.sheet.specs.Entries.{named}
use Rattle.stage.specs.declared.Place.TheVariants.{Train}
use Rattle.stage.specs.declared.Stage.TheVariants.{AllRed}
use Rattle.stage.specs.Commands.{may_start, allowed_in, allowed_at}
use Rattle.stage.specs.Promises.{OnlyNamedMayStart}

not_from_red : (s : Sheet) (n : ℕ) → named s n ≡ false → allowed_at s AllRed n ≡ false
unfolding allowed_at may_start
not_from_red s n not = not

not_in : (s : Sheet) (n m : ℕ) → named s n ≡ false → 0 < n → allowed_in s Train m n ≡ false
unfolding allowed_in may_start pick
not_in s n m not some = cases (λ (b : Bool). b ≡ false) (eqb n m) false _ (λ _. refl) (λ _. rw (ne_eqb n 0 (λ e. omega arith)) not)

pub only_named_may_start : OnlyNamedMayStart
unfolding allowed_at
only_named_may_start s n not = (not_from_red s n not, λ m g w some. not_in s n m not some)
