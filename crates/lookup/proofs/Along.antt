-- A number is in a list where some entry is that number. Assumes nothing.
use mathlib.Core.Path.{◌≡◌, refl}
use mathlib.Core.List.{List, [], ◌∷◌}
use Prim.Native.Nat.{ℕ}
use lib.Dec.{eqb}
use Rattle.std.specs.List.{list_any}
use Rattle.units.specs.Numbers.{pick}
use Rattle.units.proofs.Steps.{split}
use Rattle.sheet.specs.Entries.{is_in}

pub any_is_in : (ms : List ℕ) (n : ℕ) → list_any (λ m. eqb m n) ms ≡ is_in ms n
unfolding is_in pick
any_is_in [] n = refl
any_is_in (m ∷ ms) n = split (eqb m n) (λ e. rw e refl) (λ e. rw e (any_is_in ms n))
