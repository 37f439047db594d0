-- Which bytes are digits, and what a digit is worth. Assumes nothing.
use Prim.Native.Nat.{ℕ, ◌-◌, ◌≤◌, ◌<◌}
use mathlib.Core.Path.{◌≡◌, refl}
use mathlib.Core.Logic.{◌⊎◌}
use native.Mathlib.Omega.{arith}
use borrow.Author.Tests.{le-ltb, lt-ltb}
use Rattle.units.specs.Numbers.{pick}
use Rattle.figures.specs.Figures.{digit_of}

pub worth : (b : ℕ) → (48 ≤ b) × (b ≤ 57) → digit_of b ≡ b - 48
unfolding digit_of pick
worth b h = rw (le-ltb b 48 h.0, le-ltb 57 b h.1) refl

pub small : (b : ℕ) → (48 ≤ b) × (b ≤ 57) → digit_of b ≤ 9
small b h = rw (worth b h) (omega (arith, h.0, h.1))

pub no_digit : (b : ℕ) → (b < 48) ⊎ (57 < b) → 9 < digit_of b
unfolding digit_of pick
no_digit b h = search (lt-ltb, arith)
