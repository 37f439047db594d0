-- The digits of ten times a number and a digit more are its digits and that digit. Assumes nothing.
use Prim.Native.Nat.{ℕ, zero, suc, ◌+◌, ◌*◌, ◌/◌, ◌%◌, ◌≤◌, ◌<◌}
use mathlib.Core.Path.{◌≡◌, sym, ap}
use mathlib.Core.List.{List, [], ◌∷◌, ◌++◌}
use native.Mathlib.Omega.{arith}
use borrow.Author.Tests.{le-ltb, lt-ltb}
use Rattle.units.specs.Numbers.{pick}
use Rattle.text.specs.Digits.{digits_in, digits}

-- ten to the power f + 1
abbrev pub ten : ℕ → ℕ
ten zero = 10
ten (suc f) = 10 * ten f

fuel : (f n : ℕ) → n < ten f → digits_in (suc f) n ≡ digits_in f n
unfolding ten digits_in pick
fuel zero n h = rw (lt-ltb n 10 h)
fuel (suc f) n h = rw (fuel f (n / 10) (omega arith))

pub digits_more : (v d : ℕ) → 1 ≤ v → v < 100000 → d < 10 → digits (v * 10 + d) ≡ digits v ++ (48 + d) ∷ []
unfolding ten digits_in pick
digits_more v d h k e =
    let a : (v * 10 + d) / 10 ≡ v = omega arith in
    let b : (v * 10 + d) % 10 ≡ d = omega arith in
    rw (le-ltb (v * 10 + d) 10 (omega arith), a, b) (ap (λ (l : List ℕ). l ++ (48 + d) ∷ []) (sym (fuel 4 v k)))

pub digits_one : (v : ℕ) → v < 10 → (48 + v % 10) ∷ [] ≡ digits v
unfolding digits_in pick
digits_one v h = let e : v % 10 ≡ v = omega arith in rw (e, lt-ltb v 10 h)

pub digits_tens : (v : ℕ) → 10 ≤ v → v < 1000000 → digits (v / 10) ++ (48 + v % 10) ∷ [] ≡ digits v
digits_tens v h k =
    let e : v / 10 * 10 + v % 10 ≡ v = omega arith in
    sym (rw e at (digits_more (v / 10) (v % 10) (omega arith) (omega arith) (omega arith)))
