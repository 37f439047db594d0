-- Laws of `up` that the rules cite: what it is from the quotient, and what bounds it. Assumes nothing.
use mathlib.Core.Path.{◌≡◌, ◌∙◌, ap}
use Prim.Native.Nat.{ℕ, zero, suc, ◌+◌, ◌-◌, ◌*◌, ◌/◌, ◌^◌, ◌≤◌, ◌<◌}
use native.Mathlib.Nat.{add-mul, div-eq_of_lt-le, lt-div-mul-add, div-mul-le_self, div-zero, mul-le-mul, mul-le-mul_left, one-mul, div-lt_iff_lt-mul, le-mul_of_pos_right, mul-div_cancel}
use native.Mathlib.Omega.{arith}
use Rattle.units.specs.Numbers.{up, TakenUp}

pub up_exact : (n d : ℕ) → 0 < d → n / d * d ≡ n → up n d ≡ n / d
unfolding up
up_exact n d h e = div-eq_of_lt-le d (omega arith) (omega (arith, add-mul (n / d) 1 d, one-mul d))

pub up_more : (n d : ℕ) → 0 < d → (n / d * d ≡ n → ⊥) → up n d ≡ n / d + 1
unfolding up
up_more n d h ne =
    div-eq_of_lt-le d (omega (arith, add-mul (n / d) 1 d, one-mul d, div-mul-le_self n d, lt-div-mul-add {a = n} {b = d} h))
    (omega (arith, add-mul (n / d + 1) 1 d, add-mul (n / d) 1 d, one-mul d, div-mul-le_self n d, lt-div-mul-add {a = n} {b = d} h))

pub up_zero : (n : ℕ) → up n 0 ≡ 0
unfolding up
up_zero n = div-zero _

-- what is at most k times d is at most k, taken up
pub up_le : (n d k : ℕ) → 0 < d → n ≤ k * d → up n d ≤ k
unfolding up
up_le n d k h b =
    let lt : (n + (d - 1)) / d < k + 1 = (div-lt_iff_lt-mul h).1 (omega (arith, add-mul k 1 d, one-mul d)) in
    omega arith

pub up_le_self : (n d : ℕ) → up n d ≤ n
up_le_self n zero = omega (arith, up_zero n)
up_le_self n (suc d) = up_le n (suc d) n (omega arith) (le-mul_of_pos_right n (omega arith))

-- a part b of d of a, taken up, is at most a
pub up_part : (a b d : ℕ) → b ≤ d → up (a * b) d ≤ a
up_part a b zero h = omega (arith, up_zero (a * b))
up_part a b (suc d) h = up_le (a * b) (suc d) a (omega arith) (mul-le-mul_left a h)

-- the product of two numbers of 32 bits has 64
pub product : (a b : ℕ) → a < 2 ^ 32 → b < 2 ^ 32 → a * b < 2 ^ 64
product a b ha hb = omega (arith, mul-le-mul {n₁ = a} {m₁ = b} {n₂ = 4294967295} {m₂ = 4294967295} (omega arith) (omega arith))

-- taken up, it is the least number whose d-fold is not below n
pub up_enough : (n d : ℕ) → 0 < d → n ≤ up n d * d
unfolding up
up_enough n d h = omega (arith, lt-div-mul-add {a = n + (d - 1)} {b = d} h)

pub up_least : (n d : ℕ) → 0 < d → up n d * d < n + d
unfolding up
up_least n d h = omega (arith, div-mul-le_self (n + (d - 1)) d)

pub up_taken : (n d : ℕ) → 0 < d → TakenUp n d (up n d)
up_taken n d h = (up_enough n d h, up_least n d h)

-- more over the same is not less, taken up
pub up_rises : (n m d : ℕ) → 0 < d → n ≤ m → up n d ≤ up m d
up_rises n m d h le = up_le n d (up m d) h (omega (arith, up_enough m d h))

-- w times a whole number, over w, is that number
pub up_product : (a w : ℕ) → 0 < w → up (a * w) w ≡ a
up_product a w pos =
    let e = mul-div_cancel a {n = w} pos in
    up_exact (a * w) w pos (ap (λ (n : ℕ). n * w) e) ∙ e
