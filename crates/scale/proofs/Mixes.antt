-- A mixture lies between the two values that it mixes, and does not fall where they don't: along a step, from one step to the next, and in the values. Assumes nothing.
use mathlib.Core.Path.{◌≡◌, ap, subst}
use Prim.Native.Nat.{ℕ, zero, suc, ◌+◌, ◌-◌, ◌*◌, ◌<◌, ◌≤◌}
use native.Mathlib.Nat.{add-mul, mul-le-mul, mul-le-mul_left, mul_comm, mul_assoc, add-zero}
use native.Mathlib.Omega.{arith}
use lib.Dec.{leb}
use borrow.Author.Tests.{leb-true, leb-false}
use Rattle.units.proofs.Steps.{split}
use Rattle.scale.specs.declared.Place.{Place}
use Rattle.scale.specs.Scale.{mix_of, line_of, spread_of, Standing}

-- a mixture of two values is at most the larger and at least the smaller, times the width
module _ (lo hi b : ℕ) (p : Place) (near : p.past ≤ p.width) where
  whole : (p.width - p.past) * b + p.past * b ≡ p.width * b
  whole =
      let w : (p.width - p.past) + p.past ≡ p.width = omega arith in
      omega (arith, add-mul (p.width - p.past) p.past b, ap (λ (n : ℕ). n * b) w)

  pub mix_le : lo ≤ b → hi ≤ b → mix_of lo hi p ≤ p.width * b
  unfolding mix_of
  mix_le hl hh = omega (arith, mul-le-mul_left (p.width - p.past) hl, mul-le-mul_left p.past hh, whole)

  pub mix_ge : b ≤ lo → b ≤ hi → p.width * b ≤ mix_of lo hi p
  unfolding mix_of
  mix_ge hl hh = omega (arith, mul-le-mul_left (p.width - p.past) hl, mul-le-mul_left p.past hh, whole)

-- wherever the place stands, a mixture is at most the larger value times the larger of past and width
pub mix_bound : (lo hi b k : ℕ) (p : Place) → lo ≤ b → hi ≤ b → p.past ≤ k → p.width ≤ k → mix_of lo hi p ≤ k * b
unfolding mix_of
mix_bound lo hi b k p hl hh hp hw =
    let both = mul-le-mul {n₁ = (p.width - p.past) + p.past} {m₁ = b} {n₂ = k} {m₂ = b} (omega arith) (omega arith) in
    omega (arith, both, add-mul (p.width - p.past) p.past b, mul-le-mul_left (p.width - p.past) hl, mul-le-mul_left p.past hh)

-- larger values, a larger mixture
pub mix_more : (lo hi lo' hi' : ℕ) (p : Place) → lo ≤ lo' → hi ≤ hi' → mix_of lo hi p ≤ mix_of lo' hi' p
unfolding mix_of
mix_more lo hi lo' hi' p hl hh = omega (arith, mul-le-mul_left (p.width - p.past) hl, mul-le-mul_left p.past hh)

-- a table whose entries are within bounds, between two columns and two rows
module _ (entry : ℕ → ℕ → ℕ) (w n v m : ℕ) (c r : Place) (hc : Standing w n c) (hr : Standing v m r) where
  pub areas : (1 ≤ c.width * r.width) × (c.width * r.width ≤ w * v)
  areas =
      (mul-le-mul {n₁ = 1} {m₁ = 1} {n₂ = c.width} {m₂ = r.width} hc.apart hr.apart, mul-le-mul {n₁ = c.width} {m₁ = r.width} {n₂ = w} {m₂ = v} hc.narrow hr.narrow)

  -- b in every corner
  level : (b : ℕ) → r.width * (c.width * b) ≡ b * (c.width * r.width)
  level b = omega (arith, mul_assoc r.width c.width b, mul_comm (r.width * c.width) b, ap (λ (k : ℕ). b * k) (mul_comm r.width c.width))

  line_le : (b row : ℕ) → ((row col : ℕ) → entry row col ≤ b) → line_of entry c row ≤ c.width * b
  unfolding line_of
  line_le b row h = mix_le (entry row c.step) (entry row (c.step + 1)) b c hc.near (h row c.step) (h row (c.step + 1))

  line_ge : (b row : ℕ) → ((col row : ℕ) → col < n → row < m → b ≤ entry row col) → row < m → c.width * b ≤ line_of entry c row
  unfolding line_of
  line_ge b row h hm =
      mix_ge (entry row c.step) (entry row (c.step + 1)) b c hc.near (h c.step row (omega (arith, hc.inside)) hm) (h (c.step + 1) row hc.inside hm)

  pub spread_le : (b : ℕ) → ((row col : ℕ) → entry row col ≤ b) → spread_of entry c r ≤ b * (c.width * r.width)
  unfolding spread_of
  spread_le b h =
      omega (arith, level b, mix_le (line_of entry c r.step) (line_of entry c (r.step + 1)) (c.width * b) r hr.near (line_le b r.step h) (line_le b (r.step + 1) h))

  pub spread_ge : (b : ℕ) → ((col row : ℕ) → col < n → row < m → b ≤ entry row col) → b * (c.width * r.width) ≤ spread_of entry c r
  unfolding spread_of
  spread_ge b h =
      omega (arith, level b, mix_ge (line_of entry c r.step) (line_of entry c (r.step + 1)) (c.width * b) r hr.near (line_ge b r.step h (omega (arith, hr.inside))) (line_ge b (r.step + 1) h hr.inside))

-- ---- along a scale whose values don't fall

-- further along the step, a larger mixture
mix_further : (lo hi : ℕ) (p q : Place) → lo ≤ hi → p.width ≡ q.width → p.past ≤ q.past → q.past ≤ q.width → mix_of lo hi p ≤ mix_of lo hi q
unfolding mix_of
mix_further lo hi p q h same le near =
    let back : p.width - p.past ≡ (q.width - q.past) + (q.past - p.past) = omega arith in
    let on : q.past ≡ p.past + (q.past - p.past) = omega arith in
    omega (
      arith,
      ap (λ (n : ℕ). n * lo) back,
      add-mul (q.width - q.past) (q.past - p.past) lo,
      ap (λ (n : ℕ). n * hi) on,
      add-mul p.past (q.past - p.past) hi,
      mul-le-mul_left (q.past - p.past) h,
    )

-- n values, none below the one before it
module _ (f : ℕ → ℕ) (n : ℕ) (rises : (k : ℕ) → k + 1 < n → f k ≤ f (k + 1)) where
  reaches : (i k : ℕ) → i + k < n → f i ≤ f (i + k)
  reaches i zero h = rw (add-zero i) (omega arith)
  reaches i (suc k) h =
      let e : i + suc k ≡ i + k + 1 = omega arith in
      rw e (omega (arith, reaches i k (omega arith), rises (i + k) (omega arith)))

  pub no_less : (i j : ℕ) → i ≤ j → j < n → f i ≤ f j
  no_less i j le h =
      let e : i + (j - i) ≡ j = omega arith in
      subst (λ (k : ℕ). f i ≤ f k) e (reaches i (j - i) (omega arith))

  abbrev pub mixed : Place → ℕ
  mixed p = mix_of (f p.step) (f (p.step + 1)) p

  -- a place further on: in the same step, or in a later one, and then what ends the one step stands between
  pub further : (w : ℕ) (p q : Place) → Standing w n p → Standing w n q → p.width ≡ q.width → p.step ≤ q.step → (p.step ≡ q.step → p.past ≤ q.past) → mixed p ≤ mixed q
  further w p q hp hq same le past =
      split (leb q.step p.step)
      (λ t. let e : p.step ≡ q.step = omega (arith, leb-true q.step p.step t) in
      subst (λ (k : ℕ). mixed p ≤ mix_of (f k) (f (k + 1)) q) e (mix_further (f p.step) (f (p.step + 1)) p q (rises p.step hp.inside) same (past e) hq.near))
      (λ t. let lt : p.step + 1 ≤ q.step = omega (arith, leb-false q.step p.step t) in
      let b = f q.step in
      let low = no_less (p.step + 1) q.step lt (omega (arith, hq.inside)) in
      let below = mix_le (f p.step) (f (p.step + 1)) b p hp.near (omega (arith, low, rises p.step hp.inside)) low in
      let above = mix_ge (f q.step) (f (q.step + 1)) b q hq.near (omega arith) (rises q.step hq.inside) in
      omega (arith, below, above, ap (λ (n : ℕ). n * b) same))
