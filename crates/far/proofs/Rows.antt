-- Where a distance stands between the far table's rows, by computed tests over each: the code's sums and the rows' own distances; and that a farther one stands further on. Assumes nothing.
use mathlib.Core.Path.{◌≡◌, sym}
use mathlib.Core.Bool.{true}
use Prim.Native.Nat.{ℕ, ◌+◌, ◌-◌, ◌*◌, ◌≤◌, ◌<◌}
use native.Mathlib.Omega.{arith}
use Rattle.units.specs.Numbers.{pick}
use Rattle.units.proofs.Tested.{at}
use Rattle.scale.specs.Scale.{placed, place_on, every_of, Standing}
use Rattle.scale.proofs.Places.{agree, stands, standing}
use Rattle.far.specs.Far.{far_row_of}

-- counted from row 425
pub row_every : (d : ℕ) → d ≤ 1000 → every_of 0 25 (d - 425) ≡ far_row_of d
unfolding place_on far_row_of pick
row_every d h = agree (λ (k : ℕ). true) (λ (k : ℕ). every_of 0 25 (k - 425)) far_row_of 1001 tt d (omega arith) tt

pub row_stands : (d : ℕ) → d ≤ 1000 → Standing 25 24 (far_row_of d)
unfolding place_on far_row_of pick
row_stands d h = standing 25 24 (far_row_of d) (at (λ (k : ℕ). stands 25 24 (far_row_of k)) 1001 tt d (omega arith))

-- the rows after the first: at the end of the step before
pub row_own : (k : ℕ) → k < 23 → placed k 25 25 ≡ far_row_of (450 + 25 * k)
unfolding place_on far_row_of pick
row_own k h = agree (λ (k : ℕ). true) (λ (k : ℕ). placed k 25 25) (λ (k : ℕ). far_row_of (450 + 25 * k)) 23 tt k h tt

module _ (d e : ℕ) (le : d ≤ e) (far : e ≤ 1000) where
  here : every_of 0 25 (d - 425) ≡ far_row_of d
  here = row_every d (omega arith)

  there : every_of 0 25 (e - 425) ≡ far_row_of e
  there = row_every e far

  pub same_width : (far_row_of d).width ≡ (far_row_of e).width
  same_width = rw (sym here, sym there) (omega arith)

  pub step_on : (far_row_of d).step ≤ (far_row_of e).step
  step_on = rw (sym here, sym there) (omega arith)

  pub past_on : (far_row_of d).step ≡ (far_row_of e).step → (far_row_of d).past ≤ (far_row_of e).past
  past_on = rw (sym here, sym there) (λ same. omega arith)
