-- Where a distance stands between the table's rows: the code's sums against the definition's search, by one computed test over each of them. Assumes nothing.
use mathlib.Core.Path.{◌≡◌}
use mathlib.Core.Bool.{true}
use Prim.Native.Nat.{ℕ, ◌-◌, ◌≤◌}
use native.Mathlib.Omega.{arith}
use lib.Dec.{leb, le→leb}
use Rattle.units.specs.Numbers.{pick}
use Rattle.units.proofs.Tested.{at}
use Rattle.scale.specs.Scale.{place_on, every_of, Standing}
use Rattle.scale.proofs.Places.{agree, stands, standing}
use Rattle.factor.specs.Factor.{row_of}

-- counted from row 25
pub row_every : (d : ℕ) → d ≤ 400 → every_of 0 25 (d - 25) ≡ row_of d
unfolding place_on row_of pick
row_every d h = agree (λ (k : ℕ). true) (λ (k : ℕ). every_of 0 25 (k - 25)) row_of 401 tt d (omega arith) tt

-- below 25 ft the place is that of 25 ft
pub row_held : (d : ℕ) → d ≤ 25 → row_of d ≡ row_of 25
unfolding place_on row_of pick
row_held d h = agree (λ (k : ℕ). leb k 25) row_of (λ (k : ℕ). row_of 25) 26 tt d (omega arith) (le→leb d 25 h)

pub row_stands : (d : ℕ) → d ≤ 400 → Standing 25 16 (row_of d)
unfolding place_on row_of pick
row_stands d h = standing 25 16 (row_of d) (at (λ (k : ℕ). stands 25 16 (row_of k)) 401 tt d (omega arith))
