-- The columns' places, computed, and a mixture at a mark and half way. Assumes nothing.
use mathlib.Core.Path.{◌≡◌, refl, sym}
use Prim.Native.Nat.{ℕ, ◌-◌, ◌*◌}
use native.Mathlib.Nat.{mul-add, zero-mul}
use native.Mathlib.Omega.{arith}
use Rattle.units.specs.Numbers.{pick}
use Rattle.sheet.specs.declared.Vehicle.TheVariants.{Su, Bus}
use Rattle.scale.specs.Scale.{placed, place_on, column_of, mix_of}
use Rattle.scale.specs.Promises.{NoClimbDownhill, ColumnEnds, ColumnMiddles, FirstColumnBelow, StraightBetween}
use Rattle.scale.proofs.Signs.{climbs_less}
use Rattle.scale.proofs.Places.{column_to}

pub no_climb : NoClimbDownhill
no_climb g h = omega (arith, climbs_less 1 (omega arith) g h)

pub column_ends : ColumnEnds
unfolding column_of place_on pick
column_ends = (refl, refl, refl, refl, refl, refl)

pub column_middles : ColumnMiddles
unfolding column_of place_on pick
column_middles = (refl, refl, refl)

pub first_column : FirstColumnBelow
unfolding column_of place_on pick
first_column =
    (λ g h. sym (column_to Su (λ (k : ℕ). placed 0 0 20) 20 tt g (omega arith) h), λ g h. sym (column_to Bus (λ (k : ℕ). placed 4 0 10) 10 tt g (omega arith) h))

pub straight : StraightBetween
unfolding mix_of
straight lo hi i w =
    let all : w - 0 ≡ w = omega arith in
    let none : w - w ≡ 0 = omega arith in
    let half : 2 * w - w ≡ w = omega arith in
    (rw (all, zero-mul) (omega arith), rw (none, zero-mul) (omega arith), rw half (omega (arith, mul-add w lo hi)))
