-- From 400 to 425 ft: the straight line between the two times, taken up, at both ends and between; and so how long any acceleration time can be. Assumes nothing.
use mathlib.Core.Path.{◌≡◌, sym, ap, subst}
use mathlib.Core.List.{List}
use Prim.Native.Nat.{ℕ, ◌+◌, ◌-◌, ◌*◌, ◌<◌, ◌≤◌}
use native.Mathlib.Nat.{mul_assoc, mul_comm, mul-le-mul_right, zero-mul}
use native.Mathlib.Omega.{arith}
use lib.Dec.{leb, ltb}
use lib.IntN.{ℤ}
use borrow.Author.Tests.{leb-true, leb-false, ltb-true, ltb-false}
use Rattle.units.specs.Numbers.{TakenUp, feet}
use Rattle.units.specs.declared.Feet.{Feet}
use Rattle.units.specs.declared.Tenths.{Tenths}
use Rattle.units.proofs.Rounding.{up_le, up_taken}
use Rattle.units.proofs.Steps.{cases}
use Rattle.sheet.specs.declared.Point.{Point}
use Rattle.sheet.specs.declared.Vehicle.{Vehicle}
use Rattle.scale.specs.declared.Fraction.{Fraction}
use Rattle.scale.specs.Scale.{placed, mix_of}
use Rattle.scale.proofs.Mixes.{mix_le}
use Rattle.far.specs.Far.{far_of, far_time_of}
use Rattle.far.proofs.Times.{far_fits, far_share, far_within, far_taken_up}
use Rattle.curve.specs.Curve.{curve_time_of, joined_of, acceleration_of}
use Rattle.curve.specs.Promises.{JoinTakenUp, AccelerationWithin}
use Rattle.curve.proofs.Times.{level_le, curve_once_and_twice}

-- 25 times a product, whichever is multiplied
by_25 : (a b : ℕ) → a * (25 * b) ≡ 25 * (a * b)
by_25 a b = omega (arith, mul_assoc a 25 b, mul_comm a 25, mul_assoc 25 a b)

-- what is on the line at d, times 25 and the fraction's lower number
abbrev pub online : ℕ → Fraction → ℕ → ℕ
online a far d = (425 - d) * (a * far.under) + (d - 400) * far.over

-- at 400 ft the curve's own time
at_first : (a : ℕ) (far : Fraction) (d : ℕ) → 0 < far.under → d ≡ 400 → TakenUp (online a far d) (25 * far.under) a
at_first a far d some e = rw (e, zero-mul) (omega (arith, by_25 a far.under), omega (arith, by_25 a far.under))

-- at 425 ft the far time, taken up from the same exact value
at_last : (a t : ℕ) (far : Fraction) (d : ℕ) → d ≡ 425 → TakenUp far.over far.under t → TakenUp (online a far d) (25 * far.under) t
at_last a t far d e h = rw (e, zero-mul) (omega (arith, h.0, by_25 t far.under), omega (arith, h.1, by_25 t far.under))

-- between them
between : (a : Tenths) (far : Fraction) (d : Feet) → 0 < far.under → 400 ≤ d.0 → d.0 ≤ 425 → TakenUp (online a.0 far d.0) (25 * far.under) (joined_of a far d).0
unfolding joined_of mix_of
between a far d some from to =
    let left : 25 - (d.0 - 400) ≡ 425 - d.0 = omega arith in
    let n = (25 - (d.0 - 400)) * (a.0 * far.under) + (d.0 - 400) * far.over in
    let h = up_taken n (25 * far.under) (omega arith) in
    let same = ap (λ (k : ℕ). k * (a.0 * far.under)) left in
    (omega (arith, h.0, same), omega (arith, h.1, same))

-- the acceleration time taken apart at its tests
module _ (ps : List Point) (v : Vehicle) (g : ℤ) (d : Feet) (P : Tenths → Type 0) where
  by_distance : (d.0 ≤ 400 → P (curve_time_of ps v g d)) → (400 < d.0 → d.0 < 425 → P (joined_of (curve_time_of ps v g (feet 400)) (far_of v g (feet 425)) d)) → (425 ≤ d.0 → P (far_time_of v g d)) → P (acceleration_of ps v g d)
  unfolding acceleration_of
  by_distance near join far =
      cases P (leb d.0 400) (curve_time_of ps v g d) _ (λ e. near (leb-true d.0 400 e))
      (λ e. cases P (ltb d.0 425) (joined_of (curve_time_of ps v g (feet 400)) (far_of v g (feet 425)) d) (far_time_of v g d)
      (λ f. join (leb-false d.0 400 e) (ltb-true d.0 425 f))
      (λ f. far (ltb-false d.0 425 f)))

pub join_up : JoinTakenUp
join_up ps v g d from to =
    let a = curve_time_of ps v g (feet 400) in
    let far = far_of v g (feet 425) in
    let some = (far_fits v g (feet 425)).1 in
    by_distance ps v g d (λ (t : Tenths). TakenUp (online a.0 far d.0) (25 * far.under) t.0)
    (λ h. let e : d.0 ≡ 400 = omega arith in
    subst (λ (n : ℕ). TakenUp (online a.0 far d.0) (25 * far.under) (curve_time_of ps v g (feet n)).0) (sym e) (at_first a.0 far d.0 some e))
    (λ lo hi. between a far d some from to)
    (λ h. let e : d.0 ≡ 425 = omega arith in
    at_last a.0 (far_time_of v g d).0 far d.0 e (subst (λ (n : ℕ). TakenUp (far_of v g (feet n)).over (far_of v g (feet n)).under (far_time_of v g d).0) e (far_taken_up v g d)))

-- no curve's time is longer than twice the longest of its points, no far time longer than 1048, and no joined one longer than both
joined_le : (a : Tenths) (far : Fraction) (d : Feet) (b : ℕ) → 0 < far.under → 400 < d.0 → d.0 < 425 → a.0 ≤ b → far.over ≤ b * far.under → (joined_of a far d).0 ≤ b
unfolding joined_of
joined_le a far d b some lo hi ha hf =
    let p = placed 0 (d.0 - 400) 25 in
    up_le (mix_of (a.0 * far.under) far.over p) (25 * far.under) b (omega arith)
    (omega (arith, by_25 b far.under, mix_le (a.0 * far.under) far.over (b * far.under) p (omega arith) (mul-le-mul_right far.under ha) hf))

pub acceleration_le : AccelerationWithin
acceleration_le ps v g d h =
    let far = far_of v g (feet 425) in
    by_distance ps v g d (λ (t : Tenths). t.0 ≤ 19998)
    (λ near. omega (arith, curve_once_and_twice ps v g d, level_le 9999 ps d h))
    (λ lo hi. joined_le (curve_time_of ps v g (feet 400)) far d 19998 (far_fits v g (feet 425)).1 lo hi (omega (arith, curve_once_and_twice ps v g (feet 400), level_le 9999 ps (feet 400) h)) (omega (arith, far_share v g (feet 425))))
    (λ out. omega (arith, far_within v g d))
