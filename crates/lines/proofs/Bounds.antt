-- No line of an accepted sheet is large: from the ranges of what it is worked out from. Assumes nothing.
use mathlib.Core.Path.{◌≡◌, ap}
use mathlib.Core.List.{List, [], ◌∷◌}
use Prim.Native.Nat.{ℕ, ◌+◌, ◌*◌, ◌≤◌}
use native.Mathlib.Nat.{mul-le-mul, div-le_self}
use native.Mathlib.Omega.{arith}
use lib.ListN.{take}
use Rattle.units.specs.Lists.{All}
use Rattle.units.proofs.Rounding.{up_le}
use Rattle.units.specs.declared.Feet.{Feet}
use Rattle.units.specs.declared.Tenths.{Tenths}
use Rattle.sheet.specs.declared.Sheet.{Sheet}
use Rattle.sheet.specs.declared.Phase.{Phase}
use Rattle.sheet.specs.declared.Point.{Point}
use Rattle.std.specs.Prelude.{Ok}
use Rattle.transfer.specs.Promises.{Bounded}
use Rattle.transfer.proofs.Promised.{at_most}
use Rattle.faults.specs.Whole.{accept_of}
use Rattle.faults.specs.Ranges.{SoundPhase, SoundPoint, Sound}
use Rattle.faults.proofs.Sound.{sound}
use Rattle.curve.specs.Promises.{TimesWithin}
use Rattle.curve.proofs.Joined.{acceleration_le}
use Rattle.lines.specs.Lines.{l03, l16, l17, l20, l21, l22, l23, l24, l25, l32, l36, l38, l40, l41, l43, l44, l45, l46, l48, l49, l50, l54, l57, l58, l59}

bounded : (ps : List Phase) → All SoundPhase ps → All Bounded ps
bounded [] a = tt
bounded (p ∷ ps) a =
    let q = a.0 in
    (record { green = q.green; other = q.other; yellow = q.yellow.high; red = q.red; walk = q.walk; clearance = q.clearance }, bounded ps a.1)

timed : (ps : List Point) → All SoundPoint ps → TimesWithin 9999 ps
timed [] a = tt
timed (p ∷ ps) a = (a.0.tenths, timed ps a.1)

pub record Bounds (s : Sheet) : Type 0 where
  pub l03 : (l03 s).0 ≤ 1998
  pub l16 : (l16 s).0 ≤ 2118
  pub l17 : (l17 s).0 ≤ 4116
  pub l21 : (l21 s).0 ≤ 1400
  pub l22 : (l22 s).0 ≤ 720
  pub l23 : (l23 s).0 ≤ 550
  pub l24 : (l24 s).0 ≤ 19998
  pub l25 : (l25 s).0 ≤ 20718
  pub l32 : (l32 s).0 ≤ 1998
  pub l38 : (l38 s).0 ≤ 9981
  pub l40 : (l40 s).0 ≤ 10980
  pub l44 : (l44 s).0 ≤ 10980
  pub l48 : (l48 s).0 ≤ 1000
  pub l49 : (l49 s).0 ≤ 19998
  pub l50 : (l50 s).0 ≤ 20718
  pub l54 : (l54 s).0 ≤ 19998
  pub l59 : (l59 s).0 ≤ 99900

pub bounds_of : (s : Sheet) → Sound s → Bounds s
unfolding l03 l16 l17 l21 l22 l23 l24 l25 l32 l36 l38 l40 l41 l43 l44 l45 l46 l48 l49 l50 l54 l59
bounds_of s h =
    let sixteen : (l16 s).0 ≤ 2118 = (at_most (take s.phase_count s.phases) (bounded (take s.phase_count s.phases) h.phases)).1 in
    let ps = take s.point_count s.points in
    let times = timed ps h.points in
    let start = up_le (s.l18 + s.l19) 2 700 (omega arith) (omega (arith, h.l18, h.l19)) in
    let clears : (l24 s).0 ≤ 19998 = acceleration_le ps s.vehicle _ _ times in
    let moves : (l49 s).0 ≤ 19998 = acceleration_le ps s.vehicle _ _ times in
    let stands : (l54 s).0 ≤ 19998 = acceleration_le ps s.vehicle _ _ times in
    let gate = up_le (s.l33 * s.l37) 100 9981 (omega arith) (omega (arith, mul-le-mul {n₁ = s.l33} {m₁ = s.l37} {n₂ = 999} {m₂ = 999} h.l33 h.l37.high)) in
    let share = mul-le-mul {n₁ = s.l57} {m₁ = s.l58} {n₂ = 999} {m₂ = 100} h.l57.high h.l58 in
    record {
      l03 = omega (arith, h.l01, h.l02);
      l16 = sixteen;
      l17 = omega (arith, h.l01, h.l02, sixteen);
      l21 = omega (arith, h.l18, h.l19);
      l22 = omega (arith, start);
      l23 = omega (arith, h.l19, h.l20);
      l24 = clears;
      l25 = omega (arith, start, clears);
      l32 = omega (arith, h.l30, h.l31);
      l38 = gate;
      l40 = omega (arith, gate, h.l39);
      l44 = omega (arith, gate, h.l39);
      l48 = omega (arith, h.distance.0);
      l49 = moves;
      l50 = omega (arith, start, moves);
      l54 = stands;
      l59 = omega (arith, share, div-le_self (s.l57 * s.l58) 100);
    }

pub bounds : (s : Sheet) → accept_of s ≡ Ok tt → Bounds s
bounds s e = bounds_of s (sound s e)

-- what equals a small line is small
pub small_time : (a b : Tenths) (n : ℕ) → a ≡ b → b.0 ≤ n → n ≤ 1000000 → a.0 ≤ 1000000
small_time a b n e h l = omega (arith, ap (λ (t : Tenths). t.0) e)

pub small_feet : (a b : Feet) (n : ℕ) → a ≡ b → b.0 ≤ n → n ≤ 1000000 → a.0 ≤ 1000000
small_feet a b n e h l = omega (arith, ap (λ (t : Feet). t.0) e)
