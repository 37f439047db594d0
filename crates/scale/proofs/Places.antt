-- Two rules for a place that agree at every number below a bound, and places that stand between two marks: each by one computed test. The columns of each vehicle by the code's sums. Assumes nothing.
use mathlib.Core.Path.{◌≡◌}
use mathlib.Core.Bool.{Bool}
use Prim.Native.Nat.{ℕ, ◌+◌, ◌<◌, ◌≤◌}
use native.Mathlib.Omega.{arith}
use lib.Dec.{T, eqb, leb, ltb, eqb→eq, leb→le, ltb→lt, le→leb, lt→ltb}
use Rattle.units.specs.Numbers.{pick}
use Rattle.units.proofs.Tested.{also, also_left, also_right, given, given_then, all_below, at}
use Rattle.sheet.specs.declared.Vehicle.{Vehicle}
use Rattle.sheet.specs.declared.Vehicle.TheVariants.{Car, Su, Bus, Wb50}
use Rattle.scale.specs.declared.Place.{Place}
use Rattle.scale.specs.Scale.{place_on, column_of, Standing}

abbrev pub same : Place → Place → Bool
same p q = also (eqb p.step q.step) (also (eqb p.past q.past) (eqb p.width q.width))

same_eq : (p q : Place) → T (same p q) → p ≡ q
same_eq p q t =
    let u = also_right (eqb p.step q.step) (also (eqb p.past q.past) (eqb p.width q.width)) t in
    let a = eqb→eq p.step q.step (also_left (eqb p.step q.step) (also (eqb p.past q.past) (eqb p.width q.width)) t) in
    let b = eqb→eq p.past q.past (also_left (eqb p.past q.past) (eqb p.width q.width) u) in
    let c = eqb→eq p.width q.width (also_right (eqb p.past q.past) (eqb p.width q.width) u) in
    λ i. record { step = a i; past = b i; width = c i }

-- two rules for a place agree wherever a test passes, by one computed test over every number below n
abbrev pub agreeing : (ℕ → Bool) → (ℕ → Place) → (ℕ → Place) → ℕ → Bool
agreeing f p q = λ (k : ℕ). given (f k) (same (p k) (q k))

pub agree : (f : ℕ → Bool) (p q : ℕ → Place) (n : ℕ) → T (all_below (agreeing f p q) n) → (k : ℕ) → k < n → T (f k) → p k ≡ q k
agree f p q n t k h u = same_eq (p k) (q k) (given_then (f k) (same (p k) (q k)) (at (agreeing f p q) n t k h) u)

-- a vehicle's columns at every grade up to 80, by any rule that the test passes: up to a grade, and above it
module _ (v : Vehicle) (p : ℕ → Place) where
  pub column_to : (high : ℕ) → T (all_below (agreeing (λ (k : ℕ). leb k high) p (column_of v)) 81) → (g : ℕ) → g ≤ 80 → g ≤ high → p g ≡ column_of v g
  column_to high t g h l = agree (λ (k : ℕ). leb k high) p (column_of v) 81 t g (omega arith) (le→leb g high l)

  pub column_above : (low : ℕ) → T (all_below (agreeing (λ (k : ℕ). ltb low k) p (column_of v)) 81) → (g : ℕ) → low < g → g ≤ 80 → p g ≡ column_of v g
  column_above low t g l h = agree (λ (k : ℕ). ltb low k) p (column_of v) 81 t g (omega arith) (lt→ltb low g l)

-- every place of a scale is between two marks of a table
abbrev pub stands : ℕ → ℕ → Place → Bool
stands w n p = also (also (leb p.past p.width) (leb 1 p.width)) (also (leb p.width w) (ltb (p.step + 1) n))

pub standing : (w n : ℕ) (p : Place) → T (stands w n p) → Standing w n p
standing w n p t =
    let u = also_left (also (leb p.past p.width) (leb 1 p.width)) (also (leb p.width w) (ltb (p.step + 1) n)) t in
    let s = also_right (also (leb p.past p.width) (leb 1 p.width)) (also (leb p.width w) (ltb (p.step + 1) n)) t in
    record {
      near = leb→le p.past p.width (also_left (leb p.past p.width) (leb 1 p.width) u);
      apart = leb→le 1 p.width (also_right (leb p.past p.width) (leb 1 p.width) u);
      narrow = leb→le p.width w (also_left (leb p.width w) (ltb (p.step + 1) n) s);
      inside = ltb→lt (p.step + 1) n (also_right (leb p.width w) (ltb (p.step + 1) n) s);
    }

column_tested : (v : Vehicle) → T (all_below (λ (k : ℕ). stands 20 14 (column_of v k)) 81)
unfolding place_on column_of pick
column_tested Car = tt
column_tested Su = tt
column_tested Bus = tt
column_tested Wb50 = tt

pub column_stands : (v : Vehicle) (g : ℕ) → g ≤ 80 → Standing 20 14 (column_of v g)
column_stands v g h = standing 20 14 (column_of v g) (at (λ (k : ℕ). stands 20 14 (column_of v k)) 81 (column_tested v) g (omega arith))
