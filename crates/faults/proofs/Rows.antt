-- What a fine row says: each number in its range, and its rule kept. Assumes nothing.
use mathlib.Core.Path.{◌≡◌}
use mathlib.Core.Bool.{true}
use mathlib.Core.List.{List, [], ◌∷◌}
use Prim.Native.Nat.{ℕ, zero, suc, ◌+◌, ◌<◌}
use native.Mathlib.Nat.{not-suc-le-zero}
use native.Mathlib.Omega.{arith}
use lib.Dec.{leb}
use lib.ListN.{length, get_or}
use borrow.Author.Tests.{leb-true}
use Rattle.units.specs.Numbers.{pick}
use Rattle.units.proofs.Steps.{both_left, both_right}
use Rattle.std.specs.Prelude.{Ok}
use Rattle.sheet.proofs.Answers.{both_fine, passes}
use Rattle.rows.specs.Table.{Range, ◌to◌, in_range, in_ranges, used_ranges, place_of, present}
use Rattle.faults.specs.Lines.{rule_fault, row_fault, here_fault, line_after, fault_from}
use Rattle.faults.specs.Ranges.{Between}

in_between : (r : Range) (x : ℕ) → in_range r x ≡ true → Between r.least x r.most
unfolding in_range
in_between r x e =
    record {
      low = leb-true r.least x (both_left (leb r.least x) (leb x r.most) e);
      high = leb-true x r.most (both_right (leb r.least x) (leb x r.most) e);
    }

-- each number of a row whose ranges hold
pub in_each : (v : List ℕ) (at : ℕ) (rs : List Range) → in_ranges v at rs ≡ true → (j : ℕ) → j < length rs → Between (get_or rs j (0 to 0)).least (get_or v (at + j) 0) (get_or rs j (0 to 0)).most
unfolding in_ranges
in_each v at [] e j h = absurd (not-suc-le-zero h)
in_each v at (r ∷ rs) e zero h =
    let p : at + 0 ≡ at = omega arith in
    rw p (in_between r (get_or v at 0) (both_left (in_range r (get_or v at 0)) (in_ranges v (at + 1) rs) e))
in_each v at (r ∷ rs) e (suc j) h =
    let p : at + suc j ≡ at + 1 + j = omega arith in
    rw p (in_each v (at + 1) rs (both_right (in_range r (get_or v at 0)) (in_ranges v (at + 1) rs) e) j (omega arith))

-- a row that is present, on whichever line it stands
pub record FineRow (v : List ℕ) (row : ℕ) : Type 0 where
  pub line : ℕ
  pub fine : row_fault v row line ≡ Ok tt

here_fine : (v : List ℕ) (row line : ℕ) → here_fault v row line ≡ Ok tt → present v row ≡ true → row_fault v row line ≡ Ok tt
unfolding here_fault pick
here_fine v row line e t = rw t at e

pub fine_rows : (v : List ℕ) (n row line : ℕ) → fault_from v n row line ≡ Ok tt → (k : ℕ) → k < n → present v (row + k) ≡ true → FineRow v (row + k)
unfolding fault_from
fine_rows v zero row line e k h p = absurd (not-suc-le-zero h)
fine_rows v (suc n) row line e zero h p =
    let q : row + 0 ≡ row = omega arith in
    rw q (record { line = line; fine = here_fine v row line (both_fine _ _ e).0 (rw q at p) })
fine_rows v (suc n) row line e (suc k) h p =
    let q : row + suc k ≡ row + 1 + k = omega arith in
    rw q (fine_rows v n (row + 1) (line_after v row line) (both_fine _ _ e).1 k (omega arith) (rw q at p))

pub row_ranges : (v : List ℕ) (row : ℕ) → FineRow v row → in_ranges v (place_of row) (used_ranges v row) ≡ true
unfolding row_fault
row_ranges v row f =
    let each = both_fine _ _ f.fine in
    search passes

pub row_rule : (v : List ℕ) (row : ℕ) (f : FineRow v row) → rule_fault v row f.line ≡ Ok tt
unfolding row_fault
row_rule v row f =
    let each = both_fine _ _ f.fine in
    search each
