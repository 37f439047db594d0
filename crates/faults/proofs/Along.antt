-- The first fault, row by row and stretch by stretch. Assumes nothing.
use mathlib.Core.Path.{◌≡◌, refl, ap, ◌∙◌}
use mathlib.Core.Bool.{true, false}
use mathlib.Core.List.{List}
use Prim.Native.Nat.{ℕ, zero, suc, ◌+◌, ◌-◌, ◌<◌}
use native.Mathlib.Omega.{arith}
use Rattle.units.specs.Numbers.{pick}
use Rattle.std.specs.Prelude.{Ok}
use Rattle.sheet.specs.Refusals.{is_fine, or_else}
use Rattle.sheet.proofs.Answers.{fine_or, bad_or, or_or}
use Rattle.rows.specs.Table.{present}
use Rattle.faults.specs.Lines.{row_fault, here_fault, line_after, fault_from}

-- ---- row i of a stretch of n rows

module _ (v : List ℕ) (first n i line : ℕ) where
  pub fine_row : i < n → present v (first + i) ≡ true → is_fine (row_fault v (first + i) line) ≡ true → fault_from v (n - i) (first + i) line ≡ fault_from v (n - (i + 1)) (first + (i + 1)) (line + 1)
  unfolding fault_from here_fault line_after pick
  fine_row h t f =
      let e : n - i ≡ suc (n - (i + 1)) = omega arith in
      let d : first + (i + 1) ≡ first + i + 1 = omega arith in
      rw (e, t, d) (fine_or _ _ f)

  pub bad_row : i < n → present v (first + i) ≡ true → is_fine (row_fault v (first + i) line) ≡ false → fault_from v (n - i) (first + i) line ≡ row_fault v (first + i) line
  unfolding fault_from here_fault line_after pick
  bad_row h t f = let e : n - i ≡ suc (n - (i + 1)) = omega arith in rw (e, t) (bad_or _ _ f)

-- rows that are no lines
pub no_lines : (v : List ℕ) (n row line : ℕ) → ((k : ℕ) → k < n → present v (row + k) ≡ false) → fault_from v n row line ≡ Ok tt
unfolding fault_from here_fault line_after pick or_else
no_lines v zero row line none = refl
no_lines v (suc n) row line none =
    let z : row + 0 ≡ row = omega arith in
    let t : present v row ≡ false = rw z at (none 0 (omega arith)) in
    rw t
    (no_lines v n (row + 1) line (λ k h. let e : row + suc k ≡ row + 1 + k = omega arith in rw e at (none (suc k) (omega arith))))

-- ---- two stretches

-- the line where n rows leave off
unfoldable pub line_from : List ℕ → ℕ → ℕ → ℕ → ℕ
line_from v zero row line = line
line_from v (suc n) row line = line_from v n (row + 1) (line_after v row line)

pub in_two : (v : List ℕ) (m n k row line : ℕ) → k ≡ m + n → fault_from v k row line ≡ or_else (fault_from v m row line) (fault_from v n (row + m) (line_from v m row line))
unfolding fault_from line_from or_else
in_two v zero n k row line e =
    let a : k ≡ n = omega arith in
    let z : row + 0 ≡ row = omega arith in
    rw (a, z) refl
in_two v (suc m) n k row line e =
    let a : k ≡ suc (m + n) = omega arith in
    let b : row + suc m ≡ row + 1 + m = omega arith in
    rw (a, b) (ap (or_else (here_fault v row line)) (in_two v m n (m + n) (row + 1) (line_after v row line) refl) ∙ or_or (here_fault v row line) (fault_from v m (row + 1) (line_after v row line)) (fault_from v n (row + 1 + m) (line_from v m (row + 1) (line_after v row line))))

-- rows that are all lines
pub all_lines : (v : List ℕ) (n row line : ℕ) → ((k : ℕ) → k < n → present v (row + k) ≡ true) → line_from v n row line ≡ line + n
unfolding line_from line_after pick
all_lines v zero row line here = omega arith
all_lines v (suc n) row line here =
    let z : row + 0 ≡ row = omega arith in
    let t : present v row ≡ true = rw z at (here 0 (omega arith)) in
    let e : line + suc n ≡ line + 1 + n = omega arith in
    rw (t, e)
    (all_lines v n (row + 1) (line + 1) (λ k h. let d : row + suc k ≡ row + 1 + k = omega arith in rw d at (here (suc k) (omega arith))))
