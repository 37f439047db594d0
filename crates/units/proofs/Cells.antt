-- Tables of numbers, a list of rows: a rule proved at every row and column by one computed test, and what stands outside. Assumes nothing.
use mathlib.Core.Path.{◌≡◌, refl}
use mathlib.Core.Bool.{Bool}
use mathlib.Core.List.{List, []}
use Prim.Native.Nat.{ℕ, ◌<◌, ◌≤◌}
use native.Mathlib.Nat.{le_trans}
use native.Mathlib.Omega.{arith}
use lib.Dec.{T, leb, leb→le, le→leb}
use lib.ListN.{get_or, length, get_or-eq_default}
use Rattle.units.proofs.Tested.{all_below, at, all, entry}

-- a test of a column and a row, passed at every column below w and every row below n
abbrev pub everywhere : (ℕ → ℕ → Bool) → ℕ → ℕ → Bool
everywhere f w n = all_below (λ (c : ℕ). all_below (f c) n) w

pub somewhere : (f : ℕ → ℕ → Bool) (w n : ℕ) → T (everywhere f w n) → (c r : ℕ) → c < w → r < n → T (f c r)
somewhere f w n t c r hc hr = at (f c) n (at (λ (k : ℕ). all_below (f k) n) w t c hc) r hr

-- what stands in a row at a column; 0 outside the table
abbrev pub cell : List (List ℕ) → ℕ → ℕ → ℕ
cell table row col = get_or (get_or table row []) col 0

-- every entry of a row is at most b, and so where there is none
abbrev pub small_row : ℕ → List ℕ → Bool
small_row b row = all (λ (n : ℕ). leb n b) row

abbrev pub short_row : ℕ → List ℕ → Bool
short_row w row = leb (length row) w

module _ (table : List (List ℕ)) where
  pub cell_small : (b : ℕ) → T (all (small_row b) table) → (r c : ℕ) → cell table r c ≤ b
  cell_small b t r c =
      leb→le (cell table r c) b
      (entry (λ (n : ℕ). leb n b) (get_or table r []) 0 (entry (small_row b) table [] t tt r) (le→leb 0 b (omega arith)) c)

  pub below_last : (r c : ℕ) → length table ≤ r → 0 ≡ cell table r c
  below_last r c h = rw (get_or-eq_default table [] {n = r} h) refl

  pub past_row : (w : ℕ) → T (all (short_row w) table) → (r c : ℕ) → w ≤ c → 0 ≡ cell table r c
  past_row w t r c h =
      let short = leb→le (length (get_or table r [])) w (entry (short_row w) table [] t (le→leb 0 w (omega arith)) r) in
      rw (get_or-eq_default (get_or table r []) 0 {n = c} (le_trans short h)) refl
