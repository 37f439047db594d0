-- No column falls, no entry is below 1 or above 2, each by one computed test over the whole table; what stands behind the point of each entry; and what stands outside the table. Assumes nothing.
use mathlib.Core.Path.{◌≡◌, refl}
use mathlib.Core.List.{List, [], map}
use Prim.Native.Nat.{ℕ, suc, ◌+◌, ◌-◌, ◌<◌, ◌≤◌}
use native.Mathlib.Omega.{arith}
use lib.Dec.{leb, leb→le}
use lib.ListN.{get_or, get_or-map}
use Rattle.units.proofs.Cells.{somewhere, cell_small, below_last, past_row}
use Rattle.table.specs.Table.{table, entry_of}
use Rattle.table.specs.Promises.{NoColumnFalls, NoEntryBelowOne, Corners}

pub rises : NoColumnFalls
unfolding entry_of table
rises c r hc hr =
    leb→le (entry_of r c) (entry_of (suc r) c)
    (somewhere (λ (k : ℕ) (n : ℕ). leb (entry_of n k) (entry_of (suc n) k)) 14 15 tt c r hc hr)

pub least : NoEntryBelowOne
unfolding entry_of table
least c r hc hr = leb→le 100 (entry_of r c) (somewhere (λ (k : ℕ) (n : ℕ). leb 100 (entry_of n k)) 14 16 tt c r hc hr)

pub small : (r c : ℕ) → entry_of r c ≤ 200
unfolding entry_of table
small r c = cell_small table 200 tt r c

pub corners : Corners
unfolding entry_of table
corners = (refl, refl, refl, refl, refl, refl)

-- what the page has behind the point, row by row: this is how the code keeps the table
abbrev pub decimals : List (List ℕ)
decimals = map (map (λ (n : ℕ). n - 100)) table

decimal : (r c : ℕ) → get_or (get_or decimals r []) c 0 ≡ entry_of r c - 100
unfolding entry_of
decimal r c =
    rw (get_or-map (map (λ (n : ℕ). n - 100)) table r []) (get_or-map (λ (n : ℕ). n - 100) (get_or table r []) c 0)

pub printed : (r c : ℕ) → c < 14 → r < 16 → 100 + get_or (get_or decimals r []) c 0 ≡ entry_of r c
printed r c hc hr = omega (arith, decimal r c, least c r hc hr)

pub decimal_small : (r c : ℕ) → get_or (get_or decimals r []) c 0 ≤ 100
decimal_small r c = omega (arith, decimal r c, small r c)

-- outside the table stands 0
pub outside_row : (r c : ℕ) → 16 ≤ r → 0 ≡ entry_of r c
unfolding entry_of table
outside_row r c h = below_last table r c h

pub outside_column : (r c : ℕ) → 14 ≤ c → 0 ≡ entry_of r c
unfolding entry_of table
outside_column r c h = past_row table 14 tt r c h
