-- No column falls with distance and none of a vehicle's with the grade, each by one computed test over the whole table; how the code keeps the table; and what stands outside it. Assumes nothing.
use mathlib.Core.Path.{◌≡◌, refl, subst}
use mathlib.Core.Bool.{Bool}
use mathlib.Core.List.{List, [], ◌∷◌, map}
use Prim.Native.Nat.{ℕ, ◌+◌, ◌-◌, ◌/◌, ◌%◌, ◌<◌, ◌≤◌}
use native.Mathlib.Omega.{arith}
use lib.Dec.{T, eqb, leb, leb→le, eqb→eq}
use lib.ListN.{get_or, take, drop}
use Rattle.units.proofs.Cells.{everywhere, somewhere, cell_small, below_last, past_row}
use Rattle.far_table.specs.FarTable.{far_table, far_entry_of}
use Rattle.far_table.specs.Promises.{NoFarColumnFalls, SteeperNeverFaster, NoVehicleFasterUphill, FarEntriesWithin, FarCorners}

pub rises : NoFarColumnFalls
unfolding far_entry_of far_table
rises c r hc hr =
    leb→le (far_entry_of r c) (far_entry_of (r + 1) c)
    (somewhere (λ (k : ℕ) (n : ℕ). leb (far_entry_of n k) (far_entry_of (n + 1) k)) 15 23 tt c r hc hr)

-- the test of a row at a column and the one after it
abbrev pub steeper : ℕ → ℕ → Bool
steeper k n = leb (far_entry_of n k) (far_entry_of n (k + 1))

slower : (first last : ℕ) → T (everywhere (λ (k : ℕ) (n : ℕ). steeper (first + k) n) (last - first) 24) → SteeperNeverFaster first last
slower first last t c r lo hi hr =
    let same : first + (c - first) ≡ c = omega arith in
    leb→le (far_entry_of r c) (far_entry_of r (c + 1))
    (subst (λ (k : ℕ). T (steeper k r)) same (somewhere (λ (k : ℕ) (n : ℕ). steeper (first + k) n) (last - first) 24 t (c - first) r (omega arith) hr))

pub uphill : NoVehicleFasterUphill
unfolding far_entry_of far_table
uphill = (slower 1 4 tt, slower 5 9 tt, slower 10 14 tt)

pub small : (r c : ℕ) → far_entry_of r c ≤ 1048
unfolding far_entry_of far_table
small r c = cell_small far_table 1048 tt r c

pub within : FarEntriesWithin
unfolding far_entry_of far_table
within c r hc hr =
    (leb→le 147 (far_entry_of r c) (somewhere (λ (k : ℕ) (n : ℕ). leb 147 (far_entry_of n k)) 15 24 tt c r hc hr), small r c)

pub corners : FarCorners
unfolding far_entry_of far_table
corners = (refl, refl, refl, refl, refl, refl, refl)

-- a row in three blocks of five: the car with SU, the bus, WB-50; this is how the code keeps the table
abbrev pub fives : List ℕ → List (List ℕ)
fives row = take 5 row ∷ take 5 (drop 5 row) ∷ drop 10 row ∷ []

abbrev pub blocks : List (List (List ℕ))
blocks = map fives far_table

-- "tied" to the code's table: by one computed test over all 360
pub kept : (r c : ℕ) → c < 15 → r < 24 → get_or (get_or (get_or blocks r []) (c / 5) []) (c % 5) 0 ≡ far_entry_of r c
unfolding far_entry_of far_table
kept r c hc hr =
    eqb→eq (get_or (get_or (get_or blocks r []) (c / 5) []) (c % 5) 0) (far_entry_of r c)
    (somewhere (λ (k : ℕ) (n : ℕ). eqb (get_or (get_or (get_or blocks n []) (k / 5) []) (k % 5) 0) (far_entry_of n k)) 15 24 tt c r hc hr)

-- outside the table stands 0
pub outside_row : (r c : ℕ) → 24 ≤ r → 0 ≡ far_entry_of r c
unfolding far_entry_of far_table
outside_row r c h = below_last far_table r c h

pub outside_column : (r c : ℕ) → 15 ≤ c → 0 ≡ far_entry_of r c
unfolding far_entry_of far_table
outside_column r c h = past_row far_table 15 tt r c h
