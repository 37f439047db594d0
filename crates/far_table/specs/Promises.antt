-- What is promised of the far times, for a reader of the definitions.
use Rattle.std.specs.Prelude.{◌≡◌, ℕ, ◌+◌, ◌<◌, ◌≤◌}
use Rattle.far_table.specs.FarTable.{far_entry_of}

-- "The table's rule, that no column falls with distance, is proved once over all of it"
abbrev pub NoFarColumnFalls : Type 0
NoFarColumnFalls = (c r : ℕ) → c < 15 → r < 23 → far_entry_of r c ≤ far_entry_of (r + 1) c

-- from the first of these columns to the last no row falls: a steeper grade is never faster
abbrev pub SteeperNeverFaster : ℕ → ℕ → Type 0
SteeperNeverFaster first last = (c r : ℕ) → first ≤ c → c < last → r < 24 → far_entry_of r c ≤ far_entry_of r (c + 1)

-- SU's columns, the bus's, WB-50's
abbrev pub NoVehicleFasterUphill : Type 0
NoVehicleFasterUphill = SteeperNeverFaster 1 4 × SteeperNeverFaster 5 9 × SteeperNeverFaster 10 14

-- every time is from 14.7 to 104.8 seconds
abbrev pub FarEntriesWithin : Type 0
FarEntriesWithin = (c r : ℕ) → c < 15 → r < 24 → (147 ≤ far_entry_of r c) × (far_entry_of r c ≤ 1048)

-- the corners, worked out by the equation apart from the table: at 425 ft and at 1000 ft the car's and WB-50's last; and WB-50's at 2 percent and 850 ft, which e cut to 2.71828
-- would make 518. Past the end of a row stands nothing, and nothing below the last row
abbrev pub FarCorners : Type 0
FarCorners =
    (far_entry_of 0 0 ≡ 147) × (far_entry_of 0 14 ≡ 549) × (far_entry_of 0 15 ≡ 0) × (far_entry_of 17 11 ≡ 519)
    × (far_entry_of 23 0 ≡ 262) × (far_entry_of 23 14 ≡ 1048) × (far_entry_of 24 0 ≡ 0)
