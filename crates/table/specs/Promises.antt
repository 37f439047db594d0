-- What is promised of Table 628-B, for a reader of the definitions.
use Rattle.std.specs.Prelude.{◌≡◌, ℕ, suc, ◌<◌, ◌≤◌}
use Rattle.table.specs.Table.{entry_of}

-- "no column falls with distance"
abbrev pub NoColumnFalls : Type 0
NoColumnFalls = (c r : ℕ) → c < 14 → r < 15 → entry_of r c ≤ entry_of (suc r) c

-- no entry is below 1
abbrev pub NoEntryBelowOne : Type 0
NoEntryBelowOne = (c r : ℕ) → c < 14 → r < 16 → 100 ≤ entry_of r c

-- the page's corners, worked out: at 25 ft and at 400 ft SU's first entry and WB-50's last.
-- Past the end of a row stands nothing, where the next row's first entry would follow, and nothing below the last row
abbrev pub Corners : Type 0
Corners =
    (entry_of 0 0 ≡ 100) × (entry_of 0 13 ≡ 155) × (entry_of 0 14 ≡ 0) × (entry_of 15 0 ≡ 100) × (entry_of 15 13 ≡ 185) × (entry_of 16 0 ≡ 0)
