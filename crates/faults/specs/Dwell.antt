-- The line for dwell of a sheet handed over as values: a count and eight numbers. "Refusals: 3 when the numbers don't rise", after 2.
use Rattle.std.specs.Prelude.{ℕ, Bool, List, get_or, take, drop}
use Rattle.units.specs.Numbers.{both}
use Rattle.sheet.specs.Refusals.{Answer, or_else, unless}
use Rattle.sheet.specs.declared.Refusal.TheVariants.{OutOfRange, PhasesDontRise}
use Rattle.rows.specs.Table.{most_phases, row_for, ranges_of, range_of, in_range, in_ranges}
use Rattle.numbers.specs.Flat.{entries_from}
use Rattle.faults.specs.Lines.{rises_after}

-- the first n numbers, each in its range
abbrev pub numbers_fit : ℕ → List ℕ → Bool
numbers_fit n xs = in_ranges xs 0 (take n (drop 1 (ranges_of (row_for "dwell"))))

-- and n, which is how many they are, in its own
abbrev pub dwell_inside : ℕ → List ℕ → Bool
dwell_inside n xs = both (in_range (range_of (row_for "dwell") 0) n) (numbers_fit n xs)

-- what is wrong with it, on that line of the text. The array's entries are taken one by one, so that its length need not be known
abbrev pub dwell_line : ℕ → List ℕ → ℕ → Answer
dwell_line n xs line =
    or_else (unless (dwell_inside n xs) OutOfRange line)
    (unless (rises_after 0 (take n (entries_from (λ (i : ℕ). get_or xs i 0) most_phases 0))) PhasesDontRise line)
