-- The phases listed: "phases | 1 to 8, then that many `phase=` lines". "Array entries past a count are no part of a sheet".
use Rattle.std.specs.Prelude.{ℕ, Bool, true, List, ◌≡◌, ◌==◌, Option, find, is_some, unwrap_or}
use Rattle.sheet.specs.declared.Phase.{Phase}
use Rattle.sheet.specs.declared.Sheet.{Sheet}
use Rattle.sheet.specs.Entries.{listed_phases, named}
use Rattle.sheet.specs.Zero.{zero_phase}

unfoldable pub find_in : List Phase → ℕ → Option Phase
find_in ps n = find (λ p. p.number == n) ps

-- a phase of that number is listed
abbrev pub listed : Sheet → ℕ → Bool
listed s n = is_some (find_in (listed_phases s) n)

-- it; the phase of zeros where none is, which no stage that fits shows
abbrev pub phase_of : Sheet → ℕ → Phase
phase_of s n = unwrap_or (find_in (listed_phases s) n) zero_phase

-- "12, a dwell phase not listed on the sheet": what a sheet names for dwell is listed on it, as it is on every sheet that is accepted
abbrev pub NamedAreListed : Sheet → Type 0
NamedAreListed s = (n : ℕ) → named s n ≡ true → listed s n ≡ true
