-- Which refusal is given where several apply: "The first faulty line in file order decides, .. Then 7 to 11 in order".
use Rattle.std.specs.Prelude.{ℕ, ◌+◌, ◌<◌, ◌≤◌, ◌≡◌, ◌⊎◌, true, false, List, length, get_or, Ok}
use Rattle.sheet.specs.declared.Sheet.{Sheet}
use Rattle.sheet.specs.declared.Phase.{Phase}
use Rattle.sheet.specs.declared.Refusal.{Refusal}
use Rattle.sheet.specs.declared.Refusal.TheVariants.{OutOfRange, PhasesDontRise, PedestriansInModeZero, ClearanceTooShort, RelocationBeyondStorage, WarningTooShort, RelocationTooFar, TrackLongerThanTransfer, DwellPhaseNotListed}
use Rattle.sheet.specs.Refusals.{Answer, refused, is_fine, unless}
use Rattle.sheet.specs.Entries.{listed_phases, named}
use Rattle.transfer.specs.Promises.{AboveSixteen}
use Rattle.rows.specs.Table.{used_ranges, place_of, in_ranges}
use Rattle.numbers.specs.Flat.{flat_of}
use Rattle.faults.specs.Lines.{phase_fault, rises_after, rule_fault, row_fault, lines_fault}
use Rattle.faults.specs.Whole.{least_warning, line48, last_point, listed_in, whole_fault, accept_of}

-- the answer is this refusal where the fault is there, and what follows says the answer where it is not: so a refusal is "given exactly
-- when" its fault is there and none before it
abbrev pub Given : Type 0 → Refusal → ℕ → (Answer → Type 0) → Answer → Type 0
Given fault refusal line next answer = (fault → answer ≡ refused refusal line) × ((fault → ⊥) → next answer)

-- "on one line the lowest number": 2 before all others
abbrev pub RowIsFirst : Type 0
RowIsFirst =
    (v : List ℕ) (row line : ℕ)
    → Given (in_ranges v (place_of row) (used_ranges v row) ≡ false) OutOfRange line (λ answer. answer ≡ rule_fault v row line) (row_fault v row line)

-- and 3, 5, 6 of a phase line
abbrev pub PhaseIsFirst : Type 0
PhaseIsFirst =
    (before p : Phase) (line : ℕ)
    -- "phase numbers don't rise"
    → Given (p.number ≤ before.number) PhasesDontRise line
    -- "mode 0 with walk or clearance above 0"
    (Given ((p.mode ≡ 0) × (0 < p.walk + p.clearance)) PedestriansInModeZero line
    -- "mode 2 with clearance below yellow + red"
    (Given ((p.mode ≡ 2) × (p.clearance < p.yellow + p.red)) ClearanceTooShort line
    (λ answer. answer ≡ Ok tt)))
    (phase_fault before p line)

-- and 3 of a list, whose numbers are 1 to 8: one of them is not above the one before
pub record Falls (ns : List ℕ) : Type 0 where
  pub place : ℕ
  pub inside : place + 1 < length ns
  pub level : get_or ns (place + 1) 0 ≤ get_or ns place 0

abbrev pub ListIsFirst : Type 0
ListIsFirst =
    (ns : List ℕ) (line : ℕ) → (0 < length ns → 0 < get_or ns 0 0)
    -- "3 when the numbers don't rise"
    → Given (Falls ns) PhasesDontRise line (λ answer. answer ≡ Ok tt) (unless (rises_after 0 ns) PhasesDontRise line)

-- a number that the sheet names for dwell, and no phase of that number listed
pub record Unlisted (s : Sheet) : Type 0 where
  pub number : ℕ
  pub is_named : named s number ≡ true
  pub missing : listed_in (listed_phases s) number ≡ false

-- "Then 7 to 11 in order"; 12 "after 10, line 0"; "the rest return line 0"
abbrev pub FirstOfSevenToTwelve : Sheet → Answer → Type 0
FirstOfSevenToTwelve s =
    -- "l47 above l18"
    Given (s.l18 < s.l47) RelocationBeyondStorage 0
    -- "l31 below one second for each 10 ft, or part, of l19 beyond 35 ft"
    (Given (s.l31 < least_warning s.l19) WarningTooShort 0
    -- "line 48 is beyond 1000, or beyond the last point where that point is below 400"
    (Given ((1000 < line48 s) ⊎ ((last_point s < 400) × (last_point s < line48 s))) RelocationTooFar 0
    -- "track yellow + red above line 16"
    (Given (AboveSixteen (listed_phases s) s.track_yellow s.track_red) TrackLongerThanTransfer 0
    -- "a dwell phase not listed on the sheet"
    (Given (Unlisted s) DwellPhaseNotListed 0
    (λ answer. answer ≡ Ok tt)))))

abbrev pub WholeIsFirst : Type 0
WholeIsFirst = (s : Sheet) → FirstOfSevenToTwelve s (whole_fault s)

-- and the fault of a line before all five: "meets 2 to 10 again, 2 to 6 in sheet order"
abbrev pub AcceptIsFirst : Type 0
AcceptIsFirst =
    (s : Sheet)
    → (is_fine (lines_fault (flat_of s)) ≡ false → accept_of s ≡ lines_fault (flat_of s))
    × (is_fine (lines_fault (flat_of s)) ≡ true → FirstOfSevenToTwelve s (accept_of s))
