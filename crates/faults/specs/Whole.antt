-- Refusals 7 to 10 and 12, of the whole sheet, "in order", and the acceptance of a sheet handed over as values.
use Rattle.std.specs.Prelude.{ℕ, ◌+◌, ◌-◌, ◌*◌, Bool, true, false, List, [], ◌∷◌, leb, ltb, eqb}
use Rattle.units.specs.Numbers.{pick, up}
use Rattle.sheet.specs.declared.Phase.{Phase}
use Rattle.sheet.specs.declared.Sheet.{Sheet}
use Rattle.sheet.specs.Refusals.{Answer, or_else, unless}
use Rattle.sheet.specs.declared.Refusal.TheVariants.{RelocationBeyondStorage, WarningTooShort, RelocationTooFar, TrackLongerThanTransfer, DwellPhaseNotListed}
use Rattle.sheet.specs.Entries.{listed_phases, dwell_numbers, nth_point}
use Rattle.transfer.specs.Transfer.{track_fits}
use Rattle.numbers.specs.Flat.{flat_of}
use Rattle.faults.specs.Lines.{lines_fault}

-- 8: "l31 below one second for each 10 ft, or part, of l19 beyond 35 ft": the least l31
abbrev pub least_warning : ℕ → ℕ
least_warning l19 = 10 * up (l19 - 35) 10

-- Line 48 is 46 + 47, 46 is 23, and 23 is 19 + 20
abbrev pub line48 : Sheet → ℕ
line48 s = s.l19 + s.l20 + s.l47

abbrev pub last_point : Sheet → ℕ
last_point s = (nth_point s (s.point_count - 1)).feet

-- 9: "when line 48 is beyond 1000, or beyond the last point where that point is below 400" (request 2026-04): how far it may be
unfoldable pub farthest : ℕ → ℕ
farthest last = pick (ltb last 400) last 1000

-- 12: "a dwell phase not listed on the sheet": a phase of that number is listed, and so of each of the numbers
unfoldable pub listed_in : List Phase → ℕ → Bool
listed_in [] n = false
listed_in (p ∷ ps) n = pick (eqb p.number n) true (listed_in ps n)

unfoldable pub all_listed : List Phase → List ℕ → Bool
all_listed ps [] = true
all_listed ps (n ∷ ns) = pick (listed_in ps n) (all_listed ps ns) false

-- 7: "l47 above l18"; 10: "track yellow + red above line 16"; 12: "after 10, line 0"; "the rest return line 0"
unfoldable pub whole_fault : Sheet → Answer
whole_fault s =
    or_else (unless (leb s.l47 s.l18) RelocationBeyondStorage 0)
    (or_else (unless (leb (least_warning s.l19) s.l31) WarningTooShort 0)
    (or_else (unless (leb (line48 s) (farthest (last_point s))) RelocationTooFar 0)
    (or_else (unless (track_fits (listed_phases s) s.track_yellow s.track_red) TrackLongerThanTransfer 0)
    (unless (all_listed (listed_phases s) (dwell_numbers s)) DwellPhaseNotListed 0))))

-- "A sheet handed over as values .. meets 2 to 10 again, 2 to 6 in sheet order"; 12 is "after 10"
unfoldable pub accept_of : Sheet → Answer
accept_of s = or_else (lines_fault (flat_of s)) (whole_fault s)
