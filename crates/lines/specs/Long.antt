-- Request 2026-04, "Long storage, past 400 feet", beside the definitions: which lines are document 01's still, and which are far times.
use Rattle.std.specs.Prelude.{◌≤◌, ◌≡◌, ℤ, take, Ok}
use Rattle.units.specs.declared.Feet.{Feet}
use Rattle.units.specs.declared.Tenths.{Tenths}
use Rattle.sheet.specs.declared.Sheet.{Sheet}
use Rattle.faults.specs.Whole.{accept_of}
use Rattle.far.specs.Far.{far_time_of}
use Rattle.curve.specs.Curve.{curve_time_of}
use Rattle.lines.specs.Lines.{l20, l23, l24, l48, l49, l54}

-- document 01's acceleration time: the level time by the points, times the grade factor
abbrev pub by_curve : Sheet → ℤ → Feet → Tenths
by_curve s grade d = curve_time_of (take s.point_count s.points) s.vehicle grade d

-- to 400 ft lines 24 and 49 are what they were, and on an accepted sheet line 54 always: l20 is at most 150
abbrev pub AsBeforeToFourHundred : Type 0
AsBeforeToFourHundred =
    (s : Sheet)
    → ((l23 s).0 ≤ 400 → l24 s ≡ by_curve s s.grade (l23 s))
    × ((l48 s).0 ≤ 400 → l49 s ≡ by_curve s s.grade2 (l48 s))
    × (accept_of s ≡ Ok tt → l54 s ≡ by_curve s s.grade (l20 s))

-- from 425 ft on lines 24 and 49 are far times, by their own grades and whatever the points
abbrev pub FarFromFourTwentyFive : Type 0
FarFromFourTwentyFive =
    (s : Sheet)
    → (425 ≤ (l23 s).0 → l24 s ≡ far_time_of s.vehicle s.grade (l23 s))
    × (425 ≤ (l48 s).0 → l49 s ≡ far_time_of s.vehicle s.grade2 (l48 s))
