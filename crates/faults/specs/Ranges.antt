-- What an accepted sheet keeps, and that a sheet which keeps it is accepted.
use Rattle.std.specs.Prelude.{ℕ, ◌+◌, ◌≤◌, ◌<◌, ◌≡◌, true, get_or, Ok}
use Rattle.units.specs.Lists.{All}
use Rattle.sheet.specs.declared.Phase.{Phase}
use Rattle.sheet.specs.declared.Point.{Point}
use Rattle.sheet.specs.declared.Sheet.{Sheet}
use Rattle.sheet.specs.Entries.{Shaped, listed_phases, listed_points, dwell_numbers, named, nth_phase, nth_point}
use Rattle.transfer.specs.Promises.{WithinSixteen}
use Rattle.numbers.specs.Flat.{grade_number}
use Rattle.faults.specs.Whole.{least_warning, line48, last_point, listed_in, accept_of}

pub record Between (least x most : ℕ) : Type 0 where
  pub low : least ≤ x
  pub high : x ≤ most

pub record SoundPhase (p : Phase) : Type 0 where
  pub number : Between 1 p.number 8
  pub green : p.green ≤ 999
  pub other : p.other ≤ 999
  pub yellow : Between 30 p.yellow 60
  pub red : p.red ≤ 60
  pub walk : p.walk ≤ 999
  pub clearance : p.clearance ≤ 999
  pub mode : p.mode ≤ 2
  -- not refused 5, not refused 6
  pub quiet : p.mode ≡ 0 → (p.walk ≡ 0) × (p.clearance ≡ 0)
  pub late : p.mode ≡ 2 → p.yellow + p.red ≤ p.clearance

pub record SoundPoint (p : Point) : Type 0 where
  pub feet : p.feet ≤ 400
  pub tenths : p.tenths ≤ 9999

pub record Sound (s : Sheet) : Type 0 where
  pub issue : Between 1 s.issue 65535
  pub grade : Between 999920 (grade_number s.grade) 1000080
  pub grade2 : Between 999920 (grade_number s.grade2) 1000080
  pub l01 : s.l01 ≤ 999
  pub l02 : Between 1 s.l02 999
  pub phase_count : Between 1 s.phase_count 8
  pub phases : All SoundPhase (listed_phases s)
  -- not refused 3: each has a higher number than the one before
  pub rising : (i : ℕ) → i + 1 < s.phase_count → (nth_phase s i).number < (nth_phase s (i + 1)).number
  pub track_yellow : Between 30 s.track_yellow 60
  pub track_red : s.track_red ≤ 60
  pub dwell_count : s.dwell_count ≤ 8
  pub dwell : All (λ (n : ℕ). Between 1 n 8) (dwell_numbers s)
  -- not refused 3: each is above the one before
  pub climbing : (i : ℕ) → i + 1 < s.dwell_count → get_or s.dwell i 0 < get_or s.dwell (i + 1) 0
  pub l18 : s.l18 ≤ 1000
  pub l19 : Between 1 s.l19 400
  pub l20 : Between 1 s.l20 150
  pub l28 : s.l28 ≤ 999
  pub l30 : Between 200 s.l30 999
  pub l31 : s.l31 ≤ 999
  pub l33 : s.l33 ≤ 999
  pub l37 : Between 100 s.l37 999
  pub l39 : s.l39 ≤ 999
  pub l47 : s.l47 ≤ 1000
  pub l56 : Between 30 s.l56 999
  pub l57 : Between 1 s.l57 999
  pub l58 : s.l58 ≤ 100
  pub point_count : Between 2 s.point_count 16
  pub points : All SoundPoint (listed_points s)
  -- not refused 4: the first is 0,0, and each is further out than the one before, and no earlier
  pub start : ((nth_point s 0).feet ≡ 0) × ((nth_point s 0).tenths ≡ 0)
  pub further : (i : ℕ) → i + 1 < s.point_count → (nth_point s i).feet < (nth_point s (i + 1)).feet
  pub slower : (i : ℕ) → i + 1 < s.point_count → (nth_point s i).tenths ≤ (nth_point s (i + 1)).tenths
  -- not refused 7 to 10, not refused 12
  pub storage : s.l47 ≤ s.l18
  pub warning : least_warning s.l19 ≤ s.l31
  pub distance : (line48 s ≤ 1000) × (last_point s < 400 → line48 s ≤ last_point s)
  pub track : WithinSixteen (listed_phases s) s.track_yellow s.track_red
  pub dwell_listed : (n : ℕ) → named s n ≡ true → listed_in (listed_phases s) n ≡ true

-- an accepted sheet keeps all of this
abbrev pub AcceptedIsSound : Type 0
AcceptedIsSound = (s : Sheet) → accept_of s ≡ Ok tt → Sound s

-- and a sheet that keeps it is accepted
abbrev pub SoundIsAccepted : Type 0
SoundIsAccepted = (s : Sheet) → Shaped s → Sound s → accept_of s ≡ Ok tt

-- so one of 2 to 10 or 12 is "given exactly when" it does not
abbrev pub AcceptedWhenSound : Type 0
AcceptedWhenSound = AcceptedIsSound × SoundIsAccepted
