-- What the lines of an accepted sheet show of its phases, and that its level times lie between its points.
use Rattle.std.specs.Prelude.{ℕ, ◌+◌, ◌≤◌, ◌<◌, ◌≡◌, ◌⊎◌, Ok}
use Rattle.units.specs.declared.Feet.{Feet}
use Rattle.units.specs.Numbers.{feet, tenths}
use Rattle.sheet.specs.declared.Sheet.{Sheet}
use Rattle.sheet.specs.declared.Phase.{Phase}
use Rattle.sheet.specs.Entries.{Shaped, listed_points, nth_phase, nth_point}
use Rattle.transfer.specs.declared.Users.{Users}
use Rattle.transfer.specs.declared.Users.TheVariants.{Vehicles, Pedestrians}
use Rattle.transfer.specs.Transfer.{time_of}
use Rattle.faults.specs.Whole.{last_point, accept_of}
use Rattle.curve.specs.Curve.{level_of}
use Rattle.curve.specs.Promises.{OnTheLine}
use Rattle.lines.specs.Lines.{l04, l05, l06, l07, l08, l09, l10, l11, l12, l13, l14, l15, l20, l23, l48}

-- "the phase with the largest .. time ..; on a tie the lowest number": the listed phase k
pub record Chosen (s : Sheet) (of : Users) (k : ℕ) : Type 0 where
  pub listed : k < s.phase_count
  pub largest : (j : ℕ) → j < s.phase_count → (time_of of (nth_phase s j)).0 ≤ (time_of of (nth_phase s k)).0
  -- every other listed phase with the same time has a higher number
  pub lowest : (j : ℕ) → j < s.phase_count → (j ≡ k → ⊥) → (time_of of (nth_phase s j)).0 ≡ (time_of of (nth_phase s k)).0
      → (nth_phase s k).number < (nth_phase s j).number

-- lines 4 to 9 are those of the phase p
pub record ShowsVehicles (s : Sheet) (p : Phase) : Type 0 where
  pub l04 : l04 s ≡ p.number
  pub l05 : l05 s ≡ tenths p.green
  pub l06 : l06 s ≡ tenths p.other
  pub l07 : l07 s ≡ tenths p.yellow
  pub l08 : l08 s ≡ tenths p.red
  pub l09 : l09 s ≡ time_of Vehicles p

-- "Lines 4 to 9 show the phase with the largest vehicle time": always a listed one
abbrev pub VehicleLines : Type 0
VehicleLines = (s : Sheet) → Shaped s → accept_of s ≡ Ok tt → (k : ℕ) × Chosen s Vehicles k × ShowsVehicles s (nth_phase s k)

-- lines 10 to 15 are those of the phase p; "In mode 2, 13 and 14 are 0"
pub record ShowsPedestrians (s : Sheet) (p : Phase) : Type 0 where
  pub l10 : l10 s ≡ p.number
  pub l11 : l11 s ≡ tenths p.walk
  pub l12 : l12 s ≡ tenths p.clearance
  pub l13 : (p.mode ≡ 1 → l13 s ≡ tenths p.yellow) × (p.mode ≡ 2 → l13 s ≡ tenths 0)
  pub l14 : (p.mode ≡ 1 → l14 s ≡ tenths p.red) × (p.mode ≡ 2 → l14 s ≡ tenths 0)
  pub l15 : l15 s ≡ time_of Pedestrians p

-- "If all are mode 0, 10 to 15 are 0"
pub record ShowsNoPedestrians (s : Sheet) : Type 0 where
  pub modes : (j : ℕ) → j < s.phase_count → (nth_phase s j).mode ≡ 0
  pub l10 : l10 s ≡ 0
  pub l11 : l11 s ≡ tenths 0
  pub l12 : l12 s ≡ tenths 0
  pub l13 : l13 s ≡ tenths 0
  pub l14 : l14 s ≡ tenths 0
  pub l15 : l15 s ≡ tenths 0

-- "10 to 15 the phase with the largest pedestrian time among modes 1 and 2": a listed one of these modes, unless all are mode 0
abbrev pub PedestrianLines : Type 0
PedestrianLines =
    (s : Sheet) → Shaped s → accept_of s ≡ Ok tt
    → ShowsNoPedestrians s
    ⊎ ((k : ℕ) × (1 ≤ (nth_phase s k).mode) × ((nth_phase s k).mode ≤ 2) × Chosen s Pedestrians k × ShowsPedestrians s (nth_phase s k))

-- points i and i + 1 are "the two points around the distance"
pub record Around (s : Sheet) (d : Feet) (i : ℕ) : Type 0 where
  pub listed : i + 1 < s.point_count
  pub from : (nth_point s i).feet ≤ d.0
  pub to : d.0 ≤ (nth_point s (i + 1)).feet

-- "The level time lies on the straight line between the two points around the distance, up to a tenth": on an accepted sheet, always
abbrev pub LevelBetweenPoints : Type 0
LevelBetweenPoints =
    (s : Sheet) (d : Feet) (i : ℕ) → Shaped s → accept_of s ≡ Ok tt → Around s d i
    → OnTheLine (nth_point s i) (nth_point s (i + 1)) d (level_of (listed_points s) d).0

-- to 400 ft a distance has two points around it; past it the curve reaches 400 ft and the far times the distance
abbrev pub HasTimes : Sheet → Feet → Type 0
HasTimes s d =
    (d.0 ≤ 400 → (i : ℕ) × Around s d i)
    × (400 < d.0 → ((i : ℕ) × Around s (feet 400) i) × (400 ≤ last_point s) × (d.0 ≤ 1000))

-- "acceleration times over 23, 48 and 20": an accepted sheet has what each needs, and line 54 has points around it always
abbrev pub PointsAround : Type 0
PointsAround =
    (s : Sheet) → accept_of s ≡ Ok tt
    → ((i : ℕ) × Around s (l20 s) i) × HasTimes s (l23 s) × HasTimes s (l48 s)
