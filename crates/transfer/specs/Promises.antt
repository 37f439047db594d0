-- What the definitions of the transfer promise, over any list of phases.
use Rattle.std.specs.Prelude.{ℕ, ◌+◌, ◌≤◌, ◌<◌, ◌≡◌, true, false, List, length, get_or}
use Rattle.units.specs.Lists.{All}
use Rattle.sheet.specs.declared.Phase.{Phase}
use Rattle.sheet.specs.Zero.{zero_phase}
use Rattle.transfer.specs.declared.Users.{Users}
use Rattle.transfer.specs.declared.Users.TheVariants.{Pedestrians}
use Rattle.transfer.specs.Transfer.{time_of, worst_of, line16, track_fits}

-- the k-th listed phase
abbrev pub nth : List Phase → ℕ → Phase
nth ps k = get_or ps k zero_phase

-- "the phase with the largest .. time": no listed phase has a larger one
abbrev pub Largest : Type 0
Largest = (of : Users) (ps : List Phase) (k : ℕ) → k < length ps → (time_of of (nth ps k)).0 ≤ (time_of of (worst_of of ps)).0

-- p is a listed phase, and no phase listed before it has a time as large
pub record Shown (of : Users) (ps : List Phase) (p : Phase) : Type 0 where
  pub place : ℕ
  pub inside : place < length ps
  pub is : p ≡ nth ps place
  pub first : (j : ℕ) → j < place → (time_of of (nth ps j)).0 < (time_of of p).0

-- where a listed phase has a time above 0, a listed phase is shown, and else the phase of zeros
abbrev pub Listed : Type 0
Listed =
    (of : Users) (ps : List Phase)
    → ((k : ℕ) → k < length ps → 0 < (time_of of (nth ps k)).0 → Shown of ps (worst_of of ps))
    × (((k : ℕ) → k < length ps → (time_of of (nth ps k)).0 ≡ 0) → worst_of of ps ≡ zero_phase)

-- "on a tie the lowest number": of the phases with the largest time it is the first. Numbers rise on an accepted sheet, so that it is
-- the lowest: `Chosen` of the lines
abbrev pub LowestOnTie : Type 0
LowestOnTie =
    (of : Users) (ps : List Phase) (k : ℕ) → k < length ps → (time_of of (nth ps k)).0 ≡ (time_of of (worst_of of ps)).0
    → 0 < (time_of of (nth ps k)).0 → ((j : ℕ) → j < k → (time_of of (nth ps j)).0 < (time_of of (nth ps k)).0) → worst_of of ps ≡ nth ps k

-- "If all are mode 0, 10 to 15 are 0"
abbrev pub NoPedestrians : Type 0
NoPedestrians = (ps : List Phase) → All (λ (p : Phase). p.mode ≡ 0) ps → worst_of Pedestrians ps ≡ zero_phase

-- "16 is the larger of 9 and 15": not below either, one of them and so no sum of them, and enough for both users of every listed phase
abbrev pub Sixteen : Type 0
Sixteen =
    (ps : List Phase)
    → ((of : Users) → (time_of of (worst_of of ps)).0 ≤ (line16 ps).0)
    × ((of : Users) × (line16 ps ≡ time_of of (worst_of of ps)))
    × ((of : Users) (k : ℕ) → k < length ps → (time_of of (nth ps k)).0 ≤ (line16 ps).0)

-- "Yellows are 30 to 60, reds 0 to 60, other phase times 0 to 999": a phase with no time above its range
pub record Bounded (p : Phase) : Type 0 where
  pub green : p.green ≤ 999
  pub other : p.other ≤ 999
  pub yellow : p.yellow ≤ 60
  pub red : p.red ≤ 60
  pub walk : p.walk ≤ 999
  pub clearance : p.clearance ≤ 999

abbrev pub AtMost : Type 0
AtMost = (ps : List Phase) → All Bounded ps → ((of : Users) → (time_of of (worst_of of ps)).0 ≤ 2118) × ((line16 ps).0 ≤ 2118)

-- refusal 10 is "track yellow + red above line 16"
abbrev pub AboveSixteen : List Phase → ℕ → ℕ → Type 0
AboveSixteen ps yellow red = (line16 ps).0 < yellow + red

abbrev pub WithinSixteen : List Phase → ℕ → ℕ → Type 0
WithinSixteen ps yellow red = yellow + red ≤ (line16 ps).0

-- the test holds exactly where they are not above it
abbrev pub TrackFits : Type 0
TrackFits =
    (ps : List Phase) (yellow red : ℕ)
    → (WithinSixteen ps yellow red → track_fits ps yellow red ≡ true) × (AboveSixteen ps yellow red → track_fits ps yellow red ≡ false)
