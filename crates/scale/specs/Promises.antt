-- What is promised of the places and of what is straight between entries, for a reader of the definitions.
use Rattle.std.specs.Prelude.{◌≡◌, true, ℕ, ◌+◌, ◌*◌, ◌≤◌, ℤ, pos}
use Rattle.std.specs.Int.Signed.{lt_z}
use Rattle.sheet.specs.declared.Vehicle.TheVariants.{Su, Bus, Wb50}
use Rattle.scale.specs.Scale.{climb, placed, column_of, mix_of}

-- level and downhill climb nothing
abbrev pub NoClimbDownhill : Type 0
NoClimbDownhill = (g : ℤ) → lt_z g (pos 1) ≡ true → climb g ≡ 0

-- the page's columns: SU's first and last, the bus's, WB-50's
abbrev pub ColumnEnds : Type 0
ColumnEnds =
    (column_of Su 20 ≡ placed 0 0 20) × (column_of Su 80 ≡ placed 2 20 20)
    × (column_of Bus 10 ≡ placed 4 0 10) × (column_of Bus 80 ≡ placed 7 20 20)
    × (column_of Wb50 0 ≡ placed 9 0 20) × (column_of Wb50 80 ≡ placed 12 20 20)

-- between them: SU at 5 percent half way from 4 to 6, the bus at 1.5 half way from 1 to 2, WB-50 at 1 half way from 0 to 2
abbrev pub ColumnMiddles : Type 0
ColumnMiddles = (column_of Su 50 ≡ placed 1 10 20) × (column_of Bus 15 ≡ placed 4 5 10) × (column_of Wb50 10 ≡ placed 9 10 20)

-- below its own grade the first column serves
abbrev pub FirstColumnBelow : Type 0
FirstColumnBelow =
    ((g : ℕ) → g ≤ 20 → column_of Su g ≡ placed 0 0 20) × ((g : ℕ) → g ≤ 10 → column_of Bus g ≡ placed 4 0 10)

-- at a mark what stands there, times the step; half way between two as much of each
abbrev pub StraightBetween : Type 0
StraightBetween =
    (lo hi i w : ℕ)
    → (mix_of lo hi (placed i 0 w) ≡ w * lo) × (mix_of lo hi (placed i w w) ≡ w * hi) × (mix_of lo hi (placed i w (2 * w)) ≡ w * (lo + hi))
