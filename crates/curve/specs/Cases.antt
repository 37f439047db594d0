-- Cases of the level time and of the time on a grade: what is asked of each, and what it gives. P3 to P8 stand with the lines.
use Rattle.std.specs.Prelude.{ℕ, ◌≡◌, List, [], ◌∷◌, ℤ, pos, negsuc}
use Rattle.units.specs.Numbers.{feet, tenths}
use Rattle.sheet.specs.declared.Point.{Point}
use Rattle.sheet.specs.declared.Vehicle.{Vehicle}
use Rattle.sheet.specs.declared.Vehicle.TheVariants.{Car, Su, Bus, Wb50}
use Rattle.factor.specs.Factor.{factor_of}
use Rattle.curve.specs.Curve.{level_of, graded_of, acceleration_of}

-- a vehicle, over a distance, on a grade, whose level time is so long: what its time is
abbrev pub Graded : Vehicle → ℕ → ℤ → ℕ → ℕ → Type 0
Graded v d g level gives = (graded_of (factor_of v g (feet d)) (tenths level)).0 ≡ gives

abbrev pub GradedCases : Type 0
GradedCases =
    -- "Document 002's 80 ft example": 12.2 times 1.302, where its rounded factor 1.30 gives the same tenth
    Graded Wb50 80 (pos 40) 122 159
    -- by hand from Table 628-B: 12.5 times 1.084 is 13.55, up; 12.5 times 1.136 is 14.2, and stays
    × Graded Bus 110 (pos 30) 125 136
    × Graded Su 60 (pos 50) 125 142
    -- "The factor is 1 for a car, and for any grade below 10": also for a downhill of 4 percent
    × Graded Car 400 (pos 80) 200 200
    × Graded Wb50 350 (negsuc 39) 200 200

abbrev point : ℕ → ℕ → Point
point d t = record { feet = d; tenths = t }

-- the points of "One sheet, whole"
unfoldable pub sample_points : List Point
sample_points = point 0 0 ∷ point 100 140 ∷ point 400 320 ∷ []

abbrev pub Level : ℕ → ℕ → Type 0
Level d gives = (level_of sample_points (feet d)).0 ≡ gives

-- the times over lines 20, 23 and 48 of that sheet, and at its points
abbrev pub LevelCases : Type 0
LevelCases = Level 0 0 × Level 55 77 × Level 96 135 × Level 100 140 × Level 156 174 × Level 400 320

-- request 2026-04: the curve 0,0 and 400,320
unfoldable pub long_points : List Point
long_points = point 0 0 ∷ point 400 320 ∷ []

abbrev pub Takes : Vehicle → ℤ → ℕ → ℕ → Type 0
Takes v g d gives = (acceleration_of long_points v g (feet d)).0 ≡ gives

abbrev pub LongCases : Type 0
LongCases =
    -- at 400 ft by the curve itself: level, and 32.0 times 1.40
    Takes Wb50 (pos 0) 400 320 × Takes Wb50 (pos 40) 400 448
    -- from it to 29.3 and to 41.2 at 425 ft: this curve falls there, and nothing refuses it
    × Takes Wb50 (pos 0) 401 319 × Takes Wb50 (pos 0) 424 295 × Takes Wb50 (pos 0) 425 293
    × Takes Wb50 (pos 40) 410 434 × Takes Wb50 (pos 40) 425 412
    -- from 34.4 to 31.55, half way between columns 0 and 2; were that taken up before the line is drawn, 415 ft would take 328
    × Takes Wb50 (pos 10) 412 331 × Takes Wb50 (pos 10) 415 327
    -- from 425 ft on
    × Takes Wb50 (pos 35) 610 497 × Takes Wb50 (pos 80) 1000 1048
    × Takes Bus (pos 10) 500 215 × Takes Bus (pos 15) 510 227 × Takes Bus (negsuc 79) 999 328
    × Takes Su (pos 20) 437 184 × Takes Su (pos 21) 437 185 × Takes Su (pos 79) 988 524
    × Takes Car (pos 0) 450 152 × Takes Car (pos 0) 451 153
