-- Cases of the far time, worked out from the table by hand.
use Rattle.std.specs.Prelude.{ℕ, ◌≡◌, ℤ, pos, negsuc}
use Rattle.units.specs.Numbers.{feet}
use Rattle.sheet.specs.declared.Vehicle.{Vehicle}
use Rattle.sheet.specs.declared.Vehicle.TheVariants.{Car, Su, Bus, Wb50}
use Rattle.far.specs.Far.{far_time_of}

-- a vehicle on a grade over a distance: how long it takes
abbrev pub Far : Vehicle → ℤ → ℕ → ℕ → Type 0
Far v g d gives = (far_time_of v g (feet d)).0 ≡ gives

abbrev pub FarCases : Type 0
FarCases =
    Far Wb50 (pos 40) 425 412
    -- between four entries: 49.125 s at 600 ft, 50.525 at 625, and so 49.685 at 610; with the columns taken up first it would be 498
    × Far Wb50 (pos 35) 610 497
    × Far Wb50 (pos 80) 1000 1048
    -- "the first column serves below 10 and below its own grade"
    × Far Bus (pos 10) 500 215
    × Far Bus (pos 15) 510 227
    × Far Bus (negsuc 79) 999 328
    × Far Su (pos 20) 437 184
    -- 18.4, and 0.05 of the way to the next column: with either taken up first it would be 186
    × Far Su (pos 21) 437 185
    × Far Su (pos 79) 988 524
    -- "(a car has one)": whatever grade it carries
    × Far Car (pos 0) 450 152
    × Far Car (pos 80) 451 153
