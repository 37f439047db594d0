-- The right-of-way transfer, lines 4 to 16, over the listed phases.
use Rattle.std.specs.Prelude.{ℕ, ◌+◌, max, Bool, List, fold, eqb, leb, ltb}
use Rattle.units.specs.declared.Tenths.{Tenths}
use Rattle.units.specs.Numbers.{pick, tenths}
use Rattle.sheet.specs.declared.Phase.{Phase}
use Rattle.sheet.specs.Zero.{zero_phase}
use Rattle.transfer.specs.declared.Users.{Users}
use Rattle.transfer.specs.declared.Users.TheVariants.{Vehicles, Pedestrians}

-- "vehicle time is green + other + yellow + red"
abbrev pub vehicle_time : Phase → Tenths
vehicle_time p = tenths (p.green + p.other + p.yellow + p.red)

-- "pedestrian time is walk + clearance, plus yellow and red in mode 1, and 0 in mode 0"; a sheet has no mode above 2
unfoldable pub pedestrian_time : Phase → Tenths
pedestrian_time p =
    pick (eqb p.mode 0) (tenths 0)
    (pick (eqb p.mode 1) (tenths (p.walk + p.clearance + p.yellow + p.red)) (tenths (p.walk + p.clearance)))

unfoldable pub time_of : Users → Phase → Tenths
time_of Vehicles p = vehicle_time p
time_of Pedestrians p = pedestrian_time p

-- the later of two phases only where its time is larger: "on a tie the lowest number", as numbers rise down the sheet
unfoldable pub worse_of : Users → Phase → Phase → Phase
worse_of of p q = pick (ltb (time_of of p).0 (time_of of q).0) q p

unfoldable pub worst_from : Users → Phase → List Phase → Phase
worst_from of p ps = fold (worse_of of) p ps

-- "Lines 4 to 9 show the phase with the largest vehicle time, 10 to 15 the phase with the largest pedestrian time among modes 1 and 2;
-- on a tie the lowest number. If all are mode 0, 10 to 15 are 0."
-- It starts from the phase of zeros, which only a time above 0 displaces. That a listed phase always does on lines 4 to 9 of an accepted
-- sheet, and on 10 to 15 unless all are mode 0, is a law: `VehicleLines` and `PedestrianLines` of the lines.
abbrev pub worst_of : Users → List Phase → Phase
worst_of of ps = worst_from of zero_phase ps

-- "16 is the larger of 9 and 15"
abbrev pub line16 : List Phase → Tenths
line16 ps = tenths (max (time_of Vehicles (worst_of Vehicles ps)).0 (time_of Pedestrians (worst_of Pedestrians ps)).0)

-- refusal 10 is "track yellow + red above line 16": whether they are not above it
abbrev pub track_fits : List Phase → ℕ → ℕ → Bool
track_fits ps yellow red = leb (yellow + red) (line16 ps).0
