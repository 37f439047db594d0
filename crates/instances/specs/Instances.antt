-- The definitions of Demand.antt, run: the paper's two examples, a sheet on which every bound of demand 3 is met with equality, two on which the
-- trailer is just spared and just hit, one on which line 25 decides line 51, one on which dwell is left line 16 after the call went off, and two that
-- refusals 6 and 10 keep out, on which the green would come after line 17.
use Rattle.std.specs.Prelude.{ℕ, ◌+◌, ◌≤◌, true, false, List, [], ◌∷◌, ◌++◌, ◌≡◌, pos, replicate, Ok}
use Rattle.sheet.specs.Refusals.{refused}
use Rattle.sheet.specs.declared.Phase.{Phase}
use Rattle.sheet.specs.declared.Refusal.TheVariants.{ClearanceTooShort, TrackLongerThanTransfer}
use Rattle.sheet.specs.declared.Sheet.{Sheet}
use Rattle.sheet.specs.Zero.{zero_phase}
use Rattle.faults.specs.Whole.{accept_of}
use Rattle.rules.specs.Rules.{ticks}
use Rattle.lines.specs.Cases.{paper_sheet, uphill}
use Rattle.lines.specs.Lines.{l03, l17, l51}
use Rattle.phase.specs.declared.Light.TheVariants.{Green, Red}
use Rattle.phase.specs.declared.Walker.TheVariants.{Walk, Clearance}
use Rattle.stage.specs.declared.Command.TheVariants.{None, End}
use Rattle.stage.specs.declared.Lengths.{Lengths}
use Rattle.stage.specs.declared.Place.TheVariants.{Normal, Train}
use Rattle.stage.specs.declared.Stage.{Stage}
use Rattle.stage.specs.declared.Stage.TheVariants.{TrackGreen, TrackYellow, TrackRed, Ending, ClearanceGreen, AllRed}
use Rattle.stage.specs.declared.Then.TheVariants.{ToTrack, ToClearance, ToDwell}
use Rattle.flow.specs.declared.Now.{Now}
use Rattle.flow.specs.Promises.{now}
use Rattle.flow.specs.Tick.{ticked}
use Rattle.unit.specs.declared.Unit.{Unit}
use Rattle.unit.specs.Runs.{Event, tick, load, run}
use Rattle.unit.specs.Unit.{start_of}
use Rattle.promises.specs.Demand.{line3, line17, line25, line28, line34, line35, line36, line40, line51, line53, line54, line60, line61, MayBegin, at_end, Demanded}
use Rattle.promises.specs.Dwell.{line16}

-- that many ticks with the call on, and no command
abbrev pub calls : ℕ → List Event
calls n = replicate n (tick None true)

-- phase 4 is made next, and track red, of 20, has two ticks left: a call that comes now is counted to 2 as phase 4 begins
abbrev pub towards_four : List Event
towards_four = tick (End 4) false ∷ replicate 58 (tick None false)

-- a unit started on the sheet, and the same one before phase 4
abbrev pub at_track : Sheet → Unit
at_track s = run (start_of s).unit []

abbrev pub before_four : Sheet → Unit
before_four s = run (start_of s).unit towards_four

-- a call may begin there
abbrev pub MayBeginAt : Sheet → List Event → Type 0
MayBeginAt s past = MayBegin (start_of s).unit past

-- the green that answers the call starts with tick n, and with no other
abbrev pub StartsWith : Unit → List Event → ℕ → Type 0
StartsWith u es n = Demanded u es n × ((g : ℕ) → Demanded u es g → g ≡ n)

-- ---- "The call on the sheet above met in track green shows green at tick 2 and ends it at tick 492"
abbrev pub MetInTrackGreen : Type 0
MetInTrackGreen =
    MayBeginAt paper_sheet []
    × ((at_end (at_track paper_sheet) (calls 492) 1).stage ≡ TrackGreen)
    × ((at_end (at_track paper_sheet) (calls 492) 2).stage ≡ ClearanceGreen 0)
    × ((at_end (at_track paper_sheet) (calls 492) 491).stage ≡ ClearanceGreen 489)
    × ((at_end (at_track paper_sheet) (calls 492) 492).stage ≡ TrackYellow Train ToDwell 0)
    × StartsWith (at_track paper_sheet) (calls 492) 2

-- "met so that transfer finds phase 4 just begun, green shows at tick 227"
abbrev pub MetInPhaseFour : Type 0
MetInPhaseFour =
    MayBeginAt paper_sheet towards_four
    × ((at_end (before_four paper_sheet) (calls 227) 226).stage ≡ Ending Normal 4 ToClearance (Red 19) (Clearance 100))
    × ((at_end (before_four paper_sheet) (calls 227) 227).stage ≡ ClearanceGreen 0)
    × StartsWith (before_four paper_sheet) (calls 227) 227

-- ---- the paper's sheet with other numbers for dwell, phases, l33 and l39
abbrev phase : ℕ → ℕ → ℕ → ℕ → ℕ → ℕ → ℕ → ℕ → Phase
phase n g o y r w c m =
    record { number = n; green = g; other = o; yellow = y; red = r; walk = w; clearance = c; mode = m }

unfoldable pub naming : ℕ → List ℕ → Phase → Phase → ℕ → ℕ → Sheet
naming count dwell first second l33 l39 =
    record {
      issue = paper_sheet.issue;
      vehicle = paper_sheet.vehicle;
      grade = paper_sheet.grade;
      grade2 = paper_sheet.grade2;
      l01 = paper_sheet.l01;
      l02 = paper_sheet.l02;
      phase_count = 2;
      phases = first ∷ (second ∷ replicate 6 zero_phase);
      track_yellow = paper_sheet.track_yellow;
      track_red = paper_sheet.track_red;
      dwell_count = count;
      dwell = dwell;
      l18 = paper_sheet.l18;
      l19 = paper_sheet.l19;
      l20 = paper_sheet.l20;
      l28 = paper_sheet.l28;
      l30 = paper_sheet.l30;
      l31 = paper_sheet.l31;
      l33 = l33;
      l37 = paper_sheet.l37;
      l39 = l39;
      l47 = paper_sheet.l47;
      l56 = paper_sheet.l56;
      l57 = paper_sheet.l57;
      l58 = paper_sheet.l58;
      point_count = paper_sheet.point_count;
      points = paper_sheet.points;
    }

abbrev pub varied : Phase → Phase → ℕ → ℕ → Sheet
varied first second l33 l39 = naming paper_sheet.dwell_count paper_sheet.dwell first second l33 l39

-- ---- every bound is met with equality
abbrev pub tight : Sheet
tight = varied (phase 2 50 0 40 15 0 0 0) (phase 4 40 0 35 20 70 100 1) 263 153

-- in track green: the green starts at line 3 and ends at line 40
abbrev pub EndsAtForty : Type 0
EndsAtForty =
    MayBeginAt tight [] × StartsWith (at_track tight) (calls 482) (line3 (at_track tight))
    × (line3 (at_track tight) + line51 (at_track tight) ≡ line40 (at_track tight))

-- as phase 4 begins: the green starts at line 17, and a vehicle that is off line 25 later is off just line 28 before a train at line 34
abbrev pub StartsAtSeventeen : Type 0
StartsAtSeventeen =
    MayBeginAt tight towards_four × StartsWith (before_four tight) (calls 227) (line17 (before_four tight))
    × (line35 (before_four tight) ≡ 0)
    × (line17 (before_four tight) + line25 (before_four tight) + line28 (before_four tight) ≡ line34 (before_four tight))

-- ---- the gate and the trailer: the paper's sheet with an advance time of so many tenths. Line 61 is 297
abbrev pub advanced : ℕ → Sheet
advanced l33 = varied (phase 2 50 0 40 15 0 0 0) (phase 4 40 0 35 20 70 100 1) l33 150

-- with 297 a vehicle has just gone its own length as the gate reaches it
abbrev pub JustSpared : Type 0
JustSpared =
    let u = before_four (advanced 297) in
    MayBeginAt (advanced 297) towards_four × StartsWith u (calls 227) (line17 u) × (line61 u ≡ line36 u)
    × (line17 u + line53 u + line54 u ≡ line36 u + line60 u)

-- with 296 line 61 is one tenth more than that, and the gate can reach it sooner
abbrev pub JustHit : Type 0
JustHit =
    let u = before_four (advanced 296) in
    MayBeginAt (advanced 296) towards_four × StartsWith u (calls 227) (line17 u) × (line61 u ≡ line36 u + 1)
    × (((lights gate gone : ℕ) → line36 u ≤ lights → lights + line60 u ≤ gate → gone ≤ line17 u + line53 u + line54 u → gone ≤ gate) → ⊥)

-- ---- request 2026-02, "Line 25 can now decide line 51, and demand 3 must still hold": 8 percent up to the rails, and level past them
abbrev pub levelled : Sheet
levelled = uphill (pos 0) 0

-- met in track green it shows green at tick 2 and ends it at tick 302, eight ticks after a vehicle that took line 25
abbrev pub DecidedByTwentyFive : Type 0
DecidedByTwentyFive =
    MayBeginAt levelled [] × (line25 (at_track levelled) ≡ 292) × (line51 (at_track levelled) ≡ 300)
    × ((at_end (at_track levelled) (calls 302) 301).stage ≡ ClearanceGreen 299)
    × ((at_end (at_track levelled) (calls 302) 302).stage ≡ TrackYellow Train ToDwell 0)
    × StartsWith (at_track levelled) (calls 302) 2

-- ---- side streets: the paper's sheet, with both its phases named for dwell, which begins with tick 552. The call goes off as phase 4 starts
abbrev pub side_streets : Sheet
side_streets = naming 2 (2 ∷ (4 ∷ replicate 6 0)) (phase 2 50 0 40 15 0 0 0) (phase 4 40 0 35 20 70 100 1) 270 150

abbrev pub in_dwell : Unit
in_dwell = run (start_of side_streets).unit (calls 552)

abbrev pub as_it_goes_off : List Event
as_it_goes_off = tick (End 4) false ∷ replicate 225 (tick None false)

abbrev pub ticks_back : ℕ
ticks_back = 225

-- normal track green is back that many ticks after the first, which is line 16, and not before
abbrev pub LeftAtSixteen : Type 0
LeftAtSixteen =
    (in_dwell.stage ≡ AllRed) × (line16 in_dwell ≡ ticks_back)
    × ((at_end in_dwell as_it_goes_off 1).stage ≡ Ending Train 4 ToTrack (Green 0) (Walk 0))
    × ((at_end in_dwell as_it_goes_off ticks_back).stage ≡ Ending Train 4 ToTrack (Red 19) (Clearance 100))
    × ((at_end in_dwell as_it_goes_off (1 + ticks_back)).stage ≡ TrackGreen)

-- ---- what the words of demand 3 keep out, on the paper's sheet: there is no such green for
-- a call that goes off after its first tick
abbrev pub goes_off : List Event
goes_off = tick None true ∷ replicate 227 (tick None false)

abbrev pub MustStayOn : Type 0
MustStayOn = (g : ℕ) → Demanded (at_track paper_sheet) goes_off g → ⊥

-- a call that was counted before
abbrev pub MustBegin : Type 0
MustBegin = (g : ℕ) → Demanded (run (start_of paper_sheet).unit (calls 1)) (calls 1) g → ⊥

-- a call in the last tick of a transfer
abbrev pub NotInTransfer : Type 0
NotInTransfer = (g : ℕ) → Demanded (run (start_of paper_sheet).unit (towards_four ++ calls 226)) (calls 1) g → ⊥

-- ---- the steps of each tick on a sheet's own lines 3 and 51, whether it is accepted or not
unfoldable pub stepped : Lengths → Sheet → Now → List Event → Now
stepped t s x [] = x
stepped t s x (tick c call ∷ es) = stepped t s (ticked t s x c call).now es
stepped t s x (load y ∷ es) = stepped t s x es

abbrev pub own_lengths : Sheet → Lengths
own_lengths s = record { l03 = ticks (l03 s); l51 = ticks (l51 s); track_yellow = s.track_yellow; track_red = s.track_red }

abbrev pub stepped_at : Sheet → List Event → List Event → Stage
stepped_at s past es = (stepped (own_lengths s) s (stepped (own_lengths s) s (now TrackGreen 0) past) es).stage

-- 6: "mode 2 with clearance below yellow + red", by one tick. Yellow and red follow walk, and the clearance is over before them
abbrev pub clears_by : ℕ → Sheet
clears_by clearance = varied (phase 2 50 0 40 15 0 0 0) (phase 4 40 0 35 20 70 clearance 2) 270 150

abbrev pub WithoutSix : Type 0
WithoutSix =
    (accept_of (clears_by 55) ≡ Ok tt) × (accept_of (clears_by 54) ≡ refused ClearanceTooShort 9) × (ticks (l17 (clears_by 54)) ≡ 126)
    × (stepped_at (clears_by 54) towards_four (calls 126) ≡ Ending Normal 4 ToClearance (Red 19) (Clearance 54))
    × (stepped_at (clears_by 54) towards_four (calls 127) ≡ ClearanceGreen 0)

-- 10: "track yellow + red above line 16", by one tick. A call that finds track yellow just begun waits for both
abbrev pub phases_of : ℕ → Sheet
phases_of green = varied (phase 2 green 0 30 20 0 0 0) (phase 4 green 0 30 20 0 0 0) 270 150

-- the call is counted to 2 in the tick that starts track yellow
abbrev pub as_yellow_starts : ℕ → List Event
as_yellow_starts n = tick None true ∷ (tick (End 2) true ∷ calls n)

abbrev pub WithoutTen : Type 0
WithoutTen =
    (accept_of (phases_of 10) ≡ Ok tt) × (accept_of (phases_of 9) ≡ refused TrackLongerThanTransfer 0) × (ticks (l17 (phases_of 9)) ≡ 61)
    × (stepped_at (phases_of 9) [] (as_yellow_starts 59) ≡ TrackRed Normal ToClearance 19) × (stepped_at (phases_of 9) [] (as_yellow_starts 60) ≡ ClearanceGreen 0)
