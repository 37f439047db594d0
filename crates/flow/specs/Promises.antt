-- What is promised of a tick on the stage.
use Rattle.std.specs.Prelude.{ℕ, ◌+◌, ◌<◌, Bool, true, false, ◌⊎◌, ◌≡◌, leb, Some}
use Rattle.sheet.specs.declared.Sheet.{Sheet}
use Rattle.sheet.specs.Entries.{named}
use Rattle.phase.specs.Promises as phases
use Rattle.stage.specs.declared.Command.{Command}
use Rattle.stage.specs.declared.Command.TheVariants.{None, End}
use Rattle.stage.specs.declared.Lengths.{Lengths}
use Rattle.stage.specs.declared.Place.TheVariants.{Normal, Train}
use Rattle.stage.specs.declared.Stage.{Stage}
use Rattle.stage.specs.declared.Stage.TheVariants.{TrackGreen, TrackYellow, TrackRed, Open, Ending, ClearanceGreen, AllRed}
use Rattle.stage.specs.declared.Then.{Then}
use Rattle.stage.specs.declared.Then.TheVariants.{ToTrack, ToPhase, ToClearance, ToAllRed, ToDwell}
use Rattle.stage.specs.Fitness.{stage_fits}
use Rattle.stage.specs.Listed.{listed, phase_of, NamedAreListed}
use Rattle.stage.specs.Shown.{in_normal}
use Rattle.flow.specs.declared.Now.{Now}
use Rattle.flow.specs.Calls.{counting}
use Rattle.flow.specs.Settling.{settle}
use Rattle.flow.specs.Tick.{ticked}

abbrev pub now : Stage → ℕ → Now
now st n = record { stage = st; count = n }

-- ---- no time comes above its length, nor the count above line 3
pub record Fits (t : Lengths) (s : Sheet) (x : Now) : Type 0 where
  pub count : leb x.count t.l03 ≡ true
  pub stage : stage_fits t s x.stage ≡ true

abbrev pub FitsKept : Type 0
FitsKept = (t : Lengths) (s : Sheet) → NamedAreListed s → (x : Now) (c : Command) (call : Bool) → Fits t s x → Fits t s (ticked t s x c call).now

-- ---- settling: line 51 is above 0 on every sheet that is accepted
-- no change is due in the stage
abbrev pub Rests : Lengths → Sheet → Stage → Type 0
Rests t s TrackGreen = Unit {0}
Rests t s (TrackYellow p z k) = k < t.track_yellow
Rests t s (TrackRed p z k) = k < t.track_red
Rests t s (Open p n g w) = Unit {0}
Rests t s (Ending p n z l w) = phases.Rests (phase_of s n) (Some (l, w))
Rests t s (ClearanceGreen k) = k < t.l51
Rests t s AllRed = Unit {0}

abbrev pub NothingDue : Type 0
NothingDue = (t : Lengths) (s : Sheet) (call : Bool) (st : Stage) → 0 < t.l51 → Rests t s (settle t s call st)

-- settling what is settled, whatever the call is then
abbrev pub TwiceIsOnce : Type 0
TwiceIsOnce = (t : Lengths) (s : Sheet) (call again : Bool) (st : Stage) → 0 < t.l51 → settle t s again (settle t s call st) ≡ settle t s call st

-- so none is left due where a tick ends
abbrev pub EndsAtRest : Type 0
EndsAtRest = (t : Lengths) (s : Sheet) (x : Now) (c : Command) (call : Bool) → 0 < t.l51 → Rests t s (ticked t s x c call).now.stage

-- ---- the count
-- "The call must be seen on for line 3 ticks running"
abbrev pub OnCounts : Type 0
OnCounts = (t : Lengths) (s : Sheet) (x : Now) (c : Command) → counting t x ≡ true → x.count < t.l03 → (ticked t s x c true).now.count ≡ x.count + 1

-- "off sets the count to 0": wherever a tick that sees the call off ends in normal operation
abbrev pub OffClears : Type 0
OffClears =
    (t : Lengths) (s : Sheet) (x : Now) (c : Command)
    → in_normal (ticked t s x c false).now.stage ≡ true → (ticked t s x c false).now.count ≡ 0

-- "Between transfer and the end of dwell the call is read only at the end of track red and in dwell": the count stays
abbrev pub NotCounted : Type 0
NotCounted =
    (t : Lengths) (s : Sheet) (x : Now) (c : Command) (call : Bool)
    → counting t x ≡ false → in_normal (ticked t s x c call).now.stage ≡ false → (ticked t s x c call).now.count ≡ x.count

-- ---- the transfer
-- track clearance green is owed: it shows as soon as the stage is over
abbrev pub OwedThen : Then → Type 0
OwedThen ToTrack = ⊥
OwedThen (ToPhase n) = ⊥
OwedThen ToClearance = Unit {0}
OwedThen ToAllRed = ⊥
OwedThen ToDwell = ⊥

abbrev pub Owed : Stage → Type 0
Owed TrackGreen = ⊥
Owed (TrackYellow p z k) = OwedThen z
Owed (TrackRed p z k) = OwedThen z
Owed (Open p n g w) = ⊥
Owed (Ending p n z l w) = OwedThen z
Owed (ClearanceGreen k) = ⊥
Owed AllRed = ⊥

-- "At the end of that tick the transfer begins": "From track green it starts at once", and else it is owed, "an unended phase is asked to end" too
abbrev pub TransferBegins : Type 0
TransferBegins =
    (t : Lengths) (s : Sheet) (x : Now) (c : Command) → 0 < t.l51 → counting t x ≡ true → x.count + 1 ≡ t.l03
    → let st = (ticked t s x c true).now.stage in
    (st ≡ ClearanceGreen 0) ⊎ Owed st

-- the number of the phase shown; no phase has 0
abbrev pub phase_shown : Stage → ℕ
phase_shown TrackGreen = 0
phase_shown (TrackYellow p z k) = 0
phase_shown (TrackRed p z k) = 0
phase_shown (Open p n g w) = n
phase_shown (Ending p n z l w) = n
phase_shown (ClearanceGreen k) = 0
phase_shown AllRed = 0

-- the transfer has begun: green is owed, or a unit was handed over in normal operation with the count at line 3
abbrev pub InTransfer : Lengths → Now → Type 0
InTransfer t x = Owed x.stage ⊎ ((in_normal x.stage ≡ true) × (x.count ≡ t.l03))

-- "no new phase starts": whatever was next and whatever comes, the phase shown is the one shown before, or none
abbrev pub NoNewPhase : Type 0
NoNewPhase =
    (t : Lengths) (s : Sheet) (x : Now) (c : Command) (call : Bool) → 0 < t.l51 → InTransfer t x
    → let st = (ticked t s x c call).now.stage in
    (phase_shown st ≡ phase_shown x.stage) ⊎ (phase_shown st ≡ 0)

-- ---- track red after clearance, and dwell
-- "then dwell if the call is on, else track green in normal operation": the last tick of red
abbrev pub RedEnds : Type 0
RedEnds =
    (t : Lengths) (s : Sheet) (n k : ℕ) → k + 1 ≡ t.track_red
    → ((ticked t s (now (TrackRed Train ToDwell k) n) None true).now ≡ now AllRed n)
    × ((ticked t s (now (TrackRed Train ToDwell k) n) None false).now ≡ now TrackGreen 0)

-- all red "ends on the first tick with the call off, and track green in normal operation follows"
abbrev pub AllRedStays : Type 0
AllRedStays = (t : Lengths) (s : Sheet) (n : ℕ) → (ticked t s (now AllRed n) None true).now ≡ now AllRed n

abbrev pub AllRedEnds : Type 0
AllRedEnds = (t : Lengths) (s : Sheet) (n : ℕ) → (ticked t s (now AllRed n) None false).now ≡ now TrackGreen 0

-- "There end, next n starts a named phase": at once, with all times 0
abbrev pub NamedStarts : Type 0
NamedStarts =
    (t : Lengths) (s : Sheet) (n m : ℕ) → named s m ≡ true
    → ticked t s (now AllRed n) (End m) true ≡ record { now = now (Open Train m 0 0) n; allowed = true }

-- a phase of dwell after which dwell goes on: "in a phase n is another named phase, or 0 for all red"
abbrev pub GoesOn : Then → Type 0
GoesOn ToTrack = ⊥
GoesOn (ToPhase m) = Unit {0}
GoesOn ToClearance = ⊥
GoesOn ToAllRed = Unit {0}
GoesOn ToDwell = ⊥

-- in dwell, which is not to be left
abbrev pub InDwell : Stage → Type 0
InDwell TrackGreen = ⊥
InDwell (TrackYellow p z k) = ⊥
InDwell (TrackRed p z k) = ⊥
InDwell (Open Normal n g w) = ⊥
InDwell (Open Train n g w) = Unit {0}
InDwell (Ending Normal n z l w) = ⊥
InDwell (Ending Train n z l w) = GoesOn z
InDwell (ClearanceGreen k) = ⊥
InDwell AllRed = Unit {0}

-- while the call stays on, dwell is all red or a phase and is not left
abbrev pub DwellStays : Type 0
DwellStays = (t : Lengths) (s : Sheet) (x : Now) (c : Command) → InDwell x.stage → InDwell (ticked t s x c true).now.stage

-- "23 now also covers dwell": there a phase that is not named is not started
abbrev pub NotNamedRefused : Type 0
NotNamedRefused =
    (t : Lengths) (s : Sheet) (x : Now) (call : Bool) (m : ℕ)
    → InDwell x.stage → 0 < m → named s m ≡ false → (ticked t s x (End m) call).allowed ≡ false

-- every phase of dwell, shown or next, is named on the sheet
abbrev pub NextNamed : Sheet → Then → Type 0
NextNamed s ToTrack = Unit {0}
NextNamed s (ToPhase m) = named s m ≡ true
NextNamed s ToClearance = Unit {0}
NextNamed s ToAllRed = Unit {0}
NextNamed s ToDwell = Unit {0}

abbrev pub OnlyNamed : Sheet → Stage → Type 0
OnlyNamed s TrackGreen = Unit {0}
OnlyNamed s (TrackYellow Normal z k) = Unit {0}
OnlyNamed s (TrackYellow Train z k) = NextNamed s z
OnlyNamed s (TrackRed Normal z k) = Unit {0}
OnlyNamed s (TrackRed Train z k) = NextNamed s z
OnlyNamed s (Open Normal n g w) = Unit {0}
OnlyNamed s (Open Train n g w) = named s n ≡ true
OnlyNamed s (Ending Normal n z l w) = Unit {0}
OnlyNamed s (Ending Train n z l w) = (named s n ≡ true) × NextNamed s z
OnlyNamed s (ClearanceGreen k) = Unit {0}
OnlyNamed s AllRed = Unit {0}

abbrev pub NamedKept : Type 0
NamedKept = (t : Lengths) (s : Sheet) (x : Now) (c : Command) (call : Bool) → OnlyNamed s x.stage → OnlyNamed s (ticked t s x c call).now.stage

-- "When the call goes off, the running phase is ended by the ordinary rules before normal track green returns": phase n of dwell is ending, and
-- normal track green follows
abbrev pub Leaving : ℕ → Stage → Type 0
Leaving n TrackGreen = ⊥
Leaving n (TrackYellow p z k) = ⊥
Leaving n (TrackRed p z k) = ⊥
Leaving n (Open p m g w) = ⊥
Leaving n (Ending p m z l w) = (p ≡ Train) × (z ≡ ToTrack) × (m ≡ n)
Leaving n (ClearanceGreen k) = ⊥
Leaving n AllRed = ⊥

-- the tick with the call off: all red is left at once, a phase is ending
abbrev pub OffLeaves : Type 0
OffLeaves =
    (t : Lengths) (s : Sheet) (x : Now) (c : Command) → InDwell x.stage
    → let y = (ticked t s x c false).now in
    (y ≡ now TrackGreen 0) ⊎ ((n : ℕ) × Leaving n y.stage)

-- normal track green is back, "a call back on meanwhile counts from the tick after that"; a command of the same tick may have started track yellow
abbrev pub Back : Now → Type 0
Back x = (x.count ≡ 0) × ((x.stage ≡ TrackGreen) ⊎ ((m : ℕ) × (x.stage ≡ TrackYellow Normal (ToPhase m) 0)))

-- from there no phase starts, whatever the command and the call are: the same phase goes on ending, or normal track green is back
abbrev pub LeavesOnly : Type 0
LeavesOnly =
    (t : Lengths) (s : Sheet) (x : Now) (c : Command) (call : Bool) (n : ℕ) → 0 < t.l51 → 0 < t.track_yellow → Leaving n x.stage
    → let y = (ticked t s x c call).now in
    Leaving n y.stage ⊎ Back y

-- ---- the command
-- it is taken after the changes that the times made due: on the last tick of red, with the call off, it is judged in track green
abbrev pub JudgedAfterTimes : Type 0
JudgedAfterTimes =
    (t : Lengths) (s : Sheet) (n k m : ℕ) → k + 1 ≡ t.track_red → 0 < t.track_yellow → listed s m ≡ true
    → ticked t s (now (TrackRed Train ToDwell k) n) (End m) false ≡ record { now = now (TrackYellow Normal (ToPhase m) 0) 0; allowed = true }

-- and with the call on in dwell
abbrev pub JudgedInDwell : Type 0
JudgedInDwell =
    (t : Lengths) (s : Sheet) (n k m : ℕ) → k + 1 ≡ t.track_red → named s m ≡ true
    → ticked t s (now (TrackRed Train ToDwell k) n) (End m) true ≡ record { now = now (Open Train m 0 0) n; allowed = true }

-- "after 23 the tick passes as with none"
abbrev pub AsWithNone : Type 0
AsWithNone =
    (t : Lengths) (s : Sheet) (x : Now) (c : Command) (call : Bool)
    → (ticked t s x c call).allowed ≡ false → (ticked t s x c call).now ≡ (ticked t s x None call).now
