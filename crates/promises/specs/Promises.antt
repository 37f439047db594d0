-- What stands beside demand 3: that no call is counted where one may begin, why the sheet is the same throughout the call, why line 16 is enough,
-- and that nothing is answered 20.
use Rattle.std.specs.Prelude.{ℕ, ◌+◌, ◌≤◌, true, false, List, ◌∷◌, ◌≡◌, Ok, None}
use Rattle.sheet.specs.declared.Sheet.{Sheet}
use Rattle.sheet.specs.Refusals.{is_fine, answer_number}
use Rattle.rules.specs.Rules.{ticks}
use Rattle.lines.specs.Worksheet.{worksheet_of}
use Rattle.phase.specs.declared.Light.{Light}
use Rattle.phase.specs.declared.Walker.{Walker}
use Rattle.phase.specs.Times.{light_fits, walker_fits}
use Rattle.phase.specs.Ending.{settle_phase}
use Rattle.phase.specs.Promises as phases
use Rattle.stage.specs.Listed.{listed, phase_of}
use Rattle.measured.specs.Measured.{accepted}
use Rattle.unit.specs.Unit.{start_of, load_of}
use Rattle.unit.specs.Runs.{Event, answer_to, run}
use Rattle.promises.specs.Demand.{MayBegin, ForEveryCall}

-- "off sets the count to 0": where a call may begin none is being counted
abbrev pub NoneCounted : Type 0
NoneCounted =
    (s : Sheet) → (start_of s).answer ≡ Ok tt → (past : List Event) → MayBegin (start_of s).unit past → (run (start_of s).unit past).count ≡ 0

-- "The loader takes a sheet only in normal track green with the call count at 0": from the call's first tick on every load is refused, so
-- the sheet in force is the one that the call met. This is where l02 is "1 to 999": with line 3 at 1 or more the first tick of the call leaves
-- a count above 0
abbrev pub NoLoadDuringCall : Type 0
NoLoadDuringCall =
    ForEveryCall
    (λ u es.
    let v = run u es in
    (v.sheet ≡ u.sheet) × ((offered : Sheet) → (is_fine (load_of v offered).answer ≡ false) × ((load_of v offered).unit ≡ v)))

-- line 16 is enough for all that a listed phase can still show when it is asked to end, in each mode, and for the track's yellow and red
abbrev pub SixteenEnough : Type 0
SixteenEnough =
    (s : Sheet) → accepted s ≡ true
    → let line16 = ticks (worksheet_of s).lines.l16 in
    ((n : ℕ) (l : Light) (w : Walker)
    → listed s n ≡ true → light_fits (phase_of s n) l ≡ true → walker_fits (phase_of s n) w ≡ true
    → phases.ticks (phase_of s n) line16 (settle_phase (phase_of s n) l w) ≡ None)
    × (s.track_yellow + s.track_red ≤ line16)

-- from a fresh start on a sheet that is not refused, no event is ever answered 20
abbrev pub Never20 : Type 0
Never20 =
    (s : Sheet) → (start_of s).answer ≡ Ok tt → (es : List Event) (e : Event)
    → answer_number (answer_to (run (start_of s).unit es) e).answer ≡ 20 → ⊥
