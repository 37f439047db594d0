-- What is promised of the unit. The proofs are in proofs/.
use Rattle.std.specs.Prelude.{◌≤◌, ◌<◌, Bool, true, false, List, ◌≡◌, Ok}
use Rattle.sheet.specs.Refusals.{refused, is_fine, answer_number, answer_line}
use Rattle.sheet.specs.declared.Refusal.TheVariants.{UnitUnfit, LoadNotNow, IssueNotNewer}
use Rattle.sheet.specs.declared.Sheet.{Sheet}
use Rattle.sheet.specs.Zero.{zero_sheet}
use Rattle.lines.specs.Worksheet.{worksheet_of}
use Rattle.stage.specs.declared.Command.{Command}
use Rattle.stage.specs.declared.Command.TheVariants.{None}
use Rattle.stage.specs.declared.Stage.TheVariants.{TrackGreen}
use Rattle.unit.specs.declared.Unit.{Unit}
use Rattle.measured.specs.Measured.{accepted}
use Rattle.unit.specs.Unit.{fits, tick_of, fresh, start_of, load_of}
use Rattle.unit.specs.Runs.{Event, run}

-- ---- refused replies: "After 20 or a refused load the unit is unchanged; after 23 the tick passes as with none"; 20 to 23 have line 0
abbrev pub Unchanged : Type 0
Unchanged = (u : Unit) (c : Command) (call : Bool) → answer_number (tick_of u c call).answer ≡ 20 → (tick_of u c call).unit ≡ u

abbrev pub AsWithNone : Type 0
AsWithNone = (u : Unit) (c : Command) (call : Bool) → answer_number (tick_of u c call).answer ≡ 23 → (tick_of u c call).unit ≡ (tick_of u None call).unit

abbrev pub NoLine : Type 0
NoLine = (u : Unit) (c : Command) (call : Bool) → answer_line (tick_of u c call).answer ≡ 0

abbrev pub NotLoaded : Type 0
NotLoaded = (u : Unit) (s : Sheet) → is_fine (load_of u s).answer ≡ false → (load_of u s).unit ≡ u

-- "a refused start gives a unit in track green on that zero sheet"
abbrev pub RefusedStart : Type 0
RefusedStart = (s : Sheet) → is_fine (start_of s).answer ≡ false → (start_of s).unit ≡ fresh zero_sheet

-- ---- the loader: what a load that is taken says, and what is enough for it
pub record Loadable (u : Unit) (s : Sheet) : Type 0 where
  pub unit : fits u ≡ true
  pub sheet : accepted s ≡ true
  pub stage : u.stage ≡ TrackGreen
  pub count : u.count ≡ 0
  pub issue : u.sheet.issue < s.issue

abbrev pub LoadNeeds : Type 0
LoadNeeds = (u : Unit) (s : Sheet) → (load_of u s).answer ≡ Ok tt → Loadable u s

abbrev pub LoadTakes : Type 0
LoadTakes = (u : Unit) (s : Sheet) → Loadable u s → load_of u s ≡ record { unit = fresh s; answer = Ok tt }

-- and the refusal where it is not taken: "20 before all others, 21 before 22", and the sheet's own between
pub record FirstRefusal (u : Unit) (s : Sheet) : Type 0 where
  pub unfit : fits u ≡ false → (load_of u s).answer ≡ refused UnitUnfit 0
  pub own : fits u ≡ true → accepted s ≡ false → (load_of u s).answer ≡ (worksheet_of s).answer
  pub elsewhere : fits u ≡ true → accepted s ≡ true → (u.stage ≡ TrackGreen → u.count ≡ 0 → ⊥) → (load_of u s).answer ≡ refused LoadNotNow 0
  pub old : fits u ≡ true → accepted s ≡ true → u.stage ≡ TrackGreen → u.count ≡ 0 → s.issue ≤ u.sheet.issue
      → (load_of u s).answer ≡ refused IssueNotNewer 0

abbrev pub LoadOrder : Type 0
LoadOrder = (u : Unit) (s : Sheet) → FirstRefusal u s

-- ---- over any events
-- from any unit the issue held never falls
abbrev pub IssueKept : Type 0
IssueKept = (u : Unit) (es : List Event) → u.sheet.issue ≤ (run u es).sheet.issue

-- a unit that fits goes on fitting: no time comes above its length, nor the count above line 3
abbrev pub FitsKept : Type 0
FitsKept = (u : Unit) (es : List Event) → fits u ≡ true → fits (run u es) ≡ true

-- and so does one from a fresh start
abbrev pub StartFits : Type 0
StartFits = (s : Sheet) → (start_of s).answer ≡ Ok tt → fits (start_of s).unit ≡ true
