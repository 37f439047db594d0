-- What the functions of a unit for other languages say, in numbers.
use Rattle.std.specs.Prelude.{ℕ, zero, suc, ◌-◌, Bool, List, [], ◌∷◌, eqb, get_or, replicate}
use Rattle.units.specs.Numbers.{pick}
use Rattle.numbers.specs.Flat.{sheet_of}
use Rattle.sheet.specs.Refusals.{Answer}
use Rattle.stage.specs.declared.Command.{Command}
use Rattle.stage.specs.declared.Command.TheVariants.{None, End}
use Rattle.flow.specs.declared.Now.{Now}
use Rattle.state.specs.declared.State.{State}
use Rattle.state.specs.State.{numbers_of, stage_of}
use Rattle.unit.specs.declared.Unit.{Unit}
use Rattle.unit.specs.declared.Reply.{Reply}
use Rattle.unit.specs.Unit.{now_of}
use Rattle.unit.specs.Runs.{Event, tick, load, answer_to, run}
use Rattle.exported_unit.specs.declared.Told.{Told}

-- ---- a unit as numbers: those of its sheet; those of its stage, without the times; and the times, those spent and the count
abbrev pub state_from : List ℕ → List ℕ → State
state_from v t =
    record {
      kind = get_or v 0 0;
      place = get_or v 1 0;
      follows = get_or v 2 0;
      next = get_or v 3 0;
      phase = get_or v 4 0;
      light = get_or v 5 0;
      spent = get_or t 0 0;
      walker = get_or v 6 0;
      walked = get_or t 1 0;
    }

abbrev pub unit_of : List ℕ → List ℕ → List ℕ → Unit
unit_of sheet v t = record { sheet = sheet_of sheet; stage = stage_of (state_from v t); count = get_or t 2 0 }

abbrev pub stage_numbers : Now → List ℕ
stage_numbers x =
    let n = numbers_of x.stage in
    n.kind ∷ n.place ∷ n.follows ∷ n.next ∷ n.phase ∷ n.light ∷ n.walker ∷ []

abbrev pub times_of : Now → List ℕ
times_of x =
    let n = numbers_of x.stage in
    n.spent ∷ n.walked ∷ x.count ∷ []

-- 0 is none, n + 1 is end, next n
unfoldable pub command_of : ℕ → Command
command_of n = pick (eqb n 0) None (End (n - 1))

-- 0 is a load of the sheet offered, n + 1 a tick with command n
unfoldable pub event_of : ℕ → List ℕ → Bool → Event
event_of n offered call = pick (eqb n 0) (load (sheet_of offered)) (tick (command_of (n - 1)) call)

-- ---- what an event and ticks after it reply where sheets and units are handed over as numbers
-- a reply, and so many ticks more without a command: the unit after the last, and the answer to the first
abbrev pub more_ticks : Reply → Bool → ℕ → Reply
more_ticks first call more = record { unit = run first.unit (replicate more (tick None call)); answer = first.answer }

abbrev pub event_from : Unit → ℕ → List ℕ → Bool → ℕ → Reply
event_from u n offered call more = more_ticks (answer_to u (event_of n offered call)) call more

abbrev pub ticks_from : List ℕ → List ℕ → List ℕ → List ℕ → ℕ → Bool → ℕ → Reply
ticks_from sheet v t offered n call more = event_from (unit_of sheet v t) n offered call more

-- what is told of it
abbrev pub told_by : Reply → Told
told_by k = record { answer = k.answer; now = now_of k.unit }

-- the same of whatever takes events: by what it is after one, what it answers, and what it shows
unfoldable pub goes_on : {X : Type 0} → (X → Event → X) → Bool → ℕ → X → X
goes_on after call zero x = x
goes_on after call (suc n) x = goes_on after call n (after x (tick None call))

abbrev pub told_of : {X : Type 0} → (X → Event → X) → (X → Now) → X × Answer → Bool → ℕ → Told
told_of after shows first call more = record { answer = first.1; now = shows (goes_on after call more first.0) }
