-- A running unit: a unit with what its sheet says to the sequence worked out once. Each definition is of any value of it; that one made from a unit
-- gives what the unit gives is promised in Promises.
use Rattle.std.specs.Prelude.{ℕ, Bool, List, [], ◌∷◌, Result, Ok, Err}
use Rattle.units.specs.Numbers.{pick}
use Rattle.sheet.specs.Refusals.{refused, unless}
use Rattle.sheet.specs.declared.Refusal.TheVariants.{UnitUnfit, CommandNotAllowed}
use Rattle.sheet.specs.declared.Sheet.{Sheet}
use Rattle.stage.specs.declared.Command.{Command}
use Rattle.stage.specs.declared.Lengths.{Lengths}
use Rattle.flow.specs.declared.Now.{Now}
use Rattle.flow.specs.declared.Ticked.{Ticked}
use Rattle.flow.specs.Tick.{ticked, passing}
use Rattle.measured.specs.Measured.{lengths_of}
use Rattle.unit.specs.declared.Reply.{Reply}
use Rattle.unit.specs.declared.Unit.{Unit}
use Rattle.unit.specs.Unit as unit
use Rattle.unit.specs.Runs.{Event, tick, load, answer_to}
use Rattle.running.specs.declared.Answered.{Answered}
use Rattle.running.specs.declared.Running.{Running}

-- made from a unit, by one check of it: the lengths of its sheet, as a refusal's where it does not fit
abbrev pub lengths_by : Bool → Sheet → Result Lengths Lengths
lengths_by fits s = pick fits (Ok (lengths_of s)) (Err (lengths_of s))

abbrev pub running_of : Unit → Running
running_of u = record { sheet = u.sheet; lengths = lengths_by (unit.fits u) u.sheet; now = unit.now_of u }

-- and the unit of it
abbrev pub unit_of : Running → Unit
unit_of r = unit.holding r.sheet r.now

-- what a unit replies, with the unit from then on taken over
abbrev pub with_reply : Reply → Answered
with_reply k = record { running = running_of k.unit; answer = k.answer }

abbrev pub start_of : Sheet → Answered
start_of s = with_reply (unit.start_of s)

abbrev pub onward : Running → Now → Running
onward r now = record { sheet = r.sheet; lengths = r.lengths; now = now }

-- ---- a tick, by the lengths that it keeps; "After 20 .. the unit is unchanged"
abbrev pub answered : Running → Ticked → Answered
answered r k = record { running = onward r k.now; answer = unless k.allowed CommandNotAllowed 0 }

unfoldable pub tick_by : Result Lengths Lengths → Running → Command → Bool → Answered
tick_by (Ok t) r c call = answered r (ticked t r.sheet r.now c call)
tick_by (Err t) r c call = record { running = r; answer = refused UnitUnfit 0 }

abbrev pub tick_of : Running → Command → Bool → Answered
tick_of r c call = tick_by r.lengths r c call

-- that many ticks without a command
unfoldable pub pass_by : Result Lengths Lengths → Running → Bool → ℕ → Running
pass_by (Ok t) r call n = onward r (passing t r.sheet call n r.now)
pass_by (Err t) r call n = r

abbrev pub pass_of : Running → Bool → ℕ → Running
pass_of r call n = pass_by r.lengths r call n

-- ---- the loader: the unit's own
abbrev pub load_of : Running → Sheet → Answered
load_of r s = with_reply (unit.load_of (unit_of r) s)

-- ---- the replies to any events: of a running unit, and of a unit
unfoldable pub reply_to : Running → Event → Answered
reply_to r (tick c call) = tick_of r c call
reply_to r (load s) = load_of r s

unfoldable pub replies : Running → List Event → List Answered
replies r [] = []
replies r (e ∷ es) = reply_to r e ∷ replies (reply_to r e).running es

unfoldable pub own_replies : Unit → List Event → List Answered
own_replies u [] = []
own_replies u (e ∷ es) = with_reply (answer_to u e) ∷ own_replies (answer_to u e).unit es
