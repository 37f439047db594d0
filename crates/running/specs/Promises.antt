-- What is promised of a running unit: made from a unit, it replies just what the unit replies, and is then what the unit is, over any events.
use Rattle.std.specs.Prelude.{ℕ, Bool, List, ◌≡◌, replicate}
use Rattle.sheet.specs.declared.Sheet.{Sheet}
use Rattle.stage.specs.declared.Command.{Command}
use Rattle.stage.specs.declared.Command.TheVariants.{None}
use Rattle.unit.specs.declared.Unit.{Unit}
use Rattle.unit.specs.Unit as unit
use Rattle.unit.specs.Runs.{Event, tick, run}
use Rattle.running.specs.Running.{running_of, with_reply, tick_of, pass_of, load_of, replies, own_replies}

abbrev pub SameTick : Type 0
SameTick = (u : Unit) (c : Command) (call : Bool) → tick_of (running_of u) c call ≡ with_reply (unit.tick_of u c call)

abbrev pub SameLoad : Type 0
SameLoad = (u : Unit) (s : Sheet) → load_of (running_of u) s ≡ with_reply (unit.load_of u s)

-- any ticks, commands and loads, one after the other
abbrev pub SameReplies : Type 0
SameReplies = (u : Unit) (es : List Event) → replies (running_of u) es ≡ own_replies u es

-- and many ticks without a command at once
abbrev pub SamePass : Type 0
SamePass = (u : Unit) (call : Bool) (n : ℕ) → pass_of (running_of u) call n ≡ running_of (run u (replicate n (tick None call)))
