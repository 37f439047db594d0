-- "Each tick adds one to the times running, then takes the command, then counts the call. Stage changes then due are made at once after each of
-- the three".
use Rattle.std.specs.Prelude.{ℕ, zero, suc, Bool}
use Rattle.units.specs.Numbers.{pick}
use Rattle.sheet.specs.declared.Sheet.{Sheet}
use Rattle.stage.specs.declared.Command.{Command}
use Rattle.stage.specs.declared.Command.TheVariants.{None}
use Rattle.stage.specs.declared.Lengths.{Lengths}
use Rattle.stage.specs.declared.Stage.{Stage}
use Rattle.stage.specs.Commands.{allowed, obeyed}
use Rattle.stage.specs.Times.{add_one}
use Rattle.flow.specs.declared.Now.{Now}
use Rattle.flow.specs.declared.Ticked.{Ticked}
use Rattle.flow.specs.Calls.{counting, count_after, called, overdue}
use Rattle.flow.specs.Settling.{settle}

abbrev pub after_times : Lengths → Sheet → Bool → Now → Stage
after_times t s call now = settle t s call (overdue t now.count (add_one t s now.stage))

-- "An end in any other stage .. is refused 23", and then "the tick passes as with none"
unfoldable pub heard : Sheet → Stage → Command → Command
heard s st c = pick (allowed s st c) c None

abbrev pub after_command : Lengths → Sheet → Command → Bool → Stage → Stage
after_command t s c call st = settle t s call (obeyed st (heard s st c))

abbrev pub after_call : Lengths → Sheet → Bool → Now → Stage → Stage
after_call t s call now st = settle t s call (called t call (counting t now) now.count st)

-- the stage at the tick's end
abbrev pub end_of : Lengths → Sheet → Command → Bool → Now → Stage
end_of t s c call now = after_call t s call now (after_command t s c call (after_times t s call now))

-- a command is judged in the stage after the first of the three
abbrev pub ticked : Lengths → Sheet → Now → Command → Bool → Ticked
ticked t s now c call =
    record {
      now = record { stage = end_of t s c call now; count = count_after t call (counting t now) (end_of t s c call now) now.count };
      allowed = allowed s (after_times t s call now) c;
    }

-- that many ticks with no command
unfoldable pub passing : Lengths → Sheet → Bool → ℕ → Now → Now
passing t s call zero now = now
passing t s call (suc n) now = passing t s call n (ticked t s now None call).now
