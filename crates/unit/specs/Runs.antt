-- What comes to a unit, and the unit after any list of it.
use Rattle.std.specs.Prelude.{Bool, List, [], ◌∷◌}
use Rattle.sheet.specs.declared.Sheet.{Sheet}
use Rattle.stage.specs.declared.Command.{Command}
use Rattle.unit.specs.declared.Reply.{Reply}
use Rattle.unit.specs.declared.Unit.{Unit}
use Rattle.unit.specs.Unit.{tick_of, load_of}

-- a tick with its command and call, or a sheet offered to the loader
pub data Event : Type 0 where
  tick : Command → Bool → Event
  load : Sheet → Event

unfoldable pub answer_to : Unit → Event → Reply
answer_to u (tick c call) = tick_of u c call
answer_to u (load s) = load_of u s

unfoldable pub run : Unit → List Event → Unit
run u [] = u
run u (e ∷ es) = run (answer_to u e).unit es
