-- `exported_unit::UnitTakesEvents::tick` meets its contract, by what it calls. Assumes nothing.
use mathlib.Core.Path.{refl}
use Rattle.unit.specs.Runs.{answer_to}
use Rattle.exported_unit.proofs.UnitTakesEvents.tick.Goals as goal

pub returns : goal.returns
unfolding answer_to
returns c = rw c.tick-reply.ensures refl
