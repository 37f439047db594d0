-- `exported_unit::RunningTakesEvents::tick` meets its contract, by what it calls. Assumes nothing.
use mathlib.Core.Path.{refl}
use Rattle.running.specs.Running.{reply_to}
use Rattle.exported_unit.proofs.RunningTakesEvents.tick.Goals as goal

pub returns : goal.returns
unfolding reply_to
returns c = rw c.tick-reply.ensures refl
