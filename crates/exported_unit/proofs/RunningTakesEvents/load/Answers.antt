-- `exported_unit::RunningTakesEvents::load` meets its contract, by what it calls. Assumes nothing.
use mathlib.Core.Path.{refl}
use Rattle.running.specs.Running.{reply_to}
use Rattle.exported_unit.proofs.RunningTakesEvents.load.Goals as goal

pub returns : goal.returns
unfolding reply_to
returns c = rw c.load-reply.ensures refl
