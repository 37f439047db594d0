-- `unit::start` meets its contract: a composition of calls, each replaced by what it ensures. Assumes nothing.
use mathlib.Core.Path.{refl}
use Rattle.unit.proofs.start.Goals as goal

pub returns : goal.returns
returns c = rw (c.restarted.ensures, c.fresh.ensures, c.zero_sheet.ensures, c.measure-answer.ensures) refl
