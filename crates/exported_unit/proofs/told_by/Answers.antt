-- `exported_unit::told_by` meets its contract: a running unit comes where its unit comes. Assumes nothing.
use Rattle.exported_unit.proofs.Again.{unit_told, running_told}
use Rattle.exported_unit.proofs.told_by.Goals as goal

pub returns-then-kept : goal.returns-then-kept
returns-then-kept c = rw (c.ticks.ensures, c.first.ensures, c.take_over-running.ensures) (running_told _ _ _ _)

pub returns-else-kept : goal.returns-else-kept
returns-else-kept c = rw (c.ticks-else-kept.ensures, c.first-else-kept.ensures) (unit_told _ _ _ _)
