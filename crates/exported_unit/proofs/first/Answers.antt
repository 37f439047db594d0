-- `exported_unit::first` meets its contract: by its test. Assumes nothing.
use mathlib.Core.Path.{refl}
use borrow.Author.Tests.{eq-eqb, ne_eqb}
use Rattle.units.specs.Numbers.{pick}
use Rattle.exported_unit.specs.Exported.{event_of}
use Rattle.exported_unit.proofs.first.Goals as goal

pub returns-then-event-eq0 : goal.returns-then-event-eq0
unfolding event_of pick
returns-then-event-eq0 g c = rw (c.load.ensures, c.sheet_of.ensures, eq-eqb _ _ c.if-event-eq0.true) refl

pub returns-else-event-eq0 : goal.returns-else-event-eq0
unfolding event_of pick
returns-else-event-eq0 g c = rw (c.tick.ensures, c.command_of.ensures, ne_eqb _ _ c.if-event-eq0.false) refl
