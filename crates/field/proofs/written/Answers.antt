-- `field::written` meets its contract: by the form. Assumes nothing.
use borrow.Author.Rules.{rules}
use Rattle.units.specs.Numbers.{pick}
use Rattle.text.specs.Line.{field_at}
use Rattle.field.proofs.written.Goals as goal

pub returns-in-Worded : goal.returns-in-Worded
unfolding field_at pick
returns-in-Worded c = search rules

pub returns-in-Signed : goal.returns-in-Signed
unfolding field_at pick
returns-in-Signed c = search rules

pub returns-in-Plain : goal.returns-in-Plain
unfolding field_at pick
returns-in-Plain c = search rules
