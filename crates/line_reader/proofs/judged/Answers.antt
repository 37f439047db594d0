-- `line_reader::judged` meets its contract: a row of the table, and one past it. Assumes nothing.
use mathlib.Core.Path.{◌∙◌}
use Rattle.text.proofs.Past.{past_table}
use Rattle.line_reader.proofs.judged.Goals as goal

pub returns : goal.returns
returns c =
    c.past.ensures c.args.v.now ∙ past_table c.args.row c.if-row-lt-ROWS.false c.args.s.now c.args.at c.args.number c.args.v.now
