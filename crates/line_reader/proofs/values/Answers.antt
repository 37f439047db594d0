-- `line_reader::values` meets its contract: by the form. Assumes nothing.
use borrow.Author.Rules.{rules}
use native.Mathlib.Omega.{arith}
use Rattle.units.proofs.Steps.{pick_yes, pick_not}
use Rattle.rows.proofs.Tables.{list_is}
use Rattle.text.specs.Line.{values_at}
use Rattle.line_reader.proofs.values.Goals as goal

pub overflow_sub-n : goal.overflow_sub-n
overflow_sub-n c =
    omega (arith, c.requires.1 (list_is c.in-Listed.is))

pub list-requires : goal.list-requires
list-requires c =
    let n = c.requires.1 (list_is c.in-Listed.is) in (omega (arith, c.requires.0), omega arith)

pub returns-in-Listed : goal.returns-in-Listed
unfolding values_at
returns-in-Listed c =
    pick_yes _ _ _ _ (list_is c.in-Listed.is) c.list.ensures

pub returns-in-Plain : goal.returns-in-Plain
unfolding values_at
returns-in-Plain c =
    search (rules, pick_not)
