-- `field::word` meets its contract: the words in order. Assumes nothing.
use borrow.Author.Rules.{rules}
use Rattle.rows.specs.Marks.{words}
use Rattle.text.specs.Line.{word_at}
use Rattle.field.proofs.word.Goals as goal

pub returns : goal.returns
unfolding word_at words
returns c = search rules
