-- `writer::put_word` meets its contract: at each turn a byte more is stored. Assumes nothing.
use lib.ListN.{drop}
use Rattle.text.proofs.Puts.{Doing}
use Rattle.writer.proofs.put_word.Given as goal

abbrev pub invariant-loop-b : goal.invariant-loop-b
invariant-loop-b l = Doing l.initial.out l.out l.at l.p (drop l.b-index l.w) l.w
