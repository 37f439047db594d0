-- `writer::put_word` meets its contract: at each turn a byte more is stored. Assumes nothing.
use native.Mathlib.Omega.{arith}
use mathlib.Core.List.{[], ◌∷◌}
use lib.ListN.{drop, get_or, drop_of_length-le}
use Rattle.text.proofs.Puts.{start, next, end, where_now, doing_length}
use Rattle.units.proofs.Walk.{rest_at}
use Rattle.writer.proofs.put_word.Goals as goal

pub loop-b-init : goal.loop-b-init
loop-b-init c =
    start _ _ _

pub put-p-requires : goal.put-p-requires
put-p-requires c =
    let h = where_now (drop c.loop-b.b-index c.args.w.now) c.loop-b.invariant in omega arith

pub loop-b-preserved : goal.loop-b-preserved
loop-b-preserved c =
    next (get_or c.args.w.now c.loop-b.b-index 0 ∷ []) _ (rw (rest_at 0 c.args.w.now c.loop-b.b-index c.loop-b-test.true) at c.loop-b.invariant) c.put-p.ensures

pub shape_of-out : goal.shape_of-out
shape_of-out c =
    doing_length c.loop-b.invariant

pub returns : goal.returns
returns c =
    end (rw (drop_of_length-le c.args.w.now c.loop-b-test.false) at c.loop-b.invariant)
