-- `writer::put_mark` meets its contract: an equals sign first, then commas. Assumes nothing.
use borrow.Author.Tests.{le-ltb, lt-ltb}
use Rattle.units.specs.Numbers.{pick}
use Rattle.rows.specs.Marks.{mark_of}
use Rattle.text.proofs.Puts.{put_length}
use Rattle.writer.proofs.put_mark.Goals as goal

pub shape_of-out-then-j-lt1 : goal.shape_of-out-then-j-lt1
shape_of-out-then-j-lt1 c =
    put_length c.put.ensures

pub returns-then-j-lt1 : goal.returns-then-j-lt1
unfolding mark_of pick
returns-then-j-lt1 c =
    rw (lt-ltb _ _ c.if-j-lt1.true) c.put.ensures

pub shape_of-out-else-j-lt1 : goal.shape_of-out-else-j-lt1
shape_of-out-else-j-lt1 c =
    put_length c.put-else-j-lt1.ensures

pub returns-else-j-lt1 : goal.returns-else-j-lt1
unfolding mark_of pick
returns-else-j-lt1 c =
    rw (le-ltb _ _ c.if-j-lt1.false) c.put-else-j-lt1.ensures
