-- `writer::put_signed` meets its contract: by the sign. Assumes nothing.
use native.Mathlib.Omega.{arith}
use borrow.Author.Tests.{le-ltb, lt-ltb}
use Rattle.units.specs.Numbers.{pick}
use Rattle.text.specs.Text.{signed_text}
use Rattle.text.proofs.Puts.{put_length, put_then}
use Rattle.writer.proofs.put_signed.Goals as goal

pub put_number-requires : goal.put_number-requires
put_number-requires c =
    omega (arith, c.put-p.ensures.place)

pub shape_of-out-then-x-lt1000000 : goal.shape_of-out-then-x-lt1000000
shape_of-out-then-x-lt1000000 c =
    put_length (put_then c.put-p.ensures c.put_number.ensures)

pub returns-then-x-lt1000000 : goal.returns-then-x-lt1000000
unfolding signed_text pick
returns-then-x-lt1000000 c =
    rw (lt-ltb _ _ c.if-x-lt1000000.true) (put_then c.put-p.ensures c.put_number.ensures)

pub shape_of-out-else-x-lt1000000 : goal.shape_of-out-else-x-lt1000000
shape_of-out-else-x-lt1000000 c =
    put_length c.put_number-else-x-lt1000000.ensures

pub returns-else-x-lt1000000 : goal.returns-else-x-lt1000000
unfolding signed_text pick
returns-else-x-lt1000000 c =
    rw (le-ltb _ _ c.if-x-lt1000000.false) c.put_number-else-x-lt1000000.ensures
