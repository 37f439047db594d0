-- `writer::put_number` meets its contract: the digits of the tenth, then the last digit. Assumes nothing.
use native.Mathlib.Omega.{arith}
use Prim.Native.Nat.{◌/◌}
use Rattle.text.proofs.Decimals.{digits_one, digits_tens}
use Rattle.text.proofs.Puts.{put_then, put_same}
use Rattle.text.proofs.Lengths.{short_digits}
use Rattle.writer.proofs.+put_number.Goals as goal

pub put-requires-else-v-lt10 : goal.put-requires-else-v-lt10
put-requires-else-v-lt10 t c = omega (arith, c.put_number-p.ensures.place, short_digits (c.args.v / 10))

pub returns-then-v-lt10 : goal.returns-then-v-lt10
returns-then-v-lt10 t c = put_same (digits_one c.args.v c.if-v-lt10.true) c.put.ensures

pub returns-else-v-lt10 : goal.returns-else-v-lt10
returns-else-v-lt10 t c = put_same (digits_tens c.args.v c.if-v-lt10.false c.requires.1) (put_then c.put_number-p.ensures c.put-else-v-lt10.ensures)
