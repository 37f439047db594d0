-- `line_reader::mark` meets its contract: the sign, then commas. Assumes nothing.
use native.Mathlib.Omega.{arith}
use mathlib.Core.Path.{refl}
use borrow.Author.Tests.{le-ltb, lt-ltb}
use Rattle.units.specs.Numbers.{pick}
use Rattle.rows.specs.Marks.{mark_of}
use Rattle.line_reader.proofs.mark.Goals as goal

pub returns-then-j-eq0 : goal.returns-then-j-eq0
unfolding mark_of pick
returns-then-j-eq0 c =
    rw (lt-ltb c.args.j 1 (omega arith)) refl

pub returns-else-j-eq0 : goal.returns-else-j-eq0
unfolding mark_of pick
returns-else-j-eq0 c =
    rw (le-ltb c.args.j 1 (omega arith)) refl
