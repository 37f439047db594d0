-- `scan::find` meets its contract: the library finds the byte's first place. Assumes nothing.
use mathlib.Core.Path.{sym, ◌∙◌}
use native.Mathlib.Omega.{arith}
use Rattle.scan.proofs.Along.{here, nowhere}
use Rattle.scan.proofs.find.Goals as goal

pub returns-in-Some : goal.returns-in-Some
returns-in-Some c =
    omega (arith, here c.args.s.now c.args.from c.args.byte c.min-start.result c.min-start.ensures c.in-Some.i (sym c.in-Some.is ∙ c.place.ensures))

pub returns-in-None : goal.returns-in-None
returns-in-None c =
    omega (arith, nowhere c.args.s.now c.args.from c.args.byte c.min-start.result c.min-start.ensures (sym c.in-None.is ∙ c.place.ensures))
