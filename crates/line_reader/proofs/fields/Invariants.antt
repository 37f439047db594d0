-- `line_reader::fields` meets its contract: at each turn the numbers left are read as all are. Assumes nothing.
use Prim.Native.Nat.{◌-◌}
use mathlib.Core.Path.{◌≡◌}
use Rattle.text.specs.Line.{fields}
use Rattle.line_reader.proofs.fields.Given as goal

abbrev pub invariant-loop-j : goal.invariant-loop-j
invariant-loop-j l = fields l.s l.form l.place (l.n - l.j) l.j l.next l.v ≡ fields l.s l.form l.place l.n 0 l.at l.initial.v
