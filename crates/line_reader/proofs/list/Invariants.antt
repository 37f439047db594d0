-- `line_reader::list` meets its contract: at each turn the numbers left are read as all are. Assumes nothing.
use Prim.Native.Nat.{◌-◌}
use mathlib.Core.Path.{◌≡◌}
use Rattle.text.specs.Line.{list_fields}
use Rattle.line_reader.proofs.list.Given as goal

abbrev pub invariant-loop-k : goal.invariant-loop-k
invariant-loop-k l = list_fields l.s l.place (l.n - l.k) l.k l.next l.v ≡ list_fields l.s l.place l.n 0 l.at l.initial.v
