-- `passing::pass` meets its contract: at each turn the ticks left come to the same end. Assumes nothing.
use Prim.Native.Nat.{◌-◌}
use mathlib.Core.Path.{◌≡◌}
use Rattle.flow.specs.Tick.{passing}
use Rattle.passing.proofs.pass.Given as goal

abbrev pub invariant-loop-i : goal.invariant-loop-i
invariant-loop-i l = passing l.t l.sheet l.call (l.count - l._i) l.now ≡ passing l.t l.sheet l.call l.count l.initial.now
