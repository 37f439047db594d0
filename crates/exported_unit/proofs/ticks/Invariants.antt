-- `exported_unit::ticks` meets its contract: at each turn the ticks left come to the same end. Assumes nothing.
use Prim.Native.Nat.{◌-◌}
use mathlib.Core.Path.{◌≡◌}
use Rattle.exported_unit.specs.Exported.{goes_on}
use Rattle.exported_unit.proofs.ticks.Given as goal

abbrev pub invariant-loop-i : goal.invariant-loop-i
invariant-loop-i g l =
    goes_on g.T.TakesEvents.after l.call (l.more - l._i) l.unit ≡ goes_on g.T.TakesEvents.after l.call l.more l.initial.unit
