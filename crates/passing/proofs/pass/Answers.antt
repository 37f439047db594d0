-- `passing::pass` meets its contract: at each turn the ticks left come to the same end. Assumes nothing.
use Prim.Native.Nat.{◌+◌, ◌-◌}
use mathlib.Core.Path.{sym, ◌∙◌, ap}
use Rattle.flow.specs.declared.Ticked.{Ticked}
use Rattle.flow.specs.Tick.{passing}
use Rattle.flow.proofs.Passing.{pass_step, pass_end}
use Rattle.passing.proofs.pass.Goals as goal

pub loop-i-preserved : goal.loop-i-preserved
loop-i-preserved c =
    let a = c.args in
    ap (λ (k : Ticked). passing a.t a.sheet a.call (a.count - (c.loop-i._i + 1)) k.now) c.tick.ensures ∙ sym (pass_step a.t a.sheet a.call a.count c.loop-i._i c.loop-i.now c.loop-i-test.true) ∙ c.loop-i.invariant

pub returns : goal.returns
returns c =
    let a = c.args in
    sym (pass_end a.t a.sheet a.call a.count c.loop-i._i c.loop-i.now c.loop-i-test.false) ∙ c.loop-i.invariant
