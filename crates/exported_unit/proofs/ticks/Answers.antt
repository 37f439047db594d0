-- `exported_unit::ticks` meets its contract: at each turn the ticks left come to the same end. Assumes nothing.
use Prim.Native.Nat.{◌+◌, ◌-◌}
use mathlib.Core.Path.{sym, ◌∙◌}
use Rattle.exported_unit.specs.Exported.{goes_on}
use Rattle.exported_unit.proofs.Again.{goes_left, goes_no_more}
use Rattle.exported_unit.proofs.ticks.Goals as goal

pub loop-i-preserved : goal.loop-i-preserved
loop-i-preserved g c =
    (λ i. goes_on g.T.TakesEvents.after c.args.call (c.args.more - (c.loop-i._i + 1)) (c.tick-unit.ensures i).0) ∙ sym (goes_left g.T.TakesEvents.after c.args.call c.args.more c.loop-i._i c.loop-i.unit c.loop-i-test.true) ∙ c.loop-i.invariant

pub returns : goal.returns
returns g c =
    let ended = sym (goes_no_more g.T.TakesEvents.after c.args.call c.args.more c.loop-i._i c.loop-i.unit c.loop-i-test.false) ∙ c.loop-i.invariant in
    (λ i. record { answer = c.args.first.1; now = c.now.ensures i }) ∙ (λ i. record { answer = c.args.first.1; now = g.T.TakesEvents.shows (ended i) })
