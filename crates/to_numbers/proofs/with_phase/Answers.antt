-- `to_numbers::with_phase` meets its contract: eight stores in order. Assumes nothing.
use Rattle.numbers.proofs.Numbers.{eight}
use Rattle.to_numbers.proofs.with_phase.Goals as goal

pub returns : goal.returns
returns c =
    eight c.args.v.now c.args.at c.args.p.number c.args.p.green c.args.p.other c.args.p.yellow c.args.p.red c.args.p.walk c.args.p.clearance c.args.p.mode
