-- `to_numbers::with_point` meets its contract: two stores in order. Assumes nothing.
use Rattle.numbers.proofs.Numbers.{two}
use Rattle.to_numbers.proofs.with_point.Goals as goal

pub returns : goal.returns
returns c =
    two c.args.v.now c.args.at c.args.p.feet c.args.p.tenths
