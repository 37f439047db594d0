-- `lookup::is_in` meets its contract: the slice's method asks each entry, and so does the definition. Assumes nothing.
use mathlib.Core.Path.{◌∙◌}
use Rattle.lookup.proofs.Along.{any_is_in}
use Rattle.lookup.proofs.is_in.Goals as goal

pub returns : goal.returns
returns c = c.contains.ensures.value ∙ any_is_in c.args.numbers.now c.args.number
