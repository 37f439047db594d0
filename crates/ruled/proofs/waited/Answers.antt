-- `ruled::waited` meets its contract, branch by branch. Assumes nothing.
use Rattle.units.proofs.Steps.{steps}
use Rattle.rules.specs.Rules.{waited}
use Rattle.ruled.proofs.waited.Goals as goal

pub returns-then-p-eq1 : goal.returns-then-p-eq1
unfolding waited
returns-then-p-eq1 c =
    rw c.from.ensures (search steps)

pub returns-else-p-eq1 : goal.returns-else-p-eq1
unfolding waited
returns-else-p-eq1 c =
    search steps
