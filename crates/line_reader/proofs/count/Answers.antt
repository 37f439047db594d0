-- `line_reader::count` meets its contract: 0 alone is none. Assumes nothing.
use Rattle.units.proofs.Steps.{steps}
use Rattle.line_reader.proofs.count.Goals.{else-k-eq1-via-then-k-eq1+else-x-eq0, else-k-eq1-via-else-k-eq1}
use Rattle.line_reader.proofs.count.Goals as goal

pub returns-then-x-eq0 : goal.returns-then-x-eq0
returns-then-x-eq0 c =
    search steps

pub returns-else-k-eq1 : goal.returns-else-k-eq1
returns-else-k-eq1 c =
    elim c.else-k-eq1.branch [
      | else-k-eq1-via-then-k-eq1+else-x-eq0 w ↦ search steps
      | else-k-eq1-via-else-k-eq1 w ↦ search steps
    ]
