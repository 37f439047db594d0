-- `form::sections::assembled` meets its contract: each line from its section. Assumes nothing.
use mathlib.Core.Path.{refl}
use Rattle.lines.specs.Sections.{assemble}
use Rattle.form.proofs.sections.assembled.Goals as goal

pub returns : goal.returns
unfolding assemble
returns c =
    refl
