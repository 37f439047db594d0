-- `answers::refuse_unless` meets its contract: by the test. Assumes nothing.
use mathlib.Core.Path.{refl}
use Rattle.sheet.specs.Refusals.{unless}
use Rattle.answers.proofs.refuse_unless.Goals as goal

pub returns-then-holds : goal.returns-then-holds
unfolding unless
returns-then-holds c =
    rw c.if-holds.true refl

pub returns-else-holds : goal.returns-else-holds
unfolding unless
returns-else-holds c =
    rw c.if-holds.false refl
