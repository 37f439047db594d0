-- `reader::passed` meets its contract: past its count, or absent, or a line. Assumes nothing.
use mathlib.Core.Path.{refl, sym, ◌∙◌}
use Rattle.units.specs.Numbers.{pick}
use Rattle.units.proofs.Steps.{pick_yes, pick_not}
use Rattle.text.specs.Read.{passed, filled}
use Rattle.reader.proofs.passed.Goals as goal

pub returns-then-not-present : goal.returns-then-not-present
unfolding passed filled
returns-then-not-present c =
    let gone = sym c.present.ensures ∙ c.if-not-present.true in
    rw c.if-not-present.true (pick_not _ _ _ _ gone refl, pick_yes _ _ _ _ refl (pick_not _ _ _ _ gone refl))

pub returns-then-may_lack : goal.returns-then-may_lack
unfolding passed filled pick
returns-then-may_lack c =
    let here = sym c.present.ensures ∙ c.if-not-present.false in
    (pick_yes _ _ _ _ here (pick_yes _ _ _ _ (sym c.may_lack.ensures ∙ c.if-may_lack.true) c.absent.ensures.0), rw here c.absent.ensures.1)

pub returns-else-may_lack : goal.returns-else-may_lack
unfolding passed filled
returns-else-may_lack c =
    let here = sym c.present.ensures ∙ c.if-not-present.false in
    rw c.if-may_lack.false (pick_yes _ _ _ _ here (pick_not _ _ _ _ (sym c.may_lack.ensures ∙ c.if-may_lack.false) refl), pick_not _ _ _ _ refl refl)
