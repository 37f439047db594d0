-- `lookup::find` meets its contract: the iterator yields the list, and the test is the definition's. Assumes nothing.
use mathlib.Core.Path.{◌∙◌}
use Rattle.std.proofs.Common.{eqb, rules, tests}
use Rattle.std.proofs.lemmas.Iterator.{YieldsList-from_slice}
use Rattle.std.proofs.lemmas.Iterator.Search.{find_from_yields_List}
use Rattle.stage.specs.Listed.{find_in}
use Rattle.lookup.proofs.find.Goals as goal

pub returns : goal.returns
unfolding find_in
returns c =
    c.copied.ensures
    ∙ find_from_yields_List (λ p. eqb p.number c.args.number) _ _ _ c.find.ensures.ran (YieldsList-from_slice c.args.phases.now cc) (λ x b q k. search (rules, tests))
