-- `whole_fault::all_listed` meets its contract: the code's `all` is the definition. Assumes nothing.
use Rattle.std.proofs.Common.{rules, tests, ◌∙◌}
use Rattle.std.proofs.lemmas.Iterator.{YieldsList-from_slice}
use Rattle.std.proofs.lemmas.Iterator.Search.{all_from_yields_List}
use Rattle.faults.specs.Whole.{listed_in}
use Rattle.faults.proofs.Lists.{listed_all}
use Rattle.whole_fault.proofs.all_listed.Goals as goal

pub returns : goal.returns
returns c =
    all_from_yields_List (listed_in c.args.phases.now) _ _ _ c.all.ensures.ran (YieldsList-from_slice c.args.dwell.now cc) (λ x b q k. search (rules, tests))
    ∙ listed_all _ _
