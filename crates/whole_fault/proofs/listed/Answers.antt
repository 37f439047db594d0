-- `whole_fault::listed` meets its contract: the code's `any` is the definition. Assumes nothing.
use Rattle.std.proofs.Common.{rules, tests, ◌∙◌, nat_eq}
use Rattle.std.proofs.lemmas.Iterator.{YieldsList-from_slice}
use Rattle.std.proofs.lemmas.Iterator.Search.{any_from_yields_List}
use Rattle.sheet.specs.declared.Phase.{Phase}
use Rattle.faults.proofs.Lists.{listed_any}
use Rattle.whole_fault.proofs.listed.Goals as goal

pub returns : goal.returns
returns c =
    any_from_yields_List (λ (p : Phase). nat_eq p.number c.args.number) _ _ _ c.any.ensures.ran (YieldsList-from_slice c.args.phases.now cc) (λ x b q k. search (rules, tests))
    ∙ listed_any _ _
