-- `form::worksheet` meets its contract: an accepted sheet has its lines, a refused one zeros. Assumes nothing.
use mathlib.Core.Path.{sym, ◌∙◌, ap}
use Rattle.units.proofs.Steps.{pick_yes, pick_not}
use Rattle.sheet.specs.Refusals.{is_fine}
use Rattle.faults.specs.Whole.{accept_of}
use Rattle.lines.specs.Lines.{lines_of}
use Rattle.lines.specs.Worksheet.{worksheet_of}
use Rattle.form.proofs.worksheet.Goals as goal

pub returns-in-Ok : goal.returns-in-Ok
unfolding worksheet_of
returns-in-Ok c =
    let told = sym c.in-Ok.accepted.accepted ∙ ap accept_of c.in-Ok.ensures in
    let lines = pick_yes _ _ _ _ (ap is_fine (sym told)) (c.lines_of.ensures ∙ ap lines_of c.in-Ok.ensures) in
    λ i. record { answer = told i; lines = lines i }

pub returns-in-Err : goal.returns-in-Err
unfolding worksheet_of
returns-in-Err c =
    let told = sym c.in-Err.ensures in
    let lines = pick_not _ _ _ _ (ap is_fine (sym told)) c.zero_lines.ensures in
    λ i. record { answer = told i; lines = lines i }
