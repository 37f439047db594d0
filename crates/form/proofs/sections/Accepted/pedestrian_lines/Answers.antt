-- `form::sections::Accepted::pedestrian_lines` meets its contract: what the phase with the largest pedestrian time has. Assumes nothing.
use mathlib.Core.Path.{◌∙◌, ap}
use Rattle.units.specs.Numbers.{tenths}
use Rattle.sheet.specs.declared.Phase.{Phase}
use Rattle.transfer.specs.declared.Users.TheVariants.{Pedestrians}
use Rattle.transfer.specs.Transfer.{time_of, worst_of}
use Rattle.rules.specs.Rules.{waited}
use Rattle.lines.specs.Lines.{l10, l11, l12, l13, l14, l15}
use Rattle.lines.specs.Sections.{pedestrians_lines}
use Rattle.form.proofs.sections.Accepted.pedestrian_lines.Goals as goal

pub returns : goal.returns
unfolding pedestrians_lines l10 l11 l12 l13 l14 l15
returns c =
    let p = c.worst-p.ensures ∙ ap (worst_of Pedestrians) c.listed_phases.ensures in
    let walk = c.time-l11.ensures ∙ ap (λ (q : Phase). tenths q.walk) p in
    let clearance = c.time-l12.ensures ∙ ap (λ (q : Phase). tenths q.clearance) p in
    let yellow = c.waited-l13.ensures ∙ ap (λ (q : Phase). waited q q.yellow) p in
    let red = c.waited-l14.ensures ∙ ap (λ (q : Phase). waited q q.red) p in
    let whole = c.time-l15.ensures ∙ ap (time_of Pedestrians) p in
    λ i. record { l10 = (p i).number; l11 = walk i; l12 = clearance i; l13 = yellow i; l14 = red i; l15 = whole i }
