-- `form::sections::Accepted::vehicle_lines` meets its contract: what the phase with the largest vehicle time has. Assumes nothing.
use mathlib.Core.Path.{◌∙◌, ap}
use Rattle.units.specs.Numbers.{tenths}
use Rattle.sheet.specs.declared.Phase.{Phase}
use Rattle.transfer.specs.declared.Users.TheVariants.{Vehicles}
use Rattle.transfer.specs.Transfer.{time_of, worst_of}
use Rattle.lines.specs.Lines.{l04, l05, l06, l07, l08, l09}
use Rattle.lines.specs.Sections.{vehicles_lines}
use Rattle.form.proofs.sections.Accepted.vehicle_lines.Goals as goal

pub returns : goal.returns
unfolding vehicles_lines l04 l05 l06 l07 l08 l09
returns c =
    let p = c.worst-p.ensures ∙ ap (worst_of Vehicles) c.listed_phases.ensures in
    let green = c.time-l05.ensures ∙ ap (λ (q : Phase). tenths q.green) p in
    let other = c.time-l06.ensures ∙ ap (λ (q : Phase). tenths q.other) p in
    let yellow = c.time-l07.ensures ∙ ap (λ (q : Phase). tenths q.yellow) p in
    let red = c.time-l08.ensures ∙ ap (λ (q : Phase). tenths q.red) p in
    let whole = c.time-l09.ensures ∙ ap (time_of Vehicles) p in
    λ i. record { l04 = (p i).number; l05 = green i; l06 = other i; l07 = yellow i; l08 = red i; l09 = whole i }
