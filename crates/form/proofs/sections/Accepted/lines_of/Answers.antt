-- `form::sections::Accepted::lines_of` meets its contract: the sections, each handed the lines of those before. Assumes nothing.
use mathlib.Core.Path.{◌∙◌}
use Rattle.lines.specs.Lines.{l26, l27, l36, l41, l45, l46, l52, l53, lines_of}
use Rattle.lines.specs.Sections.{transfer_lines, vehicles_lines, pedestrians_lines, clearance_lines, warning_lines, gates_lines, green_lines, street_lines, assemble}
use Rattle.form.proofs.sections.Accepted.lines_of.Goals as goal

pub warning_lines-w-requires : goal.warning_lines-w-requires
unfolding transfer_lines clearance_lines
warning_lines-w-requires c =
    (λ i. (c.transfer_lines-t.ensures i).l17, λ i. (c.clearance_lines-c.ensures i).l25)

pub gate_lines-g-requires : goal.gate_lines-g-requires
unfolding transfer_lines
gate_lines-g-requires c =
    λ i. (c.transfer_lines-t.ensures i).l03

pub green_lines-e-requires : goal.green_lines-e-requires
unfolding clearance_lines gates_lines
green_lines-e-requires c =
    (λ i. (c.clearance_lines-c.ensures i).l22, λ i. (c.clearance_lines-c.ensures i).l23, λ i. (c.clearance_lines-c.ensures i).l25, λ i. (c.gate_lines-g.ensures i).l44)

pub street_lines-b-requires : goal.street_lines-b-requires
unfolding transfer_lines clearance_lines
street_lines-b-requires c =
    (λ i. (c.transfer_lines-t.ensures i).l17, λ i. (c.clearance_lines-c.ensures i).l20, λ i. (c.clearance_lines-c.ensures i).l22)

pub returns : goal.returns
unfolding lines_of assemble transfer_lines vehicles_lines pedestrians_lines clearance_lines warning_lines gates_lines green_lines street_lines l26 l27 l36 l41 l45 l46 l52 l53
returns c =
    c.assembled.ensures ∙ λ i. assemble (c.transfer_lines-t.ensures i) (c.vehicle_lines-v.ensures i) (c.pedestrian_lines-p.ensures i) (c.clearance_lines-c.ensures i) (c.warning_lines-w.ensures i) (c.gate_lines-g.ensures i) (c.green_lines-e.ensures i) (c.street_lines-b.ensures i)
