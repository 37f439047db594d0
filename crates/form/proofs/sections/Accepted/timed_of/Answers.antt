-- `form::sections::Accepted::timed_of` meets its contract: the sections that line 51 needs, each handed the lines of those before. Assumes nothing.
use mathlib.Core.Path.{◌≡◌, ◌∙◌}
use native.Mathlib.Omega.{arith}
use Rattle.faults.proofs.Sound.{sound}
use Rattle.lines.specs.Sums.{◌plus◌}
use Rattle.lines.specs.Lines.{l01, l02, l03}
use Rattle.lines.specs.Sections.{clearance_lines, gates_lines, green_lines}
use Rattle.lines.proofs.Bounds.{small_time}
use native.Mathlib.Omega.{arith}
use Rattle.std.specs.Prelude.{Ok}
use Rattle.form.proofs.sections.Accepted.timed_of.Goals as goal

pub plus-l03-requires : goal.plus-l03-requires
plus-l03-requires c =
    let s = c.args.self.sheet in
    let h = sound s c.args.self.accepted in
    (small_time _ (l01 s) 999 c.time-l01.ensures h.l01 (omega arith), small_time _ (l02 s) 999 c.time-l02.ensures h.l02.high (omega arith))

pub gate_lines-g-requires : goal.gate_lines-g-requires
unfolding l03
gate_lines-g-requires c =
    let e03 : c.plus-l03.result ≡ l03 c.args.self.sheet = c.plus-l03.ensures ∙ λ i. c.time-l01.ensures i plus c.time-l02.ensures i in
    e03

pub green_lines-e-requires : goal.green_lines-e-requires
unfolding clearance_lines gates_lines
green_lines-e-requires c =
    (λ i. (c.clearance_lines-c.ensures i).l22, λ i. (c.clearance_lines-c.ensures i).l23, λ i. (c.clearance_lines-c.ensures i).l25, λ i. (c.gate_lines-g.ensures i).l44)

pub returns : goal.returns
unfolding green_lines l03
returns c =
    let e03 : c.plus-l03.result ≡ l03 c.args.self.sheet = c.plus-l03.ensures ∙ λ i. c.time-l01.ensures i plus c.time-l02.ensures i in
    λ i. record { answer = Ok tt; l03 = e03 i; l51 = (c.green_lines-e.ensures i).l51 }
