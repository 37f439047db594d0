-- `form::sections::Accepted::gate_lines` meets its contract: each line by its rule, each sum small. Assumes nothing.
use mathlib.Core.Path.{◌≡◌, ◌∙◌}
use native.Mathlib.Omega.{arith}
use Rattle.faults.proofs.Sound.{sound}
use Rattle.lines.specs.Sums.{◌plus◌, ◌less◌}
use Rattle.lines.specs.Lines.{l03, l36, l38, l39, l40, l41, l42, l43, l44}
use Rattle.lines.specs.Sections.{gates_lines}
use Rattle.lines.proofs.Bounds.{bounds, small_time}
use Rattle.form.proofs.sections.Accepted.gate_lines.Goals as goal

pub plus-l40-requires : goal.plus-l40-requires
unfolding l38 l36
plus-l40-requires c =
    let e38 : c.line38-l38.result ≡ l38 c.args.self.sheet = c.line38-l38.ensures in
    let s = c.args.self.sheet in
    let h = sound s c.args.self.accepted in
    let b = bounds s c.args.self.accepted in
    (small_time _ (l38 s) 9981 e38 b.l38 (omega arith), small_time _ (l39 s) 999 c.time-l39.ensures h.l39 (omega arith))

pub plus-l43-requires : goal.plus-l43-requires
plus-l43-requires c =
    let s = c.args.self.sheet in
    let h = sound s c.args.self.accepted in
    let b = bounds s c.args.self.accepted in
    (small_time _ (l03 s) 1998 c.requires b.l03 (omega arith), small_time _ (l42 s) 0 c.time-l42.ensures (omega arith) (omega arith))

pub returns : goal.returns
unfolding gates_lines l38 l36 l40 l43 l41 l44
returns c =
    let e38 : c.line38-l38.result ≡ l38 c.args.self.sheet = c.line38-l38.ensures in
    let e40 : c.plus-l40.result ≡ l40 c.args.self.sheet = c.plus-l40.ensures ∙ λ i. e38 i plus c.time-l39.ensures i in
    let e43 : c.plus-l43.result ≡ l43 c.args.self.sheet = c.plus-l43.ensures ∙ λ i. c.requires i plus c.time-l42.ensures i in
    let e44 : c.less-l44.result ≡ l44 c.args.self.sheet = c.less-l44.ensures ∙ λ i. e40 i less e43 i in
    λ i. record { l37 = c.multiplier-l37.ensures i; l38 = e38 i; l39 = c.time-l39.ensures i; l40 = e40 i; l42 = c.time-l42.ensures i; l43 = e43 i; l44 = e44 i }
