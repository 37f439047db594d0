-- `form::sections::Accepted::transfer_lines` meets its contract: each line by its rule, each sum small. Assumes nothing.
use mathlib.Core.Path.{◌≡◌, ◌∙◌, ap}
use native.Mathlib.Omega.{arith}
use Rattle.faults.proofs.Sound.{sound}
use Rattle.transfer.specs.Transfer.{line16}
use Rattle.lines.specs.Sums.{◌plus◌}
use Rattle.lines.specs.Lines.{l01, l02, l03, l16, l17}
use Rattle.lines.specs.Sections.{transfer_lines}
use Rattle.lines.proofs.Bounds.{bounds, small_time}
use Rattle.form.proofs.sections.Accepted.transfer_lines.Goals as goal

pub plus-l03-requires : goal.plus-l03-requires
plus-l03-requires c =
    let s = c.args.self.sheet in
    let h = sound s c.args.self.accepted in
    let b = bounds s c.args.self.accepted in
    (small_time _ (l01 s) 999 c.time-l01.ensures h.l01 (omega arith), small_time _ (l02 s) 999 c.time-l02.ensures h.l02.high (omega arith))

pub plus-l17-requires : goal.plus-l17-requires
unfolding l03 l16
plus-l17-requires c =
    let e03 : c.plus-l03.result ≡ l03 c.args.self.sheet = c.plus-l03.ensures ∙ λ i. c.time-l01.ensures i plus c.time-l02.ensures i in
    let e16 : c.line16-l16.result ≡ l16 c.args.self.sheet = c.line16-l16.ensures ∙ ap line16 c.listed_phases.ensures in
    let s = c.args.self.sheet in
    let h = sound s c.args.self.accepted in
    let b = bounds s c.args.self.accepted in
    (small_time _ (l03 s) 1998 e03 b.l03 (omega arith), small_time _ (l16 s) 2118 e16 b.l16 (omega arith))

pub returns : goal.returns
unfolding transfer_lines l03 l16 l17
returns c =
    let e03 : c.plus-l03.result ≡ l03 c.args.self.sheet = c.plus-l03.ensures ∙ λ i. c.time-l01.ensures i plus c.time-l02.ensures i in
    let e16 : c.line16-l16.result ≡ l16 c.args.self.sheet = c.line16-l16.ensures ∙ ap line16 c.listed_phases.ensures in
    let e17 : c.plus-l17.result ≡ l17 c.args.self.sheet = c.plus-l17.ensures ∙ λ i. e03 i plus e16 i in
    λ i. record { l01 = c.time-l01.ensures i; l02 = c.time-l02.ensures i; l03 = e03 i; l16 = e16 i; l17 = e17 i }
