-- `form::sections::Accepted::warning_lines` meets its contract: each line by its rule, each sum small. Assumes nothing.
use mathlib.Core.Path.{◌≡◌, ◌∙◌}
use native.Mathlib.Omega.{arith}
use Rattle.faults.proofs.Sound.{sound}
use Rattle.lines.specs.Sums.{◌plus◌, ◌less◌}
use Rattle.lines.specs.Lines.{l17, l25, l28, l29, l30, l31, l32, l33, l34, l35}
use Rattle.lines.specs.Sections.{warning_lines}
use Rattle.lines.proofs.Bounds.{bounds, small_time}
use Rattle.form.proofs.sections.Accepted.warning_lines.Goals as goal

pub plus-requires : goal.plus-requires
plus-requires c =
    let s = c.args.self.sheet in
    let h = sound s c.args.self.accepted in
    let b = bounds s c.args.self.accepted in
    (small_time _ (l17 s) 4116 c.requires.0 b.l17 (omega arith), small_time _ (l25 s) 20718 c.requires.1 b.l25 (omega arith))

pub plus-l29-requires : goal.plus-l29-requires
plus-l29-requires c =
    let et1 : c.plus.result ≡ l17 c.args.self.sheet plus l25 c.args.self.sheet = c.plus.ensures ∙ λ i. c.requires.0 i plus c.requires.1 i in
    let s = c.args.self.sheet in
    let h = sound s c.args.self.accepted in
    let b = bounds s c.args.self.accepted in
    (small_time _ (l17 s plus l25 s) 24834 et1 (omega (arith, b.l17, b.l25)) (omega arith), small_time _ (l28 s) 999 c.time-l28.ensures h.l28 (omega arith))

pub plus-l32-requires : goal.plus-l32-requires
plus-l32-requires c =
    let s = c.args.self.sheet in
    let h = sound s c.args.self.accepted in
    let b = bounds s c.args.self.accepted in
    (small_time _ (l30 s) 999 c.time-l30.ensures h.l30.high (omega arith), small_time _ (l31 s) 999 c.time-l31.ensures h.l31 (omega arith))

pub plus-l34-requires : goal.plus-l34-requires
unfolding l32
plus-l34-requires c =
    let e32 : c.plus-l32.result ≡ l32 c.args.self.sheet = c.plus-l32.ensures ∙ λ i. c.time-l30.ensures i plus c.time-l31.ensures i in
    let s = c.args.self.sheet in
    let h = sound s c.args.self.accepted in
    let b = bounds s c.args.self.accepted in
    (small_time _ (l32 s) 1998 e32 b.l32 (omega arith), small_time _ (l33 s) 999 c.time-l33.ensures h.l33 (omega arith))

pub returns : goal.returns
unfolding warning_lines l29 l32 l34 l35
returns c =
    let et1 : c.plus.result ≡ l17 c.args.self.sheet plus l25 c.args.self.sheet = c.plus.ensures ∙ λ i. c.requires.0 i plus c.requires.1 i in
    let e29 : c.plus-l29.result ≡ l29 c.args.self.sheet = c.plus-l29.ensures ∙ λ i. et1 i plus c.time-l28.ensures i in
    let e32 : c.plus-l32.result ≡ l32 c.args.self.sheet = c.plus-l32.ensures ∙ λ i. c.time-l30.ensures i plus c.time-l31.ensures i in
    let e34 : c.plus-l34.result ≡ l34 c.args.self.sheet = c.plus-l34.ensures ∙ λ i. e32 i plus c.time-l33.ensures i in
    let e35 : c.less-l35.result ≡ l35 c.args.self.sheet = c.less-l35.ensures ∙ λ i. e29 i less e34 i in
    λ i. record { l28 = c.time-l28.ensures i; l29 = e29 i; l30 = c.time-l30.ensures i; l31 = c.time-l31.ensures i; l32 = e32 i; l33 = c.time-l33.ensures i; l34 = e34 i; l35 = e35 i }
