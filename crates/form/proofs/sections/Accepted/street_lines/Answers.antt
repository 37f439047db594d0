-- `form::sections::Accepted::street_lines` meets its contract: each line by its rule, each sum small. Assumes nothing.
use borrow.Author.Rules.{rules}
use mathlib.Core.Path.{◌≡◌, ◌∙◌}
use native.Mathlib.Omega.{arith}
use mir.Syntax.{w16}
use mir.Val.{SFits}
use mir.Facts.{to_z-of_z}
use Rattle.faults.proofs.Sound.{sound}
use Rattle.lines.specs.Sums.{◌plus◌, ◌less◌}
use Rattle.lines.specs.Lines.{l17, l22, l52, l53, l54, l55, l56, l59, l60, l61, acceleration}
use Rattle.lines.specs.Sections.{street_lines}
use Rattle.lines.proofs.Bounds.{bounds, small_time}
use Rattle.form.proofs.sections.Accepted.street_lines.Goals as goal

pub plus-requires : goal.plus-requires
plus-requires c =
    let s = c.args.self.sheet in
    let h = sound s c.args.self.accepted in
    let b = bounds s c.args.self.accepted in
    (small_time _ (l17 s) 4116 c.requires.0 b.l17 (omega arith), small_time _ (l22 s) 720 c.requires.2 b.l22 (omega arith))

pub plus-l55-requires : goal.plus-l55-requires
unfolding l54
plus-l55-requires c =
    let e54 : c.acceleration-l54.result ≡ l54 c.args.self.sheet = let s = c.args.self.sheet in
    let f : SFits w16 s.grade = search rules in
    c.acceleration-l54.ensures ∙ λ i. acceleration s (to_z-of_z f i) (c.requires.1 i) in
    let et2 : c.plus.result ≡ l17 c.args.self.sheet plus l22 c.args.self.sheet = c.plus.ensures ∙ λ i. c.requires.0 i plus c.requires.2 i in
    let s = c.args.self.sheet in
    let h = sound s c.args.self.accepted in
    let b = bounds s c.args.self.accepted in
    (small_time _ (l17 s plus l22 s) 4836 et2 (omega (arith, b.l17, b.l22)) (omega arith), small_time _ (l54 s) 19998 e54 b.l54 (omega arith))

pub plus-l60-requires : goal.plus-l60-requires
unfolding l59
plus-l60-requires c =
    let e59 : c.line59-l59.result ≡ l59 c.args.self.sheet = c.line59-l59.ensures in
    let s = c.args.self.sheet in
    let h = sound s c.args.self.accepted in
    let b = bounds s c.args.self.accepted in
    (small_time _ (l56 s) 999 c.time-l56.ensures h.l56.high (omega arith), small_time _ (l59 s) 99900 e59 b.l59 (omega arith))

pub returns : goal.returns
unfolding street_lines l54 l55 l52 l53 l59 l60 l61
returns c =
    let e54 : c.acceleration-l54.result ≡ l54 c.args.self.sheet = let s = c.args.self.sheet in
    let f : SFits w16 s.grade = search rules in
    c.acceleration-l54.ensures ∙ λ i. acceleration s (to_z-of_z f i) (c.requires.1 i) in
    let et2 : c.plus.result ≡ l17 c.args.self.sheet plus l22 c.args.self.sheet = c.plus.ensures ∙ λ i. c.requires.0 i plus c.requires.2 i in
    let e55 : c.plus-l55.result ≡ l55 c.args.self.sheet = c.plus-l55.ensures ∙ λ i. et2 i plus e54 i in
    let e59 : c.line59-l59.result ≡ l59 c.args.self.sheet = c.line59-l59.ensures in
    let e60 : c.plus-l60.result ≡ l60 c.args.self.sheet = c.plus-l60.ensures ∙ λ i. c.time-l56.ensures i plus e59 i in
    let e61 : c.less-l61.result ≡ l61 c.args.self.sheet = c.less-l61.ensures ∙ λ i. e55 i less e60 i in
    λ i. record { l54 = e54 i; l55 = e55 i; l56 = c.time-l56.ensures i; l57 = c.time-l57.ensures i; l58 = c.multiplier-l58.ensures i; l59 = e59 i; l60 = e60 i; l61 = e61 i }
