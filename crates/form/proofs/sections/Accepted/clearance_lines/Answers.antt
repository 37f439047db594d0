-- `form::sections::Accepted::clearance_lines` meets its contract: each line by its rule, each sum small. Assumes nothing.
use borrow.Author.Rules.{rules}
use mathlib.Core.Path.{◌≡◌, ◌∙◌}
use native.Mathlib.Omega.{arith}
use mir.Syntax.{w16}
use mir.Val.{SFits}
use mir.Facts.{to_z-of_z}
use Rattle.faults.proofs.Sound.{sound}
use Rattle.rules.specs.Rules.{line22}
use Rattle.lines.specs.Sums.{◌plus◌, ◌along◌}
use Rattle.lines.specs.Lines.{l18, l19, l20, l21, l22, l23, l24, l25, acceleration}
use Rattle.lines.specs.Sections.{clearance_lines}
use Rattle.lines.proofs.Bounds.{bounds, small_time, small_feet}
use Rattle.form.proofs.sections.Accepted.clearance_lines.Goals as goal

pub along-l21-requires : goal.along-l21-requires
along-l21-requires c =
    let s = c.args.self.sheet in
    let h = sound s c.args.self.accepted in
    let b = bounds s c.args.self.accepted in
    (small_feet _ (l18 s) 1000 c.distance-l18.ensures h.l18 (omega arith), small_feet _ (l19 s) 400 c.distance-l19.ensures h.l19.high (omega arith))

pub along-l23-requires : goal.along-l23-requires
along-l23-requires c =
    let s = c.args.self.sheet in
    let h = sound s c.args.self.accepted in
    let b = bounds s c.args.self.accepted in
    (small_feet _ (l19 s) 400 c.distance-l19.ensures h.l19.high (omega arith), small_feet _ (l20 s) 150 c.distance-l20.ensures h.l20.high (omega arith))

pub plus-l25-requires : goal.plus-l25-requires
unfolding l21 l22 l23 l24
plus-l25-requires c =
    let e21 : c.along-l21.result ≡ l21 c.args.self.sheet = c.along-l21.ensures ∙ λ i. c.distance-l18.ensures i along c.distance-l19.ensures i in
    let e22 : c.line22-l22.result ≡ l22 c.args.self.sheet = c.line22-l22.ensures ∙ λ i. line22 (e21 i) in
    let e23 : c.along-l23.result ≡ l23 c.args.self.sheet = c.along-l23.ensures ∙ λ i. c.distance-l19.ensures i along c.distance-l20.ensures i in
    let e24 : c.acceleration-l24.result ≡ l24 c.args.self.sheet = let s = c.args.self.sheet in
    let f : SFits w16 s.grade = search rules in
    c.acceleration-l24.ensures ∙ λ i. acceleration s (to_z-of_z f i) (e23 i) in
    let s = c.args.self.sheet in
    let h = sound s c.args.self.accepted in
    let b = bounds s c.args.self.accepted in
    (small_time _ (l22 s) 720 e22 b.l22 (omega arith), small_time _ (l24 s) 19998 e24 b.l24 (omega arith))

pub returns : goal.returns
unfolding clearance_lines l21 l22 l23 l24 l25
returns c =
    let e21 : c.along-l21.result ≡ l21 c.args.self.sheet = c.along-l21.ensures ∙ λ i. c.distance-l18.ensures i along c.distance-l19.ensures i in
    let e22 : c.line22-l22.result ≡ l22 c.args.self.sheet = c.line22-l22.ensures ∙ λ i. line22 (e21 i) in
    let e23 : c.along-l23.result ≡ l23 c.args.self.sheet = c.along-l23.ensures ∙ λ i. c.distance-l19.ensures i along c.distance-l20.ensures i in
    let e24 : c.acceleration-l24.result ≡ l24 c.args.self.sheet = let s = c.args.self.sheet in
    let f : SFits w16 s.grade = search rules in
    c.acceleration-l24.ensures ∙ λ i. acceleration s (to_z-of_z f i) (e23 i) in
    let e25 : c.plus-l25.result ≡ l25 c.args.self.sheet = c.plus-l25.ensures ∙ λ i. e22 i plus e24 i in
    λ i. record { l18 = c.distance-l18.ensures i; l19 = c.distance-l19.ensures i; l20 = c.distance-l20.ensures i; l21 = e21 i; l22 = e22 i; l23 = e23 i; l24 = e24 i; l25 = e25 i }
