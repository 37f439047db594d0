-- `form::sections::Accepted::green_lines` meets its contract: each line by its rule, each sum small. Assumes nothing.
use borrow.Author.Rules.{rules}
use mathlib.Core.Path.{◌≡◌, ◌∙◌}
use native.Mathlib.Omega.{arith}
use Rattle.units.specs.Numbers.{tenths}
use mir.Syntax.{w16}
use mir.Val.{SFits}
use mir.Facts.{to_z-of_z}
use Rattle.faults.proofs.Sound.{sound}
use Rattle.rules.specs.Rules.{line51}
use Rattle.lines.specs.Sums.{◌plus◌, ◌along◌}
use Rattle.lines.specs.Lines.{l22, l23, l25, l44, l45, l46, l47, l48, l49, l50, l51, acceleration}
use Rattle.lines.specs.Sections.{green_lines}
use Rattle.lines.proofs.Bounds.{bounds, small_time, small_feet}
use Rattle.form.proofs.sections.Accepted.green_lines.Goals as goal

pub along-l48-requires : goal.along-l48-requires
along-l48-requires c =
    let s = c.args.self.sheet in
    let h = sound s c.args.self.accepted in
    let b = bounds s c.args.self.accepted in
    (small_feet _ (l23 s) 550 c.requires.1 b.l23 (omega arith), small_feet _ (l47 s) 1000 c.distance-l47.ensures h.l47 (omega arith))

pub plus-l50-requires : goal.plus-l50-requires
unfolding l48 l46 l49
plus-l50-requires c =
    let e48 : c.along-l48.result ≡ l48 c.args.self.sheet = c.along-l48.ensures ∙ λ i. c.requires.1 i along c.distance-l47.ensures i in
    let e49 : c.acceleration-l49.result ≡ l49 c.args.self.sheet = let s = c.args.self.sheet in
    let f : SFits w16 s.grade2 = search rules in
    c.acceleration-l49.ensures ∙ λ i. acceleration s (to_z-of_z f i) (e48 i) in
    let s = c.args.self.sheet in
    let h = sound s c.args.self.accepted in
    let b = bounds s c.args.self.accepted in
    (small_time _ (l22 s) 720 c.requires.0 b.l22 (omega arith), small_time _ (l49 s) 19998 e49 b.l49 (omega arith))

pub number-requires : goal.number-requires
number-requires c =
    let s = c.args.self.sheet in
    let b = bounds s c.args.self.accepted in
    small_time _ (l44 s) 10980 c.requires.3 b.l44 (omega arith)

pub number-requires-2 : goal.number-requires-2
unfolding l48 l46 l49 l50 l45
number-requires-2 c =
    let e48 : c.along-l48.result ≡ l48 c.args.self.sheet = c.along-l48.ensures ∙ λ i. c.requires.1 i along c.distance-l47.ensures i in
    let e49 : c.acceleration-l49.result ≡ l49 c.args.self.sheet = let s = c.args.self.sheet in
    let f : SFits w16 s.grade2 = search rules in
    c.acceleration-l49.ensures ∙ λ i. acceleration s (to_z-of_z f i) (e48 i) in
    let e50 : c.plus-l50.result ≡ l50 c.args.self.sheet = c.plus-l50.ensures ∙ λ i. c.requires.0 i plus e49 i in
    let s = c.args.self.sheet in
    let b = bounds s c.args.self.accepted in
    small_time _ (l50 s) 20718 e50 b.l50 (omega arith)

pub number-requires-3 : goal.number-requires-3
number-requires-3 c =
    let s = c.args.self.sheet in
    let b = bounds s c.args.self.accepted in
    small_time _ (l25 s) 20718 c.requires.2 b.l25 (omega arith)

pub returns : goal.returns
unfolding green_lines l48 l46 l49 l50 l45 l51
returns c =
    let e48 : c.along-l48.result ≡ l48 c.args.self.sheet = c.along-l48.ensures ∙ λ i. c.requires.1 i along c.distance-l47.ensures i in
    let e49 : c.acceleration-l49.result ≡ l49 c.args.self.sheet = let s = c.args.self.sheet in
    let f : SFits w16 s.grade2 = search rules in
    c.acceleration-l49.ensures ∙ λ i. acceleration s (to_z-of_z f i) (e48 i) in
    let e50 : c.plus-l50.result ≡ l50 c.args.self.sheet = c.plus-l50.ensures ∙ λ i. c.requires.0 i plus e49 i in
    let n44 : tenths c.number.result ≡ l44 c.args.self.sheet = c.number.ensures ∙ c.requires.3 in
    let n50 : tenths c.number-2.result ≡ l50 c.args.self.sheet = c.number-2.ensures ∙ e50 in
    let n25 : tenths c.number-3.result ≡ l25 c.args.self.sheet = c.number-3.ensures ∙ c.requires.2 in
    let e51 : c.line51-l51.result ≡ l51 c.args.self.sheet = c.line51-l51.ensures ∙ λ i. line51 (n44 i) (n50 i) (n25 i) in
    λ i. record { l47 = c.distance-l47.ensures i; l48 = e48 i; l49 = e49 i; l50 = e50 i; l51 = e51 i }
