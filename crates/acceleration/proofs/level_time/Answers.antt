-- `acceleration::level_time` meets its contract: what is left of the points gives the level time of all of them. Assumes nothing.
use mathlib.Core.Path.{sym, ◌∙◌}
use native.Mathlib.Omega.{arith}
use borrow.Author.Rules.{rules}
use Rattle.sheet.specs.Zero.{zero_point}
use Rattle.curve.proofs.Points.{none, starts, found, passed, ended}
use Rattle.acceleration.proofs.level_time.Goals as goal

pub returns-in_default : goal.returns-in_default
returns-in_default c =
    (sym (none c.args.points.now c.args.distance c.in_default.ensures.cases), omega arith)

pub loop-q-init : goal.loop-q-init
loop-q-init c =
    starts c.in-Some.field-0-0.now c.in-Some.rest.now c.args.points.now c.args.distance c.in-Some.ensures.cases.0

pub returns-then-distance-from : goal.returns-then-distance-from
returns-then-distance-from c =
    let near = rw c.from.ensures at c.if-distance-from.true in
    (c.between.ensures.0 ∙ sym (c.loop-q.invariant ∙ found c.loop-q.p c.in-Some.rest.now zero_point c.args.distance c.loop-q.q-index c.loop-q-test.true near), c.between.ensures.1)

pub loop-q-preserved : goal.loop-q-preserved
loop-q-preserved c =
    let far = rw c.from.ensures at c.if-distance-from.false in
    c.loop-q.invariant ∙ passed c.loop-q.p c.in-Some.rest.now zero_point c.args.distance c.loop-q.q-index c.loop-q-test.true far

pub returns : goal.returns
returns c =
    (sym (c.loop-q.invariant ∙ ended c.loop-q.p c.in-Some.rest.now zero_point c.args.distance c.loop-q.q-index (omega arith)), search rules)
