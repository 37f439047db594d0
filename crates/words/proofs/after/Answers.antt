-- `words::after` meets its contract: at each turn the rest of the word decides as the whole word does. Assumes nothing.
use native.Mathlib.Omega.{arith}
use mathlib.Core.Path.{refl, sym, ◌∙◌}
use Rattle.figures.proofs.Cases.{after_end, after_out, after_ne, after_step}
use Rattle.words.proofs.after.Goals as goal

pub returns-in_default : goal.returns-in_default
returns-in_default c =
    let l = c.in-Some.ensures.lookup in
    rw (← c.loop-letter.invariant.1, after_ne c.args.s.now c.args.w.now c.loop-letter.letter-index c.loop-letter.next c.loop-letter-test.true (omega (arith, l)) (λ same. omega (arith, l.3.1 0, same))) refl

pub returns-in_default-2 : goal.returns-in_default-2
returns-in_default-2 c =
    let l = rw c.in_default.is at c.get.ensures.lookup in
    rw (← c.loop-letter.invariant.1, after_out c.args.s.now c.args.w.now c.loop-letter.letter-index c.loop-letter.next c.loop-letter-test.true (omega (arith, l))) refl

pub loop-letter-preserved : goal.loop-letter-preserved
loop-letter-preserved c =
    let l = c.in-Some.ensures.lookup in
    (omega (arith, c.loop-letter.invariant.0), sym (after_step c.args.s.now c.args.w.now c.loop-letter.letter-index c.loop-letter.next c.loop-letter-test.true (omega (arith, l)) (omega (arith, l.3.1 0))) ∙ c.loop-letter.invariant.1)

pub returns : goal.returns
returns c =
    rw (← c.loop-letter.invariant.1, after_end c.args.s.now c.args.w.now c.loop-letter.letter-index c.loop-letter.next c.loop-letter-test.false) refl
