-- `digits::number` meets its contract: at each turn the digits left make the same number. Assumes nothing.
use Prim.Native.Nat.{◌≤◌, ◌<◌}
use mathlib.Core.Path.{◌≡◌, sym, ◌∙◌}
use borrow.Author.Rules.{rules}
use native.Mathlib.Omega.{arith}
use lib.ListN.{length, get_or}
use Rattle.figures.specs.Figures.{digit_of}
use Rattle.figures.proofs.Cases.{more_out, more_stop, more_zero, more_long, more_step, number_out, number_bad, number_step}
use Rattle.digits.proofs.Bytes.{worth, small, no_digit}
use Rattle.digits.proofs.number.Goals.{then-value-eq0-via-then-value-eq0, then-value-eq0-via-else-value-eq0+then-value-gt99999}
use Rattle.digits.proofs.number.Goals as goal

pub returns-in_err-first : goal.returns-in_err-first
returns-in_err-first c = rw c.from_residual.ensures (search (rules, number_out))

pub returns-then-not-is_ascii_digit : goal.returns-then-not-is_ascii_digit
returns-then-not-is_ascii_digit c = search (rules, number_bad, no_digit)

pub loop-next-init : goal.loop-next-init
loop-next-init c =
    let s = c.args.s.now in
    let b = get_or s c.args.at 0 in
    let within : c.args.at < length s = search rules in
    let digit : (48 ≤ b) × (b ≤ 57) = search rules in
    let e : c.from-value.result ≡ digit_of b = search (rules, worth) in
    (omega (arith, within), omega (arith, e, small b digit), rw e (sym (number_step s c.args.at within (small b digit))))

pub returns-then-not-is_ascii_digit-2 : goal.returns-then-not-is_ascii_digit-2
returns-then-not-is_ascii_digit-2 c =
    sym (more_stop c.args.s.now c.loop-next.next c.loop-next.value c.loop-next-test.true (no_digit _ c.if-not-is_ascii_digit-2.ensures.cases)) ∙ c.loop-next.invariant.2

pub returns-then-value-eq0 : goal.returns-then-value-eq0
returns-then-value-eq0 c =
    let d = small _ c.if-not-is_ascii_digit-2.ensures.cases in
    elim c.then-value-eq0.branch [
      | then-value-eq0-via-then-value-eq0 w ↦ sym (more_zero c.args.s.now c.loop-next.next c.loop-next.value c.loop-next-test.true d (omega arith)) ∙ c.loop-next.invariant.2
      | then-value-eq0-via-else-value-eq0+then-value-gt99999 w ↦ sym (more_long c.args.s.now c.loop-next.next c.loop-next.value c.loop-next-test.true d (omega arith) (omega arith)) ∙ c.loop-next.invariant.2
    ]

pub loop-next-preserved : goal.loop-next-preserved
loop-next-preserved c =
    let b = get_or c.args.s.now c.loop-next.next 0 in
    let h = c.if-not-is_ascii_digit-2.ensures.cases in
    let e : c.from.result ≡ digit_of b = c.from.ensures ∙ sym (worth b h) in
    let d = small b h in
    (omega arith, omega (arith, e, d), rw e (sym (more_step c.args.s.now c.loop-next.next c.loop-next.value c.loop-next-test.true d (omega arith) (omega arith)) ∙ c.loop-next.invariant.2))

pub returns : goal.returns
returns c =
    let e : c.loop-next.next ≡ length c.args.s.now = omega arith in
    rw (← e) (sym (more_out c.args.s.now c.loop-next.next c.loop-next.value (omega arith)) ∙ c.loop-next.invariant.2)
