-- `digits::signed` meets its contract: by the minus, then by the number. Assumes nothing.
use native.Mathlib.Omega.{arith}
use mathlib.Core.Path.{refl, sym, ◌∙◌}
use borrow.Author.Tests.{le-ltb, lt-ltb}
use Rattle.units.specs.Numbers.{pick}
use Rattle.figures.specs.Figures.{signed_at}
use Rattle.figures.proofs.Small.{number_small}
use Rattle.digits.proofs.signed.Goals as goal

pub overflow_add-result : goal.overflow_add-result
overflow_add-result c =
    omega (arith, number_small _ _ _ _ (sym c.number.ensures ∙ c.in_ok-plain.was))

pub overflow_sub-result : goal.overflow_sub-result
overflow_sub-result c =
    omega (arith, number_small _ _ _ _ (sym c.number-2.ensures ∙ c.in_ok-below.was))

pub returns-in_err-plain : goal.returns-in_err-plain
unfolding signed_at
returns-in_err-plain c =
    rw (c.from_residual.ensures, sym c.after.ensures ∙ c.in_default.is, sym c.number.ensures ∙ c.in_err-plain.was) refl

pub returns-in_default : goal.returns-in_default
unfolding signed_at
returns-in_default c =
    rw (sym c.after.ensures ∙ c.in_default.is, sym c.number.ensures ∙ c.in_ok-plain.was) refl

pub returns-in_err-below : goal.returns-in_err-below
unfolding signed_at
returns-in_err-below c =
    rw (c.from_residual-in_err-below.ensures, sym c.after.ensures ∙ c.in-Some.is, sym c.number-2.ensures ∙ c.in_err-below.was) refl

pub returns-then-below-eq0 : goal.returns-then-below-eq0
unfolding signed_at pick
returns-then-below-eq0 c =
    rw (sym c.after.ensures ∙ c.in-Some.is, sym c.number-2.ensures ∙ c.in_ok-below.was, lt-ltb c.in_ok-below.below.value 1 (omega arith)) refl

pub returns : goal.returns
unfolding signed_at pick
returns c =
    rw (sym c.after.ensures ∙ c.in-Some.is, sym c.number-2.ensures ∙ c.in_ok-below.was, le-ltb c.in_ok-below.below.value 1 (omega arith)) refl
