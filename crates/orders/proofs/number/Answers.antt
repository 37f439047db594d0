-- `orders::number` meets its contract: found or not, then the least, then the most. Assumes nothing.
use mathlib.Core.Path.{refl, sym, ◌∙◌}
use borrow.Author.Tests.{le-leb, lt-leb}
use Rattle.units.specs.Numbers.{pick}
use Rattle.orders.specs.Orders.{value_at}
use Rattle.orders.proofs.number.Goals.{then-figure-least-via-then-figure-least, then-figure-least-via-else-figure-least+then-most-figure}
use Rattle.orders.proofs.number.Goals as goal

pub returns-in_err-start : goal.returns-in_err-start
unfolding value_at
returns-in_err-start c =
    rw (c.from_residual.ensures, sym c.after.ensures ∙ c.in_err-start.was) refl

pub returns-in_err-figure : goal.returns-in_err-figure
unfolding value_at
returns-in_err-figure c =
    rw (c.from_residual-in_err-figure.ensures, sym c.after.ensures ∙ c.in_ok-start.was, sym c.number.ensures ∙ c.in_err-figure.was) refl

pub returns-then-figure-least : goal.returns-then-figure-least
unfolding value_at pick
returns-then-figure-least c =
    let found = sym c.number.ensures ∙ c.in_ok-figure.was in
    elim c.then-figure-least.branch [
      | then-figure-least-via-then-figure-least w ↦
          rw (sym c.after.ensures ∙ c.in_ok-start.was, found, lt-leb _ _ w.if-figure-least.true) refl
      | then-figure-least-via-else-figure-least+then-most-figure w ↦
          rw (sym c.after.ensures ∙ c.in_ok-start.was, found, le-leb _ _ w.if-figure-least.false, lt-leb _ _ w.if-most-figure.true) refl
    ]

pub returns : goal.returns
unfolding value_at pick
returns c =
    rw (sym c.after.ensures ∙ c.in_ok-start.was, sym c.number.ensures ∙ c.in_ok-figure.was, le-leb _ _ c.if-figure-least.false, le-leb _ _ c.if-most-figure.false) refl
