-- `orders::two_numbers` meets its contract: the call, the number and the end of the line. Assumes nothing.
use mathlib.Core.Path.{refl, sym, ◌∙◌}
use Rattle.orders.specs.Orders.{two_at}
use Rattle.orders.proofs.two_numbers.Goals as goal

pub returns-in_err-call : goal.returns-in_err-call
unfolding two_at
returns-in_err-call c =
    rw (c.from_residual.ensures, sym c.number.ensures ∙ c.in_err-call.was) refl

pub returns-in_err-second : goal.returns-in_err-second
unfolding two_at
returns-in_err-second c =
    rw (c.from_residual-in_err-second.ensures, sym c.number.ensures ∙ c.in_ok-call.was, sym c.number-2.ensures ∙ c.in_err-second.was) refl

pub returns-in_err-next : goal.returns-in_err-next
unfolding two_at
returns-in_err-next c =
    rw (c.from_residual-in_err-next.ensures, sym c.number.ensures ∙ c.in_ok-call.was, sym c.number-2.ensures ∙ c.in_ok-second.was, sym c.after.ensures ∙ c.in_err-next.was) refl

pub returns : goal.returns
unfolding two_at
returns c =
    rw (sym c.number.ensures ∙ c.in_ok-call.was, sym c.number-2.ensures ∙ c.in_ok-second.was, sym c.after.ensures ∙ c.in_ok-next.was) refl
