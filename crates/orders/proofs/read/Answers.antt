-- `orders::read` meets its contract: the lines in the definition's order. Assumes nothing.
use mathlib.Core.Path.{refl, sym, ◌∙◌}
use Rattle.orders.specs.Orders.{order_at, alone_at}
use Rattle.orders.proofs.read.Goals as goal

pub returns-in-Some : goal.returns-in-Some
unfolding order_at
returns-in-Some c =
    rw (sym c.two_numbers.ensures ∙ c.in-Some.is) refl

pub returns-in-Some-two_numbers : goal.returns-in-Some-two_numbers
unfolding order_at
returns-in-Some-two_numbers c =
    rw (sym c.two_numbers.ensures ∙ c.in_default.is, sym c.two_numbers-2.ensures ∙ c.in-Some-two_numbers.is) refl

pub returns-in_default-number : goal.returns-in_default-number
unfolding order_at alone_at
returns-in_default-number c =
    rw (sym c.two_numbers.ensures ∙ c.in_default.is, sym c.two_numbers-2.ensures ∙ c.in_default-two_numbers.is, sym c.number.ensures ∙ c.in_default-number.is) refl

pub returns-in_default-after : goal.returns-in_default-after
unfolding order_at alone_at
returns-in_default-after c =
    rw (sym c.two_numbers.ensures ∙ c.in_default.is, sym c.two_numbers-2.ensures ∙ c.in_default-two_numbers.is, sym c.number.ensures ∙ c.in-Some-number.is, sym c.after.ensures ∙ c.in_default-after.is) refl

pub returns : goal.returns
unfolding order_at alone_at
returns c =
    rw (sym c.two_numbers.ensures ∙ c.in_default.is, sym c.two_numbers-2.ensures ∙ c.in_default-two_numbers.is, sym c.number.ensures ∙ c.in-Some-number.is, sym c.after.ensures ∙ c.in-Some-after.is) refl
