-- `listing::in_order` meets its contract: the numbers in order. Assumes nothing.
use Rattle.lines.specs.Worksheet.{in_order}
use Rattle.listing.proofs.in_order.Goals as goal

pub returns : goal.returns
unfolding in_order
returns c =
    rw (c.from.ensures, c.from-2.ensures)
