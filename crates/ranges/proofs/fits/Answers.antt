-- `ranges::fits` meets its contract: a row that has the number is one of the table. Assumes nothing.
use Prim.Native.Nat.{◌<◌}
use native.Mathlib.Omega.{arith}
use Rattle.rows.specs.Table.{width_of}
use Rattle.ranges.proofs.Ranges.{has_row}
use Rattle.ranges.proofs.fits.Goals as goal

pub in_range-requires : goal.in_range-requires
in_range-requires c =
    let h : c.args.j < width_of c.args.row = omega (arith, c.if-j-width.true, c.width.ensures) in
    (has_row c.args.row c.args.j h, h, c.facts.ensures)
