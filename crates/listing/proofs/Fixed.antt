-- The contract of each public function of the crate fixes the reply and asks nothing: it is an equation with a definition. Assumes nothing.
use mathlib.Core.Path.{sym, ◌∙◌, refl}
use Rattle.units.specs.Fixed.{Fixes, AsksNothing}
use Rattle.listing.proofs.in_order.Kinds as in_order_kinds
use Rattle.listing.proofs.in_order.Reads as in_order_reads

pub in_order_fixed : Fixes 0 in_order_kinds.ps in_order_kinds.r in_order_reads.Learnt
in_order_fixed κs a z z' w w' p q = (p ∙ sym q, refl)

pub in_order_open : AsksNothing 0 in_order_kinds.ps in_order_reads.Asked
in_order_open κs a = tt
