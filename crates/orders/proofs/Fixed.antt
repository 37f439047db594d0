-- The contract of each public function of the crate fixes the reply and asks nothing: it is an equation with a definition. Assumes nothing.
use mathlib.Core.Path.{sym, ◌∙◌, refl}
use Rattle.units.specs.Fixed.{Fixes, AsksNothing}
use Rattle.orders.proofs.read.Kinds as read_kinds
use Rattle.orders.proofs.read.Reads as read_reads

pub read_fixed : Fixes 1 read_kinds.ps read_kinds.r read_reads.Learnt
read_fixed κs a z z' w w' p q = (p ∙ sym q, refl)

pub read_open : AsksNothing 1 read_kinds.ps read_reads.Asked
read_open κs a = tt
