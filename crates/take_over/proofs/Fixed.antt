-- The contract of each public function of the crate fixes the reply and asks nothing: it is an equation with a definition. Assumes nothing.
use mathlib.Core.Path.{sym, ◌∙◌, refl}
use Rattle.units.specs.Fixed.{Fixes, AsksNothing}
use Rattle.take_over.proofs.take_over.Kinds as take_over_kinds
use Rattle.take_over.proofs.take_over.Reads as take_over_reads

pub take_over_fixed : Fixes 0 take_over_kinds.ps take_over_kinds.r take_over_reads.Learnt
take_over_fixed κs a z z' w w' p q = (p ∙ sym q, refl)

pub take_over_open : AsksNothing 0 take_over_kinds.ps take_over_reads.Asked
take_over_open κs a = tt
