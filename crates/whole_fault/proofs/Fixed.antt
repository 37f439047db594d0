-- The contract of each public function of the crate fixes the reply and asks nothing: it is an equation with a definition. Assumes nothing.
use mathlib.Core.Path.{sym, ◌∙◌, refl}
use Rattle.units.specs.Fixed.{Fixes, AsksNothing}
use Rattle.whole_fault.proofs.whole_fault.Kinds as whole_fault_kinds
use Rattle.whole_fault.proofs.whole_fault.Reads as whole_fault_reads

pub whole_fault_fixed : Fixes 0 whole_fault_kinds.ps whole_fault_kinds.r whole_fault_reads.Learnt
whole_fault_fixed κs a z z' w w' p q = (p ∙ sym q, refl)

pub whole_fault_open : AsksNothing 0 whole_fault_kinds.ps whole_fault_reads.Asked
whole_fault_open κs a = tt
