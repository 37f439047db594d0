-- The contract of each public function of the crate fixes the reply and asks nothing: it is an equation with a definition. Assumes nothing.
use mathlib.Core.Path.{sym, ◌∙◌, refl}
use Rattle.units.specs.Fixed.{Fixes, AsksNothing}
use Rattle.row_fault.proofs.row_fault.Kinds as row_fault_kinds
use Rattle.row_fault.proofs.row_fault.Reads as row_fault_reads

pub row_fault_fixed : Fixes 1 row_fault_kinds.ps row_fault_kinds.r row_fault_reads.Learnt
row_fault_fixed κs a z z' w w' p q = (p ∙ sym q, refl)

pub row_fault_open : AsksNothing 1 row_fault_kinds.ps row_fault_reads.Asked
row_fault_open κs a = tt
