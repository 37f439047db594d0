-- The contract of each public function of the crate fixes the reply and asks nothing: it is an equation with a definition. Assumes nothing.
use mathlib.Core.Path.{sym, ◌∙◌, refl}
use Rattle.units.specs.Fixed.{Fixes, AsksNothing}
use Rattle.phase_lines.proofs.phases_fault.Kinds as phases_fault_kinds
use Rattle.phase_lines.proofs.phases_fault.Reads as phases_fault_reads

pub phases_fault_fixed : Fixes 0 phases_fault_kinds.ps phases_fault_kinds.r phases_fault_reads.Learnt
phases_fault_fixed κs a z z' w w' p q = (p ∙ sym q, refl)

pub phases_fault_open : AsksNothing 0 phases_fault_kinds.ps phases_fault_reads.Asked
phases_fault_open κs a = tt
