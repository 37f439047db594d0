-- The contract of each public function of the crate fixes the reply and asks nothing: it is an equation with a definition. Assumes nothing.
use mathlib.Core.Path.{sym, ◌∙◌, refl}
use Rattle.units.specs.Fixed.{Fixes, AsksNothing}
use Rattle.dwell_line.proofs.dwell_fault.Kinds as dwell_fault_kinds
use Rattle.dwell_line.proofs.dwell_fault.Reads as dwell_fault_reads

pub dwell_fault_fixed : Fixes 1 dwell_fault_kinds.ps dwell_fault_kinds.r dwell_fault_reads.Learnt
dwell_fault_fixed κs a z z' w w' p q = (p ∙ sym q, refl)

pub dwell_fault_open : AsksNothing 1 dwell_fault_kinds.ps dwell_fault_reads.Asked
dwell_fault_open κs a = tt
