-- The contract of each public function of the crate fixes the reply and asks nothing: it is an equation with a definition. Assumes nothing.
use mathlib.Core.Path.{sym, ◌∙◌, refl}
use Rattle.units.specs.Fixed.{Fixes, AsksNothing}
use Rattle.entry_rules.proofs.phase_fault.Kinds as phase_fault_kinds
use Rattle.entry_rules.proofs.phase_fault.Reads as phase_fault_reads
use Rattle.entry_rules.proofs.point_fits.Kinds as point_fits_kinds
use Rattle.entry_rules.proofs.point_fits.Reads as point_fits_reads
use Rattle.entry_rules.proofs.rises.Kinds as rises_kinds
use Rattle.entry_rules.proofs.rises.Reads as rises_reads

pub phase_fault_fixed : Fixes 0 phase_fault_kinds.ps phase_fault_kinds.r phase_fault_reads.Learnt
phase_fault_fixed κs a z z' w w' p q = (p ∙ sym q, refl)

pub phase_fault_open : AsksNothing 0 phase_fault_kinds.ps phase_fault_reads.Asked
phase_fault_open κs a = tt

pub point_fits_fixed : Fixes 0 point_fits_kinds.ps point_fits_kinds.r point_fits_reads.Learnt
point_fits_fixed κs a z z' w w' p q = (p ∙ sym q, refl)

pub point_fits_open : AsksNothing 0 point_fits_kinds.ps point_fits_reads.Asked
point_fits_open κs a = tt

pub rises_fixed : Fixes 1 rises_kinds.ps rises_kinds.r rises_reads.Learnt
rises_fixed κs a z z' w w' p q = (p ∙ sym q, refl)

pub rises_open : AsksNothing 1 rises_kinds.ps rises_reads.Asked
rises_open κs a = tt
