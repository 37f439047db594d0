-- The contract of each public function of the crate fixes the reply and asks nothing: it is an equation with a definition. Assumes nothing.
use mathlib.Core.Path.{sym, ◌∙◌, refl}
use Rattle.units.specs.Fixed.{Fixes, AsksNothing}
use Rattle.zeros.proofs.zero_phase.Kinds as zero_phase_kinds
use Rattle.zeros.proofs.zero_phase.Reads as zero_phase_reads
use Rattle.zeros.proofs.zero_point.Kinds as zero_point_kinds
use Rattle.zeros.proofs.zero_point.Reads as zero_point_reads
use Rattle.zeros.proofs.zero_sheet.Kinds as zero_sheet_kinds
use Rattle.zeros.proofs.zero_sheet.Reads as zero_sheet_reads

pub zero_phase_fixed : Fixes 0 zero_phase_kinds.ps zero_phase_kinds.r zero_phase_reads.Learnt
zero_phase_fixed κs a z z' w w' p q = (p ∙ sym q, refl)

pub zero_phase_open : AsksNothing 0 zero_phase_kinds.ps zero_phase_reads.Asked
zero_phase_open κs a = tt

pub zero_point_fixed : Fixes 0 zero_point_kinds.ps zero_point_kinds.r zero_point_reads.Learnt
zero_point_fixed κs a z z' w w' p q = (p ∙ sym q, refl)

pub zero_point_open : AsksNothing 0 zero_point_kinds.ps zero_point_reads.Asked
zero_point_open κs a = tt

pub zero_sheet_fixed : Fixes 0 zero_sheet_kinds.ps zero_sheet_kinds.r zero_sheet_reads.Learnt
zero_sheet_fixed κs a z z' w w' p q = (p ∙ sym q, refl)

pub zero_sheet_open : AsksNothing 0 zero_sheet_kinds.ps zero_sheet_reads.Asked
zero_sheet_open κs a = tt
