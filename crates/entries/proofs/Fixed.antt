-- The contract of each public function of the crate fixes the reply and asks nothing: it is an equation with a definition. Assumes nothing.
use mathlib.Core.Path.{sym, ◌∙◌, refl}
use Rattle.units.specs.Fixed.{Fixes, AsksNothing}
use Rattle.entries.proofs.phase_at.Kinds as phase_at_kinds
use Rattle.entries.proofs.phase_at.Reads as phase_at_reads
use Rattle.entries.proofs.list_at.Kinds as list_at_kinds
use Rattle.entries.proofs.list_at.Reads as list_at_reads
use Rattle.entries.proofs.point_at.Kinds as point_at_kinds
use Rattle.entries.proofs.point_at.Reads as point_at_reads

pub phase_at_fixed : Fixes 1 phase_at_kinds.ps phase_at_kinds.r phase_at_reads.Learnt
phase_at_fixed κs a z z' w w' p q = (p ∙ sym q, refl)

pub phase_at_open : AsksNothing 1 phase_at_kinds.ps phase_at_reads.Asked
phase_at_open κs a = tt

pub point_at_fixed : Fixes 1 point_at_kinds.ps point_at_kinds.r point_at_reads.Learnt
point_at_fixed κs a z z' w w' p q = (p ∙ sym q, refl)

pub point_at_open : AsksNothing 1 point_at_kinds.ps point_at_reads.Asked
point_at_open κs a = tt

pub list_at_fixed : Fixes 1 list_at_kinds.ps list_at_kinds.r list_at_reads.Learnt
list_at_fixed κs a z z' w w' p q = (p ∙ sym q, refl)

pub list_at_open : AsksNothing 1 list_at_kinds.ps list_at_reads.Asked
list_at_open κs a = tt
