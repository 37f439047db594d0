-- The contract of each public function of the crate fixes the reply and asks nothing: it is an equation with a definition. Assumes nothing.
use mathlib.Core.Path.{sym, ◌∙◌, refl}
use Rattle.units.specs.Fixed.{Fixes, AsksNothing}
use Rattle.ending.proofs.settle_phase.Kinds as settle_phase_kinds
use Rattle.ending.proofs.settle_phase.Reads as settle_phase_reads

pub settle_phase_fixed : Fixes 0 settle_phase_kinds.ps settle_phase_kinds.r settle_phase_reads.Learnt
settle_phase_fixed κs a z z' w w' p q = (p ∙ sym q, refl)

pub settle_phase_open : AsksNothing 0 settle_phase_kinds.ps settle_phase_reads.Asked
settle_phase_open κs a = tt
