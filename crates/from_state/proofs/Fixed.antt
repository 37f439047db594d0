-- The contract of each public function of the crate fixes the reply and asks nothing: it is an equation with a definition. Assumes nothing.
use mathlib.Core.Path.{sym, ◌∙◌, refl}
use Rattle.units.specs.Fixed.{Fixes, AsksNothing}
use Rattle.from_state.proofs.stage_of.Kinds as stage_of_kinds
use Rattle.from_state.proofs.stage_of.Reads as stage_of_reads

pub stage_of_fixed : Fixes 0 stage_of_kinds.ps stage_of_kinds.r stage_of_reads.Learnt
stage_of_fixed κs a z z' w w' p q = (p ∙ sym q, refl)

pub stage_of_open : AsksNothing 0 stage_of_kinds.ps stage_of_reads.Asked
stage_of_open κs a = tt
