-- The contract of each public function of the crate fixes the reply and asks nothing: it is an equation with a definition. Assumes nothing.
use mathlib.Core.Path.{sym, ◌∙◌, refl}
use Rattle.units.specs.Fixed.{Fixes, AsksNothing}
use Rattle.fitness.proofs.stage_fits.Kinds as stage_fits_kinds
use Rattle.fitness.proofs.stage_fits.Reads as stage_fits_reads

pub stage_fits_fixed : Fixes 0 stage_fits_kinds.ps stage_fits_kinds.r stage_fits_reads.Learnt
stage_fits_fixed κs a z z' w w' p q = (p ∙ sym q, refl)

pub stage_fits_open : AsksNothing 0 stage_fits_kinds.ps stage_fits_reads.Asked
stage_fits_open κs a = tt
