-- The contract of each public function of the crate fixes the reply and asks nothing: it is an equation with a definition. Assumes nothing.
use mathlib.Core.Path.{sym, ◌∙◌, refl}
use Rattle.units.specs.Fixed.{Fixes, AsksNothing}
use Rattle.fitting.proofs.fits.Kinds as fits_kinds
use Rattle.fitting.proofs.fits.Reads as fits_reads

pub fits_fixed : Fixes 0 fits_kinds.ps fits_kinds.r fits_reads.Learnt
fits_fixed κs a z z' w w' p q = (p ∙ sym q, refl)

pub fits_open : AsksNothing 0 fits_kinds.ps fits_reads.Asked
fits_open κs a = tt
