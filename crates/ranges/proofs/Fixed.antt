-- The contract of each public function of the crate fixes the reply and asks nothing: it is an equation with a definition. Assumes nothing.
use mathlib.Core.Path.{sym, ◌∙◌, refl}
use Rattle.units.specs.Fixed.{Fixes, AsksNothing}
use Rattle.ranges.proofs.in_ranges.Kinds as in_ranges_kinds
use Rattle.ranges.proofs.in_ranges.Reads as in_ranges_reads
use Rattle.ranges.proofs.fits.Kinds as fits_kinds
use Rattle.ranges.proofs.fits.Reads as fits_reads
use Rattle.ranges.proofs.row_fits.Kinds as row_fits_kinds
use Rattle.ranges.proofs.row_fits.Reads as row_fits_reads

pub in_ranges_fixed : Fixes 1 in_ranges_kinds.ps in_ranges_kinds.r in_ranges_reads.Learnt
in_ranges_fixed κs a z z' w w' p q = (p ∙ sym q, refl)

pub in_ranges_open : AsksNothing 1 in_ranges_kinds.ps in_ranges_reads.Asked
in_ranges_open κs a = tt

pub fits_fixed : Fixes 0 fits_kinds.ps fits_kinds.r fits_reads.Learnt
fits_fixed κs a z z' w w' p q = (p ∙ sym q, refl)

pub fits_open : AsksNothing 0 fits_kinds.ps fits_reads.Asked
fits_open κs a = tt

pub row_fits_fixed : Fixes 1 row_fits_kinds.ps row_fits_kinds.r row_fits_reads.Learnt
row_fits_fixed κs a z z' w w' p q = (p ∙ sym q, refl)

pub row_fits_open : AsksNothing 1 row_fits_kinds.ps row_fits_reads.Asked
row_fits_open κs a = tt
