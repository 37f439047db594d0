-- The contract of each public function of the crate fixes the reply and asks nothing: it is an equation with a definition. Assumes nothing.
use mathlib.Core.Path.{sym, ◌∙◌, refl}
use Rattle.units.specs.Fixed.{Fixes, AsksNothing}
use Rattle.right_of_way.proofs.worst.Kinds as worst_kinds
use Rattle.right_of_way.proofs.worst.Reads as worst_reads
use Rattle.right_of_way.proofs.line16.Kinds as line16_kinds
use Rattle.right_of_way.proofs.line16.Reads as line16_reads
use Rattle.right_of_way.proofs.track_fits.Kinds as track_fits_kinds
use Rattle.right_of_way.proofs.track_fits.Reads as track_fits_reads

pub worst_fixed : Fixes 1 worst_kinds.ps worst_kinds.r worst_reads.Learnt
worst_fixed κs a z z' w w' p q = (p ∙ sym q, refl)

pub worst_open : AsksNothing 1 worst_kinds.ps worst_reads.Asked
worst_open κs a = tt

pub line16_fixed : Fixes 1 line16_kinds.ps line16_kinds.r line16_reads.Learnt
line16_fixed κs a z z' w w' p q = (p ∙ sym q, refl)

pub line16_open : AsksNothing 1 line16_kinds.ps line16_reads.Asked
line16_open κs a = tt

pub track_fits_fixed : Fixes 1 track_fits_kinds.ps track_fits_kinds.r track_fits_reads.Learnt
track_fits_fixed κs a z z' w w' p q = (p ∙ sym q, refl)

pub track_fits_open : AsksNothing 1 track_fits_kinds.ps track_fits_reads.Asked
track_fits_open κs a = tt
