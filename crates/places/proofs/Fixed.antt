-- The contract of each public function of the crate fixes the reply and asks nothing: it is an equation with a definition. Assumes nothing.
use mathlib.Core.Path.{sym, ◌∙◌, refl}
use Rattle.units.specs.Fixed.{Fixes, AsksNothing}
use Rattle.places.proofs.kind.Kinds as kind_kinds
use Rattle.places.proofs.kind.Reads as kind_reads
use Rattle.places.proofs.place.Kinds as place_kinds
use Rattle.places.proofs.place.Reads as place_reads
use Rattle.places.proofs.width.Kinds as width_kinds
use Rattle.places.proofs.width.Reads as width_reads
use Rattle.places.proofs.present.Kinds as present_kinds
use Rattle.places.proofs.present.Reads as present_reads

pub kind_fixed : Fixes 0 kind_kinds.ps kind_kinds.r kind_reads.Learnt
kind_fixed κs a z z' w w' p q = (p ∙ sym q, refl)

pub kind_open : AsksNothing 0 kind_kinds.ps kind_reads.Asked
kind_open κs a = tt

pub place_fixed : Fixes 0 place_kinds.ps place_kinds.r place_reads.Learnt
place_fixed κs a z z' w w' p q = (p ∙ sym q, refl)

pub place_open : AsksNothing 0 place_kinds.ps place_reads.Asked
place_open κs a = tt

pub width_fixed : Fixes 0 width_kinds.ps width_kinds.r width_reads.Learnt
width_fixed κs a z z' w w' p q = (p ∙ sym q, refl)

pub width_open : AsksNothing 0 width_kinds.ps width_reads.Asked
width_open κs a = tt

pub present_fixed : Fixes 1 present_kinds.ps present_kinds.r present_reads.Learnt
present_fixed κs a z z' w w' p q = (p ∙ sym q, refl)

pub present_open : AsksNothing 1 present_kinds.ps present_reads.Asked
present_open κs a = tt
