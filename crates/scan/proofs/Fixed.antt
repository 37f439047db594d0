-- The contract of each public function of the crate fixes the reply and asks nothing: it is an equation with a definition. Assumes nothing.
use mathlib.Core.Path.{sym, ◌∙◌, refl}
use Rattle.units.specs.Fixed.{Fixes, AsksNothing}
use Rattle.scan.proofs.place.Kinds as place_kinds
use Rattle.scan.proofs.place.Reads as place_reads
use Rattle.scan.proofs.find.Kinds as find_kinds
use Rattle.scan.proofs.find.Reads as find_reads

pub find_fixed : Fixes 1 find_kinds.ps find_kinds.r find_reads.Learnt
find_fixed κs a z z' w w' p q = (p ∙ sym q, refl)

pub find_open : AsksNothing 1 find_kinds.ps find_reads.Asked
find_open κs a = tt

pub place_fixed : Fixes 1 place_kinds.ps place_kinds.r place_reads.Learnt
place_fixed κs a z z' w w' p q = (p ∙ sym q, refl)

pub place_open : AsksNothing 1 place_kinds.ps place_reads.Asked
place_open κs a = tt
