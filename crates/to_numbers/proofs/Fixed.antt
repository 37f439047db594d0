-- The contract of each public function of the crate fixes the reply and asks nothing: it is an equation with a definition. Assumes nothing.
use mathlib.Core.Path.{sym, ◌∙◌, refl}
use Rattle.units.specs.Fixed.{Fixes, AsksNothing}
use Rattle.to_numbers.proofs.flat.Kinds as flat_kinds
use Rattle.to_numbers.proofs.flat.Reads as flat_reads

pub flat_fixed : Fixes 0 flat_kinds.ps flat_kinds.r flat_reads.Learnt
flat_fixed κs a z z' w w' p q = (p ∙ sym q, refl)

pub flat_open : AsksNothing 0 flat_kinds.ps flat_reads.Asked
flat_open κs a = tt
