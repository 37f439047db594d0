-- The contract of each public function of the crate fixes the reply and asks nothing: it is an equation with a definition. Assumes nothing.
use mathlib.Core.Path.{sym, ◌∙◌, refl}
use Rattle.units.specs.Fixed.{Fixes, AsksNothing}
use Rattle.to_state.proofs.numbers_of.Kinds as numbers_of_kinds
use Rattle.to_state.proofs.numbers_of.Reads as numbers_of_reads

pub numbers_of_fixed : Fixes 0 numbers_of_kinds.ps numbers_of_kinds.r numbers_of_reads.Learnt
numbers_of_fixed κs a z z' w w' p q = (p ∙ sym q, refl)

pub numbers_of_open : AsksNothing 0 numbers_of_kinds.ps numbers_of_reads.Asked
numbers_of_open κs a = tt
