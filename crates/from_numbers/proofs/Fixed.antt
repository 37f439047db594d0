-- The contract of each public function of the crate fixes the reply and asks nothing: it is an equation with a definition. Assumes nothing.
use mathlib.Core.Path.{sym, ◌∙◌, refl}
use Rattle.units.specs.Fixed.{Fixes, AsksNothing}
use Rattle.from_numbers.proofs.sheet_of.Kinds as sheet_of_kinds
use Rattle.from_numbers.proofs.sheet_of.Reads as sheet_of_reads

pub sheet_of_fixed : Fixes 1 sheet_of_kinds.ps sheet_of_kinds.r sheet_of_reads.Learnt
sheet_of_fixed κs a z z' w w' p q = (p ∙ sym q, refl)

pub sheet_of_open : AsksNothing 1 sheet_of_kinds.ps sheet_of_reads.Asked
sheet_of_open κs a = tt
