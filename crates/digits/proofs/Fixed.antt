-- The contract of each public function of the crate fixes the reply and asks nothing: it is an equation with a definition. Assumes nothing.
use mathlib.Core.Path.{sym, ◌∙◌, refl}
use Rattle.units.specs.Fixed.{Fixes, AsksNothing}
use Rattle.digits.proofs.number.Kinds as number_kinds
use Rattle.digits.proofs.number.Reads as number_reads
use Rattle.digits.proofs.signed.Kinds as signed_kinds
use Rattle.digits.proofs.signed.Reads as signed_Reads

pub number_fixed : Fixes 1 number_kinds.ps number_kinds.r number_reads.Learnt
number_fixed κs a z z' w w' p q = (p ∙ sym q, refl)

pub number_open : AsksNothing 1 number_kinds.ps number_reads.Asked
number_open κs a = tt

pub signed_fixed : Fixes 1 signed_kinds.ps signed_kinds.r signed_Reads.Learnt
signed_fixed κs a z z' w w' p q = (p ∙ sym q, refl)

pub signed_open : AsksNothing 1 signed_kinds.ps signed_Reads.Asked
signed_open κs a = tt
