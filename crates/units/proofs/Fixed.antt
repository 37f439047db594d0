-- The contract of each public function of the crate fixes the reply and asks nothing: it is an equation with a definition. Assumes nothing.
use mathlib.Core.Path.{sym, ◌∙◌, refl}
use Rattle.units.specs.Fixed.{Fixes, AsksNothing}
use Rattle.units.proofs.div_up.Kinds as div_up_kinds
use Rattle.units.proofs.div_up.Reads as div_up_reads

pub div_up_fixed : Fixes 0 div_up_kinds.ps div_up_kinds.r div_up_reads.Learnt
div_up_fixed κs a z z' w w' p q = (p ∙ sym q, refl)

pub div_up_open : AsksNothing 0 div_up_kinds.ps div_up_reads.Asked
div_up_open κs a = tt
