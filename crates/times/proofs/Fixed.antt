-- The contract of each public function of the crate fixes the reply and asks nothing: it is an equation with a definition. Assumes nothing.
use mathlib.Core.Path.{sym, ◌∙◌, refl}
use Rattle.units.specs.Fixed.{Fixes, AsksNothing}
use Rattle.times.proofs.add_one.Kinds as add_one_kinds
use Rattle.times.proofs.add_one.Reads as add_one_reads

pub add_one_fixed : Fixes 0 add_one_kinds.ps add_one_kinds.r add_one_reads.Learnt
add_one_fixed κs a z z' w w' p q = (p ∙ sym q, refl)

pub add_one_open : AsksNothing 0 add_one_kinds.ps add_one_reads.Asked
add_one_open κs a = tt
