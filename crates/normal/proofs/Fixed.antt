-- The contract of each public function of the crate fixes the reply and asks nothing: it is an equation with a definition. Assumes nothing.
use mathlib.Core.Path.{sym, ◌∙◌, refl}
use Rattle.units.specs.Fixed.{Fixes, AsksNothing}
use Rattle.normal.proofs.in_normal.Kinds as in_normal_kinds
use Rattle.normal.proofs.in_normal.Reads as in_normal_reads
use Rattle.normal.proofs.resting.Kinds as resting_kinds
use Rattle.normal.proofs.resting.Reads as resting_reads

pub in_normal_fixed : Fixes 0 in_normal_kinds.ps in_normal_kinds.r in_normal_reads.Learnt
in_normal_fixed κs a z z' w w' p q = (p ∙ sym q, refl)

pub in_normal_open : AsksNothing 0 in_normal_kinds.ps in_normal_reads.Asked
in_normal_open κs a = tt

pub resting_fixed : Fixes 0 resting_kinds.ps resting_kinds.r resting_reads.Learnt
resting_fixed κs a z z' w w' p q = (p ∙ sym q, refl)

pub resting_open : AsksNothing 0 resting_kinds.ps resting_reads.Asked
resting_open κs a = tt
