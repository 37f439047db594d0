-- The contract of each public function of the crate fixes the reply and asks nothing: it is an equation with a definition. Assumes nothing.
use mathlib.Core.Path.{sym, ◌∙◌, refl}
use Rattle.units.specs.Fixed.{Fixes, AsksNothing}
use Rattle.far_time.proofs.far.Kinds as far_kinds
use Rattle.far_time.proofs.far.Reads as far_reads

pub far_fixed : Fixes 0 far_kinds.ps far_kinds.r far_reads.Learnt
far_fixed κs a z z' w w' p q = (p ∙ sym q, refl)

pub far_open : AsksNothing 0 far_kinds.ps far_reads.Asked
far_open κs a = tt
