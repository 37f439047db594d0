-- The contract of each public function of the crate fixes the reply and asks nothing: it is an equation with a definition. Assumes nothing.
use mathlib.Core.Path.{sym, ◌∙◌, refl}
use Rattle.units.specs.Fixed.{Fixes, AsksNothing}
use Rattle.passing.proofs.pass.Kinds as pass_kinds
use Rattle.passing.proofs.pass.Reads as pass_reads

pub pass_fixed : Fixes 0 pass_kinds.ps pass_kinds.r pass_reads.Learnt
pass_fixed κs a z z' w w' p q = (p ∙ sym q, refl)

pub pass_open : AsksNothing 0 pass_kinds.ps pass_reads.Asked
pass_open κs a = tt
