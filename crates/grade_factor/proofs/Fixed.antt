-- The contract of each public function of the crate fixes the reply and asks nothing: it is an equation with a definition. Assumes nothing.
use mathlib.Core.Path.{sym, ◌∙◌, refl}
use Rattle.units.specs.Fixed.{Fixes, AsksNothing}
use Rattle.grade_factor.proofs.factor.Kinds as factor_kinds
use Rattle.grade_factor.proofs.factor.Reads as factor_reads

pub factor_fixed : Fixes 0 factor_kinds.ps factor_kinds.r factor_reads.Learnt
factor_fixed κs a z z' w w' p q = (p ∙ sym q, refl)

pub factor_open : AsksNothing 0 factor_kinds.ps factor_reads.Asked
factor_open κs a = tt
