-- The contract of each public function of the crate fixes the reply and asks nothing: it is an equation with a definition. Assumes nothing.
use mathlib.Core.Path.{sym, ◌∙◌, refl}
use Rattle.units.specs.Fixed.{Fixes, AsksNothing}
use Rattle.graded.proofs.grade_number.Kinds as grade_number_kinds
use Rattle.graded.proofs.grade_number.Reads as grade_number_reads

pub grade_number_fixed : Fixes 0 grade_number_kinds.ps grade_number_kinds.r grade_number_reads.Learnt
grade_number_fixed κs a z z' w w' p q = (p ∙ sym q, refl)

pub grade_number_open : AsksNothing 0 grade_number_kinds.ps grade_number_reads.Asked
grade_number_open κs a = tt
