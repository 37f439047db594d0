-- The contract of each public function of the crate fixes the reply and asks nothing: it is an equation with a definition. Assumes nothing.
use mathlib.Core.Path.{sym, ◌∙◌, refl}
use Rattle.units.specs.Fixed.{Fixes, AsksNothing}
use Rattle.numbering.proofs.number.Kinds as number_kinds
use Rattle.numbering.proofs.number.Reads as number_reads
use Rattle.numbering.proofs.answer_number.Kinds as answer_number_kinds
use Rattle.numbering.proofs.answer_number.Reads as answer_number_reads
use Rattle.numbering.proofs.answer_line.Kinds as answer_line_kinds
use Rattle.numbering.proofs.answer_line.Reads as answer_line_reads
use Rattle.numbering.proofs.code.Kinds as code_kinds
use Rattle.numbering.proofs.code.Reads as code_Reads

pub number_fixed : Fixes 0 number_kinds.ps number_kinds.r number_reads.Learnt
number_fixed κs a z z' w w' p q = (p ∙ sym q, refl)

pub number_open : AsksNothing 0 number_kinds.ps number_reads.Asked
number_open κs a = tt

pub answer_number_fixed : Fixes 0 answer_number_kinds.ps answer_number_kinds.r answer_number_reads.Learnt
answer_number_fixed κs a z z' w w' p q = (p ∙ sym q, refl)

pub answer_number_open : AsksNothing 0 answer_number_kinds.ps answer_number_reads.Asked
answer_number_open κs a = tt

pub answer_line_fixed : Fixes 0 answer_line_kinds.ps answer_line_kinds.r answer_line_reads.Learnt
answer_line_fixed κs a z z' w w' p q = (p ∙ sym q, refl)

pub answer_line_open : AsksNothing 0 answer_line_kinds.ps answer_line_reads.Asked
answer_line_open κs a = tt

pub code_fixed : Fixes 0 code_kinds.ps code_kinds.r code_Reads.Learnt
code_fixed κs a z z' w w' p q = (p ∙ sym q, refl)

pub code_open : AsksNothing 0 code_kinds.ps code_Reads.Asked
code_open κs a = tt
