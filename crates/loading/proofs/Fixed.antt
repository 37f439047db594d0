-- The contract of each public function of the crate fixes the reply and asks nothing: it is an equation with a definition. Assumes nothing.
use mathlib.Core.Path.{sym, ◌∙◌, refl}
use Rattle.units.specs.Fixed.{Fixes, AsksNothing}
use Rattle.loading.proofs.place_answer.Kinds as place_answer_kinds
use Rattle.loading.proofs.place_answer.Reads as place_answer_reads
use Rattle.loading.proofs.load_answer.Kinds as load_answer_kinds
use Rattle.loading.proofs.load_answer.Reads as load_answer_reads

pub place_answer_fixed : Fixes 0 place_answer_kinds.ps place_answer_kinds.r place_answer_reads.Learnt
place_answer_fixed κs a z z' w w' p q = (p ∙ sym q, refl)

pub place_answer_open : AsksNothing 0 place_answer_kinds.ps place_answer_reads.Asked
place_answer_open κs a = tt

pub load_answer_fixed : Fixes 0 load_answer_kinds.ps load_answer_kinds.r load_answer_reads.Learnt
load_answer_fixed κs a z z' w w' p q = (p ∙ sym q, refl)

pub load_answer_open : AsksNothing 0 load_answer_kinds.ps load_answer_reads.Asked
load_answer_open κs a = tt
