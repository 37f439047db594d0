-- The contract of each public function of the crate fixes the reply and asks nothing: it is an equation with a definition. Assumes nothing.
use mathlib.Core.Path.{sym, ◌∙◌, refl}
use Rattle.units.specs.Fixed.{Fixes, AsksNothing}
use Rattle.answers.proofs.refuse_unless.Kinds as refuse_unless_kinds
use Rattle.answers.proofs.refuse_unless.Reads as refuse_unless_reads

pub refuse_unless_fixed : Fixes 0 refuse_unless_kinds.ps refuse_unless_kinds.r refuse_unless_reads.Learnt
refuse_unless_fixed κs a z z' w w' p q = (p ∙ sym q, refl)

pub refuse_unless_open : AsksNothing 0 refuse_unless_kinds.ps refuse_unless_reads.Asked
refuse_unless_open κs a = tt
