-- The contract of each public function of the crate fixes the reply and asks nothing: it is an equation with a definition. Assumes nothing.
use mathlib.Core.Path.{sym, ◌∙◌, refl}
use Rattle.units.specs.Fixed.{Fixes, AsksNothing}
use Rattle.accept.proofs.accept.Kinds as accept_kinds
use Rattle.accept.proofs.accept.Reads as accept_reads

pub accept_fixed : Fixes 0 accept_kinds.ps accept_kinds.r accept_reads.Learnt
accept_fixed κs a z z' w w' p q = (p ∙ sym q, refl)

pub accept_open : AsksNothing 0 accept_kinds.ps accept_reads.Asked
accept_open κs a = tt
