-- The contract of each public function of the crate fixes the reply and asks nothing: it is an equation with a definition. Assumes nothing.
use mathlib.Core.Path.{sym, ◌∙◌, refl}
use Rattle.units.specs.Fixed.{Fixes, AsksNothing}
use Rattle.words.proofs.after.Kinds as after_kinds
use Rattle.words.proofs.after.Reads as after_reads

pub after_fixed : Fixes 2 after_kinds.ps after_kinds.r after_reads.Learnt
after_fixed κs a z z' w w' p q = (p ∙ sym q, refl)

pub after_open : AsksNothing 2 after_kinds.ps after_reads.Asked
after_open κs a = tt
