-- The contract of each public function of the crate fixes the reply and asks nothing: it is an equation with a definition. Assumes nothing.
use mathlib.Core.Path.{sym, ◌∙◌, refl}
use Rattle.units.specs.Fixed.{Fixes, AsksNothing}
use Rattle.longest.proofs.buffer.Kinds as buffer_kinds
use Rattle.longest.proofs.buffer.Reads as buffer_reads

pub buffer_fixed : Fixes 0 buffer_kinds.ps buffer_kinds.r buffer_reads.Learnt
buffer_fixed κs a z z' w w' p q = (p ∙ sym q, refl)

pub buffer_open : AsksNothing 0 buffer_kinds.ps buffer_reads.Asked
buffer_open κs a = tt
