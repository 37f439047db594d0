-- The contract of each public function of the crate fixes the reply and asks nothing: it is an equation with a definition. Assumes nothing.
use mathlib.Core.Path.{sym, ◌∙◌, refl}
use Rattle.units.specs.Fixed.{Fixes, AsksNothing}
use Rattle.tick.proofs.tick.Kinds as tick_kinds
use Rattle.tick.proofs.tick.Reads as tick_reads

pub tick_fixed : Fixes 0 tick_kinds.ps tick_kinds.r tick_reads.Learnt
tick_fixed κs a z z' w w' p q = (p ∙ sym q, refl)

pub tick_open : AsksNothing 0 tick_kinds.ps tick_reads.Asked
tick_open κs a = tt
