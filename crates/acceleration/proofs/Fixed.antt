-- The contract of each public function of the crate fixes the reply and asks nothing: it is an equation with a definition. Assumes nothing.
use mathlib.Core.Path.{sym, ◌∙◌, refl}
use Rattle.units.specs.Fixed.{Fixes, AsksNothing}
use Rattle.acceleration.proofs.acceleration.Kinds as acceleration_kinds
use Rattle.acceleration.proofs.acceleration.Reads as acceleration_reads

pub acceleration_fixed : Fixes 1 acceleration_kinds.ps acceleration_kinds.r acceleration_reads.Learnt
acceleration_fixed κs a z z' w w' p q = (p ∙ sym q, refl)

pub acceleration_open : AsksNothing 1 acceleration_kinds.ps acceleration_reads.Asked
acceleration_open κs a = tt
