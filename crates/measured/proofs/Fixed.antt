-- The contract of each public function of the crate fixes the reply and asks nothing: it is an equation with a definition. Assumes nothing.
use mathlib.Core.Path.{sym, ◌∙◌, refl}
use Rattle.units.specs.Fixed.{Fixes, AsksNothing}
use Rattle.measured.proofs.measure.Kinds as measure_kinds
use Rattle.measured.proofs.measure.Reads as measure_reads

pub measure_fixed : Fixes 0 measure_kinds.ps measure_kinds.r measure_reads.Learnt
measure_fixed κs a z z' w w' p q = (p ∙ sym q, refl)

pub measure_open : AsksNothing 0 measure_kinds.ps measure_reads.Asked
measure_open κs a = tt
