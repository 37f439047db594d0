-- The contract of each public function of the crate fixes the reply and asks nothing: it is an equation with a definition. Assumes nothing.
use mathlib.Core.Path.{sym, ◌∙◌, refl}
use Rattle.units.specs.Fixed.{Fixes, AsksNothing}
use Rattle.phase_time.proofs.time.Kinds as time_kinds
use Rattle.phase_time.proofs.time.Reads as time_reads

pub time_fixed : Fixes 0 time_kinds.ps time_kinds.r time_reads.Learnt
time_fixed κs a z z' w w' p q = (p ∙ sym q, refl)

pub time_open : AsksNothing 0 time_kinds.ps time_reads.Asked
time_open κs a = tt
