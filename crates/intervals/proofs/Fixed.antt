-- The contract of each public function of the crate fixes the reply and asks nothing: it is an equation with a definition. Assumes nothing.
use mathlib.Core.Path.{sym, ◌∙◌, refl}
use Rattle.units.specs.Fixed.{Fixes, AsksNothing}
use Rattle.intervals.proofs.one_more.Kinds as one_more_kinds
use Rattle.intervals.proofs.one_more.Reads as one_more_reads
use Rattle.intervals.proofs.count_on.Kinds as count_on_kinds
use Rattle.intervals.proofs.count_on.Reads as count_on_reads
use Rattle.intervals.proofs.green_time.Kinds as green_time_kinds
use Rattle.intervals.proofs.green_time.Reads as green_time_reads

pub one_more_fixed : Fixes 0 one_more_kinds.ps one_more_kinds.r one_more_reads.Learnt
one_more_fixed κs a z z' w w' p q = (p ∙ sym q, refl)

pub one_more_open : AsksNothing 0 one_more_kinds.ps one_more_reads.Asked
one_more_open κs a = tt

pub count_on_fixed : Fixes 0 count_on_kinds.ps count_on_kinds.r count_on_reads.Learnt
count_on_fixed κs a z z' w w' p q = (p ∙ sym q, refl)

pub count_on_open : AsksNothing 0 count_on_kinds.ps count_on_reads.Asked
count_on_open κs a = tt

pub green_time_fixed : Fixes 0 green_time_kinds.ps green_time_kinds.r green_time_reads.Learnt
green_time_fixed κs a z z' w w' p q = (p ∙ sym q, refl)

pub green_time_open : AsksNothing 0 green_time_kinds.ps green_time_reads.Asked
green_time_open κs a = tt
