-- The contract of each public function of the crate fixes the reply and asks nothing: it is an equation with a definition. Assumes nothing.
use mathlib.Core.Path.{sym, ◌∙◌, refl}
use Rattle.units.specs.Fixed.{Fixes, AsksNothing}
use Rattle.running_start.proofs.start.Kinds as start_kinds
use Rattle.running_start.proofs.start.Reads as start_reads
use Rattle.running_start.proofs.load.Kinds as load_kinds
use Rattle.running_start.proofs.load.Reads as load_reads

pub start_fixed : Fixes 0 start_kinds.ps start_kinds.r start_reads.Learnt
start_fixed κs a z z' w w' p q = (p ∙ sym q, refl)

pub start_open : AsksNothing 0 start_kinds.ps start_reads.Asked
start_open κs a = tt

pub load_fixed : Fixes 0 load_kinds.ps load_kinds.r load_reads.Learnt
load_fixed κs a z z' w w' p q = (p ∙ sym q, refl)

pub load_open : AsksNothing 0 load_kinds.ps load_reads.Asked
load_open κs a = tt
