-- The contract of each public function of the crate fixes the reply and asks nothing: it is an equation with a definition. Assumes nothing.
use mathlib.Core.Path.{sym, ◌∙◌, refl}
use Rattle.units.specs.Fixed.{Fixes, AsksNothing}
use Rattle.unit.proofs.start.Kinds as start_kinds
use Rattle.unit.proofs.start.Reads as start_reads
use Rattle.unit.proofs.Unit.tick.Kinds as tick_kinds
use Rattle.unit.proofs.Unit.tick.Reads as tick_reads
use Rattle.unit.proofs.Unit.load.Kinds as load_kinds
use Rattle.unit.proofs.Unit.load.Reads as load_reads

pub start_fixed : Fixes 0 start_kinds.ps start_kinds.r start_reads.Learnt
start_fixed κs a z z' w w' p q = (p ∙ sym q, refl)

pub start_open : AsksNothing 0 start_kinds.ps start_reads.Asked
start_open κs a = tt

pub tick_fixed : Fixes 0 tick_kinds.ps tick_kinds.r tick_reads.Learnt
tick_fixed κs a z z' w w' p q = (p ∙ sym q, refl)

pub tick_open : AsksNothing 0 tick_kinds.ps tick_reads.Asked
tick_open κs a = tt

pub load_fixed : Fixes 0 load_kinds.ps load_kinds.r load_reads.Learnt
load_fixed κs a z z' w w' p q = (p ∙ sym q, refl)

pub load_open : AsksNothing 0 load_kinds.ps load_reads.Asked
load_open κs a = tt
