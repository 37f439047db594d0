-- The contract of each public function of the crate fixes the reply and asks nothing: it is an equation with a definition. Assumes nothing.
use mathlib.Core.Path.{sym, ◌∙◌, refl}
use Rattle.units.specs.Fixed.{Fixes, AsksNothing}
use Rattle.ruled.proofs.ticks.Kinds as ticks_kinds
use Rattle.ruled.proofs.ticks.Reads as ticks_reads
use Rattle.ruled.proofs.waited.Kinds as waited_kinds
use Rattle.ruled.proofs.waited.Reads as waited_reads
use Rattle.ruled.proofs.line22.Kinds as line22_kinds
use Rattle.ruled.proofs.line22.Reads as line22_reads
use Rattle.ruled.proofs.line38.Kinds as line38_kinds
use Rattle.ruled.proofs.line38.Reads as line38_reads
use Rattle.ruled.proofs.line51.Kinds as line51_kinds
use Rattle.ruled.proofs.line51.Reads as line51_reads
use Rattle.ruled.proofs.line59.Kinds as line59_kinds
use Rattle.ruled.proofs.line59.Reads as line59_reads

pub ticks_fixed : Fixes 0 ticks_kinds.ps ticks_kinds.r ticks_reads.Learnt
ticks_fixed κs a z z' w w' p q = (p ∙ sym q, refl)

pub ticks_open : AsksNothing 0 ticks_kinds.ps ticks_reads.Asked
ticks_open κs a = tt

pub waited_fixed : Fixes 0 waited_kinds.ps waited_kinds.r waited_reads.Learnt
waited_fixed κs a z z' w w' p q = (p ∙ sym q, refl)

pub waited_open : AsksNothing 0 waited_kinds.ps waited_reads.Asked
waited_open κs a = tt

pub line22_fixed : Fixes 0 line22_kinds.ps line22_kinds.r line22_reads.Learnt
line22_fixed κs a z z' w w' p q = (p ∙ sym q, refl)

pub line22_open : AsksNothing 0 line22_kinds.ps line22_reads.Asked
line22_open κs a = tt

pub line38_fixed : Fixes 0 line38_kinds.ps line38_kinds.r line38_reads.Learnt
line38_fixed κs a z z' w w' p q = (p ∙ sym q, refl)

pub line38_open : AsksNothing 0 line38_kinds.ps line38_reads.Asked
line38_open κs a = tt

pub line51_fixed : Fixes 0 line51_kinds.ps line51_kinds.r line51_reads.Learnt
line51_fixed κs a z z' w w' p q = (p ∙ sym q, refl)

pub line51_open : AsksNothing 0 line51_kinds.ps line51_reads.Asked
line51_open κs a = tt

pub line59_fixed : Fixes 0 line59_kinds.ps line59_kinds.r line59_reads.Learnt
line59_fixed κs a z z' w w' p q = (p ∙ sym q, refl)

pub line59_open : AsksNothing 0 line59_kinds.ps line59_reads.Asked
line59_open κs a = tt
