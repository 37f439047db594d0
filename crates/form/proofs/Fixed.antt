-- The contract of each public function of the crate fixes the reply and asks nothing: it is an equation with a definition. Assumes nothing.
use mathlib.Core.Path.{sym, ◌∙◌, refl}
use Rattle.units.specs.Fixed.{Fixes, AsksNothing}
use Rattle.form.proofs.worksheet.Kinds as worksheet_kinds
use Rattle.form.proofs.worksheet.Reads as worksheet_reads
use Rattle.form.proofs.timed.Kinds as timed_kinds
use Rattle.form.proofs.timed.Reads as timed_reads

pub worksheet_fixed : Fixes 0 worksheet_kinds.ps worksheet_kinds.r worksheet_reads.Learnt
worksheet_fixed κs a z z' w w' p q = (p ∙ sym q, refl)

pub worksheet_open : AsksNothing 0 worksheet_kinds.ps worksheet_reads.Asked
worksheet_open κs a = tt

pub timed_fixed : Fixes 0 timed_kinds.ps timed_kinds.r timed_reads.Learnt
timed_fixed κs a z z' w w' p q = (p ∙ sym q, refl)

pub timed_open : AsksNothing 0 timed_kinds.ps timed_reads.Asked
timed_open κs a = tt
