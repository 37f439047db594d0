-- The contract of each public function of the crate fixes the reply and asks nothing: it is an equation with a definition. Assumes nothing.
use mathlib.Core.Path.{sym, ◌∙◌, refl}
use Rattle.units.specs.Fixed.{Fixes, AsksNothing}
use Rattle.commands.proofs.allowed.Kinds as allowed_kinds
use Rattle.commands.proofs.allowed.Reads as allowed_reads
use Rattle.commands.proofs.obeyed.Kinds as obeyed_kinds
use Rattle.commands.proofs.obeyed.Reads as obeyed_reads

pub allowed_fixed : Fixes 0 allowed_kinds.ps allowed_kinds.r allowed_reads.Learnt
allowed_fixed κs a z z' w w' p q = (p ∙ sym q, refl)

pub allowed_open : AsksNothing 0 allowed_kinds.ps allowed_reads.Asked
allowed_open κs a = tt

pub obeyed_fixed : Fixes 0 obeyed_kinds.ps obeyed_kinds.r obeyed_reads.Learnt
obeyed_fixed κs a z z' w w' p q = (p ∙ sym q, refl)

pub obeyed_open : AsksNothing 0 obeyed_kinds.ps obeyed_reads.Asked
obeyed_open κs a = tt
