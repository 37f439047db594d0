-- The contract of each public function of the crate fixes the reply and asks nothing: it is an equation with a definition. Assumes nothing.
use mathlib.Core.Path.{sym, ◌∙◌, refl}
use Rattle.units.specs.Fixed.{Fixes, AsksNothing}
use Rattle.columns.proofs.entry.Kinds as entry_kinds
use Rattle.columns.proofs.entry.Reads as entry_reads

pub entry_fixed : Fixes 0 entry_kinds.ps entry_kinds.r entry_reads.Learnt
entry_fixed κs a z z' w w' p q = (p ∙ sym q, refl)

pub entry_open : AsksNothing 0 entry_kinds.ps entry_reads.Asked
entry_open κs a = tt
