-- The contract of each public function of the crate fixes the reply and asks nothing: it is an equation with a definition. Assumes nothing.
use mathlib.Core.Path.{sym, ◌∙◌, refl}
use Rattle.units.specs.Fixed.{Fixes, AsksNothing}
use Rattle.rows.proofs.table.facts.Kinds as facts_kinds
use Rattle.rows.proofs.table.facts.Reads as facts_reads

pub facts_fixed : Fixes 0 facts_kinds.ps facts_kinds.r facts_reads.Learnt
facts_fixed κs a z z' w w' p q = (p ∙ sym q, refl)

pub facts_open : AsksNothing 0 facts_kinds.ps facts_reads.Asked
facts_open κs a = tt
