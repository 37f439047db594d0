-- The contract of each public function of the crate fixes the reply and asks nothing: it is an equation with a definition. Assumes nothing.
use mathlib.Core.Path.{sym, ◌∙◌, refl}
use Rattle.units.specs.Fixed.{Fixes, AsksNothing}
use Rattle.lookup.proofs.listed.Kinds as listed_kinds
use Rattle.lookup.proofs.listed.Reads as listed_reads
use Rattle.lookup.proofs.named.Kinds as named_kinds
use Rattle.lookup.proofs.named.Reads as named_reads
use Rattle.lookup.proofs.phase_of.Kinds as phase_of_kinds
use Rattle.lookup.proofs.phase_of.Reads as phase_of_reads

pub listed_fixed : Fixes 0 listed_kinds.ps listed_kinds.r listed_reads.Learnt
listed_fixed κs a z z' w w' p q = (p ∙ sym q, refl)

pub listed_open : AsksNothing 0 listed_kinds.ps listed_reads.Asked
listed_open κs a = tt

pub phase_of_fixed : Fixes 0 phase_of_kinds.ps phase_of_kinds.r phase_of_reads.Learnt
phase_of_fixed κs a z z' w w' p q = (p ∙ sym q, refl)

pub phase_of_open : AsksNothing 0 phase_of_kinds.ps phase_of_reads.Asked
phase_of_open κs a = tt

pub named_fixed : Fixes 0 named_kinds.ps named_kinds.r named_reads.Learnt
named_fixed κs a z z' w w' p q = (p ∙ sym q, refl)

pub named_open : AsksNothing 0 named_kinds.ps named_reads.Asked
named_open κs a = tt
