-- The contract of each public function of the crate fixes the reply and asks nothing: it is an equation with a definition. Assumes nothing.
use mathlib.Core.Path.{sym, ◌∙◌, refl}
use Rattle.units.specs.Fixed.{Fixes, AsksNothing}
use Rattle.field.proofs.written.Kinds as written_kinds
use Rattle.field.proofs.written.Reads as written_reads
use Rattle.field.proofs.field.Kinds as field_kinds
use Rattle.field.proofs.field.Reads as field_reads

pub written_fixed : Fixes 1 written_kinds.ps written_kinds.r written_reads.Learnt
written_fixed κs a z z' w w' p q = (p ∙ sym q, refl)

pub written_open : AsksNothing 1 written_kinds.ps written_reads.Asked
written_open κs a = tt

pub field_fixed : Fixes 1 field_kinds.ps field_kinds.r field_reads.Learnt
field_fixed κs a z z' w w' p q = (p ∙ sym q, refl)

pub field_open : AsksNothing 1 field_kinds.ps field_reads.Asked
field_open κs a = tt
