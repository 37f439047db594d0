-- The contract of each public function of the crate fixes the reply and every lent number or byte, and asks nothing: it is equations with
-- definitions. Assumes nothing.
use mathlib.Core.List.{List}
use mathlib.Core.Path.{sym, ap, ◌∙◌}
use Prim.Native.Nat.{ℕ}
use Rattle.units.specs.Fixed.{Fixes, AsksNothing}
use Rattle.exported.proofs.lettofrisk_worksheet.Kinds as worksheet_kinds
use Rattle.exported.proofs.lettofrisk_worksheet.Reads as worksheet_reads
use Rattle.exported.proofs.lettofrisk_write.Kinds as write_kinds
use Rattle.exported.proofs.lettofrisk_write.Reads as write_reads

pub worksheet_fixed : Fixes 2 worksheet_kinds.ps worksheet_kinds.r worksheet_reads.Learnt
worksheet_fixed κs a z z' w w' p q = (p.0 ∙ sym q.0, ap (λ (l : List ℕ). (tt, (l, tt))) (p.1 ∙ sym q.1))

pub worksheet_open : AsksNothing 2 worksheet_kinds.ps worksheet_reads.Asked
worksheet_open κs a = tt

pub write_fixed : Fixes 2 write_kinds.ps write_kinds.r write_reads.Learnt
write_fixed κs a z z' w w' p q = (p.0 ∙ sym q.0, ap (λ (l : List ℕ). (tt, (l, tt))) (p.1 ∙ sym q.1))

pub write_open : AsksNothing 2 write_kinds.ps write_reads.Asked
write_open κs a = tt
