-- The contract of `writer::write` fixes the reply and every lent byte, and asks nothing: it is a pair of equations with definitions. Assumes nothing.
use mathlib.Core.List.{List}
use mathlib.Core.Path.{sym, ap, ◌∙◌}
use Prim.Native.Nat.{ℕ}
use Rattle.units.specs.Fixed.{Fixes, AsksNothing}
use Rattle.writer.proofs.write.Kinds as write_kinds
use Rattle.writer.proofs.write.Reads as write_reads

pub write_fixed : Fixes 1 write_kinds.ps write_kinds.r write_reads.Learnt
write_fixed κs a z z' w w' p q = (p.0 ∙ sym q.0, ap (λ (l : List ℕ). (tt, (l, tt))) (p.1 ∙ sym q.1))

pub write_open : AsksNothing 1 write_kinds.ps write_reads.Asked
write_open κs a = tt
