-- The contract of `converter::convert` fixes the reply and every lent byte, and asks nothing: it is a pair of equations with definitions. Assumes nothing.
use mathlib.Core.List.{List}
use mathlib.Core.Path.{sym, ap, ◌∙◌}
use Prim.Native.Nat.{ℕ}
use Rattle.units.specs.Fixed.{Fixes, AsksNothing}
use Rattle.converter.proofs.convert.Kinds as convert_kinds
use Rattle.converter.proofs.convert.Reads as convert_reads

pub convert_fixed : Fixes 2 convert_kinds.ps convert_kinds.r convert_reads.Learnt
convert_fixed κs a z z' w w' p q = (p.0 ∙ sym q.0, ap (λ (l : List ℕ). (tt, (l, tt))) (p.1 ∙ sym q.1))

pub convert_open : AsksNothing 2 convert_kinds.ps convert_reads.Asked
convert_open κs a = tt
