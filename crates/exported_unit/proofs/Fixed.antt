-- The contract of the crate's public function fixes the reply and every lent number, and asks nothing: it is equations with definitions. Assumes nothing.
use mathlib.Core.Path.{sym, ◌∙◌}
use Rattle.units.specs.Fixed.{Fixes, AsksNothing}
use Rattle.exported_unit.proofs.lettofrisk_unit.Kinds as unit_kinds
use Rattle.exported_unit.proofs.lettofrisk_unit.Reads as unit_reads

pub unit_fixed : Fixes 4 unit_kinds.ps unit_kinds.r unit_reads.Learnt
unit_fixed κs a z z' w w' p q =
    let v = p.1 ∙ sym q.1 in
    let t = p.2 ∙ sym q.2 in
    (p.0 ∙ sym q.0, λ i. (tt, (v i, (t i, (tt, (tt, (tt, (tt, (tt, tt)))))))))

pub unit_open : AsksNothing 4 unit_kinds.ps unit_reads.Asked
unit_open κs a = tt
