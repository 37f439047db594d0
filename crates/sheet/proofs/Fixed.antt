-- The contract of each public function of the crate fixes what the list that it lends holds, and asks nothing: it is an equation with a definition. Assumes nothing.
use mathlib.Core.Path.{sym, ◌∙◌, refl}
use denote.Param.Laws.{Laws}
use denote.RattleType.{RattleType}
use Rattle.units.specs.Fixed.{AsksNothing}
use Rattle.sheet.specs.Shown.{FixesShown}
use Rattle.sheet.proofs.counted.Kinds as counted_kinds
use Rattle.sheet.proofs.counted.Reads as counted_reads
use Rattle.sheet.proofs.Sheet.listed_phases.Kinds as listed_phases_kinds
use Rattle.sheet.proofs.Sheet.listed_phases.Reads as listed_phases_reads
use Rattle.sheet.proofs.Sheet.listed_points.Kinds as listed_points_kinds
use Rattle.sheet.proofs.Sheet.listed_points.Reads as listed_points_reads
use Rattle.sheet.proofs.Sheet.dwell_numbers.Kinds as dwell_numbers_kinds
use Rattle.sheet.proofs.Sheet.dwell_numbers.Reads as dwell_numbers_reads

pub counted_fixed : (T : RattleType) (l : Laws T) → FixesShown 2 (counted_kinds.ps T l) (counted_kinds.r T l) (λ κs z. z.now) (counted_reads.Learnt T l)
counted_fixed T l κs a z z' w w' p q = (p ∙ sym q, refl)

-- Of `counted` no more is asked than that what the entries lend lives as long as they do, which any Rust type asks.

pub listed_phases_fixed : FixesShown 1 listed_phases_kinds.ps listed_phases_kinds.r (λ κs z. z.now) listed_phases_reads.Learnt
listed_phases_fixed κs a z z' w w' p q = (p ∙ sym q, refl)

pub listed_phases_open : AsksNothing 1 listed_phases_kinds.ps listed_phases_reads.Asked
listed_phases_open κs a = tt

pub listed_points_fixed : FixesShown 1 listed_points_kinds.ps listed_points_kinds.r (λ κs z. z.now) listed_points_reads.Learnt
listed_points_fixed κs a z z' w w' p q = (p ∙ sym q, refl)

pub listed_points_open : AsksNothing 1 listed_points_kinds.ps listed_points_reads.Asked
listed_points_open κs a = tt

pub dwell_numbers_fixed : FixesShown 1 dwell_numbers_kinds.ps dwell_numbers_kinds.r (λ κs z. z.now) dwell_numbers_reads.Learnt
dwell_numbers_fixed κs a z z' w w' p q = (p ∙ sym q, refl)

pub dwell_numbers_open : AsksNothing 1 dwell_numbers_kinds.ps dwell_numbers_reads.Asked
dwell_numbers_open κs a = tt
