-- The contract of each public function of the crate fixes the reply and asks nothing: it is an equation with a definition. Assumes nothing.
use mathlib.Core.Path.{◌≡◌, sym, ◌∙◌, refl}
use Rattle.units.specs.Fixed.{Fixes, AsksNothing}
use Rattle.scaled.proofs.is_car.Kinds as is_car_kinds
use Rattle.scaled.proofs.is_car.Reads as is_car_reads
use Rattle.scaled.proofs.uphill.Kinds as uphill_kinds
use Rattle.scaled.proofs.uphill.Reads as uphill_reads
use Rattle.scaled.proofs.every_25.Kinds as every_25_kinds
use Rattle.scaled.proofs.every_25.Reads as every_25_reads
use Rattle.scaled.proofs.column.Kinds as column_kinds
use Rattle.scaled.proofs.column.Reads as column_reads
use Rattle.scaled.proofs.spread.Kinds as spread_kinds
use Rattle.scaled.proofs.spread.Reads as spread_reads
use mathlib.Core.List.{[], ne-nil_of_mem}
use denote.RattleType.{RattleType}
use denote.Param.Laws.{Laws}
use mir.Syntax.{Dict}
use Rattle.scaled.specs.declared.Printed.{Ghosts}
use Rattle.scaled.proofs.read.Kinds as read_kinds
use Rattle.scaled.proofs.read.Reads as read_reads

pub is_car_fixed : Fixes 0 is_car_kinds.ps is_car_kinds.r is_car_reads.Learnt
is_car_fixed κs a z z' w w' p q = (p ∙ sym q, refl)

pub is_car_open : AsksNothing 0 is_car_kinds.ps is_car_reads.Asked
is_car_open κs a = tt

pub uphill_fixed : Fixes 0 uphill_kinds.ps uphill_kinds.r uphill_reads.Learnt
uphill_fixed κs a z z' w w' p q = (p ∙ sym q, refl)

pub uphill_open : AsksNothing 0 uphill_kinds.ps uphill_reads.Asked
uphill_open κs a = tt

pub every_25_fixed : Fixes 0 every_25_kinds.ps every_25_kinds.r every_25_reads.Learnt
every_25_fixed κs a z z' w w' p q = (p ∙ sym q, refl)

pub every_25_open : AsksNothing 0 every_25_kinds.ps every_25_reads.Asked
every_25_open κs a = tt

pub column_fixed : Fixes 0 column_kinds.ps column_kinds.r column_reads.Learnt
column_fixed κs a z z' w w' p q = (p ∙ sym q, refl)

pub column_open : AsksNothing 0 column_kinds.ps column_reads.Asked
column_open κs a = tt

pub spread_fixed : Fixes 0 spread_kinds.ps spread_kinds.r spread_reads.Learnt
spread_fixed κs a z z' w w' p q = (p ∙ sym q, refl)

pub spread_open : AsksNothing 0 spread_kinds.ps spread_reads.Asked
spread_open κs a = tt

-- whatever the table, whose type has no lifetimes in it
module _ (T : RattleType) (L : Laws T) (P : Ghosts T.Denot) (dict : Dict) where
  pub read_fixed : Fixes 1 (read_kinds.ps T L) (read_kinds.r T L) (read_reads.Learnt T L P dict)
  read_fixed κs a z z' w w' p q = (p ∙ sym q, refl)

  pub read_open : T.lives ≡ [] → AsksNothing 1 (read_kinds.ps T L) (read_reads.Asked T L P dict)
  read_open none κs a = λ l m. absurd (ne-nil_of_mem m none)
