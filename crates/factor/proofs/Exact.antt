-- Document 002's factor and two worked out by hand, computed by the definitions: nothing is rounded. Assumes nothing.
use mathlib.Core.Path.{refl}
use Rattle.units.specs.Numbers.{pick}
use Rattle.table.specs.Table.{table, entry_of}
use Rattle.scale.specs.Scale.{climb, place_on, column_of, mix_of, line_of, spread_of}
use Rattle.factor.specs.Factor.{row_of, table_of, factor_of}
use Rattle.factor.specs.Promises.{FactorIsExact}

pub exact : FactorIsExact
unfolding factor_of climb table_of spread_of line_of mix_of entry_of table column_of row_of place_on pick
exact = (refl, refl, refl)
