-- The cases of the far time, each computed by the definitions. Assumes nothing.
use mathlib.Core.Path.{refl}
use Rattle.units.specs.Numbers.{up, pick}
use Rattle.far_table.specs.FarTable.{far_table, far_entry_of}
use Rattle.scale.specs.Scale.{climb, place_on, column_of, mix_of, line_of, spread_of}
use Rattle.far.specs.Far.{far_row_of, chosen, far_column_of, far_table_of, far_of, far_time_of}
use Rattle.far.specs.Cases.{FarCases}

pub far_cases : FarCases
unfolding far_time_of far_of far_table_of up pick far_row_of chosen far_column_of climb place_on column_of mix_of line_of spread_of far_entry_of far_table
far_cases = (refl, refl, refl, refl, refl, refl, refl, refl, refl, refl, refl)
