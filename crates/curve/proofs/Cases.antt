-- The cases of the level time and of the time on a grade, each computed by the definitions. Assumes nothing.
use mathlib.Core.Path.{refl}
use Rattle.units.specs.Numbers.{up, pick}
use Rattle.table.specs.Table.{table, entry_of}
use Rattle.scale.specs.Scale.{climb, place_on, column_of, mix_of, line_of, spread_of}
use Rattle.factor.specs.Factor.{row_of, table_of, factor_of}
use Rattle.far_table.specs.FarTable.{far_table, far_entry_of}
use Rattle.far.specs.Far.{far_row_of, chosen, far_column_of, far_table_of, far_of, far_time_of}
use Rattle.curve.specs.Curve.{between_of, level_from, level_of, graded_of, curve_time_of, joined_of, acceleration_of}
use Rattle.curve.specs.Cases.{GradedCases, sample_points, LevelCases, long_points, LongCases}

pub graded_cases : GradedCases
unfolding graded_of up pick factor_of climb table_of spread_of line_of mix_of entry_of table column_of row_of place_on
graded_cases = (refl, refl, refl, refl, refl)

pub level_cases : LevelCases
unfolding sample_points level_of level_from between_of up pick
level_cases = (refl, refl, refl, refl, refl, refl)

pub long_cases_lem : LongCases
unfolding long_points acceleration_of curve_time_of joined_of level_of level_from between_of graded_of up pick factor_of climb table_of spread_of line_of mix_of entry_of table column_of row_of place_on far_time_of far_of far_table_of far_row_of chosen far_column_of far_entry_of far_table
long_cases_lem = (refl, refl, refl, refl, refl, refl, refl, refl, refl, refl, refl, refl, refl, refl, refl, refl, refl, refl, refl)
