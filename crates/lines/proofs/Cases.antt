-- P1 to P10, the cases of the two grades and those of long storage, computed by the definitions. Assumes nothing.
use Rattle.units.specs.Numbers.{up, pick}
use Rattle.sheet.specs.Refusals.{or_else, unless}
use Rattle.transfer.specs.Transfer.{pedestrian_time, time_of, worse_of, worst_from}
use Rattle.rows.specs.Table.{kind_of, form_of, ranges_of, width_of, place_of, used_ranges, in_range, in_ranges, present}
use Rattle.numbers.specs.Flat.{grade_number, numbers_from, flat_of}
use Rattle.faults.specs.Lines.{quiet_in_mode_zero, clears_yellow_and_red, phase_fault, starts_at_zero, point_rises, before_phase, point_fits, rises_after, rule_fault, row_fault, here_fault, line_after, fault_from}
use Rattle.faults.specs.Whole.{farthest, listed_in, all_listed, whole_fault, accept_of}
use Rattle.table.specs.Table.{table, entry_of}
use Rattle.scale.specs.Scale.{climb, place_on, column_of, mix_of, line_of, spread_of}
use Rattle.factor.specs.Factor.{row_of, table_of, factor_of}
use Rattle.far_table.specs.FarTable.{far_table, far_entry_of}
use Rattle.far.specs.Far.{far_row_of, chosen, far_column_of, far_table_of, far_of, far_time_of}
use Rattle.curve.specs.Curve.{between_of, level_from, level_of, graded_of, curve_time_of, joined_of, acceleration_of}
use Rattle.rules.specs.Rules.{waited}
use Rattle.lines.specs.Lines.{l03, l04, l05, l06, l07, l08, l09, l10, l11, l12, l13, l14, l15, l16, l17, l21, l22, l23, l24, l25, l26, l27, l29, l32, l34, l35, l36, l38, l40, l41, l43, l44, l45, l46, l48, l49, l50, l51, l52, l53, l54, l55, l59, l60, l61, lines_of}
use Rattle.lines.specs.Worksheet.{zero_lines, worksheet_of, in_order}
use Rattle.lines.specs.Cases.{sheet_with, paper_cases, grade_cases, long_cases}
use Rattle.lines.specs.Promises.{PaperCases, GradeCases, LongStorage}

pub paper_cases_lem : PaperCases
unfolding up pick or_else unless pedestrian_time time_of worse_of worst_from kind_of form_of ranges_of width_of place_of used_ranges in_range in_ranges present grade_number numbers_from flat_of quiet_in_mode_zero clears_yellow_and_red phase_fault starts_at_zero point_rises before_phase point_fits rises_after rule_fault row_fault here_fault line_after fault_from farthest listed_in all_listed whole_fault accept_of table entry_of climb place_on row_of column_of mix_of line_of spread_of table_of factor_of between_of level_from level_of graded_of curve_time_of acceleration_of waited l03 l04 l05 l06 l07 l08 l09 l10 l11 l12 l13 l14 l15 l16 l17 l21 l22 l23 l24 l25 l26 l27 l29 l32 l34 l35 l36 l38 l40 l41 l43 l44 l45 l46 l48 l49 l50 l51 l52 l53 l54 l55 l59 l60 l61 lines_of zero_lines worksheet_of in_order sheet_with paper_cases
paper_cases_lem = tt

pub grade_cases_lem : GradeCases
unfolding up pick or_else unless pedestrian_time time_of worse_of worst_from kind_of form_of ranges_of width_of place_of used_ranges in_range in_ranges present grade_number numbers_from flat_of quiet_in_mode_zero clears_yellow_and_red phase_fault starts_at_zero point_rises before_phase point_fits rises_after rule_fault row_fault here_fault line_after fault_from farthest listed_in all_listed whole_fault accept_of table entry_of climb place_on row_of column_of mix_of line_of spread_of table_of factor_of between_of level_from level_of graded_of curve_time_of acceleration_of waited l03 l04 l05 l06 l07 l08 l09 l10 l11 l12 l13 l14 l15 l16 l17 l21 l22 l23 l24 l25 l26 l27 l29 l32 l34 l35 l36 l38 l40 l41 l43 l44 l45 l46 l48 l49 l50 l51 l52 l53 l54 l55 l59 l60 l61 lines_of zero_lines worksheet_of in_order grade_cases
grade_cases_lem = tt

pub long_storage : LongStorage
unfolding up pick or_else unless pedestrian_time time_of worse_of worst_from kind_of form_of ranges_of width_of place_of used_ranges in_range in_ranges present grade_number numbers_from flat_of quiet_in_mode_zero clears_yellow_and_red phase_fault starts_at_zero point_rises before_phase point_fits rises_after rule_fault row_fault here_fault line_after fault_from farthest listed_in all_listed whole_fault accept_of table entry_of climb place_on row_of column_of mix_of line_of spread_of table_of factor_of between_of level_from level_of graded_of far_table far_entry_of far_row_of chosen far_column_of far_table_of far_of far_time_of curve_time_of joined_of acceleration_of waited l03 l04 l05 l06 l07 l08 l09 l10 l11 l12 l13 l14 l15 l16 l17 l21 l22 l23 l24 l25 l26 l27 l29 l32 l34 l35 l36 l38 l40 l41 l43 l44 l45 l46 l48 l49 l50 l51 l52 l53 l54 l55 l59 l60 l61 lines_of zero_lines worksheet_of in_order long_cases
long_storage = tt
