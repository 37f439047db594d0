-- Texts of each form, computed. Assumes nothing.
use lib.Dec.{T}
use Rattle.units.specs.Numbers.{pick}
use Rattle.sheet.specs.Refusals.{or_else, unless}
use Rattle.rows.specs.Table.{kind_of, key_of, form_of, ranges_of, width_of, place_of, absent_of, used_ranges, in_range, in_ranges, present}
use Rattle.rows.specs.Marks.{mark_of, words}
use Rattle.faults.specs.Lines.{quiet_in_mode_zero, clears_yellow_and_red, phase_fault, before_phase, rises_after, rule_fault, row_fault}
use Rattle.figures.specs.Figures.{digit_of, more, number, after, signed_at}
use Rattle.text.specs.Line.{word_at, field_at, fields, list_fields, values_at, line_at}
use Rattle.text.specs.Read.{judged_at, end_at, begins, passed, stands_for, filled, here_at, lines_from, reply, read_by, may_lack}
use Rattle.text.specs.Forms.{right, FormsAreRead}

pub forms_are_read : T FormsAreRead
unfolding right read_by may_lack lines_from here_at passed begins stands_for filled judged_at end_at reply line_at values_at list_fields fields field_at word_at signed_at mark_of words digit_of more number after kind_of key_of form_of ranges_of width_of place_of absent_of used_ranges in_range in_ranges present row_fault rule_fault phase_fault before_phase quiet_in_mode_zero clears_yellow_and_red rises_after or_else unless pick
forms_are_read = tt
