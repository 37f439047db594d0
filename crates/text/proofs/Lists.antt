-- The lines with a list, computed. Assumes nothing.
use lib.Dec.{T}
use Rattle.units.specs.Numbers.{pick}
use Rattle.rows.specs.Marks.{mark_of}
use Rattle.figures.specs.Figures.{digit_of, more, number, after}
use Rattle.text.specs.Line.{field_at, fields, list_fields, values_at}
use Rattle.text.specs.Digits.{digits_in}
use Rattle.text.specs.Text.{field_text, fields_text, list_text, values_text}
use Rattle.text.specs.Lists.{read_case, right, ListsAreRead}

pub lists_are_read : T ListsAreRead
unfolding read_case right values_at list_fields fields field_at values_text list_text fields_text field_text digits_in mark_of digit_of more number after pick
lists_are_read = tt
