-- `longest::buffer` meets its contract: the longest text is counted in the table. Assumes nothing.
use mathlib.Core.Path.{refl}
use Rattle.units.specs.Numbers.{pick}
use Rattle.rows.specs.Table.{key_of, form_of, width_of, ranges_of, kind_of}
use Rattle.rows.specs.Longest.{longest_from, longest_fields, longest_field, most_fields}
use Rattle.longest.proofs.buffer.Goals as goal

pub returns : goal.returns
unfolding longest_from longest_fields longest_field most_fields pick key_of form_of width_of ranges_of kind_of
returns c =
    refl
