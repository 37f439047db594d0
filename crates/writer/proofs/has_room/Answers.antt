-- `writer::has_room` meets its contract: by the longest text with these counts, or by the text itself. Assumes nothing.
use mathlib.Core.Path.{refl, sym}
use Prim.Native.Nat.{◌≤◌}
use lib.ListN.{length}
use borrow.Author.Tests.{le-leb}
use native.Mathlib.Omega.{arith}
use Rattle.units.specs.Numbers.{pick}
use Rattle.rows.specs.Longest.{longest_from, longest_fields, longest_field, most_fields}
use Rattle.rows.specs.Table.{row_count, key_of, form_of, width_of, ranges_of, kind_of}
use Rattle.text.specs.Text.{text_from}
use Rattle.text.proofs.Room.{short_by_counts}
use Rattle.writer.proofs.has_room.Goals as goal

pub returns-then-phases-points : goal.returns-then-phases-points
unfolding longest_from longest_fields longest_field most_fields pick key_of form_of width_of ranges_of kind_of
returns-then-phases-points c =
    let fits : length (text_from c.args.numbers.now row_count 0) ≤ length c.args.out.now = omega (arith, short_by_counts c.args.numbers.now) in
    (sym (le-leb _ _ fits), refl)
