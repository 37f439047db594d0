-- `reader::stands_for` meets its contract: by the table. Assumes nothing.
use mathlib.Core.Path.{sym, ap, ◌∙◌}
use native.Mathlib.Omega.{arith}
use Rattle.rows.specs.Table.{as_before}
use Rattle.rows.proofs.Tables.{place_room}
use Rattle.rows.proofs.Keys.{facts_absent}
use Rattle.text.proofs.Absent.{before_some}
use Rattle.reader.proofs.stands_for.Goals as goal

pub overflow_sub-result : goal.overflow_sub-result
overflow_sub-result c =
    let k = c.facts.result in
    omega (arith, c.place.ensures, before_some c.args.row c.requires (ap as_before (sym (facts_absent c.args.row k c.facts.ensures) ∙ c.in-AsBefore.is)))

pub offset_bounds-v-place : goal.offset_bounds-v-place
offset_bounds-v-place c =
    omega (arith, c.place.ensures, place_room c.args.row c.requires)

pub bounds-v-place : goal.bounds-v-place
bounds-v-place c =
    omega (arith, c.place.ensures, place_room c.args.row c.requires)
