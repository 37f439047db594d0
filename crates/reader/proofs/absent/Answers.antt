-- `reader::absent` meets its contract: by whether the key stands there. Assumes nothing.
use mathlib.Core.Path.{refl, sym, ◌∙◌}
use native.Mathlib.Omega.{arith}
use Rattle.units.proofs.Steps.{pick_yes, pick_not}
use Rattle.rows.proofs.Tables.{place_room, width_some}
use Rattle.reader.proofs.absent.Goals as goal

pub returns-then-begins : goal.returns-then-begins
returns-then-begins c =
    (pick_yes _ _ _ _ (sym c.begins.ensures ∙ c.if-begins.true) refl, pick_not _ _ _ _ refl refl)

pub offset_bounds-v-place : goal.offset_bounds-v-place
offset_bounds-v-place c =
    omega (arith, c.place.ensures, place_room c.args.row c.requires, width_some c.args.row c.requires)

pub bounds-v-place : goal.bounds-v-place
bounds-v-place c =
    omega (arith, c.place.ensures, place_room c.args.row c.requires, width_some c.args.row c.requires)

pub returns : goal.returns
returns c =
    (pick_not _ _ _ _ (sym c.begins.ensures ∙ c.if-begins.false) refl, pick_yes _ _ _ _ refl (rw (c.place.ensures, c.stands_for.ensures) refl))
