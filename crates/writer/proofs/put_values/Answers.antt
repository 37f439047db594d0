-- `writer::put_values` meets its contract: by the form. Assumes nothing.
use mathlib.Core.Path.{refl}
use native.Mathlib.Omega.{arith}
use Rattle.units.proofs.Steps.{pick_yes, pick_not}
use Rattle.rows.proofs.Tables.{list_is, not_list}
use Rattle.text.specs.Text.{values_text}
use Rattle.text.proofs.Puts.{put_length, put_same}
use Rattle.writer.proofs.put_values.Goals as goal

pub overflow_sub-n : goal.overflow_sub-n
overflow_sub-n c =
    omega (arith, c.requires.1 (list_is c.in-Listed.is))

pub put_list-requires : goal.put_list-requires
put_list-requires c =
    (omega (arith, c.requires.0, c.requires.1 (list_is c.in-Listed.is)), c.requires.2)

pub shape_of-out-in-Listed : goal.shape_of-out-in-Listed
shape_of-out-in-Listed c =
    put_length c.put_list.ensures

pub returns-in-Listed : goal.returns-in-Listed
unfolding values_text
returns-in-Listed c =
    put_same (pick_yes _ _ _ _ (list_is c.in-Listed.is) refl) c.put_list.ensures

pub put_fields-requires : goal.put_fields-requires
put_fields-requires c =
    (c.requires.0, c.requires.2)

pub shape_of-out-in_default : goal.shape_of-out-in_default
shape_of-out-in_default c =
    put_length c.put_fields.ensures

pub returns-in_default : goal.returns-in_default
unfolding values_text
returns-in_default c =
    put_same (pick_not _ _ _ _ (not_list _ c.in_default.not-Listed) refl) c.put_fields.ensures
