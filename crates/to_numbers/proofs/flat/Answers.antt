-- `to_numbers::flat` meets its contract: the stores at their places are the numbers in the rows' order. Assumes nothing.
use mathlib.Core.Path.{◌∙◌, ap}
use mir.Syntax.{w16}
use mir.Val.{SFits}
use mir.Facts.{to_z-of_z}
use Rattle.numbers.specs.Flat.{grade_number}
use Rattle.numbers.proofs.Stored.{stored}
use borrow.Author.Rules.{rules}
use Rattle.to_numbers.proofs.flat.Goals as goal

pub returns : goal.returns
returns c =
    let s = c.args.s in
    let f : SFits w16 s.grade = search rules in
    let g : SFits w16 s.grade2 = search rules in
    stored s _ _ _ _ _ _ c.vehicle_number.ensures (c.grade_number.ensures ∙ ap grade_number (to_z-of_z f)) (c.grade_number-2.ensures ∙ ap grade_number (to_z-of_z g)) c.with_phases.ensures c.with_dwell.ensures c.with_points.ensures
