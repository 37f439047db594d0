-- `from_numbers::sheet_of` meets its contract: part by part. Assumes nothing.
use Rattle.std.proofs.Common.{rules, of_calls}
use mathlib.Core.Path.{◌≡◌, ap, ◌∙◌}
use mir.Syntax.{w16}
use mir.Val.{to_z, of_z}
use mir.Facts.{to_z-of_z}
use lib.ListN.{get_or}
use Rattle.sheet.specs.Zero.{zero_phase, zero_point}
use Rattle.rows.specs.Table.{place_for, most_phases, most_points}
use Rattle.rows.proofs.Tables.{dwell_place_lem}
use Rattle.numbers.specs.Flat.{grade_of, list_numbers, entries_from, phase_at, point_at, sheet_with}
use Rattle.numbers.proofs.Made.{made}
use Rattle.from_numbers.proofs.sheet_of.Goals as goal

pub returns : goal.returns
returns c =
    let v = c.args.numbers.now in
    let g : to_z w16 (of_z w16 c.grade_of.result) ≡ grade_of (get_or v (place_for "grade") 0) = to_z-of_z {w = w16} {z = c.grade_of.result} (record { sfits = c.grade_of.type_inv }) ∙ c.grade_of.ensures in
    let h : to_z w16 (of_z w16 c.grade_of-2.result) ≡ grade_of (get_or v (place_for "grade2") 0) = to_z-of_z {w = w16} {z = c.grade_of-2.result} (record { sfits = c.grade_of-2.type_inv }) ∙ c.grade_of-2.ensures in
    let d : c.list_at.result ≡ list_numbers v (place_for "dwell") = c.list_at.ensures ∙ ap (list_numbers v) dwell_place_lem in
    let phases : c.from_fn.result ≡ entries_from (phase_at v) most_phases 0 = made _ (phase_at v) _ _ (λ i y q b k. search (rules, of_calls)) _ zero_phase c.from_fn.ensures.items in
    let points : c.from_fn-2.result ≡ entries_from (point_at v) most_points 0 = made _ (point_at v) _ _ (λ i y q b k. search (rules, of_calls)) _ zero_point c.from_fn-2.ensures.items in
    λ i. sheet_with v (c.vehicle_of.ensures i) (g i) (h i) (phases i) (d i) (points i)
