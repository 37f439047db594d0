-- `line_reader::fault` meets its contract: of one number the range, of more what `row_fault` says. Assumes nothing.
use mathlib.Core.Path.{◌≡◌}
use native.Mathlib.Omega.{arith}
use Rattle.rows.specs.Table.{width_of}
use Rattle.rows.proofs.Tables.{place_room}
use Rattle.text.proofs.Rows.{too_small, too_large, inside}
use Rattle.line_reader.proofs.fault.Goals.{then-x-facts-via-then-x-facts, then-x-facts-via-else-x-facts+then-facts-x}
use Rattle.line_reader.proofs.fault.Goals as goal

pub offset_bounds-v-place : goal.offset_bounds-v-place
offset_bounds-v-place c =
    omega (arith, place_room c.args.row c.requires.0, c.requires.1, c.requires.2)

pub bounds-v-place : goal.bounds-v-place
bounds-v-place c =
    omega (arith, place_room c.args.row c.requires.0, c.requires.1, c.requires.2)

pub returns-then-x-facts : goal.returns-then-x-facts
returns-then-x-facts c =
    let one : width_of c.args.row ≡ 1 = omega (arith, c.requires.2) in
    elim c.then-x-facts.branch [
      | then-x-facts-via-then-x-facts w ↦ too_small c.args.v.now c.args.row c.args.number c.requires.0 one c.args.facts.least c.args.facts.most c.requires.3 c.requires.4 (rw c.requires.1 at w.if-x-facts.true)
      | then-x-facts-via-else-x-facts+then-facts-x w ↦ too_large c.args.v.now c.args.row c.args.number c.requires.0 one c.args.facts.least c.args.facts.most c.requires.3 c.requires.4 (rw c.requires.1 at w.if-x-facts.false) (rw c.requires.1 at w.if-facts-x.true)
    ]

pub returns-then-n-eq1 : goal.returns-then-n-eq1
returns-then-n-eq1 c =
    let one : width_of c.args.row ≡ 1 = omega (arith, c.requires.2) in
    inside c.args.v.now c.args.row c.args.number c.requires.0 one c.args.facts.least c.args.facts.most c.requires.3 c.requires.4 (rw c.requires.1 at c.if-x-facts.false) (rw c.requires.1 at c.if-facts-x.false)
