-- `ranges::in_ranges` meets its contract: at each turn the numbers left decide as all of them do. Assumes nothing.
use mathlib.Core.Path.{◌≡◌, refl, sym, ◌∙◌}
use Prim.Native.Nat.{◌+◌}
use Rattle.rows.specs.Table.{ranges_of, width_of, place_of, in_ranges}
use Rattle.rows.proofs.Tables.{place_room}
use Rattle.rows.proofs.Keys.{facts_form}
use Rattle.ranges.proofs.Ranges.{in_step, in_stop, in_end, used_past}
use native.Mathlib.Omega.{arith}
use Rattle.ranges.proofs.in_ranges.Goals as goal

pub returns-then-row-ge-ROWS : goal.returns-then-row-ge-ROWS
unfolding in_ranges
returns-then-row-ge-ROWS c =
    rw (used_past c.args.numbers.now c.args.row c.if-row-ge-ROWS.true)

pub used-n-requires : goal.used-n-requires
used-n-requires c =
    (c.if-row-ge-ROWS.false, facts_form c.args.row c.facts-key.result c.facts-key.ensures)

pub loop-j-init : goal.loop-j-init
loop-j-init c =
    let e : c.place-at.result + 0 ≡ place_of c.args.row = omega (arith, c.place-at.ensures) in rw (e, c.used-n.ensures.1) refl

pub overflow_add-at : goal.overflow_add-at
overflow_add-at c =
    omega (arith, place_room c.args.row (omega arith), c.place-at.ensures, c.used-n.ensures.0)

pub offset_bounds-numbers-at : goal.offset_bounds-numbers-at
offset_bounds-numbers-at c =
    omega (arith, place_room c.args.row (omega arith), c.place-at.ensures, c.used-n.ensures.0)

pub bounds-numbers-at : goal.bounds-numbers-at
bounds-numbers-at c =
    omega (arith, place_room c.args.row (omega arith), c.place-at.ensures, c.used-n.ensures.0)

pub loop-j-preserved : goal.loop-j-preserved
unfolding width_of
loop-j-preserved c =
    sym (in_step c.args.numbers.now c.place-at.result (ranges_of c.args.row) _ c.used-n.ensures.0 c.loop-j.j (omega arith) (sym c.in_range.ensures ∙ c.if-not-in_range.false)) ∙ c.loop-j.invariant

pub returns-then-not-in_range : goal.returns-then-not-in_range
unfolding width_of
returns-then-not-in_range c =
    sym (in_stop c.args.numbers.now c.place-at.result (ranges_of c.args.row) _ c.used-n.ensures.0 c.loop-j.j (omega arith) (sym c.in_range.ensures ∙ c.if-not-in_range.true)) ∙ c.loop-j.invariant

pub returns : goal.returns
unfolding width_of
returns c =
    sym (in_end c.args.numbers.now c.place-at.result (ranges_of c.args.row) _ c.used-n.ensures.0 c.loop-j.j (omega arith)) ∙ c.loop-j.invariant
