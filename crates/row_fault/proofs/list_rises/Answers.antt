-- `row_fault::list_rises` meets its contract: a list's numbers are those after its count. Assumes nothing.
use mathlib.Core.Path.{◌≡◌, ap, sym, ◌∙◌}
use mathlib.Core.List.{List}
use Prim.Native.Nat.{ℕ, ◌+◌, ◌-◌}
use native.Mathlib.Omega.{arith}
use lib.ListN.{length, get_or, take, drop}
use borrow.Author.Rules.{rules}
use Rattle.rows.specs.Table.{list, most_phases, number_count, form_of, width_of, place_of}
use Rattle.rows.proofs.Tables.{list_row, place_room}
use Rattle.numbers.specs.Flat.{list_numbers}
use Rattle.numbers.proofs.Entries.{part_entries}
use Rattle.faults.specs.Lines.{rises_after}
use Rattle.row_fault.proofs.list_rises.Goals as goal

-- the numbers after the count are those of the row
numbers_of : (v : List ℕ) (row : ℕ) → form_of row ≡ list → length v ≡ number_count → list_numbers v (place_of row) ≡ take (width_of row - 1) (drop (place_of row + 1) v)
numbers_of v row e l =
    let is = list_row row e in
    let w : width_of row - 1 ≡ most_phases = omega (arith, is.width) in
    rw w (sym (part_entries v (place_of row + 1) most_phases (omega (arith, place_room row is.inside, is.width))))

pub offset_bounds-numbers-at : goal.offset_bounds-numbers-at
offset_bounds-numbers-at c =
    let is = list_row c.args.row c.requires in
    omega (arith, place_room c.args.row is.inside, c.place-at.ensures)

pub bounds-numbers-at : goal.bounds-numbers-at
bounds-numbers-at c =
    let is = list_row c.args.row c.requires in
    omega (arith, place_room c.args.row is.inside, is.width, c.place-at.ensures)

pub returns : goal.returns
returns c =
    let v = c.args.numbers.now in
    let row = c.args.row in
    let l : length v ≡ number_count = search rules in
    let numbers = c.list_at-list.ensures ∙ numbers_of v row c.requires l in
    c.rises.ensures ∙ ap (rises_after 0) c.counted.ensures ∙ λ i. rises_after 0 (take (get_or v (c.place-at.ensures i) 0) (numbers i))
