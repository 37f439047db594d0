-- `entries::list_at` meets its contract: the closure gives the number at each place. Assumes nothing.
use Rattle.std.proofs.Common.{rules, of_calls}
use mathlib.Core.Path.{◌≡◌, refl, ap, ◌∙◌}
use Prim.Native.Nat.{ℕ, ◌+◌}
use native.Mathlib.Omega.{arith}
use lib.ListN.{get_or}
use Rattle.rows.specs.Table.{place_of}
use Rattle.rows.proofs.Tables.{place_within}
use Rattle.numbers.proofs.Made.{made}
use Rattle.entries.proofs.list_at.Goals as goal

pub overflow_add-at : goal.overflow_add-at
overflow_add-at c =
    omega (arith, place_within c.args.row, c.place.ensures)

pub returns : goal.returns
returns c =
    let v = c.args.numbers.now in
    let within = place_within c.args.row in
    made _ (λ (i : ℕ). get_or v (place_of c.args.row + 1 + i) 0) _ _ (λ i y q b k. search (rules, of_calls)) _ 0 c.from_fn.ensures.items
