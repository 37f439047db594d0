-- `accept::singles_fault` meets its contract: at each row those left have the first fault of all. Assumes nothing.
use Rattle.std.proofs.Common.{rules}
use mathlib.Core.Path.{◌≡◌, sym, ◌∙◌}
use mathlib.Core.List.{List}
use Prim.Native.Nat.{ℕ, ◌+◌, ◌-◌, ◌<◌}
use lib.ListN.{length, get_or, drop}
use native.Mathlib.Omega.{arith}
use Rattle.units.proofs.Walk.{rest_at}
use Rattle.sheet.specs.Refusals.{Answer, or_else}
use Rattle.rows.specs.Table.{first_point}
use Rattle.faults.proofs.Accepted.{first_single}
use Rattle.faults.proofs.Values.{one_fault, ones_of, ones_end}
use Rattle.accept.proofs.singles_fault.Goals as goal

-- the fault of row i, and then those left
left : (xs : List ℕ) (row absent i : ℕ) → i < length xs → ones_of (drop i xs) (row + i) absent ≡ or_else (one_fault (row + i) (get_or xs i 0) absent) (ones_of (drop (i + 1) xs) (row + (i + 1)) absent)
unfolding ones_of
left xs row absent i h =
    let e : row + i + 1 ≡ row + (i + 1) = omega arith in
    rw (rest_at 0 xs i h, e)

pub returns-in_err-one_fault : goal.returns-in_err-one_fault
unfolding or_else
returns-in_err-one_fault c =
    let long : length c.args.numbers ≡ first_point - first_single = search rules in
    let here = left c.args.numbers first_single c.args.absent c.loop-i.i (omega (arith, long)) in
    let all = sym here ∙ c.loop-i.invariant in
    let stop = rw (← c.one_fault.ensures, c.in_err-one_fault.was) at all in
    search (rules, stop)

pub loop-i-preserved : goal.loop-i-preserved
unfolding or_else
loop-i-preserved c =
    let long : length c.args.numbers ≡ first_point - first_single = search rules in
    let here = left c.args.numbers first_single c.args.absent c.loop-i.i (omega (arith, long)) in
    let all = sym here ∙ c.loop-i.invariant in
    rw (← c.one_fault.ensures, c.in_ok-one_fault.was) at all

pub returns : goal.returns
returns c =
    let long : length c.args.numbers ≡ first_point - first_single = search rules in
    sym (ones_end c.args.numbers first_single c.args.absent c.loop-i.i (omega (arith, long))) ∙ c.loop-i.invariant
