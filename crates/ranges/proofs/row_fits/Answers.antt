-- `ranges::row_fits` meets its contract: at each turn the numbers left decide as all of them do. Assumes nothing.
use mathlib.Core.Path.{◌≡◌, refl, sym, ap, ◌∙◌}
use mathlib.Core.Bool.{Bool}
use mathlib.Core.List.{List}
use Prim.Native.Nat.{ℕ, ◌+◌}
use native.Mathlib.Omega.{arith}
use lib.ListN.{get_or}
use lib.Seq.{take_all}
use Rattle.rows.specs.Table.{ranges_of, range_of, width_of, in_range}
use Rattle.ranges.proofs.Ranges.{in_step, in_stop, in_end}
use Rattle.ranges.proofs.row_fits.Goals as goal

-- the test of number j, counted from 0
module _ (row j x : ℕ) (v : List ℕ) (b t : Bool) (is : x ≡ get_or v j 0) (e : b ≡ in_range (range_of row j) x) (h : b ≡ t) where
  test : in_range (range_of row j) (get_or v (0 + j) 0) ≡ t
  test = let z : 0 + j ≡ j = omega arith in rw z (ap (in_range (range_of row j)) (sym is) ∙ sym e ∙ h)

pub loop-j-init : goal.loop-j-init
unfolding width_of
loop-j-init c =
    rw (take_all c.width-count.result (ranges_of c.args.row) (omega (arith, c.width-count.ensures))) refl

pub returns-then-not-fits : goal.returns-then-not-fits
unfolding width_of
returns-then-not-fits c =
    sym (in_stop c.args.numbers.now 0 (ranges_of c.args.row) _ (omega (arith, c.width-count.ensures)) c.loop-j.j (omega arith) (test c.args.row c.loop-j.j _ c.args.numbers.now _ _ c.number.ensures c.fits.ensures c.if-not-fits.true)) ∙ c.loop-j.invariant

pub loop-j-preserved : goal.loop-j-preserved
unfolding width_of
loop-j-preserved c =
    sym (in_step c.args.numbers.now 0 (ranges_of c.args.row) _ (omega (arith, c.width-count.ensures)) c.loop-j.j (omega arith) (test c.args.row c.loop-j.j _ c.args.numbers.now _ _ c.number.ensures c.fits.ensures c.if-not-fits.false)) ∙ c.loop-j.invariant

pub returns : goal.returns
unfolding width_of
returns c =
    sym (in_end c.args.numbers.now 0 (ranges_of c.args.row) _ (omega (arith, c.width-count.ensures)) c.loop-j.j (omega arith)) ∙ c.loop-j.invariant
