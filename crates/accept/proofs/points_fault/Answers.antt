-- `accept::points_fault` meets its contract: at each point the rows left have the first fault of all. Assumes nothing.
use Rattle.std.proofs.Common.{rules, length-take}
use mathlib.Core.Path.{◌≡◌, refl, sym, ap, subst, ◌∙◌}
use mathlib.Core.List.{List}
use Prim.Native.Nat.{ℕ, ◌+◌, ◌-◌, ◌<◌, min}
use lib.ListN.{length, get_or}
use lib.Seq.{get_or-take}
use native.Mathlib.Omega.{arith}
use lib.Dec.{eqb}
use Rattle.units.specs.Numbers.{pick}
use Rattle.sheet.specs.declared.Point.{Point}
use Rattle.sheet.specs.declared.Sheet.{Sheet}
use Rattle.sheet.specs.Refusals.{is_fine}
use Rattle.sheet.specs.Entries.{listed_points}
use Rattle.sheet.specs.Zero.{zero_point}
use Rattle.rows.specs.Table.{first_point, most_points}
use Rattle.faults.specs.Lines.{starts_at_zero, point_rises}
use Rattle.faults.proofs.Values.{PointsLeft, point_line, points_start, points_next, points_stop, points_end}
use Rattle.accept.proofs.points_fault.Goals as goal

-- the entries listed are those of the array, as many as are counted
module _ (s : Sheet) (ps : List Point) (is : ps ≡ listed_points s) (l : length s.points ≡ most_points) where
  few : length ps ≡ min s.point_count most_points
  few = ap length is ∙ length-take s.point_count s.points ∙ ap (min s.point_count) l

  same : (i : ℕ) → i < length ps → get_or ps i zero_point ≡ get_or s.points i zero_point
  same i h = ap (λ (xs : List Point). get_or xs i zero_point) is ∙ get_or-take s.point_count s.points i zero_point (omega (arith, few))

pub loop-i-init : goal.loop-i-init
loop-i-init c = points_start _ _ _ _

pub returns-in_err-point_line : goal.returns-in_err-point_line
returns-in_err-point_line c =
    let s = c.args.s in
    let l : length s.points ≡ most_points = search rules in
    let ps = c.listed_points-points.result.now in
    let i = c.loop-i.i in
    let here = same s ps c.listed_points-points.ensures l i c.loop-i-test.true in
    let fault = c.point_line.ensures ∙ ap (λ (p : Point). point_line (pick (eqb i 0) (starts_at_zero p) (point_rises c.loop-i.before p)) p (first_point + i + 1 - c.args.absent)) here in
    let stop = points_stop s.points _ c.args.absent c.loop-i.before i _ c.point_line.result c.loop-i.invariant (omega (arith, few s ps c.listed_points-points.ensures l)) c.requires refl fault (ap is_fine c.in_err-point_line.was) s refl refl in
    search (rules, stop)

pub loop-i-preserved : goal.loop-i-preserved
loop-i-preserved c =
    let s = c.args.s in
    let l : length s.points ≡ most_points = search rules in
    let ps = c.listed_points-points.result.now in
    let i = c.loop-i.i in
    let here = same s ps c.listed_points-points.ensures l i c.loop-i-test.true in
    let fault = c.point_line.ensures ∙ ap (λ (p : Point). point_line (pick (eqb i 0) (starts_at_zero p) (point_rises c.loop-i.before p)) p (first_point + i + 1 - c.args.absent)) here in
    subst (λ (p : Point). PointsLeft s.points (min s.point_count most_points) c.args.absent p (i + 1)) (sym here)
    (points_next s.points _ c.args.absent c.loop-i.before i _ c.point_line.result c.loop-i.invariant (omega (arith, few s ps c.listed_points-points.ensures l)) c.requires refl fault (ap is_fine c.in_ok-point_line.was))

pub returns : goal.returns
returns c =
    let s = c.args.s in
    let l : length s.points ≡ most_points = search rules in
    let ps = c.listed_points-points.result.now in
    points_end s.points _ c.args.absent c.loop-i.before c.loop-i.i c.loop-i.invariant (omega (arith, few s ps c.listed_points-points.ensures l)) s refl refl
