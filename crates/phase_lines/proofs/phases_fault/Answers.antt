-- `phase_lines::phases_fault` meets its contract: at each phase the rows left have the first fault of all. Assumes nothing.
use Rattle.std.proofs.Common.{rules, length-take}
use mathlib.Core.Path.{◌≡◌, refl, sym, ap, subst, ◌∙◌}
use mathlib.Core.List.{List}
use Prim.Native.Nat.{ℕ, ◌+◌, ◌<◌, min}
use lib.ListN.{length, get_or}
use lib.Seq.{get_or-take}
use native.Mathlib.Omega.{arith}
use Rattle.sheet.specs.declared.Phase.{Phase}
use Rattle.sheet.specs.declared.Sheet.{Sheet}
use Rattle.sheet.specs.Refusals.{is_fine}
use Rattle.sheet.specs.Entries.{listed_phases}
use Rattle.sheet.specs.Zero.{zero_phase}
use Rattle.rows.specs.Table.{first_phase, most_phases}
use Rattle.faults.proofs.Values.{PhasesLeft, phase_line, phases_start, phases_next, phases_stop, phases_end}
use Rattle.phase_lines.proofs.phases_fault.Goals as goal

-- the entries listed are those of the array, as many as are counted
module _ (s : Sheet) (ps : List Phase) (is : ps ≡ listed_phases s) (l : length s.phases ≡ most_phases) where
  few : length ps ≡ min s.phase_count most_phases
  few = ap length is ∙ length-take s.phase_count s.phases ∙ ap (min s.phase_count) l

  same : (i : ℕ) → i < length ps → get_or ps i zero_phase ≡ get_or s.phases i zero_phase
  same i h = ap (λ (xs : List Phase). get_or xs i zero_phase) is ∙ get_or-take s.phase_count s.phases i zero_phase (omega (arith, few))

pub loop-i-init : goal.loop-i-init
loop-i-init c = phases_start _ _ _ c.zero_phase-before.ensures

pub returns-in_err-phase_line : goal.returns-in_err-phase_line
returns-in_err-phase_line c =
    let s = c.args.s in
    let l : length s.phases ≡ most_phases = search rules in
    let ps = c.listed_phases-phases.result.now in
    let i = c.loop-i.i in
    let here = same s ps c.listed_phases-phases.ensures l i c.loop-i-test.true in
    let fault = c.phase_line.ensures ∙ ap (λ (p : Phase). phase_line c.loop-i.before p (first_phase + i + 1)) here in
    let stop = phases_stop s.phases _ c.loop-i.before i _ c.phase_line.result c.loop-i.invariant (omega (arith, few s ps c.listed_phases-phases.ensures l)) refl fault (ap is_fine c.in_err-phase_line.was) s refl refl in
    search (rules, stop)

pub loop-i-preserved : goal.loop-i-preserved
loop-i-preserved c =
    let s = c.args.s in
    let l : length s.phases ≡ most_phases = search rules in
    let ps = c.listed_phases-phases.result.now in
    let i = c.loop-i.i in
    let here = same s ps c.listed_phases-phases.ensures l i c.loop-i-test.true in
    let fault = c.phase_line.ensures ∙ ap (λ (p : Phase). phase_line c.loop-i.before p (first_phase + i + 1)) here in
    subst (λ (p : Phase). PhasesLeft s.phases (min s.phase_count most_phases) p (i + 1)) (sym here)
    (phases_next s.phases _ c.loop-i.before i _ c.phase_line.result c.loop-i.invariant (omega (arith, few s ps c.listed_phases-phases.ensures l)) refl fault (ap is_fine c.in_ok-phase_line.was))

pub returns : goal.returns
returns c =
    let s = c.args.s in
    let l : length s.phases ≡ most_phases = search rules in
    let ps = c.listed_phases-phases.result.now in
    phases_end s.phases _ c.loop-i.before c.loop-i.i c.loop-i.invariant (omega (arith, few s ps c.listed_phases-phases.ensures l)) s refl refl
