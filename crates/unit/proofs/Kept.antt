-- Over any events the issue held never falls and a unit that fits goes on fitting; one that fits is answered 20 by no tick, and by no load whose
-- sheet is not refused so itself: event by event. Assumes nothing.
use Prim.Native.Nat.{◌≤◌}
use mathlib.Core.Bool.{Bool, true, false}
use mathlib.Core.List.{[], ◌∷◌}
use mathlib.Core.Path.{◌≡◌, sym, ap, ◌∙◌}
use native.Mathlib.Nat.{le_refl, le_trans}
use native.Mathlib.Omega.{arith}
use Rattle.units.specs.Numbers.{pick}
use Rattle.units.proofs.Steps.{cases}
use Rattle.sheet.specs.Refusals.{Answer, is_fine, answer_number, or_else, unless}
use Rattle.std.specs.Prelude.{Ok, Err}
use Rattle.sheet.specs.declared.Refusal.TheVariants.{UnitUnfit, LoadNotNow, IssueNotNewer}
use Rattle.sheet.specs.declared.Sheet.{Sheet}
use Rattle.sheet.proofs.Answers.{is_fine_lem}
use Rattle.sheet.specs.Zero.{zero_sheet}
use Rattle.lines.specs.Worksheet.{worksheet_of}
use Rattle.stage.specs.declared.Command.{Command}
use Rattle.stage.specs.Shown.{resting}
use Rattle.flow.specs.Tick.{ticked}
use Rattle.unit.specs.declared.Reply.{Reply}
use Rattle.unit.specs.declared.Unit.{Unit}
use Rattle.measured.specs.Measured.{lengths_of, accepted}
use Rattle.loading.specs.Loading.{newer}
use Rattle.unit.specs.Unit.{now_of, fits, tick_of, fresh, restarted, start_of, place_answer, load_answer, load_of}
use Rattle.unit.specs.Runs.{Event, tick, load, answer_to, run}
use Rattle.unit.specs.Promises.{IssueKept, FitsKept, StartFits}
use Rattle.unit.proofs.Fit.{fresh_fits, onward_fits}
use Rattle.unit.proofs.Loads.{loadable}
use Rattle.unit.proofs.Refused as refused

-- ---- one event: v is the unit after it, where u was before
record After (u v : Unit) : Type 0 where
  fit : fits u ≡ true → fits v ≡ true
  issue : u.sheet.issue ≤ v.sheet.issue

same_after : (u : Unit) → After u u
same_after u = record { fit = λ f. f; issue = le_refl _ }

tick_after : (u : Unit) (c : Command) (call : Bool) → After u (tick_of u c call).unit
unfolding tick_of
tick_after u c call =
    cases (λ (t : Reply). After u t.unit) (fits u) _ _
    (λ f. record { fit = λ _. onward_fits u c call f; issue = le_refl _ }) (λ f. same_after u)

load_after : (u : Unit) (s : Sheet) → After u (load_of u s).unit
unfolding restarted
load_after u s =
    cases (λ (t : Reply). After u t.unit) (is_fine (load_answer u s)) _ _
    (λ e.
    let l = loadable u s (is_fine_lem (load_answer u s) e) in
    record { fit = λ _. fresh_fits s l.sheet; issue = omega (arith, l.issue) })
    (λ e. same_after u)

after : (u : Unit) (e : Event) → After u (answer_to u e).unit
unfolding answer_to
after u (tick c call) = tick_after u c call
after u (load s) = load_after u s

-- ---- any events
pub issue_kept : IssueKept
unfolding run
issue_kept u [] = le_refl _
issue_kept u (e ∷ es) = le_trans (after u e).issue (issue_kept (answer_to u e).unit es)

pub fits_kept : FitsKept
unfolding run
fits_kept u [] f = f
fits_kept u (e ∷ es) f = fits_kept (answer_to u e).unit es ((after u e).fit f)

-- ---- from a fresh start
pub start_accepted : (s : Sheet) → (start_of s).answer ≡ Ok tt → accepted s ≡ true
start_accepted s e = ap is_fine (sym (refused.restarted_answer (worksheet_of s).answer s (fresh zero_sheet)) ∙ e)

pub start_fits : StartFits
unfolding restarted pick
start_fits s e = rw (start_accepted s e) (fresh_fits s (start_accepted s e))

-- ---- a unit that fits is not answered 20
tick_not_twenty : (u : Unit) (c : Command) (call : Bool) → fits u ≡ true → answer_number (tick_of u c call).answer ≡ 20 → ⊥
unfolding tick_of pick
tick_not_twenty u c call f e =
    refused.not_twenty (ticked (lengths_of u.sheet) u.sheet (now_of u) c call).allowed (rw f at e)

place_number_lem : (a b : Bool) → answer_number (or_else (unless a LoadNotNow 0) (unless b IssueNotNewer 0)) ≡ 20 → ⊥
unfolding or_else unless
place_number_lem true true e = omega arith
place_number_lem true false e = omega arith
place_number_lem false b e = omega arith

neither : (a b : Answer) → (answer_number a ≡ 20 → ⊥) → (answer_number b ≡ 20 → ⊥) → answer_number (or_else a b) ≡ 20 → ⊥
unfolding or_else
neither (Ok _) b f g e = g e
neither (Err d) b f g e = f e

-- what a sheet offered is refused with
abbrev pub NotSo : Sheet → Type 0
NotSo s = answer_number (worksheet_of s).answer ≡ 20 → ⊥

load_not_twenty : (u : Unit) (s : Sheet) → NotSo s → fits u ≡ true → answer_number (load_of u s).answer ≡ 20 → ⊥
unfolding load_answer place_answer unless
load_not_twenty u s own f e =
    neither (unless (fits u) UnitUnfit 0) (or_else (worksheet_of s).answer (place_answer u s))
    (λ z. let x = rw f at z in omega arith)
    (neither (worksheet_of s).answer (place_answer u s) own (place_number_lem (resting u.stage u.count) (newer u.sheet.issue s.issue)))
    (ap answer_number (sym (refused.restarted_answer (load_answer u s) s u)) ∙ e)

pub not_twenty : ((s : Sheet) → NotSo s) → (u : Unit) (e : Event) → fits u ≡ true → answer_number (answer_to u e).answer ≡ 20 → ⊥
unfolding answer_to
not_twenty own u (tick c call) f = tick_not_twenty u c call f
not_twenty own u (load s) f = load_not_twenty u s (own s) f
