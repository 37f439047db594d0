-- The answer is the first refusal that applies: the lowest on a line, and 7 to 10 and 12 in order after the lines. Assumes nothing.
use mathlib.Core.Path.{◌≡◌, refl, sym, subst}
use mathlib.Core.Bool.{true, false}
use mathlib.Core.List.{List}
use Prim.Native.Nat.{ℕ, suc, ◌+◌, ◌≤◌, ◌<◌}
use native.Mathlib.Numerals.{add-one}
use native.Mathlib.Omega.{arith}
use lib.Dec.{eqb}
use lib.ListN.{get_or}
use borrow.Author.Tests.{le-leb, lt-leb, eqb-true}
use Rattle.units.proofs.Steps.{steps, split}
use Rattle.sheet.specs.declared.Phase.{Phase}
use Rattle.sheet.specs.declared.Sheet.{Sheet}
use Rattle.sheet.specs.Entries.{listed_phases, dwell_numbers}
use Rattle.sheet.specs.declared.Refusal.{Refusal}
use Rattle.sheet.specs.Refusals.{Answer, refused, or_else}
use Rattle.std.specs.Prelude.{Ok}
use Rattle.sheet.proofs.Answers.{fine_or, bad_or, holds, fails}
use Rattle.rows.specs.Table.{used_ranges, place_of, in_ranges}
use Rattle.faults.specs.Lines.{quiet_in_mode_zero, clears_yellow_and_red, phase_fault, rises_after, row_fault}
use Rattle.faults.specs.Whole.{line48, last_point, all_listed, whole_fault, accept_of}
use Rattle.faults.proofs.Farthest.{not_below, too_far, not_too_far}
use Rattle.faults.proofs.Rules.{quiet_holds, clears_holds}
use Rattle.faults.proofs.Lists.{rise_steps, steps_rise, one_missing, missing_fails}
use Rattle.faults.specs.First.{RowIsFirst, PhaseIsFirst, Falls, ListIsFirst, Unlisted, FirstOfSevenToTwelve, WholeIsFirst, AcceptIsFirst}

refused_first : (a b : Answer) (r : Refusal) (l : ℕ) → a ≡ refused r l → or_else a b ≡ refused r l
unfolding or_else
refused_first a b r l e = rw e refl

passed_first : (a b c : Answer) → a ≡ Ok tt → b ≡ c → or_else a b ≡ c
unfolding or_else
passed_first a b c e f = rw e f

ruleset verdict = (refused_first, passed_first, holds, fails, le-leb, lt-leb, not_below)

pub row_is_first : RowIsFirst
unfolding row_fault
row_is_first v row line = (
  λ bad. search verdict,
  λ fine. split (in_ranges v (place_of row) (used_ranges v row)) (λ e. search verdict) (λ e. absurd (fine e)),
)

-- the tests of a phase line that fail, or hold, with the fault or without it
quiet_not : (p : Phase) → (p.mode ≡ 0) × (0 < p.walk + p.clearance) → quiet_in_mode_zero p ≡ false
unfolding quiet_in_mode_zero
quiet_not p h =
    let m = h.0 in
    split (eqb p.walk 0)
    (λ e.
    let c : p.clearance ≡ 0 → ⊥ = λ z. omega (arith, h.1, eqb-true p.walk 0 e) in
    let f : false ≡ quiet_in_mode_zero p = search steps in
    sym f)
    (λ e. let f : false ≡ quiet_in_mode_zero p = search steps in sym f)

clears_not : (p : Phase) → (p.mode ≡ 2) × (p.clearance < p.yellow + p.red) → clears_yellow_and_red p ≡ false
unfolding clears_yellow_and_red
clears_not p h =
    let m = h.0 in
    let c = h.1 in
    let f : false ≡ clears_yellow_and_red p = search steps in
    sym f

quiet_yes : (p : Phase) → ((p.mode ≡ 0) × (0 < p.walk + p.clearance) → ⊥) → quiet_in_mode_zero p ≡ true
quiet_yes p n =
    let none : (m : p.mode ≡ 0) → p.walk + p.clearance ≤ 0 = λ m. not_below 0 (p.walk + p.clearance) (λ l. n (m, l)) in
    sym (quiet_holds p (record { walk = λ m. omega (arith, none m); clearance = λ m. omega (arith, none m) }))

clears_yes : (p : Phase) → ((p.mode ≡ 2) × (p.clearance < p.yellow + p.red) → ⊥) → clears_yellow_and_red p ≡ true
clears_yes p n = sym (clears_holds p (λ m. not_below p.clearance (p.yellow + p.red) (λ l. n (m, l))))

above : (a b : ℕ) → (b ≤ a → ⊥) → a < b
above a b n = omega arith

pub phase_is_first : PhaseIsFirst
unfolding phase_fault
phase_is_first before p line = (
  λ three. refused_first _ _ _ _ (fails _ _ _ (search steps)),
  λ no3.
      let rises = above before.number p.number no3 in (
        λ five. passed_first _ _ _ (holds _ _ _ (search steps)) (refused_first _ _ _ _ (fails _ _ _ (quiet_not p five))),
        λ no5.
            let quiet = quiet_yes p no5 in (
              λ six. passed_first _ _ _ (holds _ _ _ (search steps)) (passed_first _ _ _ (holds _ _ _ quiet) (fails _ _ _ (clears_not p six))),
              λ no6. passed_first _ _ _ (holds _ _ _ (search steps)) (passed_first _ _ _ (holds _ _ _ quiet) (holds _ _ _ (clears_yes p no6))),
            ),
      ),
)

falls_fails : (ns : List ℕ) → Falls ns → rises_after 0 ns ≡ false
falls_fails ns f =
    split (rises_after 0 ns)
    (λ t. absurd (omega (arith, f.level, rw (← add-one f.place) at (rise_steps 0 ns t f.place (omega (arith, f.inside))))))
    (λ t. t)

pub list_is_first : ListIsFirst
list_is_first ns line first = (
  λ fall. fails _ _ _ (falls_fails ns fall),
  λ none.
      holds _ _ _
      (steps_rise 0 ns first
      (λ i h. above (get_or ns i 0) (get_or ns (suc i) 0) (λ l. none (record { place = i; inside = omega arith; level = rw (add-one i) l })))),
)

unlisted_fails : (s : Sheet) → Unlisted s → all_listed (listed_phases s) (dwell_numbers s) ≡ false
unlisted_fails s u =
    missing_fails (listed_phases s) (dwell_numbers s) (record { number = u.number; is_here = u.is_named; missing = u.missing })

no_unlisted : (s : Sheet) → (Unlisted s → ⊥) → all_listed (listed_phases s) (dwell_numbers s) ≡ true
no_unlisted s none =
    split (all_listed (listed_phases s) (dwell_numbers s)) (λ t. t)
    (λ t.
    let m = one_missing (listed_phases s) (dwell_numbers s) t in
    absurd (none (record { number = m.number; is_named = m.is_here; missing = m.missing })))

pub whole_is_first : WholeIsFirst
unfolding whole_fault
whole_is_first s =
    (λ seven. search verdict, λ no7. (λ eight. search verdict, λ no8. (λ nine. let far = too_far (last_point s) (line48 s) nine in search verdict, λ no9. let near = not_too_far (last_point s) (line48 s) no9 in (λ ten. search verdict, λ no10. (λ twelve. let missing = unlisted_fails s twelve in search verdict, λ no12. let listed = no_unlisted s no12 in search verdict)))))

pub accept_is_first : AcceptIsFirst
unfolding accept_of
accept_is_first s =
    (λ bad. bad_or _ _ bad, λ fine. subst (FirstOfSevenToTwelve s) (sym (fine_or _ (whole_fault s) fine)) (whole_is_first s))
