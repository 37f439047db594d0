-- Demand 3: a unit from a fresh start fits and counts no call where one may begin, so the green of a call comes in time; the vehicle, the gates and
-- the trailer follow from the lines. Assumes nothing.
use Prim.Native.Nat.{ℕ, suc, ◌+◌, ◌-◌, ◌≤◌, ◌<◌}
use mathlib.Core.Bool.{Bool, true, false}
use mathlib.Core.List.{List, [], ◌∷◌}
use mathlib.Core.Path.{◌≡◌, refl, sym, ap, subst, ◌∙◌}
use native.Mathlib.Omega.{arith}
use Rattle.units.specs.Numbers.{pick}
use Rattle.units.proofs.Steps.{cases, never}
use Rattle.sheet.specs.declared.Sheet.{Sheet}
use Rattle.sheet.specs.Refusals.{is_fine}
use Rattle.sheet.proofs.Answers.{is_fine_lem}
use Rattle.lines.specs.Worksheet.{worksheet_of}
use Rattle.stage.specs.declared.Command.{Command}
use Rattle.stage.specs.Shown.{in_normal}
use Rattle.flow.proofs.Counts.{off_clears}
use Rattle.unit.specs.declared.Reply.{Reply}
use Rattle.unit.specs.declared.Unit.{Unit}
use Rattle.measured.specs.Measured.{lengths_of}
use Rattle.unit.specs.Unit.{now_of, fits, tick_of, restarted, start_of, load_of}
use Rattle.unit.specs.Runs.{Event, tick, load, answer_to, run}
use Rattle.unit.proofs.Fit.{fits_sheet, onward, tick_is}
use Rattle.unit.proofs.Kept.{fits_kept, start_fits}
use Rattle.unit.proofs.Loads.{load_needs, load_takes}
use Rattle.unit.proofs.Refused.{not_loaded}
use Rattle.promises.specs.Demand.{line17, line51, seen_on, CallOn, ticks_in, at_end, ShowsGreen, Demanded, Demand3, GreenByLine17}
use Rattle.promises.specs.Promises.{NoneCounted}
use Rattle.promises.proofs.Greens.{three, unit_counts, unit_lasts, first_tick}
use Rattle.promises.proofs.Sheets as sheets

-- ---- where the call was off, the count is 0 in normal operation: every tick that sees it off leaves it so
abbrev Clear : Bool → Unit → Type 0
Clear on u = on ≡ false → in_normal u.stage ≡ true → u.count ≡ 0

tick_clear : (u : Unit) (c : Command) (call : Bool) → fits u ≡ true → Clear call (tick_of u c call).unit
tick_clear u c true f e n = never (sym e)
tick_clear u c false f e n =
    let q = tick_is u c false f in
    ap (λ (v : Unit). v.count) q
    ∙ off_clears (lengths_of u.sheet) u.sheet (now_of u) c (ap (λ (v : Unit). in_normal v.stage) (sym q) ∙ n)

load_clear : (u : Unit) (s : Sheet) (on : Bool) → Clear on u → (b : Bool) → is_fine (load_of u s).answer ≡ b → Clear (pick b false on) (load_of u s).unit
unfolding pick
load_clear u s on k true h e n = ap (λ (r : Reply). r.unit.count) (load_takes u s (load_needs u s (is_fine_lem _ h)))
load_clear u s on k false h e n =
    let q = not_loaded u s h in
    ap (λ (v : Unit). v.count) q ∙ k e (ap (λ (v : Unit). in_normal v.stage) (sym q) ∙ n)

fits_on : (u : Unit) (e : Event) → fits u ≡ true → fits (answer_to u e).unit ≡ true
unfolding run
fits_on u e f = fits_kept u (e ∷ []) f

run_clear : (es : List Event) (on : Bool) (u : Unit) → fits u ≡ true → Clear on u → Clear (seen_on on u es) (run u es)
unfolding seen_on run answer_to
run_clear [] on u f k = k
run_clear (tick c call ∷ es) on u f k = run_clear es call (tick_of u c call).unit (fits_on u (tick c call) f) (tick_clear u c call f)
run_clear (load s ∷ es) on u f k =
    run_clear es (pick (is_fine (load_of u s).answer) false on) (load_of u s).unit (fits_on u (load s) f) (load_clear u s on k (is_fine (load_of u s).answer) refl)

start_clear : (s : Sheet) → (start_of s).unit.count ≡ 0
unfolding restarted
start_clear s = cases (λ (r : Reply). r.unit.count ≡ 0) (is_fine (worksheet_of s).answer) _ _ (λ e. refl) (λ e. refl)

pub none_counted : NoneCounted
none_counted s a past m = run_clear past false (start_of s).unit (start_fits s a) (λ e n. start_clear s) (search m.off) (search m.normal)

-- ---- of any unit that fits, in normal operation and with no call counted
module _ (u : Unit) (f : fits u ≡ true) (n : in_normal u.stage ≡ true) (z : u.count ≡ 0) (c : Command) (es : List Event) (o : CallOn es) where
  pub call_answered : (g : ℕ) × Demanded u (tick c true ∷ es) g
  call_answered =
      let s = u.sheet in
      let a = fits_sheet u f in
      let p = unit_counts u f in
      let h = first_tick es o u c (three s - 1) f n (omega arith) in
      let high : h.g ≤ line17 u = omega (arith, h.high, sheets.seventeen s a) in (
        h.g,
        record {
          answered =
              record {
                by_line17 = omega (arith, high);
                green = λ n a b d. h.green.shows n a b (omega arith);
                vehicle = λ e train off w v. omega (arith, high, sheets.warning s a (omega arith));
                gates = λ down d. omega (arith, h.low, sheets.gates_down s a);
              };
          spared = record { trailer = λ e lights gate gone i j k. omega (arith, high, sheets.advance s a (omega arith)) };
          no_sooner = record { not_before = omega (arith, h.low); first = h.green.before; once = λ n a b. h.green.after n a (omega arith) };
        },
      )

pub demand_3 : Demand3
demand_3 s a past m c es o =
    call_answered (run (start_of s).unit past) (fits_kept (start_of s).unit past (start_fits s a)) (search m.normal) (none_counted s a past m) c es o

pub green_by_line_17 : GreenByLine17
green_by_line_17 s a past m c es o long =
    let d = demand_3 s a past m c es o in
    let g = d.0 in
    let h = d.1.answered in
    let lasts = unit_lasts (run (start_of s).unit past) (fits_kept (start_of s).unit past (start_fits s a)) in
    (g, h.by_line17, h.green g (omega (arith, h.by_line17)) (omega arith) (omega arith), λ n a b d. h.green n a b (omega arith))
