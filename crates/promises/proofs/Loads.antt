-- While a call stays on no sheet is taken: until the transfer a call is counted, and from then on the unit is not in track green. Assumes nothing.
use Prim.Native.Nat.{ℕ, ◌+◌, ◌≤◌, ◌<◌}
use mathlib.Core.Bool.{Bool, true, false}
use mathlib.Core.List.{List, [], ◌∷◌}
use mathlib.Core.Logic.{◌⊎◌, inl, inr, ⊎_elim}
use mathlib.Core.Path.{◌≡◌, refl, sym, ap, subst, ◌∙◌}
use native.Mathlib.Omega.{arith}
use lib.Dec.{eqb}
use borrow.Author.Tests.{eqb-true, eqb-false}
use Rattle.units.proofs.Steps.{split, never}
use Rattle.sheet.specs.declared.Sheet.{Sheet}
use Rattle.sheet.specs.Refusals.{is_fine}
use Rattle.stage.specs.declared.Command.{Command}
use Rattle.stage.specs.declared.Place.{Place}
use Rattle.stage.specs.declared.Stage.{Stage}
use Rattle.stage.specs.declared.Stage.TheVariants.{TrackGreen, TrackYellow, TrackRed, Open, Ending, ClearanceGreen, AllRed}
use Rattle.stage.specs.declared.Then.{Then}
use Rattle.stage.specs.declared.Then.TheVariants.{ToTrack, ToPhase, ToClearance, ToAllRed, ToDwell}
use Rattle.stage.specs.Shown.{in_normal}
use Rattle.flow.specs.Promises.{OwedThen, Owed}
use Rattle.flow.proofs.Counts.{on_counts}
use Rattle.flow.proofs.Past.{PastThen, Past, past_tick}
use Rattle.flow.proofs.Transfer.{transfer_begins}
use Rattle.unit.specs.declared.Unit.{Unit}
use Rattle.measured.specs.Measured.{lengths_of}
use Rattle.unit.specs.Unit.{now_of, fits, start_of, load_of}
use Rattle.unit.specs.Runs.{Event, tick, load, answer_to, run}
use Rattle.unit.proofs.Fit.{onward, tick_is, onward_fits}
use Rattle.unit.proofs.Kept.{fits_kept, start_fits}
use Rattle.unit.proofs.Refused.{not_loaded}
use Rattle.promises.specs.Demand.{CallOn}
use Rattle.promises.specs.Promises.{NoLoadDuringCall}
use Rattle.promises.proofs.Between.{counted_refuses, elsewhere_refuses}
use Rattle.promises.proofs.Counting.{counts, normal_tick}
use Rattle.promises.proofs.Demand.{none_counted}
use Rattle.promises.proofs.Greens.{three, unit_counts, unit_lasts}

-- ---- from the transfer on
abbrev Away : Stage → Type 0
Away st = Past (Prim.Unit {0}) st

owed_then : (z : Then) (p : Place) → OwedThen z → PastThen (Prim.Unit {0}) z p
owed_then ToTrack p h = absurd h
owed_then (ToPhase n) p h = absurd h
owed_then ToClearance p h = tt
owed_then ToAllRed p h = tt
owed_then ToDwell p h = tt

owed_is_away : (st : Stage) → Owed st → Away st
owed_is_away TrackGreen h = h
owed_is_away (TrackYellow p z k) h = owed_then z p h
owed_is_away (TrackRed p z k) h = owed_then z p h
owed_is_away (Open p n g w) h = absurd h
owed_is_away (Ending p n z l w) h = owed_then z p h
owed_is_away (ClearanceGreen k) h = tt
owed_is_away AllRed h = tt

-- ---- a call is on: counted in normal operation, or past that
record Counted (u : Unit) : Type 0 where
  normal : in_normal u.stage ≡ true
  some : 0 < u.count
  less : u.count < three u.sheet

abbrev InCall : Unit → Type 0
InCall u = Counted u ⊎ Away u.stage

in_call_refuses : (u : Unit) (s : Sheet) → InCall u → is_fine (load_of u s).answer ≡ false
in_call_refuses u s (inl k) = counted_refuses u s k.some
in_call_refuses u s (inr h) = elsewhere_refuses u s (λ e. subst Away e h)

-- ---- a tick with the call on, counted from any number below line 3
counted_tick : (u : Unit) (c : Command) → fits u ≡ true → in_normal u.stage ≡ true → u.count < three u.sheet → InCall (onward u c true)
counted_tick u c f n l =
    let t = lengths_of u.sheet in
    let k = counts t u.sheet (now_of u) c n l in
    split (eqb (u.count + 1) t.l03)
    (λ e.
    let d = transfer_begins t u.sheet (now_of u) c (unit_lasts u f) k (eqb-true (u.count + 1) t.l03 e) in
    inr (⊎_elim (λ g. subst Away (sym g) tt) (owed_is_away (onward u c true).stage) d))
    (λ e.
    let m = eqb-false (u.count + 1) t.l03 e in
    let q = on_counts t u.sheet (now_of u) c k l in
    inl (record { normal = normal_tick t u.sheet (now_of u) c n l m; some = omega (arith, q); less = omega (arith, q, m) }))

in_call_tick : (u : Unit) (c : Command) → fits u ≡ true → InCall u → InCall (onward u c true)
in_call_tick u c f (inl k) = counted_tick u c f k.normal k.less
in_call_tick u c f (inr h) = inr (past_tick (Prim.Unit {0}) (lengths_of u.sheet) u.sheet c (now_of u) h)

-- ---- any events with the call on, on the sheet of u
record Held (u v : Unit) : Type 0 where
  sheet : v.sheet ≡ u.sheet
  call : InCall v

held : (es : List Event) → CallOn es → (u : Unit) → fits u ≡ true → InCall u → Held u (run u es)
unfolding run answer_to
held [] o u f k = record { sheet = refl; call = k }
held (tick c false ∷ es) o u f k = never (search o.0)
held (tick c true ∷ es) o u f k =
    let h = held es o.1 (onward u c true) (onward_fits u c true f) (in_call_tick u c f k) in
    subst (λ (v : Unit). Held u (run v es)) (sym (tick_is u c true f)) (record { sheet = h.sheet; call = h.call })
held (load s ∷ es) o u f k =
    subst (λ (v : Unit). Held u (run v es)) (sym (not_loaded u s (in_call_refuses u s k))) (held es o u f k)

pub no_load_during_call : NoLoadDuringCall
unfolding run answer_to
no_load_during_call s a past m c es o =
    let u = run (start_of s).unit past in
    let f = fits_kept (start_of s).unit past (start_fits s a) in
    let z = none_counted s a past m in
    let p = unit_counts u f in
    let h = held es o (onward u c true) (onward_fits u c true f) (counted_tick u c f m.normal (omega arith)) in
    let g : Held u (run (answer_to u (tick c true)).unit es) =
    subst (λ (v : Unit). Held u (run v es)) (sym (tick_is u c true f)) (record { sheet = h.sheet; call = h.call }) in
    (g.sheet, λ offered. (in_call_refuses _ offered g.call, not_loaded _ offered (in_call_refuses _ offered g.call)))
