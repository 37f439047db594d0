-- From each state of a call that stays on, the green comes in time and lasts: by going along the events, tick by tick. Assumes nothing.
use Prim.Native.Nat.{ℕ, zero, suc, ◌+◌, ◌-◌, ◌≤◌, ◌<◌}
use mathlib.Core.Bool.{Bool, true, false}
use mathlib.Core.List.{List, [], ◌∷◌}
use mathlib.Core.Path.{◌≡◌, refl, sym, ap, subst, ◌∙◌}
use native.Mathlib.Omega.{arith}
use Rattle.units.proofs.Steps.{never}
use Rattle.sheet.specs.declared.Sheet.{Sheet}
use Rattle.sheet.specs.Refusals.{is_fine}
use Rattle.lines.specs.Worksheet.{worksheet_of}
use Rattle.stage.specs.declared.Command.{Command}
use Rattle.stage.specs.declared.Stage.{Stage}
use Rattle.stage.specs.declared.Stage.TheVariants.{TrackGreen, TrackYellow, TrackRed, Open, Ending, ClearanceGreen, AllRed}
use Rattle.stage.specs.Shown.{in_normal}
use Rattle.flow.specs.declared.Now.{Now}
use Rattle.flow.specs.Calls.{counting, answered, called}
use Rattle.flow.specs.Settling.{settle}
use Rattle.flow.specs.Tick.{after_times, after_command, end_of}
use Rattle.flow.specs.Promises.{now}
use Rattle.flow.proofs.Counts.{on_counts}
use Rattle.flow.proofs.Fit.{after_times_fits, after_command_fits}
use Rattle.flow.proofs.Past.{Past, past_tick}
use Rattle.flow.proofs.Rest.{nothing_due}
use Rattle.flow.proofs.Transfer.{begins_now}
use Rattle.unit.specs.declared.Unit.{Unit}
use Rattle.measured.specs.Measured.{lengths_of}
use Rattle.measured.proofs.Named.{named_listed}
use Rattle.unit.specs.Unit.{now_of, holding, fits, tick_of, load_of}
use Rattle.unit.specs.Runs.{Event, tick, load}
use Rattle.unit.proofs.Fit.{fits_sheet, fits_told, onward, tick_is, onward_fits}
use Rattle.promises.specs.Demand.{CallOn}
use Rattle.promises.proofs.Between.{GreenBetween, Dark, shown_yet, not_yet, over_yet, later, now as shows-now, over, counted_refuses, elsewhere_refuses, unloaded}
use Rattle.promises.proofs.Coming.{Within, Next, none_left, next_tick, green_tick, last_tick, due}
use Rattle.promises.proofs.Coming.Next.{shown, within}
use Rattle.promises.proofs.Counting.{counts, normal_tick}
use Rattle.promises.proofs.Sheets as sheets

abbrev pub three : Sheet → ℕ
three s = (lengths_of s).l03

abbrev pub fifty_one : Sheet → ℕ
fifty_one s = (lengths_of s).l51

abbrev pub sixteen : Sheet → ℕ
sixteen s = (worksheet_of s).lines.l16.0

pub unit_counts : (u : Unit) → fits u ≡ true → 0 < three u.sheet
unit_counts u f = sheets.counts u.sheet (fits_sheet u f)

pub unit_lasts : (u : Unit) → fits u ≡ true → 0 < fifty_one u.sheet
unit_lasts u f = sheets.lasts u.sheet (fits_sheet u f)

-- the green of the unit after a tick is that of the unit that goes on
as_onward : (u : Unit) (c : Command) (es : List Event) (first last : ℕ) → fits u ≡ true → GreenBetween (onward u c true) es first last
    → GreenBetween (tick_of u c true).unit es first last
as_onward u c es first last f h = subst (λ (v : Unit). GreenBetween v es first last) (sym (tick_is u c true f)) h

-- ---- it has shown: none shows again
shown_dark : (st : Stage) → Past ⊥ st → Dark st
shown_dark TrackGreen d = tt
shown_dark (TrackYellow p z i) d = tt
shown_dark (TrackRed p z i) d = tt
shown_dark (Open p n g w) d = tt
shown_dark (Ending p n z l w) d = tt
shown_dark (ClearanceGreen j) d = d
shown_dark AllRed d = tt

shown_over : (es : List Event) → CallOn es → (u : Unit) → fits u ≡ true → Past ⊥ u.stage → GreenBetween u es 0 0
shown_over [] o u f d = over_yet u (shown_dark u.stage d)
shown_over (tick c false ∷ es) o u f d = never (search o.0)
shown_over (tick c true ∷ es) o u f d =
    let h =
    shown_over es o.1 (onward u c true) (onward_fits u c true f) (past_tick ⊥ (lengths_of u.sheet) u.sheet c (now_of u) d) in
    over u c es (as_onward u c es 0 0 f h) (shown_dark u.stage d)
shown_over (load s ∷ es) o u f d = unloaded u s (elsewhere_refuses u s (λ e. subst (Past ⊥) e d)) es 0 0 (shown_over es o u f d)

-- ---- in the green: suc r ticks of line 51 are left
abbrev green_at : Sheet → ℕ → ℕ → Unit
green_at s i j = holding s (now (ClearanceGreen j) i)

-- any stage but track green
abbrev Elsewhere : Stage → Type 0
Elsewhere TrackGreen = ⊥
Elsewhere (TrackYellow p z i) = Prim.Unit {0}
Elsewhere (TrackRed p z i) = Prim.Unit {0}
Elsewhere (Open p n g w) = Prim.Unit {0}
Elsewhere (Ending p n z l w) = Prim.Unit {0}
Elsewhere (ClearanceGreen j) = Prim.Unit {0}
Elsewhere AllRed = Prim.Unit {0}

green_lasts : (es : List Event) → CallOn es → (s : Sheet) (i j r : ℕ) → fits (green_at s i j) ≡ true → j + suc r ≡ fifty_one s → GreenBetween (green_at s i j) es 0 (suc r)
green_lasts [] o s i j r f e = shown_yet (green_at s i j) r (j, refl)
green_lasts (tick c false ∷ es) o s i j r f e = never (search o.0)
green_lasts (tick c true ∷ es) o s i j zero f e =
    let u = green_at s i j in
    let h = shown_over es o.1 (onward u c true) (onward_fits u c true f) (last_tick (lengths_of s) s c i j (omega arith)) in
    shows-now u c es 0 (as_onward u c es 0 0 f h) (j, refl)
green_lasts (tick c true ∷ es) o s i j (suc r) f e =
    let u = green_at s i j in
    let m = (onward u c true).count in
    let q : onward u c true ≡ green_at s m (j + 1) = ap (λ (st : Stage). holding s (now st m)) (green_tick (lengths_of s) s c i j (omega arith)) in
    let h = green_lasts es o.1 s m (j + 1) r (subst (λ (v : Unit). fits v ≡ true) q (onward_fits u c true f)) (omega arith) in
    shows-now u c es (suc r) (as_onward u c es 0 (suc r) f (subst (λ (v : Unit). GreenBetween v es 0 (suc r)) (sym q) h)) (j, refl)
green_lasts (load y ∷ es) o s i j r f e =
    unloaded (green_at s i j) y (elsewhere_refuses (green_at s i j) y (λ d. subst Elsewhere d tt)) es 0 (suc r) (green_lasts es o s i j r f e)

-- ---- the green starts with a tick between these, and lasts
pub record Greens (u : Unit) (es : List Event) (least most : ℕ) : Type 0 where
  pub g : ℕ
  pub low : least ≤ g
  pub high : g ≤ most
  pub green : GreenBetween u es g (g + fifty_one u.sheet)

starts_now : (es : List Event) → CallOn es → (s : Sheet) (i k : ℕ) → fits (green_at s i 0) ≡ true → Greens (green_at s i 0) es 0 k
starts_now es o s i k f =
    let u = green_at s i 0 in
    let p = unit_lasts u f in
    let e : suc (fifty_one s - 1) ≡ 0 + fifty_one s = omega arith in
    record {
      g = 0;
      low = omega arith;
      high = omega arith;
      green = subst (λ (n : ℕ). GreenBetween u es 0 n) e (green_lasts es o s i 0 (fifty_one s - 1) f (omega arith));
    }

-- one tick earlier: nothing shows before the tick
earlier : (u : Unit) (c : Command) (es : List Event) (least most : ℕ) → fits u ≡ true → Dark u.stage
    → Greens (onward u c true) es least most → Greens u (tick c true ∷ es) (suc least) (suc most)
earlier u c es least most f d h =
    let i = fifty_one u.sheet in
    let e : suc (h.g + i) ≡ suc h.g + i = omega arith in
    record {
      g = suc h.g;
      low = omega (arith, h.low);
      high = omega (arith, h.high);
      green =
          subst (λ (n : ℕ). GreenBetween u (tick c true ∷ es) (suc h.g) n) e
          (later u c es h.g (h.g + i) (as_onward u c es h.g (h.g + i) f h.green) d);
    }

-- between wider bounds too
widen : (u : Unit) (es : List Event) (a b l m : ℕ) → b ≤ a → l ≤ m → Greens u es a l → Greens u es b m
widen u es a b l m p q h = record { g = h.g; low = omega (arith, h.low); high = omega (arith, h.high); green = h.green }

-- a load before it, which is refused
loaded_before : (u : Unit) (s : Sheet) (es : List Event) (least most : ℕ) → is_fine (load_of u s).answer ≡ false
    → Greens u es least most → Greens u (load s ∷ es) least most
loaded_before u s es least most r h =
    record { g = h.g; low = h.low; high = h.high; green = unloaded u s r es h.g (h.g + fifty_one u.sheet) h.green }

-- ---- it is owed
module _ (s : Sheet) (k : ℕ) where
  within_dark : (st : Stage) → Within (lengths_of s) s k st → Dark st
  within_dark TrackGreen h = tt
  within_dark (TrackYellow p z i) h = tt
  within_dark (TrackRed p z i) h = tt
  within_dark (Open p n g w) h = tt
  within_dark (Ending p n z l w) h = tt
  within_dark (ClearanceGreen j) h = h
  within_dark AllRed h = tt

  within_elsewhere : (st : Stage) → Within (lengths_of s) s k st → st ≡ TrackGreen → ⊥
  within_elsewhere st h e = subst (Within (lengths_of s) s k) e h

by_next : (es : List Event) → CallOn es → (s : Sheet) (i k : ℕ)
    → ((st : Stage) → fits (holding s (now st i)) ≡ true → Within (lengths_of s) s k st → Greens (holding s (now st i)) es 0 k)
    → (st : Stage) → fits (holding s (now st i)) ≡ true → Next (lengths_of s) s k st → Greens (holding s (now st i)) es 0 k
by_next es o s i k rec st f shown = starts_now es o s i k f
by_next es o s i k rec st f (within _ h) = rec st f h

owed_greens : (es : List Event) → CallOn es → (s : Sheet) (i k : ℕ) (st : Stage)
    → fits (holding s (now st i)) ≡ true → Within (lengths_of s) s k st → Greens (holding s (now st i)) es 0 k
owed_greens es o s i zero st f h = absurd (none_left (lengths_of s) s st h)
owed_greens [] o s i (suc k) st f h =
    record {
      g = suc k;
      low = omega arith;
      high = omega arith;
      green = not_yet (holding s (now st i)) (suc k) (suc k + fifty_one s) (within_dark s (suc k) st h) (omega arith) (omega arith);
    }
owed_greens (tick c false ∷ es) o s i (suc k) st f h = never (search o.0)
owed_greens (tick c true ∷ es) o s i (suc k) st f h =
    let u = holding s (now st i) in
    let m = (onward u c true).count in
    let r =
    by_next es o.1 s m k (owed_greens es o.1 s m k) (end_of (lengths_of s) s c true (now st i)) (onward_fits u c true f)
    (next_tick (lengths_of s) s c true (now st i) (unit_lasts u f) k h) in
    widen u (tick c true ∷ es) 1 0 (suc k) (suc k) (omega arith) (omega arith) (earlier u c es 0 k f (within_dark s (suc k) st h) r)
owed_greens (load y ∷ es) o s i (suc k) st f h =
    let u = holding s (now st i) in
    loaded_before u y es 0 (suc k) (elsewhere_refuses u y (within_elsewhere s (suc k) st h)) (owed_greens es o s i (suc k) st f h)

-- ---- the tick on which the call has been on for line 3 ticks
normal_dark : (st : Stage) → in_normal st ≡ true → Dark st
unfolding in_normal
normal_dark TrackGreen e = tt
normal_dark (TrackYellow p z i) e = tt
normal_dark (TrackRed p z i) e = tt
normal_dark (Open p n g w) e = tt
normal_dark (Ending p n z l w) e = tt
normal_dark (ClearanceGreen j) e = never e
normal_dark AllRed e = tt

module _ (u : Unit) (c : Command) (f : fits u ≡ true) (n : in_normal u.stage ≡ true) (e : u.count + 1 ≡ three u.sheet) where
  pub event_next : Next (lengths_of u.sheet) u.sheet (sixteen u.sheet) (end_of (lengths_of u.sheet) u.sheet c true (now_of u))
  event_next =
      let t = lengths_of u.sheet in
      let s = u.sheet in
      let a = fits_sheet u f in
      let st = after_command t s c true (after_times t s true (now_of u)) in
      let g = after_command_fits t s (named_listed s a) c true _ (after_times_fits t s true (now_of u) (fits_told u f).stage) in
      let d = due t s a (unit_lasts u f) (sheets.track_time s a) true st (nothing_due t s true _ (unit_lasts u f)) g in
      let q : called t true (counting t (now_of u)) u.count st ≡ answered st =
      ap (λ (b : Bool). called t true b u.count st) (counts t s (now_of u) c n (omega arith)) ∙ begins_now t u.count st e in
      subst (λ (v : Stage). Next t s (sixteen s) (settle t s true v)) (sym q) d

  event_greens : (es : List Event) → CallOn es → Greens u (tick c true ∷ es) 1 (suc (sixteen u.sheet))
  event_greens es o =
      let s = u.sheet in
      let m = (onward u c true).count in
      earlier u c es 0 (sixteen s) f (normal_dark u.stage n)
      (by_next es o s m (sixteen s) (owed_greens es o s m (sixteen s)) (end_of (lengths_of s) s c true (now_of u)) (onward_fits u c true f) event_next)

-- ---- before it: suc m ticks of line 3 are left
one_counted : (u : Unit) (c : Command) → in_normal u.stage ≡ true → u.count < three u.sheet → (onward u c true).count ≡ u.count + 1
one_counted u c n l = on_counts (lengths_of u.sheet) u.sheet (now_of u) c (counts (lengths_of u.sheet) u.sheet (now_of u) c n l) l

counting_greens : (es : List Event) → CallOn es → (u : Unit) (m : ℕ) → fits u ≡ true → in_normal u.stage ≡ true → 0 < u.count
    → u.count + suc m ≡ three u.sheet → Greens u es (suc m) (suc m + sixteen u.sheet)
counting_greens [] o u m f n p e =
    record {
      g = suc m;
      low = omega arith;
      high = omega arith;
      green = not_yet u (suc m) (suc m + fifty_one u.sheet) (normal_dark u.stage n) (omega arith) (omega arith);
    }
counting_greens (tick c false ∷ es) o u m f n p e = never (search o.0)
counting_greens (tick c true ∷ es) o u zero f n p e =
    widen u (tick c true ∷ es) 1 1 _ (1 + sixteen u.sheet) (omega arith) (omega arith) (event_greens u c f n (omega arith) es o.1)
counting_greens (tick c true ∷ es) o u (suc m) f n p e =
    let q = one_counted u c n (omega arith) in
    let t = lengths_of u.sheet in
    widen u (tick c true ∷ es) (suc (suc m)) (suc (suc m)) (suc (suc m + sixteen u.sheet)) (suc (suc m) + sixteen u.sheet) (omega arith) (omega arith)
    (earlier u c es (suc m) (suc m + sixteen u.sheet) f (normal_dark u.stage n)
    (counting_greens es o.1 (onward u c true) m (onward_fits u c true f) (normal_tick t u.sheet (now_of u) c n (omega arith) (λ d. omega arith)) (omega (arith, q)) (omega (arith, q))))
counting_greens (load s ∷ es) o u m f n p e =
    loaded_before u s es (suc m) (suc m + sixteen u.sheet) (counted_refuses u s p) (counting_greens es o u m f n p e)

-- the call's first tick
pub first_tick : (es : List Event) → CallOn es → (u : Unit) (c : Command) (m : ℕ) → fits u ≡ true → in_normal u.stage ≡ true
    → u.count + suc m ≡ three u.sheet → Greens u (tick c true ∷ es) (suc m) (suc m + sixteen u.sheet)
first_tick es o u c zero f n e =
    widen u (tick c true ∷ es) 1 1 _ (1 + sixteen u.sheet) (omega arith) (omega arith) (event_greens u c f n (omega arith) es o)
first_tick es o u c (suc m) f n e =
    let q = one_counted u c n (omega arith) in
    let t = lengths_of u.sheet in
    widen u (tick c true ∷ es) (suc (suc m)) (suc (suc m)) (suc (suc m + sixteen u.sheet)) (suc (suc m) + sixteen u.sheet) (omega arith) (omega arith)
    (earlier u c es (suc m) (suc m + sixteen u.sheet) f (normal_dark u.stage n)
    (counting_greens es o (onward u c true) m (onward_fits u c true f) (normal_tick t u.sheet (now_of u) c n (omega arith) (λ d. omega arith)) (omega (arith, q)) (omega (arith, q))))
