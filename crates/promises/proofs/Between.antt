-- When the green of a unit shows, from when it shows after one tick, or after a load that is refused. Assumes nothing.
use Prim.Native.Nat.{ℕ, zero, suc, ◌≤◌, ◌<◌}
use mathlib.Core.Bool.{true, false}
use mathlib.Core.List.{List, [], ◌∷◌}
use mathlib.Core.Path.{◌≡◌, refl, sym, ap, subst}
use native.Mathlib.Omega.{arith}
use Rattle.units.proofs.Steps.{split}
use Rattle.sheet.specs.declared.Sheet.{Sheet}
use Rattle.sheet.specs.Refusals.{is_fine}
use Rattle.sheet.proofs.Answers.{is_fine_lem}
use Rattle.stage.specs.declared.Stage.{Stage}
use Rattle.stage.specs.declared.Stage.TheVariants.{TrackGreen, TrackYellow, TrackRed, Open, Ending, ClearanceGreen, AllRed}
use Rattle.stage.specs.declared.Command.{Command}
use Rattle.unit.specs.declared.Unit.{Unit}
use Rattle.unit.specs.Runs.{Event, tick, load, answer_to, run}
use Rattle.unit.specs.Unit.{tick_of, load_of}
use Rattle.unit.proofs.Loads.{load_needs}
use Rattle.unit.proofs.Refused.{not_loaded}
use Rattle.promises.specs.Demand.{ticks_in, up_to, at_end, ShowsGreen}

-- it shows at the end of each tick from number `first` on and before number `last`, and at no other, as far as the events go
pub record GreenBetween (u : Unit) (es : List Event) (first last : ℕ) : Type 0 where
  pub shows : (n : ℕ) → n ≤ ticks_in es → first ≤ n → n < last → ShowsGreen (at_end u es n)
  pub before : (n : ℕ) → n ≤ ticks_in es → n < first → ShowsGreen (at_end u es n) → ⊥
  pub after : (n : ℕ) → n ≤ ticks_in es → last ≤ n → ShowsGreen (at_end u es n) → ⊥

-- any stage but the clearance green
abbrev pub Dark : Stage → Type 0
Dark TrackGreen = Prim.Unit {0}
Dark (TrackYellow p z i) = Prim.Unit {0}
Dark (TrackRed p z i) = Prim.Unit {0}
Dark (Open p n g w) = Prim.Unit {0}
Dark (Ending p n z l w) = Prim.Unit {0}
Dark (ClearanceGreen j) = ⊥
Dark AllRed = Prim.Unit {0}

pub dark : (u : Unit) → Dark u.stage → ShowsGreen u → ⊥
dark u d (k, e) = subst Dark e d

-- ---- no more events
module _ (u : Unit) where
  shows_yet : ShowsGreen u → (n : ℕ) → n ≤ 0 → ShowsGreen (at_end u [] n)
  unfolding run
  shows_yet s zero a = s
  shows_yet s (suc n) a = absurd (omega arith)

  dark_yet : Dark u.stage → (n : ℕ) → n ≤ 0 → ShowsGreen (at_end u [] n) → ⊥
  unfolding run
  dark_yet d zero a s = dark u d s
  dark_yet d (suc n) a s = omega arith

  pub shown_yet : (last : ℕ) → ShowsGreen u → GreenBetween u [] 0 (suc last)
  shown_yet last s = record { shows = λ n a b d. shows_yet s n a; before = λ n a b z. omega arith; after = λ n a b z. omega arith }

  pub not_yet : (first last : ℕ) → Dark u.stage → 0 < first → first ≤ last → GreenBetween u [] first last
  not_yet first last d p q = record { shows = λ n a b e. absurd (omega arith); before = λ n a b. dark_yet d n a; after = λ n a b z. omega arith }

  -- the green is over
  pub over_yet : Dark u.stage → GreenBetween u [] 0 0
  over_yet d = record { shows = λ n a b e. absurd (omega arith); before = λ n a b z. omega arith; after = λ n a b. dark_yet d n a }

-- ---- a tick
module _ (u : Unit) (c : Command) (es : List Event) (first last : ℕ) (h : GreenBetween (tick_of u c true).unit es first last) where
  later_shows : (n : ℕ) → n ≤ suc (ticks_in es) → suc first ≤ n → n < suc last → ShowsGreen (at_end u (tick c true ∷ es) n)
  unfolding run answer_to
  later_shows zero a b d = absurd (omega arith)
  later_shows (suc n) a b d = h.shows n (omega arith) (omega arith) (omega arith)

  later_before : Dark u.stage → (n : ℕ) → n ≤ suc (ticks_in es) → n < suc first → ShowsGreen (at_end u (tick c true ∷ es) n) → ⊥
  unfolding run answer_to
  later_before d zero a b = dark u d
  later_before d (suc n) a b = h.before n (omega arith) (omega arith)

  later_after : (n : ℕ) → n ≤ suc (ticks_in es) → suc last ≤ n → ShowsGreen (at_end u (tick c true ∷ es) n) → ⊥
  unfolding run answer_to
  later_after zero a b z = omega arith
  later_after (suc n) a b z = h.after n (omega arith) (omega arith) z

  pub later : Dark u.stage → GreenBetween u (tick c true ∷ es) (suc first) (suc last)
  later d = record { shows = later_shows; before = later_before d; after = later_after }

module _ (u : Unit) (c : Command) (es : List Event) (last : ℕ) (h : GreenBetween (tick_of u c true).unit es 0 last) where
  now_shows : ShowsGreen u → (n : ℕ) → n ≤ suc (ticks_in es) → 0 ≤ n → n < suc last → ShowsGreen (at_end u (tick c true ∷ es) n)
  unfolding run answer_to
  now_shows s zero a b d = search s
  now_shows s (suc n) a b d = h.shows n (omega arith) (omega arith) (omega arith)

  pub now : ShowsGreen u → GreenBetween u (tick c true ∷ es) 0 (suc last)
  now s = record { shows = now_shows s; before = λ n a b z. omega arith; after = later_after u c es 0 last h }

module _ (u : Unit) (c : Command) (es : List Event) (h : GreenBetween (tick_of u c true).unit es 0 0) where
  over_after : Dark u.stage → (n : ℕ) → n ≤ suc (ticks_in es) → ShowsGreen (at_end u (tick c true ∷ es) n) → ⊥
  unfolding run answer_to
  over_after d zero a = dark u d
  over_after d (suc n) a = h.after n (omega arith) (omega arith)

  pub over : Dark u.stage → GreenBetween u (tick c true ∷ es) 0 0
  over d = record { shows = λ n a b e. absurd (omega arith); before = λ n a b z. omega arith; after = λ n a b. over_after d n a }

-- ---- a load that is refused
-- while a call is counted, or outside track green
pub counted_refuses : (u : Unit) (s : Sheet) → 0 < u.count → is_fine (load_of u s).answer ≡ false
counted_refuses u s p = split (is_fine (load_of u s).answer) (λ e. absurd (omega (arith, (load_needs u s (is_fine_lem _ e)).count))) (λ e. e)

pub elsewhere_refuses : (u : Unit) (s : Sheet) → (u.stage ≡ TrackGreen → ⊥) → is_fine (load_of u s).answer ≡ false
elsewhere_refuses u s n = split (is_fine (load_of u s).answer) (λ e. absurd (n (load_needs u s (is_fine_lem _ e)).stage)) (λ e. e)

module _ (u : Unit) (s : Sheet) (refused : is_fine (load_of u s).answer ≡ false) (es : List Event) where
  pub same_end : (n : ℕ) → at_end u (load s ∷ es) n ≡ at_end u es n
  unfolding run answer_to
  same_end zero = refl
  same_end (suc n) = ap (λ (w : Unit). run w (up_to (suc n) es)) (not_loaded u s refused)

  pub unloaded : (first last : ℕ) → GreenBetween u es first last → GreenBetween u (load s ∷ es) first last
  unloaded first last h =
      record {
        shows = λ n a b d. subst ShowsGreen (sym (same_end n)) (h.shows n a b d);
        before = λ n a b z. h.before n a b (subst ShowsGreen (same_end n) z);
        after = λ n a b z. h.after n a b (subst ShowsGreen (same_end n) z);
      }
