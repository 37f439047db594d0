-- A stage that fits still does one tick later, and after a command that is allowed: stage by stage. Assumes nothing.
use Prim.Native.Nat.{ℕ}
use mathlib.Core.Bool.{Bool, true, false}
use mathlib.Core.Path.{◌≡◌, refl, sym}
use lib.Dec.{leb, eqb}
use Rattle.units.specs.Numbers.{pick, both}
use Rattle.units.proofs.Steps.{pick_yes, cases, split, never, both_left, both_right}
use Rattle.sheet.specs.declared.Sheet.{Sheet}
use Rattle.phase.specs.declared.Light.{Light}
use Rattle.phase.specs.declared.Light.TheVariants.{Green}
use Rattle.phase.specs.declared.Walker.{Walker}
use Rattle.phase.specs.declared.Walker.TheVariants.{Walk}
use Rattle.phase.specs.Times.{one_more, green_time, add_light, add_walker, light_fits, walker_fits}
use Rattle.phase.proofs.Fit.{one_more_fits, none_fits, add_light_fits, add_walker_fits}
use Rattle.stage.specs.declared.Command.TheVariants.{None, End}
use Rattle.stage.specs.declared.Lengths.{Lengths}
use Rattle.stage.specs.declared.Place.{Place}
use Rattle.stage.specs.declared.Place.TheVariants.{Normal, Train}
use Rattle.stage.specs.declared.Stage.{Stage}
use Rattle.stage.specs.declared.Stage.TheVariants.{TrackGreen, TrackYellow, TrackRed, Open, Ending, ClearanceGreen, AllRed}
use Rattle.stage.specs.declared.Then.{Then}
use Rattle.stage.specs.declared.Then.TheVariants.{ToTrack, ToPhase}
use Rattle.stage.specs.Listed.{listed, phase_of, NamedAreListed}
use Rattle.stage.specs.Times.{add_one}
use Rattle.stage.specs.Fitness.{then_fits, phase_fits, stage_fits}
use Rattle.stage.specs.Commands.{may_start, allowed_in, allowed_at, allowed, home, next, ended, obeyed}
use Rattle.stage.specs.Promises.{TickFits, ObeyedFits}

pub both_true : (a b : Bool) → a ≡ true → b ≡ true → both a b ≡ true
both_true a b p q = sym (pick_yes a b false true p (sym q))

-- what the test of a phase's numbers says
pub record PhaseFits (s : Sheet) (n : ℕ) (l : Light) (w : Walker) : Type 0 where
  pub is_listed : listed s n ≡ true
  pub light : light_fits (phase_of s n) l ≡ true
  pub walker : walker_fits (phase_of s n) w ≡ true

module _ (s : Sheet) (n : ℕ) where
  pub phase_told : (l : Light) (w : Walker) → phase_fits s n l w ≡ true → PhaseFits s n l w
  unfolding phase_fits
  phase_told l w e =
      let b = both_right _ _ e in
      record { is_listed = both_left _ _ e; light = both_left _ _ b; walker = both_right _ _ b }

  pub phase_fits_lem : (l : Light) (w : Walker) → PhaseFits s n l w → phase_fits s n l w ≡ true
  unfolding phase_fits
  phase_fits_lem l w f = both_true _ _ f.is_listed (both_true _ _ f.light f.walker)

  add_phase_fits : (l : Light) (w : Walker) → phase_fits s n l w ≡ true → phase_fits s n (add_light (phase_of s n) l) (add_walker (phase_of s n) w) ≡ true
  add_phase_fits l w e =
      let f = phase_told l w e in
      phase_fits_lem _ _
      (record {
        is_listed = f.is_listed;
        light = add_light_fits (phase_of s n) l f.light;
        walker = add_walker_fits (phase_of s n) w f.walker;
      })

-- a time that runs beside what follows
then_too : (b : Bool) (k n : ℕ) → both b (leb k n) ≡ true → both b (leb (one_more k n) n) ≡ true
then_too b k n e = both_true b _ (both_left b _ e) (one_more_fits k n (both_right b _ e))

pub tick_fits : TickFits
unfolding stage_fits add_one add_light add_walker
tick_fits t s TrackGreen e = refl
tick_fits t s (TrackYellow p z k) e = then_too (then_fits s z) k t.track_yellow e
tick_fits t s (TrackRed p z k) e = then_too (then_fits s z) k t.track_red e
tick_fits t s (Open p n g w) e = add_phase_fits s n (Green g) (Walk w) e
tick_fits t s (Ending p n z l w) e = both_true (then_fits s z) _ (both_left (then_fits s z) _ e) (add_phase_fits s n l w (both_right (then_fits s z) _ e))
tick_fits t s (ClearanceGreen k) e = one_more_fits k t.l51 e
tick_fits t s AllRed e = refl

-- what is allowed next is the track, all red, or a listed phase
may_start_listed : (s : Sheet) → NamedAreListed s → (p : Place) (n : ℕ) → may_start s p n ≡ true → listed s n ≡ true
unfolding may_start
may_start_listed s h Normal n e = e
may_start_listed s h Train n e = h n e

home_fits : (s : Sheet) (p : Place) → then_fits s (home p) ≡ true
unfolding home then_fits
home_fits s Normal = refl
home_fits s Train = refl

allowed_next : (s : Sheet) → NamedAreListed s → (p : Place) (m n : ℕ) → allowed_in s p m n ≡ true → then_fits s (next p n) ≡ true
unfolding allowed_in next then_fits pick
allowed_next s l p m n e =
    split (eqb n m) (λ h. never (rw h at e))
    (λ h. split (eqb n 0) (λ z. rw z (home_fits s p)) (λ z. rw z (may_start_listed s l p n (rw (h, z) at e))))

-- a phase just started
pub opened_fits : (t : Lengths) (s : Sheet) (p : Place) (n : ℕ) → listed s n ≡ true → stage_fits t s (Open p n 0 0) ≡ true
unfolding stage_fits light_fits walker_fits
opened_fits t s p n f =
    phase_fits_lem s n (Green 0) (Walk 0) (record { is_listed = f; light = none_fits (green_time (phase_of s n)); walker = none_fits (phase_of s n).walk })

ended_fits : (t : Lengths) (s : Sheet) → NamedAreListed s → (st : Stage) (n : ℕ) → allowed_at s st n ≡ true → stage_fits t s st ≡ true → stage_fits t s (ended n st) ≡ true
unfolding stage_fits then_fits allowed_at ended
ended_fits t s h TrackGreen n a e = both_true (then_fits s (ToPhase n)) _ (may_start_listed s h Normal n a) (none_fits t.track_yellow)
ended_fits t s h (TrackYellow p z k) n a e = e
ended_fits t s h (TrackRed p z k) n a e = e
ended_fits t s h (Open p m g w) n a e = both_true (then_fits s (next p n)) _ (allowed_next s h p m n a) e
ended_fits t s h (Ending p m z l w) n a e = e
ended_fits t s h (ClearanceGreen k) n a e = e
ended_fits t s h AllRed n a e = opened_fits t s Train n (may_start_listed s h Train n a)

pub obeyed_fits : ObeyedFits
unfolding allowed obeyed
obeyed_fits t s h st None a e = e
obeyed_fits t s h st (End n) a e = ended_fits t s h st n a e
