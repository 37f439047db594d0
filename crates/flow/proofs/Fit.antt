-- A stage that fits still fits after each step of a tick: what is entered has 0 spent, and what is allowed next is listed. Assumes nothing.
use Prim.Native.Nat.{ℕ}
use mathlib.Core.Bool.{Bool, true}
use mathlib.Core.Path.{◌≡◌, refl}
use lib.Dec.{leb, eqb}
use Rattle.units.specs.Numbers.{pick}
use Rattle.units.proofs.Steps.{cases, both_left, both_right}
use Rattle.sheet.specs.declared.Sheet.{Sheet}
use Rattle.std.specs.Prelude.{Some, None}
use Rattle.phase.specs.Ending.{Settled, settle_phase}
use Rattle.phase.specs.Times.{one_more}
use Rattle.phase.specs.Promises as phases
use Rattle.phase.proofs.Fit.{one_more_fits, none_fits, settle_fits}
use Rattle.stage.specs.declared.Command.{Command}
use Rattle.stage.specs.declared.Command.TheVariants.{None as NoCommand}
use Rattle.stage.specs.declared.Lengths.{Lengths}
use Rattle.stage.specs.declared.Place.{Place}
use Rattle.stage.specs.declared.Place.TheVariants.{Normal, Train}
use Rattle.stage.specs.declared.Stage.{Stage}
use Rattle.stage.specs.declared.Stage.TheVariants.{TrackGreen, TrackYellow, TrackRed, Open, Ending, ClearanceGreen, AllRed}
use Rattle.stage.specs.declared.Then.{Then}
use Rattle.stage.specs.declared.Then.TheVariants.{ToTrack, ToPhase, ToClearance, ToAllRed, ToDwell}
use Rattle.stage.specs.Commands.{allowed, obeyed}
use Rattle.stage.specs.Fitness.{then_fits, stage_fits}
use Rattle.stage.specs.Listed.{listed, phase_of, NamedAreListed}
use Rattle.stage.specs.Shown.{in_normal}
use Rattle.stage.proofs.Fit.{both_true, phase_told, phase_fits_lem, opened_fits, tick_fits, obeyed_fits}
use Rattle.flow.specs.declared.Now.{Now}
use Rattle.flow.specs.Calls.{counting, count_to, count_after, answered, unless_owed, open_dropped, ending_dropped, dropped, begins, called, overdue}
use Rattle.flow.specs.Settling.{enter, settle_red, settle_yellow, settle_green, settled_as, settle}
use Rattle.flow.specs.Tick.{after_times, heard, after_command, after_call, end_of}
use Rattle.flow.specs.Promises.{FitsKept}

module _ (t : Lengths) (s : Sheet) where
  abbrev pub Fit : Stage → Type 0
  Fit st = stage_fits t s st ≡ true

  -- ---- settling
  module _ (call : Bool) where
    enter_fits : (p : Place) (z : Then) → then_fits s z ≡ true → Fit (enter call p z)
    unfolding enter then_fits stage_fits
    enter_fits p ToTrack e = refl
    enter_fits p (ToPhase n) e = opened_fits t s p n e
    enter_fits p ToClearance e = none_fits t.l51
    enter_fits p ToAllRed e = refl
    enter_fits p ToDwell e = cases Fit call _ _ (λ d. refl) (λ d. refl)

    red_fits : (p : Place) (z : Then) (k : ℕ) → then_fits s z ≡ true → leb k t.track_red ≡ true → Fit (settle_red t call p z k)
    unfolding settle_red stage_fits
    red_fits p z k f h =
        cases Fit (leb t.track_red k) (enter call p z) (TrackRed p z k) (λ e. enter_fits p z f) (λ e. both_true (then_fits s z) _ f h)

    yellow_fits : (p : Place) (z : Then) (k : ℕ) → then_fits s z ≡ true → leb k t.track_yellow ≡ true → Fit (settle_yellow t call p z k)
    unfolding settle_yellow stage_fits
    yellow_fits p z k f h =
        cases Fit (leb t.track_yellow k) (settle_red t call p z 0) (TrackYellow p z k)
        (λ e. red_fits p z 0 f (none_fits t.track_red)) (λ e. both_true (then_fits s z) _ f h)

    green_fits : (k : ℕ) → leb k t.l51 ≡ true → Fit (settle_green t call k)
    unfolding settle_green stage_fits then_fits
    green_fits k h =
        cases Fit (leb t.l51 k) (settle_yellow t call Train ToDwell 0) (ClearanceGreen k)
        (λ e. yellow_fits Train ToDwell 0 refl (none_fits t.track_yellow)) (λ e. h)

    settled_fits : (p : Place) (n : ℕ) (z : Then) (x : Settled) → then_fits s z ≡ true → listed s n ≡ true → phases.Fits (phase_of s n) x → Fit (settled_as call p n z x)
    unfolding settled_as stage_fits
    settled_fits p n z (Some (l, w)) f h e = both_true (then_fits s z) _ f (phase_fits_lem s n l w (record { is_listed = h; light = e.0; walker = e.1 }))
    settled_fits p n z None f h e = enter_fits p z f

    pub settle_stage_fits : (st : Stage) → Fit st → Fit (settle t s call st)
    unfolding settle stage_fits
    settle_stage_fits TrackGreen e = e
    settle_stage_fits (TrackYellow p z k) e = yellow_fits p z k (both_left (then_fits s z) _ e) (both_right (then_fits s z) _ e)
    settle_stage_fits (TrackRed p z k) e = red_fits p z k (both_left (then_fits s z) _ e) (both_right (then_fits s z) _ e)
    settle_stage_fits (Open p n g w) e = e
    settle_stage_fits (Ending p n z l w) e =
        let q = phase_told s n l w (both_right (then_fits s z) _ e) in
        settled_fits p n z (settle_phase (phase_of s n) l w) (both_left (then_fits s z) _ e) q.is_listed (settle_fits (phase_of s n) l w q.light q.walker)
    settle_stage_fits (ClearanceGreen k) e = green_fits k e
    settle_stage_fits AllRed e = e

  -- ---- the call
  answered_fits : (st : Stage) → Fit st → Fit (answered st)
  unfolding answered stage_fits then_fits pick
  answered_fits TrackGreen e = none_fits t.l51
  answered_fits (TrackYellow p z k) e = both_right (then_fits s z) _ e
  answered_fits (TrackRed p z k) e = both_right (then_fits s z) _ e
  answered_fits (Open p n g w) e = e
  answered_fits (Ending p n z l w) e = both_right (then_fits s z) _ e
  answered_fits (ClearanceGreen k) e = none_fits t.l51
  answered_fits AllRed e = none_fits t.l51

  unless_owed_fits : (z : Then) → then_fits s (unless_owed z) ≡ true
  unfolding unless_owed then_fits
  unless_owed_fits ToTrack = refl
  unless_owed_fits (ToPhase n) = refl
  unless_owed_fits ToClearance = refl
  unless_owed_fits ToAllRed = refl
  unless_owed_fits ToDwell = refl

  dropped_fits : (st : Stage) → Fit st → Fit (dropped st)
  unfolding dropped open_dropped ending_dropped stage_fits then_fits pick
  dropped_fits TrackGreen e = e
  dropped_fits (TrackYellow p z k) e = e
  dropped_fits (TrackRed p z k) e = e
  dropped_fits (Open Normal n g w) e = e
  dropped_fits (Open Train n g w) e = e
  dropped_fits (Ending Normal n z l w) e = e
  dropped_fits (Ending Train n z l w) e = both_true (then_fits s (unless_owed z)) _ (unless_owed_fits z) (both_right (then_fits s z) _ e)
  dropped_fits (ClearanceGreen k) e = e
  dropped_fits AllRed e = refl

  overdue_fits : (n : ℕ) (st : Stage) → Fit st → Fit (overdue t n st)
  unfolding overdue
  overdue_fits n st e =
      cases Fit (eqb n t.l03) (pick (in_normal st) (answered st) st) st
      (λ _. cases Fit (in_normal st) (answered st) st (λ _. answered_fits st e) (λ _. e)) (λ _. e)

  called_fits : (call counted : Bool) (n : ℕ) (st : Stage) → Fit st → Fit (called t call counted n st)
  unfolding called
  called_fits call counted n st e =
      cases Fit call (pick (begins t counted n) (answered st) st) (dropped st)
      (λ _. cases Fit (begins t counted n) (answered st) st (λ _. answered_fits st e) (λ _. e)) (λ _. dropped_fits st e)

  -- ---- the command: what it starts is listed
  none_obeyed : (st : Stage) → Fit st → Fit (obeyed st NoCommand)
  unfolding obeyed
  none_obeyed st e = e

  heard_fits : NamedAreListed s → (st : Stage) (c : Command) → Fit st → Fit (obeyed st (heard s st c))
  unfolding heard
  heard_fits l st c e = cases (λ (d : Command). Fit (obeyed st d)) (allowed s st c) c NoCommand (λ h. obeyed_fits t s l st c h e) (λ h. none_obeyed st e)

  -- ---- the three steps
  pub after_times_fits : (call : Bool) (now : Now) → Fit now.stage → Fit (after_times t s call now)
  after_times_fits call now e = settle_stage_fits call _ (overdue_fits now.count _ (tick_fits t s now.stage e))

  pub after_command_fits : NamedAreListed s → (c : Command) (call : Bool) (st : Stage) → Fit st → Fit (after_command t s c call st)
  after_command_fits l c call st e = settle_stage_fits call _ (heard_fits l st c e)

  after_call_fits : (call : Bool) (now : Now) (st : Stage) → Fit st → Fit (after_call t s call now st)
  after_call_fits call now st e = settle_stage_fits call _ (called_fits call (counting t now) now.count st e)

  -- ---- the count
  count_fits : (call counted : Bool) (end : Stage) (n : ℕ) → leb n t.l03 ≡ true → leb (count_after t call counted end n) t.l03 ≡ true
  unfolding count_after count_to
  count_fits call counted end n e =
      cases (λ (k : ℕ). leb k t.l03 ≡ true) counted (pick call (one_more n t.l03) 0) (pick (in_normal end) 0 n)
      (λ _. cases (λ (k : ℕ). leb k t.l03 ≡ true) call (one_more n t.l03) 0 (λ _. one_more_fits n t.l03 e) (λ _. none_fits t.l03))
      (λ _. cases (λ (k : ℕ). leb k t.l03 ≡ true) (in_normal end) 0 n (λ _. none_fits t.l03) (λ _. e))

pub fits_kept : FitsKept
fits_kept t s l now c call f =
    record {
      count = count_fits t s call (counting t now) (end_of t s c call now) now.count f.count;
      stage = after_call_fits t s call now _ (after_command_fits t s l c call _ (after_times_fits t s call now f.stage));
    }
