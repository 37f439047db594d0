-- A running unit made from a unit replies what the unit replies: where the unit fits it goes on fitting, and where it does not it stays. Assumes nothing.
use Prim.Native.Nat.{ℕ}
use mathlib.Core.Bool.{Bool, true, false}
use mathlib.Core.List.{List, [], ◌∷◌}
use mathlib.Core.Path.{◌≡◌, refl, sym, ap, ◌∙◌}
use lib.ListN.{replicate}
use Rattle.units.specs.Numbers.{pick}
use Rattle.units.proofs.Steps.{split}
use Rattle.sheet.specs.declared.Refusal.TheVariants.{CommandNotAllowed}
use Rattle.sheet.specs.Refusals.{unless}
use Rattle.stage.specs.declared.Command.{Command}
use Rattle.stage.specs.declared.Command.TheVariants.{None}
use Rattle.flow.specs.Tick.{ticked, passing}
use Rattle.measured.specs.Measured.{lengths_of}
use Rattle.unit.specs.declared.Unit.{Unit}
use Rattle.unit.specs.Unit as unit
use Rattle.unit.specs.Runs.{Event, tick, load, answer_to, run}
use Rattle.unit.proofs.Fit.{onward_fits}
use Rattle.unit.proofs.Kept.{fits_kept}
use Rattle.running.specs.declared.Answered.{Answered}
use Rattle.running.specs.Running.{running_of, lengths_by, with_reply, tick_by, tick_of, pass_by, pass_of, reply_to, replies, own_replies}
use Rattle.running.specs.Promises.{SameTick, SameLoad, SameReplies, SamePass}
use Rattle.running.proofs.Passing.{fit_passes, unfit_stays}

fit_tick : (u : Unit) (c : Command) (call : Bool) → unit.fits u ≡ true → tick_of (running_of u) c call ≡ with_reply (unit.tick_of u c call)
unfolding unit.tick_of tick_by pick unless
fit_tick u c call f =
    let later = unit.holding u.sheet (ticked (lengths_of u.sheet) u.sheet (unit.now_of u) c call).now in
    rw f (ap (λ (b : Bool). record { running = record { sheet = u.sheet; lengths = lengths_by b u.sheet; now = unit.now_of later }; answer = unless (ticked (lengths_of u.sheet) u.sheet (unit.now_of u) c call).allowed CommandNotAllowed 0 }) (sym (onward_fits u c call f)))

unfit_tick : (u : Unit) (c : Command) (call : Bool) → unit.fits u ≡ false → tick_of (running_of u) c call ≡ with_reply (unit.tick_of u c call)
unfolding unit.tick_of tick_by pick unless
unfit_tick u c call f = rw f (rw f refl)

pub same_tick : SameTick
same_tick u c call = split (unit.fits u) (fit_tick u c call) (unfit_tick u c call)

pub same_load : SameLoad
same_load u s = refl

pub same_reply : (u : Unit) (e : Event) → reply_to (running_of u) e ≡ with_reply (answer_to u e)
unfolding reply_to answer_to
same_reply u (tick c call) = same_tick u c call
same_reply u (load s) = same_load u s

pub same_replies : SameReplies
unfolding replies own_replies
same_replies u [] = refl
same_replies u (e ∷ es) = rw (same_reply u e) (ap (λ (rs : List Answered). with_reply (answer_to u e) ∷ rs) (same_replies (answer_to u e).unit es))

-- many ticks at once
fit_pass : (u : Unit) (call : Bool) (n : ℕ) → unit.fits u ≡ true → pass_of (running_of u) call n ≡ running_of (run u (replicate n (tick None call)))
unfolding pass_by pick
fit_pass u call n f =
    let e = fit_passes call n u f in
    let kept = fits_kept u (replicate n (tick None call)) f in
    rw f (ap (λ (b : Bool). record { sheet = u.sheet; lengths = lengths_by b u.sheet; now = passing (lengths_of u.sheet) u.sheet call n (unit.now_of u) }) (sym kept ∙ ap unit.fits e) ∙ ap running_of (sym e))

unfit_pass : (u : Unit) (call : Bool) (n : ℕ) → unit.fits u ≡ false → pass_of (running_of u) call n ≡ running_of (run u (replicate n (tick None call)))
unfolding pass_by pick
unfit_pass u call n f = rw (unfit_stays call u f n) (rw f refl)

pub same_pass : SamePass
same_pass u call n = split (unit.fits u) (fit_pass u call n) (unfit_pass u call n)
