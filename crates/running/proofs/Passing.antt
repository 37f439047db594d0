-- Ticks without a command, one after the other: a unit that fits goes on by the lengths of its sheet, one that does not stays. Assumes nothing.
use Prim.Native.Nat.{ℕ, zero, suc}
use mathlib.Core.Bool.{Bool, true, false}
use mathlib.Core.Path.{◌≡◌, refl, ap, ◌∙◌}
use lib.ListN.{replicate}
use Rattle.units.specs.Numbers.{pick}
use Rattle.stage.specs.declared.Command.TheVariants.{None}
use Rattle.flow.specs.Tick.{passing}
use Rattle.unit.specs.declared.Unit.{Unit}
use Rattle.measured.specs.Measured.{lengths_of}
use Rattle.unit.specs.Unit.{now_of, holding, fits, tick_of}
use Rattle.unit.specs.Runs.{tick, answer_to, run}
use Rattle.unit.proofs.Fit.{onward, tick_is, onward_fits}

-- a unit that fits
one_on : (call : Bool) (u : Unit) → fits u ≡ true → (answer_to u (tick None call)).unit ≡ onward u None call
unfolding answer_to
one_on call u f = tick_is u None call f

pub fit_passes : (call : Bool) (n : ℕ) (u : Unit) → fits u ≡ true
    → run u (replicate n (tick None call)) ≡ holding u.sheet (passing (lengths_of u.sheet) u.sheet call n (now_of u))
unfolding run passing
fit_passes call zero u f = refl
fit_passes call (suc n) u f =
    ap (λ (v : Unit). run v (replicate n (tick None call))) (one_on call u f) ∙ fit_passes call n (onward u None call) (onward_fits u None call f)

-- a unit that does not fit stays as it is
one_stays : (call : Bool) (u : Unit) → fits u ≡ false → (answer_to u (tick None call)).unit ≡ u
unfolding answer_to tick_of pick
one_stays call u f = rw f

pub unfit_stays : (call : Bool) (u : Unit) → fits u ≡ false → (n : ℕ) → run u (replicate n (tick None call)) ≡ u
unfolding run
unfit_stays call u f zero = refl
unfit_stays call u f (suc n) =
    ap (λ (v : Unit). run v (replicate n (tick None call))) (one_stays call u f) ∙ unfit_stays call u f n
