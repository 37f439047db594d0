-- What the test of refusal 20 says, and a tick of a unit that fits: by the lengths of its sheet, which it keeps. Assumes nothing.
use mathlib.Core.Bool.{Bool, true}
use mathlib.Core.Path.{◌≡◌, refl}
use lib.Dec.{leb}
use Rattle.units.specs.Numbers.{pick}
use Rattle.units.proofs.Steps.{both_left, both_right}
use Rattle.sheet.specs.declared.Sheet.{Sheet}
use Rattle.phase.proofs.Fit.{none_fits}
use Rattle.stage.specs.declared.Command.{Command}
use Rattle.stage.specs.Fitness.{stage_fits}
use Rattle.stage.proofs.Fit.{both_true}
use Rattle.flow.specs.declared.Now.{Now}
use Rattle.flow.specs.Tick.{ticked}
use Rattle.flow.specs.Promises.{Fits}
use Rattle.flow.proofs.Fit as flow
use Rattle.unit.specs.declared.Unit.{Unit}
use Rattle.measured.specs.Measured.{lengths_of, accepted}
use Rattle.measured.proofs.Named.{named_listed}
use Rattle.fitting.specs.Fitting.{fits_by}
use Rattle.unit.specs.Unit.{now_of, holding, fits, tick_of, fresh}

-- ---- what the test says
pub fits_sheet : (u : Unit) → fits u ≡ true → accepted u.sheet ≡ true
unfolding fits_by
fits_sheet u e = both_left (accepted u.sheet) _ e

pub fits_told : (u : Unit) → fits u ≡ true → Fits (lengths_of u.sheet) u.sheet (now_of u)
unfolding fits_by
fits_told u e =
    let b = both_right (accepted u.sheet) _ e in
    record { count = both_left (leb u.count (lengths_of u.sheet).l03) _ b; stage = both_right (leb u.count (lengths_of u.sheet).l03) _ b }

pub told_fits : (s : Sheet) (x : Now) → accepted s ≡ true → Fits (lengths_of s) s x → fits (holding s x) ≡ true
unfolding fits_by
told_fits s x a f = both_true _ _ a (both_true _ _ f.count f.stage)

pub fresh_fits : (s : Sheet) → accepted s ≡ true → fits (fresh s) ≡ true
unfolding stage_fits
fresh_fits s a = told_fits s (now_of (fresh s)) a (record { count = none_fits (lengths_of s).l03; stage = refl })

-- ---- a tick of a unit that fits
abbrev pub onward : Unit → Command → Bool → Unit
onward u c call = holding u.sheet (ticked (lengths_of u.sheet) u.sheet (now_of u) c call).now

pub tick_is : (u : Unit) (c : Command) (call : Bool) → fits u ≡ true → (tick_of u c call).unit ≡ onward u c call
unfolding tick_of pick
tick_is u c call f = rw f refl

pub onward_fits : (u : Unit) (c : Command) (call : Bool) → fits u ≡ true → fits (onward u c call) ≡ true
onward_fits u c call f =
    told_fits u.sheet _ (fits_sheet u f) (flow.fits_kept (lengths_of u.sheet) u.sheet (named_listed u.sheet (fits_sheet u f)) (now_of u) c call (fits_told u f))
