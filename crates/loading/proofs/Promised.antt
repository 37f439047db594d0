-- The order of the loader's refusals. Assumes nothing.
use mathlib.Core.Path.{refl}
use Rattle.sheet.specs.Refusals.{or_else, unless}
use Rattle.sheet.proofs.Answers.{bad_or}
use Rattle.loading.specs.Promises.{Issues, PlaceFirst, UnfitFirst, OwnFirst}

pub issues : Issues
issues = (refl, refl, refl, refl)

pub place_first : PlaceFirst
unfolding or_else unless
place_first held offered = refl

pub unfit_first : UnfitFirst
unfolding or_else unless
unfit_first own place = refl

pub own_first : OwnFirst
unfolding or_else unless
own_first own place e = search (bad_or own place e)
