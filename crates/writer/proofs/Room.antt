-- A test that was refused did not hold, and its refusal is the one given. Assumes nothing.
use Prim.Native.Nat.{ℕ}
use mathlib.Core.Path.{◌≡◌, refl, sym, ap}
use mathlib.Core.Bool.{Bool, true, false}
use Rattle.std.specs.Prelude.{Err}
use Rattle.units.proofs.Steps.{never}
use Rattle.sheet.specs.declared.Refusal.{Refusal}
use Rattle.sheet.specs.declared.Refused.{Refused}
use Rattle.sheet.specs.Refusals.{refused, is_fine, unless}

pub refused_by : (b : Bool) (r : Refusal) (l : ℕ) (e : Refused) → unless b r l ≡ Err e → (b ≡ false) × (refused r l ≡ Err e)
unfolding unless
refused_by true r l e h = never (sym (ap is_fine h))
refused_by false r l e h = (refl, h)
