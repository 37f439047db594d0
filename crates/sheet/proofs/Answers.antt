-- The first of two answers that is a refusal, and what a fine one says. Assumes nothing.
use mathlib.Core.Path.{◌≡◌, refl, sym}
use mathlib.Core.Bool.{Bool, true, false}
use Prim.Native.Nat.{ℕ}
use Rattle.units.proofs.Steps.{never}
use Rattle.std.specs.Prelude.{Ok, Err}
use Rattle.sheet.specs.declared.Refusal.{Refusal}
use Rattle.sheet.specs.Refusals.{Answer, refused, is_fine, or_else, unless}

pub fine_or : (a b : Answer) → is_fine a ≡ true → or_else a b ≡ b
unfolding or_else
fine_or (Ok _) b e = refl
fine_or (Err f) b e = never e

pub bad_or : (a b : Answer) → is_fine a ≡ false → or_else a b ≡ a
unfolding or_else
bad_or (Ok _) b e = never (sym e)
bad_or (Err f) b e = refl

pub or_or : (a b c : Answer) → or_else a (or_else b c) ≡ or_else (or_else a b) c
unfolding or_else
or_or (Ok _) b c = refl
or_or (Err f) b c = refl

pub or_fine : (a : Answer) → or_else a (Ok tt) ≡ a
unfolding or_else
or_fine (Ok _) = refl
or_fine (Err f) = refl

pub is_fine_lem : (a : Answer) → is_fine a ≡ true → a ≡ Ok tt
is_fine_lem (Ok _) e = refl
is_fine_lem (Err f) e = never e

-- both are fine where the first refusal of the two is none
pub both_fine : (a b : Answer) → or_else a b ≡ Ok tt → (a ≡ Ok tt) × (b ≡ Ok tt)
unfolding or_else
both_fine (Ok _) b e = (refl, e)
both_fine (Err f) b e = never (λ i. is_fine (e i))

pub fine_both : (a b : Answer) → a ≡ Ok tt → b ≡ Ok tt → or_else a b ≡ Ok tt
unfolding or_else
fine_both a b p q = rw p q

-- a test holds where it refuses nothing
pub passes : (b : Bool) (r : Refusal) (l : ℕ) → unless b r l ≡ Ok tt → b ≡ true
unfolding unless
passes true r l e = refl
passes false r l e = never (λ i. is_fine (e i))

pub holds : (b : Bool) (r : Refusal) (l : ℕ) → b ≡ true → unless b r l ≡ Ok tt
unfolding unless
holds b r l e = rw e refl

pub fails : (b : Bool) (r : Refusal) (l : ℕ) → b ≡ false → unless b r l ≡ refused r l
unfolding unless
fails b r l e = rw e refl
