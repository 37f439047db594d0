-- How the level time is found, point by point. Assumes nothing.
use mathlib.Core.Path.{◌≡◌, refl, ap}
use mathlib.Core.List.{List, [], ◌∷◌}
use Prim.Native.Nat.{ℕ, ◌+◌, ◌<◌, ◌≤◌}
use native.Mathlib.Omega.{arith}
use lib.ListN.{length, get_or, drop, drop_of_length-le}
use borrow.Author.Tests.{le-leb, lt-leb}
use Rattle.units.specs.Numbers.{pick, tenths}
use Rattle.units.specs.declared.Feet.{Feet}
use Rattle.units.proofs.Walk.{rest_at}
use Rattle.sheet.specs.declared.Point.{Point}
use Rattle.curve.specs.Curve.{level_of, level_from, between_of}

pub none : (ps : List Point) (d : Feet) → length ps ≡ 0 → level_of ps d ≡ tenths 0
unfolding level_of
none [] d e = refl
none (p ∷ ps) d e = absurd (omega (arith, e))

pub starts : (p : Point) (qs ps : List Point) (d : Feet) → ps ≡ p ∷ qs → level_of ps d ≡ level_from p qs d
unfolding level_of
starts p qs ps d e = ap (λ (l : List Point). level_of l d) e

module _ (p : Point) (qs : List Point) (z : Point) (d : Feet) (i : ℕ) where
  pub found : i < length qs → d.0 ≤ (get_or qs i z).feet → level_from p (drop i qs) d ≡ between_of p (get_or qs i z) d
  unfolding level_from pick
  found h t = rw (rest_at z qs i h) (simp (le-leb _ _ t))

  pub passed : i < length qs → (get_or qs i z).feet < d.0 → level_from p (drop i qs) d ≡ level_from (get_or qs i z) (drop (i + 1) qs) d
  unfolding level_from pick
  passed h t = rw (rest_at z qs i h) (simp (lt-leb _ _ t))

  pub ended : length qs ≤ i → level_from p (drop i qs) d ≡ tenths p.tenths
  unfolding level_from
  ended h = rw (drop_of_length-le qs {i = i} h) refl
