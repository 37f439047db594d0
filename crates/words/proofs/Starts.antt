-- A word stands at a place where the rest of the text starts with it. Assumes nothing.
use Prim.Native.Nat.{ℕ, ◌+◌, ◌-◌, min}
use mathlib.Core.Path.{◌≡◌, refl, sym, ap}
use mathlib.Core.Bool.{Bool}
use mathlib.Core.List.{List, [], ◌∷◌}
use native.Mathlib.Omega.{arith}
use lib.Dec.{eqb, ltb}
use lib.ListN.{length, drop, take, drop_of_length-le}
use borrow.Author.Tests.{eqb-true, eqb-false, eq-eqb, ne_eqb, ltb-true, ltb-false}
use Rattle.std.proofs.Math.Seq.{drop-length}
use Rattle.std.proofs.lemmas.List.{take_rest}
use Rattle.std.specs.Prelude.{Some, None}
use Rattle.std.specs.List.{starts_with}
use Rattle.units.specs.Numbers.{pick}
use Rattle.units.proofs.Steps.{split}
use Rattle.figures.specs.Figures.{after, after_at}

stands : (w l : List ℕ) (at : ℕ) → after at w l ≡ pick (starts_with eqb l w) (Some (at + length w)) None
unfolding after pick
stands [] l at = ap Some (omega arith)
stands (c ∷ w) [] at = refl
stands (c ∷ w) (b ∷ l) at =
    let e : at + 1 + length w ≡ at + length (c ∷ w) = omega arith in
    split (eqb b c)
    (λ t. rw (t, eq-eqb c b (sym (eqb-true b c t)), ← e) (stands w l (at + 1)))
    (λ t. rw (t, ne_eqb c b (λ s. eqb-false b c t (sym s))) refl)

-- a place past the text's end has the rest that the end has
ends : (s : List ℕ) (at : ℕ) → drop (min at (length s)) s ≡ drop at s
ends s at =
    split (ltb at (length s))
    (λ t. let e : min at (length s) ≡ at = omega (arith, ltb-true at (length s) t) in rw e refl)
    (λ t. let e : min at (length s) ≡ length s = omega (arith, ltb-false at (length s) t) in rw (e, drop-length s, drop_of_length-le s (ltb-false at (length s) t)) refl)

pub stands_at : (s w : List ℕ) (at m : ℕ) (r : Bool) → m ≡ min at (length s) → r ≡ starts_with eqb (take (length s - m) (drop m s)) w
    → after_at s at w ≡ pick r (Some (at + length w)) None
stands_at s w at m r e t =
    let same : take (length s - m) (drop m s) ≡ drop at s = rw (take_rest s m, e) (ends s at) in
    rw (t, same) (stands w (drop at s) at)
