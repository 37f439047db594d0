-- An array that a closure made entry by entry, where the closure gives the same of the same place: it is its entries. Assumes nothing.
use mathlib.Core.Path.{◌≡◌, sym, subst, ◌∙◌}
use mathlib.Core.List.{List}
use Prim.Native.Nat.{ℕ, zero, suc, ◌+◌, ◌<◌, ◌≤◌}
use native.Mathlib.Omega.{arith}
use lib.ListN.{length, get_or}
use lib.Seq.{ext_get_or}
use denote.Param.Members.{Mut}
use Rattle.std.specs.Fn.{Called}
use Rattle.std.specs.Array.{IsFromFnResultFrom, IsFromFnResult}
use Rattle.numbers.specs.Flat.{entries_from}
use Rattle.numbers.proofs.Entries.{entries_long, entries_at}

module _ {A F : Type 0} (g : Mut F (ℕ × Unit {0}) A) (h : ℕ → A) (f : F) (n : ℕ) (same : (i : ℕ) (y : A) (q : F) → i < n → Called g f (i, tt) y q → (y ≡ h i) × (q ≡ f)) where
  each_made : (ys : List A) (d : A) (i k : ℕ) → i + k ≤ n → IsFromFnResultFrom g f ys i k → (j : ℕ) → j < k → get_or ys (i + j) d ≡ h (i + j)
  each_made ys d i zero l m j b = absurd (omega arith)
  each_made ys d i (suc k) l m zero b =
      let z : i + 0 ≡ i = omega arith in
      rw z (m.2.1 d ∙ (same i m.1 m.0 (omega arith) m.3).0)
  each_made ys d i (suc k) l m (suc j) b =
      let z : i + suc j ≡ i + 1 + j = omega arith in
      rw z (each_made ys d (i + 1) k (omega arith) (subst (λ (p : F). IsFromFnResultFrom g p ys (i + 1) k) (same i m.1 m.0 (omega arith) m.3).1 m.4) j (omega arith))

  pub made : (ys : List A) (d : A) → IsFromFnResult g f ys n → ys ≡ entries_from h n 0
  made ys d m =
      ext_get_or d ys (entries_from h n 0) (m.long ∙ sym (entries_long h n 0))
      (λ j b.
      let c : j < n = omega (arith, m.long) in
      let z : 0 + j ≡ j = omega arith in
      rw z at (each_made ys d 0 n (omega arith) m.each j c) ∙ sym (rw z at (entries_at h n 0 j d c)))
