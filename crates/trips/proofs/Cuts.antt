-- A part of a text between two places, and parts one after the other. Assumes nothing.
use Prim.Native.Nat.{ℕ, ◌+◌}
use mathlib.Core.Path.{◌≡◌, sym, ◌∙◌}
use mathlib.Core.List.{List, ◌++◌, append_assoc}
use native.Mathlib.Omega.{arith}
use lib.ListN.{length, drop, length-append}
use lib.Seq.{drop-drop, drop-append_seam}

-- l begins with m, which leads from the place `at` to the place q
pub record Begins (l : List ℕ) (at q : ℕ) (m : List ℕ) : Type 0 where
  pub rest : List ℕ
  pub split : l ≡ m ++ rest
  pub place : q ≡ at + length m

-- the same of the text s
pub record Cut (s : List ℕ) (at q : ℕ) (m : List ℕ) : Type 0 where
  pub here : drop at s ≡ m ++ drop q s
  pub place : q ≡ at + length m

pub cut : (s : List ℕ) (at q : ℕ) (m : List ℕ) → Begins (drop at s) at q m → Cut s at q m
cut s at q m b =
    let e : drop q s ≡ b.rest = rw (b.place, ← (drop-drop (length m) at s), b.split) (drop-append_seam m b.rest) in
    record { here = rw e b.split; place = b.place }

pub cut_then : {s : List ℕ} {a b c : ℕ} {m n : List ℕ} → Cut s a b m → Cut s b c n → Cut s a c (m ++ n)
cut_then {s} {a} {b} {c} {m} {n} x y =
    record { here = x.here ∙ rw y.here (sym (append_assoc m n (drop c s))); place = rw (length-append m n) (omega (arith, x.place, y.place)) }

pub cut_same : {s : List ℕ} {a b : ℕ} {m n : List ℕ} → m ≡ n → Cut s a b m → Cut s a b n
cut_same e x = rw (← e) x

pub past : (s : List ℕ) (at : ℕ) (m l : List ℕ) → drop at s ≡ m ++ l → drop (at + length m) s ≡ l
past s at m l e = rw (← (drop-drop (length m) at s), e) (drop-append_seam m l)
