-- Storing texts one after the other: what two stores are together, and a store under way. Assumes nothing.
use Prim.Native.Nat.{ℕ, ◌+◌, ◌≤◌}
use mathlib.Core.Path.{◌≡◌, refl, sym, ◌∙◌}
use mathlib.Core.List.{List, [], ◌∷◌, ◌++◌, append_assoc, append-nil}
use native.Mathlib.Omega.{arith}
use native.Mathlib.Nat.{add-zero}
use lib.ListN.{length, set, length-append}
use lib.Seq.{set_out, length-sets}
use Rattle.numbers.proofs.Numbers.{sets_then}
use Rattle.text.specs.Write.{Put}

module _ {old new : List ℕ} {at r : ℕ} {t : List ℕ} where
  pub put_then : {new' : List ℕ} {r' : ℕ} {u : List ℕ} → Put old new at r t → Put new new' r r' u → Put old new' at r' (t ++ u)
  put_then {new'} {r'} {u} a b =
      record {
        place = rw (length-append t u) (omega (arith, a.place, b.place));
        bytes = b.bytes ∙ rw (a.bytes, a.place) (sym (sets_then old t u at));
      }

  pub put_length : Put old new at r t → length new ≡ length old
  put_length a = rw a.bytes (length-sets old at t)

pub put_nil : (old : List ℕ) (at : ℕ) → Put old old at at []
put_nil old at = record { place = sym (add-zero at); bytes = refl }

pub put_one : (old : List ℕ) (at x : ℕ) → Put old (set old at x) at (at + 1) (x ∷ [])
put_one old at x = record { place = refl; bytes = refl }

pub put_past : (old : List ℕ) (at x : ℕ) → length old ≤ at → Put old old at (at + 1) (x ∷ [])
put_past old at x h = record { place = refl; bytes = sym (set_out old at x h) }

pub put_same : {old new : List ℕ} {at r : ℕ} {t u : List ℕ} → t ≡ u → Put old new at r t → Put old new at r u
put_same e p = rw (← e) p

-- stored where there is no byte
pub put_none : {old new : List ℕ} {at r : ℕ} {t : List ℕ} → Put old new at r t → length old ≡ 0 → new ≡ []
put_none {new = new} p e = none new (put_length p ∙ e)
  where
    none : (l : List ℕ) → length l ≡ 0 → l ≡ []
    none [] e = refl
    none (x ∷ l) e = absurd (omega arith)

-- a part of the whole is stored, and the rest is to come
pub record Doing (old new : List ℕ) (at r : ℕ) (rest whole : List ℕ) : Type 0 where
  pub done : List ℕ
  pub put : Put old new at r done
  pub join : done ++ rest ≡ whole

pub start : (old : List ℕ) (at : ℕ) (whole : List ℕ) → Doing old old at at whole whole
start old at whole = record { done = []; put = put_nil old at; join = refl }

module _ {old new : List ℕ} {at r : ℕ} {whole : List ℕ} where
  pub next : {new' : List ℕ} {r' : ℕ} (piece rest : List ℕ) → Doing old new at r (piece ++ rest) whole → Put new new' r r' piece → Doing old new' at r' rest whole
  next piece rest d p =
      record { done = d.done ++ piece; put = put_then d.put p; join = append_assoc d.done piece rest ∙ d.join }

  pub end : Doing old new at r [] whole → Put old new at r whole
  end d = rw (sym d.join ∙ append-nil d.done) d.put

  pub doing_length : {rest : List ℕ} → Doing old new at r rest whole → length new ≡ length old
  doing_length d = put_length d.put

  pub where_now : (rest : List ℕ) → Doing old new at r rest whole → r + length rest ≡ at + length whole
  where_now rest d = rw (← d.join, length-append d.done rest) (omega (arith, d.put.place))
