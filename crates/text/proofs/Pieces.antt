-- The texts a piece at a time, and what writing answers. Assumes nothing.
use Prim.Native.Nat.{ℕ, suc, ◌+◌, ◌-◌, ◌≤◌, ◌<◌}
use mathlib.Core.Path.{◌≡◌, refl, sym, ap, ◌∙◌}
use mathlib.Core.List.{List, [], ◌++◌, append_assoc}
use mathlib.Core.Bool.{true, false}
use native.Mathlib.Omega.{arith}
use lib.ListN.{length, get_or}
use lib.Seq.{sets-eq}
use lib.Dec.{leb}
use borrow.Author.Tests.{leb-true}
use Rattle.units.specs.Numbers.{pick}
use Rattle.units.proofs.Steps.{pick_yes, pick_not}
use Rattle.sheet.specs.declared.Sheet.{Sheet}
use Rattle.sheet.specs.Refusals.{Answer, refused, is_fine, or_else, unless}
use Rattle.std.specs.Prelude.{Ok}
use Rattle.sheet.specs.declared.Refusal.TheVariants.{NoRoom}
use Rattle.sheet.proofs.Answers.{fine_or, bad_or, holds, fails}
use Rattle.rows.specs.declared.table.Form.{Form}
use Rattle.rows.specs.Table.{row_count, present}
use Rattle.rows.specs.Marks.{mark_of}
use Rattle.numbers.specs.Flat.{flat_of}
use Rattle.faults.specs.Whole.{accept_of}
use Rattle.text.specs.Text.{field_text, fields_text, row_text, here_text, text_from, text_of}
use Rattle.text.specs.Write.{Put, answer_to, written_of, bytes_of}
use Rattle.text.specs.declared.Written.{Written}

module _ (form : Form) (place n j : ℕ) (v : List ℕ) where
  pub fields_over : n ≤ j → fields_text form place (n - j) j v ≡ []
  unfolding fields_text
  fields_over h = let e : n - j ≡ 0 = omega arith in rw e

  pub fields_next : j < n → fields_text form place (n - j) j v ≡ (mark_of j ++ field_text form (get_or v (place + j) 0)) ++ fields_text form place (n - (j + 1)) (j + 1) v
  unfolding fields_text
  fields_next h =
      let e : n - j ≡ suc (n - (j + 1)) = omega arith in
      rw e (sym (append_assoc (mark_of j) (field_text form (get_or v (place + j) 0)) (fields_text form place (n - (j + 1)) (j + 1) v)))

module _ (v : List ℕ) (row : ℕ) where
  pub text_over : row_count ≤ row → text_from v (row_count - row) row ≡ []
  unfolding text_from
  text_over h = let e : row_count - row ≡ 0 = omega arith in rw e

  pub text_absent : row < row_count → present v row ≡ false → text_from v (row_count - row) row ≡ text_from v (row_count - (row + 1)) (row + 1)
  unfolding text_from here_text pick
  text_absent h a = let e : row_count - row ≡ suc (row_count - (row + 1)) = omega arith in rw (e, a)

  pub text_next : row < row_count → present v row ≡ true → text_from v (row_count - row) row ≡ row_text row v ++ text_from v (row_count - (row + 1)) (row + 1)
  unfolding text_from here_text pick
  text_next h a = let e : row_count - row ≡ suc (row_count - (row + 1)) = omega arith in rw (e, a)

-- what writing the sheet s to the bytes b comes to, where `accept` answered a and the numbers are v
module _ (s : Sheet) (b : List ℕ) (a : Answer) (accepted : a ≡ accept_of s) where
  abbrev pub Outcome : Written → List ℕ → Type 0
  Outcome r new = (r ≡ written_of s (length b)) × (new ≡ bytes_of s b)

  refused_with : (c : Answer) → answer_to s (length b) ≡ c → is_fine c ≡ false → Outcome (record { answer = c; length = 0 }) b
  unfolding written_of bytes_of
  refused_with c e f =
      let g = ap is_fine e ∙ f in
      (pick_not _ _ _ _ g (ap (λ (x : Answer). record { answer = x; length = 0 }) (sym e)), pick_not _ _ _ _ g refl)

  pub write_refused : is_fine a ≡ false → Outcome (record { answer = a; length = 0 }) b
  unfolding answer_to
  write_refused f = refused_with a (ap (λ (x : Answer). or_else x (unless (leb (length (text_of s)) (length b)) NoRoom 0)) (sym accepted) ∙ bad_or a _ f) f

  module _ (v : List ℕ) (flat : v ≡ flat_of s) (fine : is_fine a ≡ true) where
    room : or_else (accept_of s) (unless (leb (length (text_of s)) (length b)) NoRoom 0) ≡ unless (leb (length (text_of s)) (length b)) NoRoom 0
    room = ap (λ (x : Answer). or_else x (unless (leb (length (text_of s)) (length b)) NoRoom 0)) (sym accepted) ∙ fine_or a _ fine

    abbrev long : ℕ
    long = length (text_from v row_count 0)

    pub write_long : leb long (length b) ≡ false → Outcome (record { answer = refused NoRoom 0; length = 0 }) b
    unfolding answer_to
    write_long h = refused_with (refused NoRoom 0) (room ∙ fails _ _ _ (rw flat at h)) refl

    pub write_done : leb long (length b) ≡ true → {out : List ℕ} {r : ℕ} → Put b out 0 r (text_from v row_count 0)
        → Outcome (record { answer = Ok tt; length = r }) out
    unfolding written_of bytes_of answer_to
    write_done h p =
        let q = rw flat at p in
        let t : leb (length (text_of s)) (length b) ≡ true = rw flat at h in
        let fits : length (text_of s) ≤ length b = leb-true _ _ t in
        let z : 0 + length (text_of s) ≡ length (text_of s) = omega arith in
        let g = ap is_fine (room ∙ holds _ _ _ t) in (
          pick_yes _ _ _ _ g (λ i. record { answer = Ok tt; length = (q.place ∙ z) i }),
          pick_yes _ _ _ _ g (rw (q.bytes, sets-eq (text_of s) b 0 (omega arith), z) refl),
        )
