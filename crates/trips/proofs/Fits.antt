-- What is written has room where it was lent: the length told is no more than that. Assumes nothing.
use Prim.Native.Nat.{ℕ, ◌≤◌}
use mathlib.Core.Path.{◌≡◌, ◌∙◌}
use mathlib.Core.Bool.{true}
use mathlib.Core.List.{List}
use native.Mathlib.Omega.{arith}
use lib.ListN.{length, drop, length-append, length-drop}
use borrow.Author.Tests.{leb-true}
use Rattle.units.specs.Numbers.{pick}
use Rattle.units.proofs.Steps.{split}
use Rattle.sheet.specs.declared.Sheet.{Sheet}
use Rattle.sheet.specs.Refusals.{is_fine}
use Rattle.sheet.proofs.Answers.{both_fine, is_fine_lem, passes}
use Rattle.text.specs.declared.Written.{Written}
use Rattle.text.specs.Read.{older_of}
use Rattle.text.specs.Text.{text_of}
use Rattle.text.specs.Write.{answer_to, written_of, bytes_of}
use Rattle.trips.specs.Convert.{converted_of, converted_bytes}

room_enough : (s : Sheet) (room : ℕ) → is_fine (answer_to s room) ≡ true → length (text_of s) ≤ room
unfolding answer_to
room_enough s room e = leb-true (length (text_of s)) room (passes _ _ _ (both_fine _ _ (is_fine_lem _ e)).1)

written_fits : (s : Sheet) (room : ℕ) → (written_of s room).length ≤ room
unfolding written_of pick
written_fits s room = split (is_fine (answer_to s room)) (λ t. rw t (room_enough s room t)) (λ t. rw t (omega arith))

converted_fits : (t : List ℕ) (room : ℕ) → (converted_of t room).length ≤ room
unfolding converted_of pick
converted_fits t room = split (is_fine (older_of t).answer) (λ a. rw a (written_fits (older_of t).sheet room)) (λ a. rw a (omega arith))

-- and the bytes lent are as many afterwards
bytes_long : (s : Sheet) (old : List ℕ) → length (bytes_of s old) ≡ length old
unfolding bytes_of pick
bytes_long s old =
    split (is_fine (answer_to s (length old)))
    (λ t. let h = room_enough s (length old) t in rw t (length-append (text_of s) (drop (length (text_of s)) old) ∙ rw (length-drop (length (text_of s)) old) (omega arith)))
    (λ t. rw t)

converted_long : (t old : List ℕ) → length (converted_bytes t old) ≡ length old
unfolding converted_bytes pick
converted_long t old = split (is_fine (older_of t).answer) (λ a. rw a (bytes_long (older_of t).sheet old)) (λ a. rw a)

-- so what a call of `convert` replied and left is no further than the bytes lent
pub within : (t old : List ℕ) (w : Written) (out : List ℕ) → w ≡ converted_of t (length old) → out ≡ converted_bytes t old → w.length ≤ length out
within t old w out e f = rw (e, f) (omega (arith, converted_fits t (length old), converted_long t old))
