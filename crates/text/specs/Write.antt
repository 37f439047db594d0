-- Writing a sheet: the answer, the text's length, and every lent byte afterwards.
use Rattle.std.specs.Prelude.{ℕ, ◌+◌, ◌≡◌, List, ◌++◌, length, drop, leb, Result, Ok, Err}
use Rattle.std.proofs.lemmas.List.Edits.{sets}
use Rattle.units.specs.Numbers.{pick}
use Rattle.sheet.specs.declared.Sheet.{Sheet}
use Rattle.sheet.specs.declared.Refused.{Refused}
use Rattle.sheet.specs.Refusals.{Answer, is_fine, or_else, unless}
use Rattle.sheet.specs.declared.Refusal.TheVariants.{NoRoom}
use Rattle.faults.specs.Whole.{accept_of}
use Rattle.text.specs.declared.Written.{Written}
use Rattle.text.specs.Text.{text_of}

-- t stored from the place `at` on, as far as the bytes reach, and the place past it
pub record Put (old new : List ℕ) (at r : ℕ) (t : List ℕ) : Type 0 where
  pub place : r ≡ at + length t
  pub bytes : new ≡ sets old at t

-- refusals 2 to 10 and 12, then 11: "the lent output is shorter than the text"
unfoldable pub answer_to : Sheet → ℕ → Answer
answer_to s room = or_else (accept_of s) (unless (leb (length (text_of s)) room) NoRoom 0)

-- the reply of the length that was written, or of the refusal
abbrev pub told : Result ℕ Refused → Written
told (Ok n) = record { answer = Ok tt; length = n }
told (Err e) = record { answer = Err e; length = 0 }

-- "On success the writer returns the text's length"; "A refused .. write gives only zeros beside its number"
unfoldable pub written_of : Sheet → ℕ → Written
written_of s room =
    pick (is_fine (answer_to s room)) (record { answer = Ok tt; length = length (text_of s) }) (record { answer = answer_to s room; length = 0 })

-- "A refusal writes no lent byte"; on success "bytes beyond it stay"
unfoldable pub bytes_of : Sheet → List ℕ → List ℕ
bytes_of s old = pick (is_fine (answer_to s (length old))) (text_of s ++ drop (length (text_of s)) old) old
