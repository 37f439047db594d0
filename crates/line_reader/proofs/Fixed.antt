-- The contract of `line_reader::judged` fixes the reply and every lent number, and asks nothing: it is an equation with a definition. Assumes nothing.
use Prim.Native.Nat.{ℕ}
use mathlib.Core.Path.{◌≡◌, refl, sym, ap, ◌∙◌}
use mathlib.Core.List.{List}
use Rattle.std.specs.Prelude.{Result, Ok, Err}
use Rattle.text.specs.declared.Faulty.{Faulty}
use Rattle.units.specs.Fixed.{Fixes, AsksNothing}
use Rattle.text.specs.Read.{Step, reached, place_past}
use Rattle.line_reader.proofs.judged.Kinds as judged_kinds
use Rattle.line_reader.proofs.judged.Reads as judged_reads

-- the reply of a step
abbrev place : Step → Result ℕ Faulty
place t = place_past t.answer t.next

told : (r : Result ℕ Faulty) (v : List ℕ) → place (reached r v) ≡ r
told (Ok p) v = refl
told (Err e) v = refl

stored : (r : Result ℕ Faulty) (v : List ℕ) → (reached r v).numbers ≡ v
stored (Ok p) v = refl
stored (Err e) v = refl

same_reply : (r r' : Result ℕ Faulty) (v v' : List ℕ) → reached r v ≡ reached r' v' → r ≡ r'
same_reply r r' v v' e = sym (told r v) ∙ ap place e ∙ told r' v'

same_numbers : (r r' : Result ℕ Faulty) (v v' : List ℕ) → reached r v ≡ reached r' v' → v ≡ v'
same_numbers r r' v v' e = sym (stored r v) ∙ ap (λ (t : Step). t.numbers) e ∙ stored r' v'

pub judged_fixed : Fixes 2 judged_kinds.ps judged_kinds.r judged_reads.Learnt
judged_fixed κs a z z' w w' p q =
    (same_reply z z' _ _ (p ∙ sym q), ap (λ (v : List ℕ). (tt, (tt, (tt, (tt, (v, tt)))))) (same_numbers z z' _ _ (p ∙ sym q)))

pub judged_open : AsksNothing 2 judged_kinds.ps judged_reads.Asked
judged_open κs a = tt
