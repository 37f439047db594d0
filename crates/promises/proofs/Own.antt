-- No sheet is refused 20: each refusal of the acceptance is one of 2 to 10 and 12, row by row; so no event after a fresh start is answered 20.
-- Assumes nothing.
use Prim.Native.Nat.{ℕ, zero, suc, ◌+◌, ◌-◌}
use mathlib.Core.Bool.{Bool, true, false}
use mathlib.Core.List.{List}
use mathlib.Core.Path.{◌≡◌}
use native.Mathlib.Omega.{arith}
use lib.Dec.{eqb}
use Rattle.units.proofs.Steps.{cases}
use Rattle.sheet.specs.Refusals.{Answer, number_of, answer_number, or_else, unless}
use Rattle.std.specs.Prelude.{Ok, Err}
use Rattle.sheet.specs.declared.Phase.{Phase}
use Rattle.sheet.specs.declared.Refusal.{Refusal}
use Rattle.sheet.specs.declared.Sheet.{Sheet}
use Rattle.numbers.specs.Flat.{flat_of, phase_at}
use Rattle.rows.specs.Table.{is_list, kind_of, form_of, present, phase_kind, point_kind, first_phase, row_count}
use Rattle.faults.specs.Lines.{phase_fault, before_phase, rule_fault, row_fault, here_fault, line_after, fault_from}
use Rattle.faults.specs.Whole.{whole_fault, accept_of}
use Rattle.lines.specs.Worksheet.{worksheet_of}
use Rattle.unit.specs.Unit.{start_of}
use Rattle.unit.specs.Runs.{run}
use Rattle.unit.proofs.Kept.{fits_kept, start_fits, not_twenty}
use Rattle.promises.specs.Promises.{Never20}

-- not refused 20
abbrev Own : Answer → Type 0
Own a = answer_number a ≡ 20 → ⊥

own_fine : Own (Ok tt)
own_fine e = omega arith

own_or : (a b : Answer) → Own a → Own b → Own (or_else a b)
unfolding or_else
own_or (Ok _) b f g = g
own_or (Err d) b f g = f

own_unless : (b : Bool) (r : Refusal) (l : ℕ) → (number_of r ≡ 20 → ⊥) → Own (unless b r l)
unfolding unless
own_unless true r l n = own_fine
own_unless false r l n = n

own_phase : (before p : Phase) (line : ℕ) → Own (phase_fault before p line)
unfolding phase_fault
own_phase before p line =
    own_or _ _ (own_unless _ _ _ (λ e. omega arith)) (own_or _ _ (own_unless _ _ _ (λ e. omega arith)) (own_unless _ _ _ (λ e. omega arith)))

module _ (v : List ℕ) where
  own_rule : (row line : ℕ) → Own (rule_fault v row line)
  unfolding rule_fault
  own_rule row line =
      cases Own (eqb (kind_of row) phase_kind) _ _
      (λ e. own_phase (before_phase v (row - first_phase)) (phase_at v (row - first_phase)) line)
      (λ e. cases Own (eqb (kind_of row) point_kind) _ _ (λ d. own_unless _ _ _ (λ z. omega arith))
      (λ d. cases Own (is_list (form_of row)) _ (Ok tt) (λ b. own_unless _ _ _ (λ z. omega arith)) (λ b. own_fine)))

  own_row : (row line : ℕ) → Own (row_fault v row line)
  unfolding row_fault
  own_row row line = own_or _ _ (own_unless _ _ _ (λ e. omega arith)) (own_rule row line)

  own_here : (row line : ℕ) → Own (here_fault v row line)
  unfolding here_fault
  own_here row line = cases Own (present v row) (row_fault v row line) (Ok tt) (λ e. own_row row line) (λ e. own_fine)

  own_from : (n row line : ℕ) → Own (fault_from v n row line)
  unfolding fault_from
  own_from zero row line = own_fine
  own_from (suc n) row line = own_or (here_fault v row line) _ (own_here row line) (own_from n (row + 1) (line_after v row line))

own_whole : (s : Sheet) → Own (whole_fault s)
unfolding whole_fault
own_whole s =
    own_or _ _ (own_unless _ _ _ (λ e. omega arith))
    (own_or _ _ (own_unless _ _ _ (λ e. omega arith))
    (own_or _ _ (own_unless _ _ _ (λ e. omega arith)) (own_or _ _ (own_unless _ _ _ (λ e. omega arith)) (own_unless _ _ _ (λ e. omega arith)))))

own_refusals : (s : Sheet) → Own (worksheet_of s).answer
unfolding worksheet_of accept_of
own_refusals s = own_or _ _ (own_from (flat_of s) row_count 0 1) (own_whole s)

pub never_20 : Never20
never_20 s a es e = not_twenty own_refusals (run (start_of s).unit es) e (fits_kept (start_of s).unit es (start_fits s a))
