-- `accept::head_fault` meets its contract: row by row, but for the vehicle. Assumes nothing.
use Rattle.std.proofs.Common.{rules}
use mathlib.Core.Path.{◌≡◌, sym, ap, ◌∙◌}
use Prim.Native.Nat.{ℕ}
use mir.Syntax.{w16}
use mir.Val.{SFits}
use mir.Facts.{to_z-of_z}
use Rattle.std.specs.Prelude.{Ok}
use Rattle.sheet.specs.Refusals.{or_else}
use Rattle.rows.specs.Table.{row_for}
use Rattle.numbers.specs.Flat.{grade_number}
use Rattle.faults.proofs.Values.{one_fault}
use Rattle.accept.proofs.Stretches.{head_rows}
use Rattle.accept.proofs.head_fault.Goals as goal

pub returns-in_err-one_fault-3 : goal.returns-in_err-one_fault-3
unfolding or_else
returns-in_err-one_fault-3 c =
    let s = c.args.s in
    let f : SFits w16 s.grade = search rules in
    let g : c.grade_number.result ≡ grade_number s.grade = c.grade_number.ensures ∙ ap grade_number (to_z-of_z f) in
    let f2 : SFits w16 s.grade2 = search rules in
    let g2 : c.grade_number-2.result ≡ grade_number s.grade2 = c.grade_number-2.ensures ∙ ap grade_number (to_z-of_z f2) in
    let issue = sym c.one_fault.ensures ∙ c.in_ok-one_fault.was in
    let grade = sym (c.one_fault-2.ensures ∙ ap (λ (x : ℕ). one_fault (row_for "grade") x 0) g) ∙ c.in_ok-one_fault-2.was in
    let grade2 = sym (c.one_fault-3.ensures ∙ ap (λ (x : ℕ). one_fault (row_for "grade2") x 0) g2) ∙ c.in_err-one_fault-3.was in
    let all = rw (issue, grade, grade2) at (head_rows s) in
    search (rules, all)

pub returns-in_err-one_fault-4 : goal.returns-in_err-one_fault-4
unfolding or_else
returns-in_err-one_fault-4 c =
    let s = c.args.s in
    let f : SFits w16 s.grade = search rules in
    let g : c.grade_number.result ≡ grade_number s.grade = c.grade_number.ensures ∙ ap grade_number (to_z-of_z f) in
    let f2 : SFits w16 s.grade2 = search rules in
    let g2 : c.grade_number-2.result ≡ grade_number s.grade2 = c.grade_number-2.ensures ∙ ap grade_number (to_z-of_z f2) in
    let issue = sym c.one_fault.ensures ∙ c.in_ok-one_fault.was in
    let grade = sym (c.one_fault-2.ensures ∙ ap (λ (x : ℕ). one_fault (row_for "grade") x 0) g) ∙ c.in_ok-one_fault-2.was in
    let grade2 = sym (c.one_fault-3.ensures ∙ ap (λ (x : ℕ). one_fault (row_for "grade2") x 0) g2) ∙ c.in_ok-one_fault-3.was in
    let l01 = sym c.one_fault-4.ensures ∙ c.in_err-one_fault-4.was in
    let all = rw (issue, grade, grade2, l01) at (head_rows s) in
    search (rules, all)

pub returns-in_err-one_fault-5 : goal.returns-in_err-one_fault-5
unfolding or_else
returns-in_err-one_fault-5 c =
    let s = c.args.s in
    let f : SFits w16 s.grade = search rules in
    let g : c.grade_number.result ≡ grade_number s.grade = c.grade_number.ensures ∙ ap grade_number (to_z-of_z f) in
    let f2 : SFits w16 s.grade2 = search rules in
    let g2 : c.grade_number-2.result ≡ grade_number s.grade2 = c.grade_number-2.ensures ∙ ap grade_number (to_z-of_z f2) in
    let issue = sym c.one_fault.ensures ∙ c.in_ok-one_fault.was in
    let grade = sym (c.one_fault-2.ensures ∙ ap (λ (x : ℕ). one_fault (row_for "grade") x 0) g) ∙ c.in_ok-one_fault-2.was in
    let grade2 = sym (c.one_fault-3.ensures ∙ ap (λ (x : ℕ). one_fault (row_for "grade2") x 0) g2) ∙ c.in_ok-one_fault-3.was in
    let l01 = sym c.one_fault-4.ensures ∙ c.in_ok-one_fault-4.was in
    let l02 = sym c.one_fault-5.ensures ∙ c.in_err-one_fault-5.was in
    let all = rw (issue, grade, grade2, l01, l02) at (head_rows s) in
    search (rules, all)

pub returns : goal.returns
unfolding or_else
returns c =
    let s = c.args.s in
    let f : SFits w16 s.grade = search rules in
    let g : c.grade_number.result ≡ grade_number s.grade = c.grade_number.ensures ∙ ap grade_number (to_z-of_z f) in
    let f2 : SFits w16 s.grade2 = search rules in
    let g2 : c.grade_number-2.result ≡ grade_number s.grade2 = c.grade_number-2.ensures ∙ ap grade_number (to_z-of_z f2) in
    let issue = sym c.one_fault.ensures ∙ c.in_ok-one_fault.was in
    let grade = sym (c.one_fault-2.ensures ∙ ap (λ (x : ℕ). one_fault (row_for "grade") x 0) g) ∙ c.in_ok-one_fault-2.was in
    let grade2 = sym (c.one_fault-3.ensures ∙ ap (λ (x : ℕ). one_fault (row_for "grade2") x 0) g2) ∙ c.in_ok-one_fault-3.was in
    let l01 = sym c.one_fault-4.ensures ∙ c.in_ok-one_fault-4.was in
    let l02 = sym c.one_fault-5.ensures ∙ c.in_ok-one_fault-5.was in
    c.one_fault-6.ensures ∙ sym (rw (issue, grade, grade2, l01, l02) at (head_rows s))
