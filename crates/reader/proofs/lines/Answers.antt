-- `reader::lines` meets its contract: at each turn the rows left are read as all are. Assumes nothing.
use Prim.Native.Nat.{ℕ, ◌+◌, ◌-◌}
use mathlib.Core.Path.{◌≡◌, refl, sym, ap, ◌∙◌}
use mathlib.Core.List.{List}
use native.Mathlib.Omega.{arith}
use Rattle.std.specs.Prelude.{Ok, Err}
use Rattle.units.proofs.Steps.{pick_yes, pick_not}
use Rattle.rows.specs.Table.{row_count}
use Rattle.text.specs.Read.{Step, step, judged_at, lines_from, may_lack}
use Rattle.text.proofs.Cases.{lines_end, lines_passed, lines_bad, lines_step, end_answer, end_numbers}
use Rattle.reader.proofs.lines.Goals.{then-not-passed+in-Ok, else-not-passed}
use Rattle.reader.proofs.lines.Goals as goal

pub loop-row-init : goal.loop-row-init
loop-row-init c =
    (omega arith, refl)

pub returns-in-Err : goal.returns-in-Err
returns-in-Err c =
    let s = c.args.s.now in
    let may = may_lack c.args.older in
    let row = c.loop-row.row in
    let number = c.loop-row.number in
    let at = c.loop-row.at in
    let v = c.loop-row.v in
    let over = sym c.passed.ensures.0 ∙ c.if-not-passed.true in
    let same = c.passed.ensures.1 ∙ sym (pick_not _ _ _ _ c.if-not-passed.true refl) in
    let t = step (Err c.in-Err.faulty.refused) c.in-Err.faulty.next c.judged.new.v in
    let taken : t ≡ judged_at s at row number v = (rw c.in-Err.is at c.judged.ensures) ∙ ap (λ (u : List ℕ). judged_at s at row number u) same in
    let all = sym (lines_bad may s row number at v t taken c.loop-row-test.true over refl) ∙ c.loop-row.invariant.1 in
    (ap (λ (x : Step). x.answer) all, ap (λ (x : Step). x.numbers) all)

pub loop-row-preserved : goal.loop-row-preserved
loop-row-preserved c =
    let s = c.args.s.now in
    let may = may_lack c.args.older in
    let row = c.loop-row.row in
    let number = c.loop-row.number in
    let at = c.loop-row.at in
    let v = c.loop-row.v in
    elim c.if-not-passed.branch [
      | then-not-passed+in-Ok w ↦
          let over = sym c.passed.ensures.0 ∙ w.if-not-passed.true in
          let same = c.passed.ensures.1 ∙ sym (pick_not _ _ _ _ w.if-not-passed.true refl) in
          let t = step (Ok tt) w.in-Ok.next w.judged.new.v in
          let taken : t ≡ judged_at s at row number v = (rw w.in-Ok.is at w.judged.ensures) ∙ ap (λ (u : List ℕ). judged_at s at row number u) same in
          rw (w.v-is, w.at-is, w.number-is) (omega arith, sym (lines_step may s row number at v t taken c.loop-row-test.true over refl) ∙ c.loop-row.invariant.1)
      | else-not-passed w ↦
          let over = sym c.passed.ensures.0 ∙ w.if-not-passed.false in
          let same = c.passed.ensures.1 ∙ sym (pick_yes _ _ _ _ w.if-not-passed.false refl) in
          rw (w.v-is, w.at-is, w.number-is) (
            omega arith,
            ap (λ (u : List ℕ). lines_from may s (row_count - (row + 1)) (row + 1) number at u) same ∙ sym (lines_passed may s row number at v c.loop-row-test.true over) ∙ c.loop-row.invariant.1,
          )
    ]

pub returns : goal.returns
returns c =
    let s = c.args.s.now in
    let at = c.loop-row.at in
    let number = c.loop-row.number in
    let v = c.loop-row.v in
    let all = sym (lines_end (may_lack c.args.older) s c.loop-row.row number at v (omega arith)) ∙ c.loop-row.invariant.1 in
    (c.refuse_unless.ensures ∙ sym (end_answer s number at v) ∙ ap (λ (x : Step). x.answer) all, sym (end_numbers s number at v) ∙ ap (λ (x : Step). x.numbers) all)
