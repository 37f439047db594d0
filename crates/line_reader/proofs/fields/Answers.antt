-- `line_reader::fields` meets its contract: at each turn the numbers left are read as all are. Assumes nothing.
use Prim.Native.Nat.{◌-◌}
use mathlib.Core.Path.{◌≡◌, refl, sym, ◌∙◌}
use native.Mathlib.Omega.{arith}
use Rattle.std.specs.Prelude.{Some, None}
use Rattle.rows.specs.Marks.{mark_of}
use Rattle.figures.specs.Figures.{after_at}
use Rattle.text.proofs.Cases.{fields_end, fields_no_mark, fields_no_number, fields_step}
use Rattle.line_reader.proofs.fields.Goals as goal

pub loop-j-init : goal.loop-j-init
loop-j-init c =
    let e : c.args.n - 0 ≡ c.args.n = omega arith in rw e refl

pub returns-in_err-start : goal.returns-in_err-start
returns-in_err-start c =
    let mark : after_at c.args.s.now c.loop-j.next (mark_of c.loop-j.j) ≡ None = rw (← c.mark.ensures) (sym c.after.ensures ∙ c.in_err-start.was) in
    rw c.from_residual.ensures (sym (fields_no_mark c.args.s.now c.args.form c.args.place c.args.n c.loop-j.j c.loop-j.next c.loop-j.v c.loop-j-test.true mark) ∙ c.loop-j.invariant)

pub returns-in_err-figure : goal.returns-in_err-figure
returns-in_err-figure c =
    let mark : after_at c.args.s.now c.loop-j.next (mark_of c.loop-j.j) ≡ Some c.in_ok-start.start = rw (← c.mark.ensures) (sym c.after.ensures ∙ c.in_ok-start.was) in
    rw c.from_residual-in_err-figure.ensures
    (sym (fields_no_number c.args.s.now c.args.form c.args.place c.args.n c.loop-j.j c.loop-j.next c.loop-j.v c.in_ok-start.start c.loop-j-test.true mark (sym c.written.ensures ∙ c.in_err-figure.was))
    ∙ c.loop-j.invariant)

pub loop-j-preserved : goal.loop-j-preserved
loop-j-preserved c =
    let mark : after_at c.args.s.now c.loop-j.next (mark_of c.loop-j.j) ≡ Some c.in_ok-start.start = rw (← c.mark.ensures) (sym c.after.ensures ∙ c.in_ok-start.was) in
    let figure = c.in_ok-figure.figure in
    sym (fields_step c.args.s.now c.args.form c.args.place c.args.n c.loop-j.j c.loop-j.next c.loop-j.v c.in_ok-start.start figure.value figure.next c.loop-j-test.true mark (sym c.written.ensures ∙ c.in_ok-figure.was))
    ∙ c.loop-j.invariant

pub returns : goal.returns
returns c =
    sym (fields_end c.args.s.now c.args.form c.args.place c.args.n c.loop-j.j c.loop-j.next c.loop-j.v c.loop-j-test.false) ∙ c.loop-j.invariant
