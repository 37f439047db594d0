-- `line_reader::list` meets its contract: at each turn the numbers left are read as all are. Assumes nothing.
use Prim.Native.Nat.{ℕ, ◌-◌}
use mathlib.Core.Path.{◌≡◌, refl, sym, ap, ◌∙◌}
use mathlib.Core.List.{List}
use native.Mathlib.Omega.{arith}
use Rattle.std.specs.Prelude.{Some, None}
use Rattle.rows.specs.Marks.{mark_of}
use Rattle.figures.specs.Figures.{after_at}
use Rattle.text.specs.Line.{good, list_end}
use Rattle.text.proofs.Cases.{list_end_lem, list_over, list_no_first, list_no_number, list_step}
use Rattle.line_reader.proofs.list.Goals as goal

pub loop-k-init : goal.loop-k-init
loop-k-init c =
    let e : c.args.n - 0 ≡ c.args.n = omega arith in rw e refl

pub returns-then-k-eq0 : goal.returns-then-k-eq0
returns-then-k-eq0 c =
    let mark : after_at c.args.s.now c.loop-k.next (mark_of c.loop-k.k) ≡ None = rw (← c.mark.ensures) (sym c.after.ensures ∙ c.in_default.is) in
    sym (list_no_first c.args.s.now c.args.place c.args.n c.loop-k.k c.loop-k.next c.loop-k.v c.if-k-eq0.true c.loop-k-test.true mark) ∙ c.loop-k.invariant

pub returns-in_default : goal.returns-in_default
returns-in_default c =
    let mark : after_at c.args.s.now c.loop-k.next (mark_of c.loop-k.k) ≡ None = rw (← c.mark.ensures) (sym c.after.ensures ∙ c.in_default.is) in
    ap (λ (w : List ℕ). good c.loop-k.next w) c.counted.ensures
    ∙ sym (list_over c.args.s.now c.args.place c.args.n c.loop-k.k c.loop-k.next c.loop-k.v (omega arith) c.loop-k-test.true mark)
    ∙ c.loop-k.invariant

pub returns-in_err-figure : goal.returns-in_err-figure
returns-in_err-figure c =
    let mark : after_at c.args.s.now c.loop-k.next (mark_of c.loop-k.k) ≡ Some c.in-Some.start = rw (← c.mark.ensures) (sym c.after.ensures ∙ c.in-Some.is) in
    rw c.from_residual.ensures
    (sym (list_no_number c.args.s.now c.args.place c.args.n c.loop-k.k c.loop-k.next c.loop-k.v c.in-Some.start c.loop-k-test.true mark (sym c.number.ensures ∙ c.in_err-figure.was)) ∙ c.loop-k.invariant)

pub loop-k-preserved : goal.loop-k-preserved
loop-k-preserved c =
    let mark : after_at c.args.s.now c.loop-k.next (mark_of c.loop-k.k) ≡ Some c.in-Some.start = rw (← c.mark.ensures) (sym c.after.ensures ∙ c.in-Some.is) in
    let figure = c.in_ok-figure.figure in
    sym (list_step c.args.s.now c.args.place c.args.n c.loop-k.k c.loop-k.next c.loop-k.v c.in-Some.start figure.value figure.next c.loop-k-test.true mark (sym c.number.ensures ∙ c.in_ok-figure.was))
    ∙ c.loop-k.invariant

pub returns : goal.returns
returns c =
    let e : c.loop-k.k ≡ c.args.n = omega arith in
    ap (λ (w : List ℕ). good c.loop-k.next w) c.counted-2.ensures
    ∙ ap (λ (k : ℕ). list_end c.args.place k c.loop-k.next c.loop-k.v) (sym e)
    ∙ sym (list_end_lem c.args.s.now c.args.place c.args.n c.loop-k.k c.loop-k.next c.loop-k.v c.loop-k-test.false)
    ∙ c.loop-k.invariant
