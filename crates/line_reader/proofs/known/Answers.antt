-- `line_reader::known` meets its contract: a bad line is malformed, a good one has its row's fault. Assumes nothing.
use Prim.Native.Nat.{◌≤◌}
use mathlib.Core.Path.{◌≡◌, refl, sym, ◌∙◌, ap}
use mathlib.Core.Bool.{true}
use native.Mathlib.Omega.{arith}
use Rattle.units.specs.Numbers.{pick}
use Rattle.rows.specs.declared.table.Form.{Form}
use Rattle.rows.specs.declared.table.Key.{Key}
use Rattle.rows.specs.Facts.{facts_of}
use Rattle.rows.specs.Table.{is_list}
use Rattle.rows.proofs.Tables.{place_room}
use Rattle.rows.proofs.Keys.{facts_key, facts_short, facts_form}
use Rattle.figures.specs.Figures.{on_place, after_at}
use Rattle.text.specs.Line.{bad, values_at, ended, line_at}
use Rattle.text.specs.Read.{judged_at}
use Rattle.text.proofs.Rows.{list_wide}
use Rattle.line_reader.proofs.known.Goals as goal

pub line-requires : goal.line-requires
line-requires c =
    let row = c.args.row in
    let key = c.facts-facts.result in
    let told = ap (λ (f : Form). is_list f) (facts_form row key c.facts-facts.ensures) in
    let width = c.width-n.ensures in
    let many : is_list key.form ≡ true → 2 ≤ c.width-n.result = λ n. omega (arith, list_wide row (sym told ∙ n), width) in
    (facts_short row key c.facts-facts.ensures, omega (arith, place_room row c.requires, c.place-place.ensures, width), many)

pub fault-requires : goal.fault-requires
unfolding facts_of
fault-requires c =
    (c.requires, c.place-place.ensures, c.width-n.ensures, ap (λ (k : Key). k.least) c.facts-facts.ensures, ap (λ (k : Key). k.most) c.facts-facts.ensures)

pub returns-in_default : goal.returns-in_default
unfolding judged_at line_at pick
returns-in_default c =
    let key = facts_key c.args.row c.facts-facts.result c.facts-facts.ensures in
    let form = facts_form c.args.row c.facts-facts.result c.facts-facts.ensures in
    let line = c.line.ensures ∙ (λ i. on_place (after_at c.args.s.now c.args.at (key i)) (λ p. ended c.args.s.now (values_at c.args.s.now (form i) (c.place-place.ensures i) (c.width-n.ensures i) p c.args.v.now)) (bad c.args.v.now)) in
    rw (← line, c.in_default.is, c.malformed.ensures) refl

pub returns-in-Err : goal.returns-in-Err
unfolding judged_at line_at pick
returns-in-Err c =
    let key = facts_key c.args.row c.facts-facts.result c.facts-facts.ensures in
    let form = facts_form c.args.row c.facts-facts.result c.facts-facts.ensures in
    let line = c.line.ensures ∙ (λ i. on_place (after_at c.args.s.now c.args.at (key i)) (λ p. ended c.args.s.now (values_at c.args.s.now (form i) (c.place-place.ensures i) (c.width-n.ensures i) p c.args.v.now)) (bad c.args.v.now)) in
    rw (← line, c.in-Some.is, ← c.fault.ensures, c.in-Err.is) refl

pub returns-in-Ok : goal.returns-in-Ok
unfolding judged_at line_at pick
returns-in-Ok c =
    let key = facts_key c.args.row c.facts-facts.result c.facts-facts.ensures in
    let form = facts_form c.args.row c.facts-facts.result c.facts-facts.ensures in
    let line = c.line.ensures ∙ (λ i. on_place (after_at c.args.s.now c.args.at (key i)) (λ p. ended c.args.s.now (values_at c.args.s.now (form i) (c.place-place.ensures i) (c.width-n.ensures i) p c.args.v.now)) (bad c.args.v.now)) in
    rw (← line, c.in-Some.is, ← c.fault.ensures, c.in-Ok.is) refl
