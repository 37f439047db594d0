-- `reader::begins` meets its contract: the key, then the sign. Assumes nothing.
use Prim.Native.Nat.{ℕ}
use mathlib.Core.Path.{refl, sym, ◌∙◌, ap}
use mathlib.Core.List.{List}
use native.Mathlib.Omega.{arith}
use Rattle.units.specs.Numbers.{pick}
use Rattle.rows.specs.Marks.{mark_of}
use Rattle.rows.proofs.Keys.{facts_key, facts_letters, facts_short}
use Rattle.figures.specs.Figures.{after_at}
use Rattle.text.specs.Read.{begins}
use Rattle.text.proofs.Cases.{found}
use Rattle.reader.proofs.begins.Goals as goal

pub returns-in_default : goal.returns-in_default
unfolding begins
returns-in_default c =
    let key = ap (λ (w : List ℕ). after_at c.args.s.now c.args.at w) (facts_key c.args.row c.facts-facts.result c.facts-facts.ensures) in
    rw (sym key ∙ sym c.after.ensures ∙ c.in_default.is) refl

pub returns : goal.returns
unfolding begins mark_of pick
returns c =
    let key = ap (λ (w : List ℕ). after_at c.args.s.now c.args.at w) (facts_key c.args.row c.facts-facts.result c.facts-facts.ensures) in
    rw (sym key ∙ sym c.after.ensures ∙ c.in-Some.is, c.is_some.ensures, c.after-2.ensures) (found (after_at c.args.s.now c.in-Some.next (mark_of 0)))

pub shared_ref_as_front-after : goal.shared_ref_as_front-after
shared_ref_as_front-after c =
    omega (arith, facts_short c.args.row c.facts-facts.result c.facts-facts.ensures, facts_letters c.args.row c.facts-facts.result c.facts-facts.ensures)
