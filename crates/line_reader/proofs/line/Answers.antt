-- `line_reader::line` meets its contract: the key, then the numbers and the line feed. Assumes nothing.
use mathlib.Core.Path.{refl, sym, ◌∙◌}
use Rattle.units.specs.Numbers.{pick}
use Rattle.text.proofs.Cases.{fed}
use Rattle.line_reader.proofs.line.Goals as goal

pub returns-in_err-end : goal.returns-in_err-end
unfolding pick
returns-in_err-end c =
    rw (c.from_residual-in_err-end.ensures, sym c.after.ensures ∙ c.in_ok-start.was, ← c.values.ensures, c.in_err-end.was) refl

pub returns : goal.returns
returns c =
    rw (c.after-2.ensures, sym c.after.ensures ∙ c.in_ok-start.was, ← c.values.ensures, c.in_ok-end.was) (fed c.args.s.now c.in_ok-end.end c.values.new.v)
