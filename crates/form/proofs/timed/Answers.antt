-- `form::timed` meets its contract: an accepted sheet has its lines 3 and 51, a refused one zeros. Assumes nothing.
use mathlib.Core.Path.{◌≡◌, refl, sym, ◌∙◌, ap}
use Rattle.std.specs.Prelude.{Ok}
use Rattle.units.specs.Numbers.{pick}
use Rattle.faults.specs.Whole.{accept_of}
use Rattle.lines.specs.Lines.{lines_of}
use Rattle.lines.specs.Worksheet.{zero_lines, worksheet_of}
use Rattle.form.proofs.timed.Goals as goal

pub returns-in-Ok : goal.returns-in-Ok
unfolding worksheet_of pick lines_of
returns-in-Ok c =
    let told : accept_of c.args.s ≡ Ok tt = ap accept_of (sym c.in-Ok.ensures) ∙ c.in-Ok.accepted.accepted in
    rw (c.timed_of.ensures, c.in-Ok.ensures) (rw told refl)

pub returns-in-Err : goal.returns-in-Err
unfolding worksheet_of pick zero_lines
returns-in-Err c =
    rw c.in-Err.ensures refl
