-- `accept::middle_fault` meets its contract: the track, the list for dwell, then the rows of one number. Assumes nothing.
use mathlib.Core.Path.{sym, ap, ◌∙◌}
use Rattle.sheet.specs.declared.Refusal.TheVariants.{OutOfRange}
use Rattle.sheet.specs.Refusals.{or_else, unless}
use Rattle.faults.specs.Dwell.{dwell_line}
use Rattle.accept.proofs.Stretches.{middle_rows}
use Rattle.accept.proofs.middle_fault.Goals as goal

pub returns : goal.returns
unfolding or_else
returns c =
    let s = c.args.s in
    let track = sym (c.refuse_unless.ensures ∙ λ i. unless (c.row_fits-track.ensures i) OutOfRange (c.line_of.ensures i)) ∙ c.in_ok-refuse_unless.was in
    let dwell = sym (c.dwell_fault.ensures ∙ ap (dwell_line s.dwell_count s.dwell) c.line_of-2.ensures) ∙ c.in_ok-dwell_fault.was in
    c.singles_fault.ensures ∙ sym (rw (track, dwell) at (middle_rows s c.args.absent c.requires))
