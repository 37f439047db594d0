-- `converts::print_answer` shows as many bytes as were written. Assumes nothing.
use Rattle.std.proofs.Common.{sym, length-take-le}
use Rattle.trips.proofs.Fits.{within}
use Rattle.converts.proofs.print_answer.Goals as goal

pub slice_bounds-out-end : goal.slice_bounds-out-end
slice_bounds-out-end g c =
    within _ _ _ _ c.convert-written.ensures.0 c.convert-written.ensures.1

pub slice_bounds-write_all-end : goal.slice_bounds-write_all-end
slice_bounds-write_all-end g c =
    sym (length-take-le _ _ (within _ _ _ _ c.convert-written.ensures.0 c.convert-written.ensures.1))
