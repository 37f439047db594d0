-- `whole_fault::warned` meets its contract: ten for each ten feet or part. Assumes nothing.
use Rattle.std.proofs.Common.{◌≡◌, ℕ, arith, refl}
use Rattle.std.specs.Int.{div_ceil}
use Rattle.units.specs.Numbers.{up}
use Rattle.whole_fault.proofs.warned.Goals as goal

tens : (n : ℕ) → div_ceil n 10 ≡ up n 10
unfolding up
tens n = omega arith

pub returns : goal.returns
returns c = rw (c.from.ensures, c.from-2.ensures, c.div_ceil-tens.ensures, c.saturating_sub.ensures, tens) refl
