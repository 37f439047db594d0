-- `converter::convert` meets its contract: refused as the reading is, or written. Assumes nothing.
use mathlib.Core.Path.{refl}
use Rattle.units.specs.Numbers.{pick}
use Rattle.trips.specs.Convert.{converted_of, converted_bytes}
use Rattle.converter.proofs.convert.Goals as goal

pub returns-in-Ok : goal.returns-in-Ok
unfolding converted_of converted_bytes pick
returns-in-Ok c =
    (rw (← c.read_older-reading.ensures, c.in-Ok.is) c.write.ensures.0, rw (← c.read_older-reading.ensures, c.in-Ok.is) c.write.ensures.1)

pub returns-in-Err : goal.returns-in-Err
unfolding converted_of converted_bytes pick
returns-in-Err c =
    (rw (← c.read_older-reading.ensures, c.in-Err.is) refl, rw (← c.read_older-reading.ensures, c.in-Err.is) refl)
