-- `writer::put_number` ends: it writes the digits of the tenth first.
use Rattle.writer.proofs.+put_number.Given as goal

abbrev pub decreases-put_number : goal.decreases-put_number
decreases-put_number l = l.v
