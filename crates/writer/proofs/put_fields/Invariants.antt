-- `writer::put_fields` meets its contract: at each turn a number more is stored. Assumes nothing.
use Prim.Native.Nat.{◌-◌}
use Rattle.text.specs.Text.{fields_text}
use Rattle.text.proofs.Puts.{Doing}
use Rattle.writer.proofs.put_fields.Given as goal

abbrev pub invariant-loop-j : goal.invariant-loop-j
invariant-loop-j l = Doing l.initial.out l.out l.at l.p (fields_text l.form l.place (l.n - l.j) l.j l.numbers) (fields_text l.form l.place l.n 0 l.numbers)
