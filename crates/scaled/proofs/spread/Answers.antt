-- `scaled::spread` meets its contract: the mixtures of two columns have 32 bits, and so are mixed again. Assumes nothing.
use mathlib.Core.Path.{refl}
use native.Mathlib.Omega.{arith}
use Rattle.scale.proofs.Mixes.{mix_bound}
use Rattle.scaled.proofs.spread.Goals as goal

pub mix-requires : goal.mix-requires
mix-requires c =
    rw (c.mix-here.ensures, c.mix-next.ensures, c.from.ensures, c.from-2.ensures, c.from-3.ensures, c.from-4.ensures)
    (omega (arith, mix_bound c.args.a c.args.b 65535 65535 c.args.column (omega arith) (omega arith) (omega arith) (omega arith), mix_bound c.args.c c.args.d 65535 65535 c.args.column (omega arith) (omega arith) (omega arith) (omega arith)))

pub returns : goal.returns
returns c =
    rw (c.mix.ensures, c.mix-here.ensures, c.mix-next.ensures, c.from.ensures, c.from-2.ensures, c.from-3.ensures, c.from-4.ensures) refl
