-- `scaled::mix` meets its contract: wherever the place stands, both products and their sum have 64 bits. Assumes nothing.
use mathlib.Core.Path.{refl}
use Prim.Native.Nat.{◌-◌}
use native.Mathlib.Omega.{arith}
use Rattle.units.proofs.Rounding.{product}
use Rattle.scale.specs.Scale.{mix_of}
use Rattle.scale.proofs.Mixes.{mix_bound}
use Rattle.scaled.proofs.mix.Goals as goal

pub overflow_mul-result : goal.overflow_mul-result
overflow_mul-result c =
    rw (c.from.ensures, c.saturating_sub.ensures) (record { fits = product (c.args.p.width - c.args.p.past) c.args.lo (omega arith) (omega arith) })

pub overflow_mul-result-2 : goal.overflow_mul-result-2
overflow_mul-result-2 c =
    rw c.from-2.ensures (record { fits = product c.args.p.past c.args.hi (omega arith) (omega arith) })

pub overflow_add-result : goal.overflow_add-result
unfolding mix_of
overflow_add-result c =
    rw (c.from.ensures, c.saturating_sub.ensures, c.from-2.ensures)
    (omega (arith, mix_bound c.args.lo c.args.hi 4294967295 65535 c.args.p (omega arith) (omega arith) (omega arith) (omega arith)))

pub returns : goal.returns
unfolding mix_of
returns c =
    rw (c.from.ensures, c.saturating_sub.ensures, c.from-2.ensures) refl
