-- The rules keep what specs/Promises.antt says: each rounding by what a quotient is. Assumes nothing.
use mathlib.Core.Path.{refl}
use Prim.Native.Nat.{◌/◌}
use native.Mathlib.Omega.{arith}
use Rattle.units.specs.Numbers.{up, pick}
use Rattle.rules.specs.Rules.{waited, line51}
use Rattle.rules.specs.Promises.{WaitedInModeOne, NoneInModeTwo, Line22Up, Line38Up, Line51Up, Line59Down}

pub waited_in_mode_one : WaitedInModeOne
unfolding waited pick
waited_in_mode_one p time e = rw e refl

pub none_in_mode_two : NoneInModeTwo
unfolding waited pick
none_in_mode_two p time e = rw e refl

pub line22_up : Line22Up
unfolding up
line22_up l21 = (omega arith, omega arith)

pub line38_up : Line38Up
unfolding up
line38_up l36 l37 = (omega arith, omega arith)

pub line51_up : Line51Up
unfolding up
line51_up l44 l50 l25 =
    (((line51 l44 l50 l25).0 / 10, omega arith), omega arith, omega arith, omega arith, λ b x y z. omega arith)

pub line59_down : Line59Down
line59_down l57 l58 = (omega arith, omega arith)
