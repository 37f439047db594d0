-- The promises of numbers and words alone. Assumes nothing.
use mathlib.Core.Path.{refl}
use mathlib.Core.List.{[], ◌∷◌}
use lib.Dec.{ltb}
use Rattle.units.specs.Numbers.{pick}
use Rattle.units.proofs.Steps.{split}
use Rattle.figures.specs.Figures.{digit_of, more, number, after, signed_at}
use Rattle.figures.specs.Promises.{MinusZeroIsBad}

pub minus_zero_is_bad : MinusZeroIsBad
unfolding signed_at after number more digit_of pick
minus_zero_is_bad [] = refl
minus_zero_is_bad (b ∷ rest) = split (ltb 9 (digit_of b)) (λ t. rw t) (λ t. rw t)
