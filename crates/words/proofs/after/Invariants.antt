-- `words::after` meets its contract: at each turn the rest of the word decides as the whole word does. Assumes nothing.
use Prim.Native.Nat.{◌+◌}
use mathlib.Core.Path.{◌≡◌}
use lib.ListN.{drop}
use Rattle.figures.specs.Figures.{after}
use Rattle.words.proofs.after.Given as goal

abbrev pub invariant-loop-letter : goal.invariant-loop-letter
invariant-loop-letter l = (l.next ≡ l.at + l.letter-index) × (after l.next (drop l.letter-index l.w) (drop l.next l.s) ≡ after l.at l.w (drop l.at l.s))
