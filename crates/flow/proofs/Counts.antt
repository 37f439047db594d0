-- What a tick makes of the count, test by test. Assumes nothing.
use Prim.Native.Nat.{ℕ, ◌+◌, ◌<◌}
use mathlib.Core.Bool.{Bool, true, false}
use mathlib.Core.Path.{◌≡◌, refl, ◌∙◌, ap}
use borrow.Author.Tests.{lt-ltb}
use Rattle.units.specs.Numbers.{pick}
use Rattle.phase.specs.Times.{one_more}
use Rattle.stage.specs.declared.Lengths.{Lengths}
use Rattle.stage.specs.declared.Stage.{Stage}
use Rattle.stage.specs.Shown.{in_normal}
use Rattle.flow.specs.Calls.{counting, count_to, count_after}
use Rattle.flow.specs.Tick.{end_of}
use Rattle.flow.specs.Promises.{OnCounts, OffClears, NotCounted}

counts : (t : Lengths) (end : Stage) (n : ℕ) → n < t.l03 → count_after t true true end n ≡ n + 1
unfolding count_after count_to one_more pick
counts t end n h = rw (lt-ltb n t.l03 h) refl

pub on_counts : OnCounts
on_counts t s x c e h =
    ap (λ (b : Bool). count_after t true b (end_of t s c true x) x.count) e ∙ counts t (end_of t s c true x) x.count h

clears : (t : Lengths) (counted : Bool) (end : Stage) (n : ℕ) → in_normal end ≡ true → count_after t false counted end n ≡ 0
unfolding count_after count_to pick
clears t true end n e = refl
clears t false end n e = rw e refl

pub off_clears : OffClears
off_clears t s x c e = clears t (counting t x) (end_of t s c false x) x.count e

stays : (t : Lengths) (call : Bool) (end : Stage) (n : ℕ) → in_normal end ≡ false → count_after t call false end n ≡ n
unfolding count_after pick
stays t call end n e = rw e refl

pub not_counted : NotCounted
not_counted t s x c call e d =
    ap (λ (b : Bool). count_after t call b (end_of t s c call x) x.count) e ∙ stays t call (end_of t s c call x) x.count d
