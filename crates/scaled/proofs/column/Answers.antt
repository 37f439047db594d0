-- `scaled::column` meets its contract, by the computed test over every grade of each vehicle. Assumes nothing.
use mathlib.Core.Path.{◌∙◌, ap}
use Prim.Native.Nat.{ℕ, ◌-◌}
use native.Mathlib.Omega.{arith}
use Rattle.units.specs.Numbers.{pick}
use Rattle.sheet.specs.declared.Vehicle.TheVariants.{Su, Bus, Wb50}
use Rattle.scale.specs.Scale.{column_of, place_on, placed, every_of}
use Rattle.scale.proofs.Places.{column_to, column_above}
use Rattle.scaled.proofs.column.Goals as goal

pub returns-in-Car : goal.returns-in-Car
unfolding column_of place_on
returns-in-Car c =
    rw c.in-Car.is c.placed.ensures

pub returns-in-Su : goal.returns-in-Su
unfolding column_of place_on pick
returns-in-Su c =
    let g = c.min-g in
    rw c.in-Su.is
    (c.every.ensures ∙ ap (every_of 0 20) c.saturating_sub.ensures ∙ column_to Su (λ (k : ℕ). every_of 0 20 (k - 20)) 80 tt g.result (omega arith) (omega arith) ∙ ap (column_of Su) g.ensures)

pub returns-then-g-le20 : goal.returns-then-g-le20
unfolding column_of place_on pick
returns-then-g-le20 c =
    let g = c.min-g in
    rw c.in-Bus.is
    (c.placed-then-g-le20.ensures ∙ ap (λ (n : ℕ). placed 4 n 10) c.saturating_sub-then-g-le20.ensures ∙ column_to Bus (λ (k : ℕ). placed 4 (k - 10) 10) 20 tt g.result (omega arith) (omega arith) ∙ ap (column_of Bus) g.ensures)

pub returns-else-g-le20 : goal.returns-else-g-le20
unfolding column_of place_on pick
returns-else-g-le20 c =
    let g = c.min-g in
    rw c.in-Bus.is
    (c.every-else-g-le20.ensures ∙ column_above Bus (λ (k : ℕ). every_of 5 20 (k - 20)) 20 tt g.result (omega arith) (omega arith) ∙ ap (column_of Bus) g.ensures)

pub returns-in-Wb50 : goal.returns-in-Wb50
unfolding column_of place_on pick
returns-in-Wb50 c =
    let g = c.min-g in
    rw c.in-Wb50.is
    (c.every-in-Wb50.ensures ∙ column_to Wb50 (λ (k : ℕ). every_of 9 20 k) 80 tt g.result (omega arith) (omega arith) ∙ ap (column_of Wb50) g.ensures)
