-- What a sum or a difference does with the units.
use Rattle.std.specs.Prelude.{ℕ, ◌+◌, ◌-◌, ◌≤◌}
use Rattle.units.specs.Numbers.{feet, tenths}
use Rattle.units.specs.declared.Feet.{Feet}
use Rattle.units.specs.declared.Tenths.{Tenths}

-- no line of an accepted sheet is near 1,000,000
abbrev pub Small : ℕ → Type 0
Small n = n ≤ 1000000

-- times added, distances added
infixl 40 ◌plus◌
abbrev pub ◌plus◌ : Tenths → Tenths → Tenths
a plus b = tenths (a.0 + b.0)

infixl 40 ◌along◌
abbrev pub ◌along◌ : Feet → Feet → Feet
a along b = feet (a.0 + b.0)

-- "29 less 34, or 0 if that is below 0"; "40 less 43, at least 0"; "55 less 60, at least 0"
infixl 40 ◌less◌
abbrev pub ◌less◌ : Tenths → Tenths → Tenths
a less b = tenths (a.0 - b.0)
