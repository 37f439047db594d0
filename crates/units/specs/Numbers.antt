-- Numbers as the paper says them: taken up, and a choice by a test; and the three units.
use Rattle.std.specs.Prelude.{ℕ, ◌+◌, ◌-◌, ◌*◌, ◌/◌, ◌<◌, ◌≤◌, Bool, true, false}
use Rattle.units.specs.declared.Feet.{Feet}
use Rattle.units.specs.declared.Tenths.{Tenths}
use Rattle.units.specs.declared.Hundredths.{Hundredths}

-- n over d, "taken up" to the next whole number
unfoldable pub up : ℕ → ℕ → ℕ
up n d = (n + (d - 1)) / d

-- r is n over d, taken up: the least whole number that is not below it
abbrev pub TakenUp : ℕ → ℕ → ℕ → Type 0
TakenUp n d r = (n ≤ r * d) × (r * d < n + d)

-- the first where the test holds, else the second
unfoldable pub pick : {A : Type 0} → Bool → A → A → A
pick true a b = a
pick false a b = b

-- both tests hold
abbrev pub both : Bool → Bool → Bool
both a b = pick a b false

abbrev pub feet : ℕ → Feet
feet n = record { 0 = n }

abbrev pub tenths : ℕ → Tenths
tenths n = record { 0 = n }

abbrev pub hundredths : ℕ → Hundredths
hundredths n = record { 0 = n }
