-- What is promised of the order, whatever the unit and the sheet.
use Rattle.std.specs.Prelude.{ℕ, true, false, ◌≡◌}
use Rattle.sheet.specs.Refusals.{Answer, refused, is_fine}
use Rattle.sheet.specs.declared.Refusal.TheVariants.{UnitUnfit, LoadNotNow}
use Rattle.loading.specs.Loading.{newer, place_by, answer_by}

-- issues are compared whole, not in eight bits
abbrev pub Issues : Type 0
Issues = (newer 255 256 ≡ true) × (newer 256 1 ≡ false) × (newer 256 256 ≡ false) × (newer 65534 65535 ≡ true)

-- where both 21 and 22 apply, 21
abbrev pub PlaceFirst : Type 0
PlaceFirst = (held offered : ℕ) → place_by false held offered ≡ refused LoadNotNow 0

-- "20 before all others"
abbrev pub UnfitFirst : Type 0
UnfitFirst = (own place : Answer) → answer_by false own place ≡ refused UnitUnfit 0

-- the sheet's own refusal before 21 and 22
abbrev pub OwnFirst : Type 0
OwnFirst = (own place : Answer) → is_fine own ≡ false → answer_by true own place ≡ own
