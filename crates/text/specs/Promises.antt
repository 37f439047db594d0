-- What is promised of reading alone, each with the sentence of the paper or the request. proofs/ has a proof of each type.
use Rattle.std.specs.Prelude.{◌≡◌, Bool, true, false, List, ℕ, ◌<◌, get_or}
use Rattle.sheet.specs.Refusals.{is_fine}
use Rattle.sheet.specs.Zero.{zero_sheet}
use Rattle.rows.specs.Table.{row_for, place_for, row_count}
use Rattle.text.specs.Read.{read_by, stands_for, may_lack}

-- "A refused read .. gives only zeros beside its number (vehicle car)"
abbrev pub RefusedIsZero : Type 0
RefusedIsZero = (may : ℕ → Bool) (t : List ℕ) → is_fine (read_by may t).answer ≡ false → (read_by may t).sheet ≡ zero_sheet

-- "a converter writes both grades equal": an absent `grade2` stands for the first grade, and an absent `dwell` for "none"
abbrev pub AbsentIsFirstGrade : Type 0
AbsentIsFirstGrade = (v : List ℕ) → stands_for v (row_for "grade2") ≡ get_or v (place_for "grade") 0

abbrev pub AbsentIsNone : Type 0
AbsentIsNone = (v : List ℕ) → stands_for v (row_for "dwell") ≡ 0

-- no other line may be absent, and in today's form none may
abbrev pub OnlyTheseLack : Type 0
OnlyTheseLack = (older : Bool) (row : ℕ) → row < row_count → may_lack older row ≡ true → (older ≡ true) × ((row ≡ row_for "grade2" → ⊥) → row ≡ row_for "dwell")
