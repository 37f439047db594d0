-- The order of the loader's refusals.
use Rattle.std.specs.Prelude.{ℕ, Bool, ltb}
use Rattle.sheet.specs.Refusals.{Answer, or_else, unless}
use Rattle.sheet.specs.declared.Refusal.TheVariants.{UnitUnfit, LoadNotNow, IssueNotNewer}

-- "issue not above the one held" is refused
abbrev pub newer : ℕ → ℕ → Bool
newer held offered = ltb held offered

-- "21 before 22"
abbrev pub place_by : Bool → ℕ → ℕ → Answer
place_by rests held offered = or_else (unless rests LoadNotNow 0) (unless (newer held offered) IssueNotNewer 0)

-- "20 before all others"; then the sheet offered "meets 2 to 10 again .. before 11, 21 or 22", and 12 "after 10"
abbrev pub answer_by : Bool → Answer → Answer → Answer
answer_by fits own place = or_else (unless fits UnitUnfit 0) (or_else own place)
