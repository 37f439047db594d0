-- What a program prints of an answer.
use Rattle.std.specs.Prelude.{ℕ, List, ◌++◌, ◌∷◌}
use Rattle.std.specs.Fmt.{decimal}
use Rattle.sheet.specs.Refusals.{Answer, answer_number, answer_line}

-- "NUMBER,LINE"
abbrev pub numbered_text : Answer → List ℕ
numbered_text a = decimal (answer_number a) ++ (44 ∷ decimal (answer_line a))
