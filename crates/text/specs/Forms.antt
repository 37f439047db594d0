-- Where a line is absent, and which line of the text a refusal names: "where the line there does not begin with `grade2=` (`dwell=`), it is absent", and
-- refusals' lines are those of the input.
use Rattle.std.specs.Prelude.{ℕ, Bool, true, false, List, [], ◌∷◌, ◌++◌, eqb}
use Prim.Native.String as S
use Rattle.units.specs.Numbers.{both}
use Rattle.units.specs.Lists.{all}
use Rattle.sheet.specs.Refusals.{answer_number, answer_line}
use Rattle.rows.specs.Table.{bytes}
use Rattle.rows.specs.Marks.{line_feed}
use Rattle.text.specs.Read.{read_by, may_lack}

-- whether older forms are taken, the lines of a text, and the number and line of its refusal
pub record Case : Type 0 where
  pub older : Bool
  pub lines : List S.String
  pub number : ℕ
  pub line : ℕ

abbrev pub today : List S.String → ℕ → ℕ → Case
today lines number line = record { older = false; lines = lines; number = number; line = line }

abbrev pub any_form : List S.String → ℕ → ℕ → Case
any_form lines number line = record { older = true; lines = lines; number = number; line = line }

abbrev pub joined : List S.String → List ℕ
joined [] = []
joined (x ∷ xs) = bytes x ++ (line_feed ++ joined xs)

unfoldable pub right : Case → Bool
right c =
    let answer = (read_by (may_lack c.older) (joined c.lines)).answer in
    both (eqb (answer_number answer) c.number) (eqb (answer_line answer) c.line)

-- the lines to the grade, and from line 1 to the track
abbrev pub to_grade : List S.String
to_grade = "issue=1" ∷ "vehicle=car" ∷ "grade=-3" ∷ []

abbrev pub to_track : List S.String
to_track = "l01=0" ∷ "l02=1" ∷ "phases=1" ∷ "phase=1,0,0,30,0,0,0,0" ∷ "track=30,0" ∷ []

abbrev pub form_cases : List Case
form_cases =
    -- "a text without it is refused 1"
    today (to_grade ++ "l01=0" ∷ []) 1 4
    ∷ today (to_grade ++ "grade2=-3" ∷ to_track ++ "l18=0" ∷ []) 1 10
    -- a line that is absent is not counted, and one that stands is
    ∷ any_form (to_grade ++ "l01=1000" ∷ []) 2 4
    ∷ any_form (to_grade ++ "grade2=5" ∷ "l01=1000" ∷ []) 2 5
    ∷ any_form (to_grade ++ to_track ++ "l18=1001" ∷ []) 2 9
    ∷ any_form (to_grade ++ to_track ++ "dwell=0" ∷ "l18=1001" ∷ []) 2 10
    ∷ any_form (to_grade ++ "grade2=5" ∷ to_track ++ "l18=1001" ∷ []) 2 10
    ∷ any_form (to_grade ++ "grade2=5" ∷ to_track ++ "dwell=0" ∷ "l18=1001" ∷ []) 2 11
    -- one that begins with its key stands, and has its faults
    ∷ any_form (to_grade ++ "grade2=-0" ∷ []) 1 4
    ∷ any_form (to_grade ++ "grade2=81" ∷ []) 2 4
    ∷ any_form (to_grade ++ to_track ++ "dwell=" ∷ []) 1 9
    ∷ any_form (to_grade ++ to_track ++ "dwell=2,1" ∷ []) 3 9
    -- no other line may be absent
    ∷ any_form ("issue=1" ∷ "vehicle=car" ∷ "grade2=5" ∷ []) 1 3
    ∷ any_form (to_grade ++ "l02=1" ∷ []) 1 4
    ∷ []

abbrev pub FormsAreRead : Bool
FormsAreRead = all right form_cases
