-- What an accepted sheet names for dwell is listed on it: refusal 12 looks for the same phase. Assumes nothing.
use Prim.Native.Nat.{ℕ}
use mathlib.Core.Bool.{Bool, true}
use mathlib.Core.List.{List, [], ◌∷◌}
use mathlib.Core.Path.{◌≡◌, refl, ◌∙◌}
use lib.Dec.{eqb}
use Rattle.std.specs.Prelude.{is_some}
use Rattle.units.specs.Numbers.{pick}
use Rattle.units.proofs.Steps.{split}
use Rattle.sheet.specs.declared.Phase.{Phase}
use Rattle.sheet.specs.declared.Sheet.{Sheet}
use Rattle.sheet.specs.Entries.{listed_phases}
use Rattle.sheet.proofs.Answers.{is_fine_lem}
use Rattle.faults.specs.Whole.{listed_in, accept_of}
use Rattle.faults.proofs.Sound.{sound}
use Rattle.lines.specs.Worksheet.{worksheet_of}
use Rattle.stage.specs.Listed.{find_in, NamedAreListed}
use Rattle.measured.specs.Measured.{accepted}

found_where_listed : (ps : List Phase) (n : ℕ) → is_some (find_in ps n) ≡ listed_in ps n
unfolding find_in listed_in pick
found_where_listed [] n = refl
found_where_listed (p ∷ ps) n = split (eqb p.number n) (λ t. rw t refl) (λ t. rw t (found_where_listed ps n))

pub named_listed : (s : Sheet) → accepted s ≡ true → NamedAreListed s
unfolding worksheet_of
named_listed s a n h = found_where_listed (listed_phases s) n ∙ (sound s (is_fine_lem (accept_of s) a)).dwell_listed n h
