-- What is promised of a stage: one that fits still fits one tick later, and after a command that is allowed; and in dwell only a named phase may start.
use Rattle.std.specs.Prelude.{ℕ, ◌<◌, true, false, ◌≡◌}
use Rattle.sheet.specs.declared.Sheet.{Sheet}
use Rattle.sheet.specs.Entries.{named}
use Rattle.stage.specs.declared.Command.{Command}
use Rattle.stage.specs.declared.Lengths.{Lengths}
use Rattle.stage.specs.declared.Place.TheVariants.{Train}
use Rattle.stage.specs.declared.Stage.{Stage}
use Rattle.stage.specs.declared.Stage.TheVariants.{Open, AllRed}
use Rattle.stage.specs.Listed.{NamedAreListed}
use Rattle.stage.specs.Times.{add_one}
use Rattle.stage.specs.Fitness.{stage_fits}
use Rattle.stage.specs.Commands.{allowed_at, allowed, obeyed}

abbrev pub TickFits : Type 0
TickFits = (t : Lengths) (s : Sheet) (st : Stage) → stage_fits t s st ≡ true → stage_fits t s (add_one t s st) ≡ true

abbrev pub ObeyedFits : Type 0
ObeyedFits =
    (t : Lengths) (s : Sheet) → NamedAreListed s → (st : Stage) (c : Command)
    → allowed s st c ≡ true → stage_fits t s st ≡ true → stage_fits t s (obeyed st c) ≡ true

-- "There end, next n starts a named phase; in a phase n is another named phase, or 0 for all red": no other may start in dwell
abbrev pub OnlyNamedMayStart : Type 0
OnlyNamedMayStart =
    (s : Sheet) (n : ℕ) → named s n ≡ false
    → (allowed_at s AllRed n ≡ false) × ((m g w : ℕ) → 0 < n → allowed_at s (Open Train m g w) n ≡ false)
