-- What is promised of a stage's numbers: nothing of the stage is lost in them.
use Rattle.std.specs.Prelude.{◌≡◌}
use Rattle.stage.specs.declared.Stage.{Stage}
use Rattle.state.specs.State.{numbers_of, stage_of}

-- every stage, one that fits a sheet or not, is the stage of its numbers
abbrev pub NothingLost : Type 0
NothingLost = (s : Stage) → stage_of (numbers_of s) ≡ s
