-- "Each tick adds one to the times running .. A time stops at its interval's length, green's at green + other; track green in normal
-- operation and dwell keep none." That is dwell's all red: a phase that runs in dwell keeps its times as in normal operation.
use Rattle.std.specs.Prelude.{ℕ}
use Rattle.sheet.specs.declared.Sheet.{Sheet}
use Rattle.phase.specs.declared.Light.{Light}
use Rattle.phase.specs.declared.Walker.{Walker}
use Rattle.phase.specs.Times.{one_more, green_time, add_light, add_walker}
use Rattle.stage.specs.declared.Lengths.{Lengths}
use Rattle.stage.specs.declared.Place.{Place}
use Rattle.stage.specs.declared.Stage.{Stage}
use Rattle.stage.specs.declared.Stage.TheVariants.{TrackGreen, TrackYellow, TrackRed, Open, Ending, ClearanceGreen, AllRed}
use Rattle.stage.specs.declared.Then.{Then}
use Rattle.stage.specs.Listed.{phase_of}

-- a phase not asked to end: green and walk run, and rest at their lengths
abbrev pub add_open : Sheet → Place → ℕ → ℕ → ℕ → Stage
add_open s p n g w = Open p n (one_more g (green_time (phase_of s n))) (one_more w (phase_of s n).walk)

abbrev pub add_ending : Sheet → Place → ℕ → Then → Light → Walker → Stage
add_ending s p n z l w = Ending p n z (add_light (phase_of s n) l) (add_walker (phase_of s n) w)

unfoldable pub add_one : Lengths → Sheet → Stage → Stage
add_one t s TrackGreen = TrackGreen
add_one t s (TrackYellow p z k) = TrackYellow p z (one_more k t.track_yellow)
add_one t s (TrackRed p z k) = TrackRed p z (one_more k t.track_red)
add_one t s (Open p n g w) = add_open s p n g w
add_one t s (Ending p n z l w) = add_ending s p n z l w
add_one t s (ClearanceGreen k) = ClearanceGreen (one_more k t.l51)
add_one t s AllRed = AllRed
