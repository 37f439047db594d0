-- Refusal 20, of the stage: "a phase not listed, a next phase neither listed nor 0, a time above its length". It speaks of phases listed, not of
-- phases named, in dwell too.
use Rattle.std.specs.Prelude.{ℕ, Bool, true, leb}
use Rattle.units.specs.Numbers.{both}
use Rattle.sheet.specs.declared.Sheet.{Sheet}
use Rattle.phase.specs.declared.Light.{Light}
use Rattle.phase.specs.declared.Light.TheVariants.{Green}
use Rattle.phase.specs.declared.Walker.{Walker}
use Rattle.phase.specs.declared.Walker.TheVariants.{Walk}
use Rattle.phase.specs.Times.{light_fits, walker_fits}
use Rattle.stage.specs.declared.Lengths.{Lengths}
use Rattle.stage.specs.declared.Stage.{Stage}
use Rattle.stage.specs.declared.Stage.TheVariants.{TrackGreen, TrackYellow, TrackRed, Open, Ending, ClearanceGreen, AllRed}
use Rattle.stage.specs.declared.Then.{Then}
use Rattle.stage.specs.declared.Then.TheVariants.{ToTrack, ToPhase, ToClearance, ToAllRed, ToDwell}
use Rattle.stage.specs.Listed.{listed, phase_of}

-- a next of 0 is the track, and in dwell all red
unfoldable pub then_fits : Sheet → Then → Bool
then_fits s ToTrack = true
then_fits s (ToPhase n) = listed s n
then_fits s ToClearance = true
then_fits s ToAllRed = true
then_fits s ToDwell = true

unfoldable pub phase_fits : Sheet → ℕ → Light → Walker → Bool
phase_fits s n l w = both (listed s n) (both (light_fits (phase_of s n) l) (walker_fits (phase_of s n) w))

unfoldable pub stage_fits : Lengths → Sheet → Stage → Bool
stage_fits t s TrackGreen = true
stage_fits t s (TrackYellow p z k) = both (then_fits s z) (leb k t.track_yellow)
stage_fits t s (TrackRed p z k) = both (then_fits s z) (leb k t.track_red)
stage_fits t s (Open p n g w) = phase_fits s n (Green g) (Walk w)
stage_fits t s (Ending p n z l w) = both (then_fits s z) (phase_fits s n l w)
stage_fits t s (ClearanceGreen k) = leb k t.l51
stage_fits t s AllRed = true
