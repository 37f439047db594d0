-- A tick on which nothing changes but the times and the count. What it gives is proved to be what the three steps give.
use Rattle.std.specs.Prelude.{ℕ, ◌+◌, Bool, false, ltb}
use Rattle.units.specs.Numbers.{pick}
use Rattle.sheet.specs.declared.Sheet.{Sheet}
use Rattle.stage.specs.declared.Lengths.{Lengths}
use Rattle.stage.specs.declared.Place.{Place}
use Rattle.stage.specs.declared.Place.TheVariants.{Normal, Train}
use Rattle.stage.specs.declared.Stage.{Stage}
use Rattle.stage.specs.declared.Stage.TheVariants.{TrackGreen, TrackYellow, TrackRed, Open, Ending, ClearanceGreen, AllRed}
use Rattle.stage.specs.Times.{add_one}
use Rattle.flow.specs.declared.Now.{Now}
use Rattle.flow.specs.Calls.{count_to}

-- the count reaches line 3 neither on this tick nor before it
unfoldable pub waits : Lengths → Bool → ℕ → Bool
waits t call n = pick call (ltb (n + 1) t.l03) (ltb n t.l03)

-- a phase that is not asked to end stays: in normal operation while the count waits, in dwell while the call is on
unfoldable pub steady_open : Lengths → Bool → ℕ → Place → Bool
steady_open t call n Normal = waits t call n
steady_open t call n Train = call

-- the stages that stay: the track's green while the count waits, such a phase, clearance green before its last tick, dwell's all red while the call
-- is on
unfoldable pub steady_in : Lengths → Bool → ℕ → Stage → Bool
steady_in t call n TrackGreen = waits t call n
steady_in t call n (TrackYellow p z k) = false
steady_in t call n (TrackRed p z k) = false
steady_in t call n (Open p m g w) = steady_open t call n p
steady_in t call n (Ending p m z l w) = false
steady_in t call n (ClearanceGreen k) = ltb (k + 1) t.l51
steady_in t call n AllRed = call

-- of these the call is counted in the track's green and in a phase of normal operation
unfoldable pub count_open : Lengths → Bool → ℕ → Place → ℕ
count_open t call n Normal = count_to t call n
count_open t call n Train = n

unfoldable pub count_later : Lengths → Bool → ℕ → Stage → ℕ
count_later t call n TrackGreen = count_to t call n
count_later t call n (TrackYellow p z k) = n
count_later t call n (TrackRed p z k) = n
count_later t call n (Open p m g w) = count_open t call n p
count_later t call n (Ending p m z l w) = n
count_later t call n (ClearanceGreen k) = n
count_later t call n AllRed = n

abbrev pub later : Lengths → Sheet → Bool → Now → Now
later t s call now = record { stage = add_one t s now.stage; count = count_later t call now.count now.stage }
