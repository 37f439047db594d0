-- Side streets during dwell (2026-01): "movements that don't cross the tracks" run while the train passes, and those that the sheet names alone. What
-- is promised of them from a fresh start, over any ticks, commands and loads. Ticks are counted as in demand 3.
use Rattle.std.specs.Prelude.{ℕ, ◌+◌, ◌≤◌, ◌<◌, List, false, ◌≡◌, Ok}
use Rattle.sheet.specs.declared.Sheet.{Sheet}
use Rattle.stage.specs.declared.Command.{Command}
use Rattle.flow.specs.Promises.{InDwell, OnlyNamed, Leaving, Back}
use Rattle.unit.specs.declared.Unit.{Unit}
use Rattle.unit.specs.Unit.{now_of, tick_of, start_of}
use Rattle.unit.specs.Runs.{Event, run}
use Rattle.promises.specs.Demand.{line, CallOn, ticks_in, at_end}

abbrev pub line16 : Unit → ℕ
line16 = line (λ l. l.l16)

-- of every unit that a fresh start on a sheet that is not refused comes to
abbrev pub Always : (Unit → Type 0) → Type 0
Always P = (s : Sheet) → (start_of s).answer ≡ Ok tt → (past : List Event) → P (run (start_of s).unit past)

-- every phase shown in dwell, or next there, is named on the sheet held
abbrev pub OnlyNamedInDwell : Type 0
OnlyNamedInDwell = Always (λ u. OnlyNamed u.sheet u.stage)

-- while the call stays on, dwell is all red or a named phase and is not left
abbrev pub DwellNotLeft : Type 0
DwellNotLeft =
    Always
    (λ u. InDwell u.stage → (es : List Event) → CallOn es
    → let v = run u es in
    InDwell v.stage × OnlyNamed v.sheet v.stage × (v.sheet ≡ u.sheet))

-- u is the unit at the end of the tick on which the call went off. That phase of dwell goes on ending, and no other starts, until normal track green is
-- back with tick `back` after it, as far as the events go; 0 is that tick itself
pub record LeftInTime (phase : ℕ) (u : Unit) (es : List Event) (most : ℕ) : Type 0 where
  pub back : ℕ
  pub in_time : back ≤ most
  pub ending : (n : ℕ) → n ≤ ticks_in es → n < back → Leaving phase (at_end u es n).stage
  pub returned : back ≤ ticks_in es → Back (now_of (at_end u es back))

-- once the call has gone off no phase starts and normal track green is back within line 16 ticks, whatever the call and the commands do
abbrev pub DwellLeftInTime : Type 0
DwellLeftInTime =
    Always
    (λ u. InDwell u.stage → (c : Command) (es : List Event)
    → (phase : ℕ) × LeftInTime phase (tick_of u c false).unit es (line16 u))
