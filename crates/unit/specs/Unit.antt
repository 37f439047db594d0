-- A tick, the loader and a start.
use Rattle.std.specs.Prelude.{Bool}
use Rattle.units.specs.Numbers.{pick}
use Rattle.sheet.specs.Refusals.{Answer, refused, is_fine, unless}
use Rattle.sheet.specs.declared.Refusal.TheVariants.{UnitUnfit, CommandNotAllowed}
use Rattle.sheet.specs.declared.Sheet.{Sheet}
use Rattle.sheet.specs.Zero.{zero_sheet}
use Rattle.lines.specs.Worksheet.{worksheet_of}
use Rattle.stage.specs.declared.Command.{Command}
use Rattle.stage.specs.declared.Stage.TheVariants.{TrackGreen}
use Rattle.stage.specs.Shown.{resting}
use Rattle.flow.specs.declared.Now.{Now}
use Rattle.flow.specs.declared.Ticked.{Ticked}
use Rattle.flow.specs.Tick.{ticked}
use Rattle.measured.specs.Measured.{lengths_of, measure_of}
use Rattle.fitting.specs.Fitting.{fits_by}
use Rattle.loading.specs.Loading.{place_by, answer_by}
use Rattle.unit.specs.declared.Reply.{Reply}
use Rattle.unit.specs.declared.Unit.{Unit}

-- what the unit shows and counts, and a unit on the sheet that shows and counts so
abbrev pub now_of : Unit → Now
now_of u = record { stage = u.stage; count = u.count }

abbrev pub holding : Sheet → Now → Unit
holding s now = record { sheet = s; stage = now.stage; count = now.count }

-- ---- refusal 20, by what the worksheet of the sheet says
abbrev pub fits : Unit → Bool
fits u = fits_by (measure_of u.sheet) u.sheet (now_of u)

-- ---- a tick
-- 23: "command not allowed now"
abbrev pub replied : Sheet → Ticked → Reply
replied s k = record { unit = holding s k.now; answer = unless k.allowed CommandNotAllowed 0 }

-- "After 20 .. the unit is unchanged"
unfoldable pub tick_of : Unit → Command → Bool → Reply
tick_of u c call =
    pick (fits u) (replied u.sheet (ticked (lengths_of u.sheet) u.sheet (now_of u) c call)) (record { unit = u; answer = refused UnitUnfit 0 })

-- ---- a start: "track green with all times and the call count at 0"
abbrev pub fresh : Sheet → Unit
fresh s = record { sheet = s; stage = TrackGreen; count = 0 }

-- a sheet that is taken restarts the unit in track green; one that is refused leaves the unit that there is
unfoldable pub restarted : Answer → Sheet → Unit → Reply
restarted a s kept = pick (is_fine a) (record { unit = fresh s; answer = a }) (record { unit = kept; answer = a })

-- "a refused start gives a unit in track green on that zero sheet"
abbrev pub start_of : Sheet → Reply
start_of s = restarted (worksheet_of s).answer s (fresh zero_sheet)

-- ---- the loader: "takes a sheet only in normal track green with the call count at 0, and then restarts track green"
-- "21 before 22"
unfoldable pub place_answer : Unit → Sheet → Answer
place_answer u s = place_by (resting u.stage u.count) u.sheet.issue s.issue

-- "20 before all others"; then the sheet offered "meets 2 to 10 again .. before 11, 21 or 22", and 12 "after 10"
unfoldable pub load_answer : Unit → Sheet → Answer
load_answer u s = answer_by (fits u) (worksheet_of s).answer (place_answer u s)

-- after "a refused load the unit is unchanged"
abbrev pub load_of : Unit → Sheet → Reply
load_of u s = restarted (load_answer u s) s u
