-- "After it is asked: walk ends once served; clearance then runs its length; green ends when green + other is served, walk is over,
-- and in mode 1 clearance is over; yellow and red follow. The phase is over when red and clearance both are. In mode 0 there is no walk
-- or clearance": there both lengths are 0, by refusal 5.
use Rattle.std.specs.Prelude.{ℕ, Bool, true, false, eqb, Option, Some, None}
use Rattle.units.specs.Numbers.{pick, both}
use Rattle.sheet.specs.declared.Phase.{Phase}
use Rattle.phase.specs.declared.Light.{Light}
use Rattle.phase.specs.declared.Light.TheVariants.{Green, Yellow, Red}
use Rattle.phase.specs.declared.Walker.{Walker}
use Rattle.phase.specs.declared.Walker.TheVariants.{Walk, Clearance}
use Rattle.phase.specs.Times.{served, green_time}

-- "walk ends once served; clearance then runs its length"
unfoldable pub after_walk : Phase → Walker → Walker
after_walk p (Walk k) = pick (served p.walk k) (Clearance 0) (Walk k)
after_walk p (Clearance k) = Clearance k

unfoldable pub walk_over : Walker → Bool
walk_over (Walk k) = false
walk_over (Clearance k) = true

unfoldable pub clearance_over : Phase → Walker → Bool
clearance_over p (Walk k) = false
clearance_over p (Clearance k) = served p.clearance k

-- "green ends when green + other is served, walk is over, and in mode 1 clearance is over"
unfoldable pub green_over : Phase → Walker → ℕ → Bool
green_over p w k = both (served (green_time p) k) (both (walk_over w) (pick (eqb p.mode 1) (clearance_over p w) true))

unfoldable pub after_green : Phase → Walker → Light → Light
after_green p w (Green k) = pick (green_over p w k) (Yellow 0) (Green k)
after_green p w (Yellow k) = Yellow k
after_green p w (Red k) = Red k

-- "yellow and red follow"
unfoldable pub after_yellow : Phase → Light → Light
after_yellow p (Green k) = Green k
after_yellow p (Yellow k) = pick (served p.yellow k) (Red 0) (Yellow k)
after_yellow p (Red k) = Red k

-- "The phase is over when red and clearance both are"
unfoldable pub phase_over : Phase → Light → Walker → Bool
phase_over p (Green k) w = false
phase_over p (Yellow k) w = false
phase_over p (Red k) w = both (served p.red k) (clearance_over p w)

-- what it comes to once every change due is made: light and walker as they are then; or nothing, where it is over
abbrev pub Settled : Type 0
Settled = Option (Light × Walker)

unfoldable pub over_or_stays : Phase → Light → Walker → Settled
over_or_stays p l w = pick (phase_over p l w) None (Some (l, w))

-- every change due, in the order of flow
abbrev pub settle_phase : Phase → Light → Walker → Settled
settle_phase p l w = over_or_stays p (after_yellow p (after_green p (after_walk p w) l)) (after_walk p w)
