-- "Each tick adds one to the times running .. A time stops at its interval's length, green's at green + other".
use Rattle.std.specs.Prelude.{ℕ, ◌+◌, Bool, ltb, leb}
use Rattle.units.specs.Numbers.{pick}
use Rattle.sheet.specs.declared.Phase.{Phase}
use Rattle.phase.specs.declared.Light.{Light}
use Rattle.phase.specs.declared.Light.TheVariants.{Green, Yellow, Red}
use Rattle.phase.specs.declared.Walker.{Walker}
use Rattle.phase.specs.declared.Walker.TheVariants.{Walk, Clearance}

-- a time one tick later: "A time stops at its interval's length"
unfoldable pub one_more : ℕ → ℕ → ℕ
one_more spent length = pick (ltb spent length) (spent + 1) spent

-- the whole length is spent; so it is at once in an interval of length 0
abbrev pub served : ℕ → ℕ → Bool
served length spent = leb length spent

-- "green's at green + other"
abbrev pub green_time : Phase → ℕ
green_time p = p.green + p.other

unfoldable pub add_light : Phase → Light → Light
add_light p (Green k) = Green (one_more k (green_time p))
add_light p (Yellow k) = Yellow (one_more k p.yellow)
add_light p (Red k) = Red (one_more k p.red)

unfoldable pub add_walker : Phase → Walker → Walker
add_walker p (Walk k) = Walk (one_more k p.walk)
add_walker p (Clearance k) = Clearance (one_more k p.clearance)

-- refusal 20, "a time above its length": none is
unfoldable pub light_fits : Phase → Light → Bool
light_fits p (Green k) = leb k (green_time p)
light_fits p (Yellow k) = leb k p.yellow
light_fits p (Red k) = leb k p.red

unfoldable pub walker_fits : Phase → Walker → Bool
walker_fits p (Walk k) = leb k p.walk
walker_fits p (Clearance k) = leb k p.clearance
