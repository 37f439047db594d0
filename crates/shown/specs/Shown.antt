-- What a unit shows, as the bench prints it: "the tick, the stage, the phase, its walker". The names are those that it prints.
use Rattle.std.specs.Prelude.{ℕ, List, Bool, eqb, ltb, ◌≡◌, codes}
use Rattle.units.specs.Numbers.{pick, both}
use Rattle.sheet.specs.declared.Phase.{Phase}
use Rattle.sheet.specs.declared.Sheet.{Sheet}
use Rattle.phase.specs.declared.Light.{Light}
use Rattle.phase.specs.declared.Light.TheVariants.{Green, Yellow, Red}
use Rattle.phase.specs.declared.Walker.{Walker}
use Rattle.phase.specs.declared.Walker.TheVariants as walks
use Rattle.stage.specs.declared.Place.{Place}
use Rattle.stage.specs.declared.Place.TheVariants.{Normal, Train}
use Rattle.stage.specs.declared.Stage.{Stage}
use Rattle.stage.specs.declared.Stage.TheVariants as stage
use Rattle.stage.specs.Listed.{phase_of}
use Rattle.shown.specs.declared.Aspect.{Aspect}
use Rattle.shown.specs.declared.Aspect.TheVariants.{TrackGreen, TrackYellow, TrackRed, PhaseGreen, PhaseYellow, PhaseRed, ClearanceGreen, ClearanceYellow, ClearanceRed, Dwell, DwellGreen, DwellYellow, DwellRed}
use Rattle.shown.specs.declared.OnFoot.{OnFoot}
use Rattle.shown.specs.declared.OnFoot.TheVariants.{Nobody, Walk, Clearance}
use Rattle.shown.specs.declared.Shown.{Shown}

-- the names, in the bench's own letters
unfoldable pub aspect_name : Aspect → List ℕ
aspect_name TrackGreen = codes "track-green"
aspect_name TrackYellow = codes "track-yellow"
aspect_name TrackRed = codes "track-red"
aspect_name PhaseGreen = codes "phase-green"
aspect_name PhaseYellow = codes "phase-yellow"
aspect_name PhaseRed = codes "phase-red"
aspect_name ClearanceGreen = codes "clearance-green"
aspect_name ClearanceYellow = codes "clearance-yellow"
aspect_name ClearanceRed = codes "clearance-red"
aspect_name Dwell = codes "dwell"
aspect_name DwellGreen = codes "dwell-green"
aspect_name DwellYellow = codes "dwell-yellow"
aspect_name DwellRed = codes "dwell-red"

unfoldable pub on_foot_name : OnFoot → List ℕ
on_foot_name Nobody = codes "-"
on_foot_name Walk = codes "walk"
on_foot_name Clearance = codes "clearance"

abbrev pub Named : Type 0
Named = Shown Aspect OnFoot

abbrev pub shows : Aspect → ℕ → OnFoot → Named
shows st n w = record { stage = st; phase = n; walker = w }

-- a stage without a phase: "with 0 and `-`"
abbrev pub plain : Aspect → Named
plain st = shows st 0 Nobody

-- "It lasts line 51 ticks, then track yellow and red": these are shown as those of track clearance
unfoldable pub placed : Aspect → Aspect → Place → Named
placed n t Normal = plain n
placed n t Train = plain t

unfoldable pub lit : Aspect → Aspect → Aspect → Light → Aspect
lit g y r (Green k) = g
lit g y r (Yellow k) = y
lit g y r (Red k) = r

-- "a phase run in dwell shows as `dwell-green`, `dwell-yellow`, `dwell-red`"
unfoldable pub lit_in : Light → Place → Aspect
lit_in l Normal = lit PhaseGreen PhaseYellow PhaseRed l
lit_in l Train = lit DwellGreen DwellYellow DwellRed l

-- "walk ends once served; clearance then runs its length"
unfoldable pub on_foot : Phase → Walker → OnFoot
on_foot p (walks.Walk k) = Walk
on_foot p (walks.Clearance k) = pick (ltb k p.clearance) Clearance Nobody

-- "In mode 0 there is no walk or clearance"
unfoldable pub walker_of : Phase → Walker → OnFoot
walker_of p w = pick (eqb p.mode 0) Nobody (on_foot p w)

abbrev pub phase_shows : Sheet → Place → ℕ → Light → Walker → Named
phase_shows s p n l w = shows (lit_in l p) n (walker_of (phase_of s n) w)

unfoldable pub shown_of : Sheet → Stage → Named
shown_of s stage.TrackGreen = plain TrackGreen
shown_of s (stage.TrackYellow p z k) = placed TrackYellow ClearanceYellow p
shown_of s (stage.TrackRed p z k) = placed TrackRed ClearanceRed p
shown_of s (stage.Open p n g w) = phase_shows s p n (Green g) (walks.Walk w)
shown_of s (stage.Ending p n z l w) = phase_shows s p n l w
shown_of s (stage.ClearanceGreen k) = plain ClearanceGreen
shown_of s stage.AllRed = plain Dwell

-- "only if what it shows changed"
-- by the stages' own test and the walkers'
unfoldable pub same_shown : {S : Type 0} → {W : Type 0} → (S → S → Bool) → (W → W → Bool) → Shown S W → Shown S W → Bool
same_shown stages walkers a b = both (stages a.stage b.stage) (both (eqb a.phase b.phase) (walkers a.walker b.walker))

abbrev pub same_named : Named → Named → Type 0
same_named a b = (a.stage ≡ b.stage) × ((a.phase ≡ b.phase) × (a.walker ≡ b.walker))
