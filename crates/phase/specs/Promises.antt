-- What is promised of a phase that was asked to end: it waits for what the paper says and for nothing else, and it is over in time.
use Rattle.std.specs.Prelude.{ℕ, zero, suc, ◌+◌, ◌≤◌, ◌<◌, true, ◌⊎◌, ◌≡◌, Some, None}
use Rattle.sheet.specs.declared.Phase.{Phase}
use Rattle.transfer.specs.declared.Users.TheVariants.{Vehicles, Pedestrians}
use Rattle.transfer.specs.Transfer.{time_of}
use Rattle.phase.specs.declared.Light.{Light}
use Rattle.phase.specs.declared.Light.TheVariants.{Green, Yellow, Red}
use Rattle.phase.specs.declared.Walker.{Walker}
use Rattle.phase.specs.declared.Walker.TheVariants.{Walk, Clearance}
use Rattle.phase.specs.Times.{green_time, add_light, add_walker, light_fits, walker_fits}
use Rattle.phase.specs.Ending.{Settled, after_walk, settle_phase}

-- ---- what is waited for
-- walk is not over
abbrev pub WalkRuns : Walker → Type 0
WalkRuns (Walk j) = Unit {0}
WalkRuns (Clearance j) = ⊥

-- clearance is not over, or has not begun
abbrev pub ClearanceRuns : Phase → Walker → Type 0
ClearanceRuns p (Walk j) = Unit {0}
ClearanceRuns p (Clearance j) = j < p.clearance

-- "green ends when green + other is served, walk is over, and in mode 1 clearance is over": one of these is still to come
abbrev pub GreenRuns : Phase → Walker → ℕ → Type 0
GreenRuns p w k = (k < green_time p) ⊎ (WalkRuns w ⊎ ((p.mode ≡ 1) × ClearanceRuns p w))

-- green is shown as long as it has something to wait for, in mode 2 also for walk
abbrev pub GreenWaits : Type 0
GreenWaits = (p : Phase) (k : ℕ) (w : Walker) → GreenRuns p (after_walk p w) k → settle_phase p (Green k) w ≡ Some (Green k, after_walk p w)

-- "The phase is over when red and clearance both are": not before
abbrev pub RedWaits : Type 0
RedWaits = (p : Phase) (k : ℕ) (w : Walker) → (k < p.red) ⊎ ClearanceRuns p (after_walk p w) → settle_phase p (Red k) w ≡ Some (Red k, after_walk p w)

-- ---- no change is left due
abbrev pub WalkerRests : Phase → Walker → Type 0
WalkerRests p (Walk j) = j < p.walk
WalkerRests p (Clearance j) = Unit {0}

abbrev pub LightRests : Phase → Light → Walker → Type 0
LightRests p (Green k) w = GreenRuns p w k
LightRests p (Yellow k) w = k < p.yellow
LightRests p (Red k) w = (k < p.red) ⊎ ClearanceRuns p w

abbrev pub Rests : Phase → Settled → Type 0
Rests p (Some (l, w)) = LightRests p l w × WalkerRests p w
Rests p None = Unit {0}

abbrev pub NothingDue : Type 0
NothingDue = (p : Phase) (l : Light) (w : Walker) → Rests p (settle_phase p l w)

-- settling what is settled
abbrev pub again : Phase → Settled → Settled
again p (Some (l, w)) = settle_phase p l w
again p None = None

abbrev pub TwiceIsOnce : Type 0
TwiceIsOnce = (p : Phase) (l : Light) (w : Walker) → again p (settle_phase p l w) ≡ settle_phase p l w

-- ---- no time comes above its length
abbrev pub Fits : Phase → Settled → Type 0
Fits p (Some (l, w)) = (light_fits p l ≡ true) × (walker_fits p w ≡ true)
Fits p None = Unit {0}

-- one tick of the phase: one is added to the times running, and the changes due are made
unfoldable pub tick : Phase → Settled → Settled
tick p (Some (l, w)) = settle_phase p (add_light p l) (add_walker p w)
tick p None = None

abbrev pub FitsKept : Type 0
FitsKept =
    (p : Phase) → ((l : Light) (w : Walker) → light_fits p l ≡ true → walker_fits p w ≡ true → Fits p (settle_phase p l w))
    × ((x : Settled) → Fits p x → Fits p (tick p x))

-- ---- over in time
unfoldable pub ticks : Phase → ℕ → Settled → Settled
ticks p zero x = x
ticks p (suc n) x = ticks p n (tick p x)

-- a phase that refusals 2, 5 and 6 leave
pub record Fair (p : Phase) : Type 0 where
  pub modes : p.mode ≤ 2
  pub none : p.mode ≡ 0 → (p.walk ≡ 0) × (p.clearance ≡ 0)
  pub enough : p.mode ≡ 2 → p.yellow + p.red ≤ p.clearance

-- from the end asked, whatever was served before, it is over within any number of ticks that is at least its vehicle time and its
-- pedestrian time
abbrev pub OverInTime : Type 0
OverInTime =
    (p : Phase) → Fair p → (n : ℕ) → (time_of Vehicles p).0 ≤ n → (time_of Pedestrians p).0 ≤ n
    → (l : Light) (w : Walker) → light_fits p l ≡ true → walker_fits p w ≡ true → ticks p n (settle_phase p l w) ≡ None

-- ---- phase 4 of the paper's sheet, tick by tick, asked to end as it begins; and the same phase in another mode
abbrev pub four : ℕ → Phase
four mode = record { number = 4; green = 40; other = 0; yellow = 35; red = 20; walk = 70; clearance = 100; mode = mode }

abbrev pub four_after : ℕ → ℕ → Settled
four_after mode n = ticks (four mode) n (settle_phase (four mode) (Green 0) (Walk 0))

-- in mode 1, with a pedestrian time of 225 on line 15: yellow waits for the clearance, and the phase is over with tick 225 and not before
abbrev pub ModeOne : Type 0
ModeOne =
    (four_after 1 70 ≡ Some (Green 40, Clearance 0)) × (four_after 1 169 ≡ Some (Green 40, Clearance 99))
    × (four_after 1 170 ≡ Some (Yellow 0, Clearance 100)) × (four_after 1 224 ≡ Some (Red 19, Clearance 100)) × (four_after 1 225 ≡ None)

-- in mode 2: yellow waits for walk, clearance runs on through yellow and red, and red for the clearance
abbrev pub ModeTwo : Type 0
ModeTwo =
    (four_after 2 69 ≡ Some (Green 40, Walk 69)) × (four_after 2 70 ≡ Some (Yellow 0, Clearance 0))
    × (four_after 2 169 ≡ Some (Red 20, Clearance 99)) × (four_after 2 170 ≡ None)
