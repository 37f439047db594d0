-- Demand 3: a call that begins in normal operation and stays on is answered in time by the track clearance green, however the commands and
-- loads go. The events and `run` are those of the unit: `tick c call`, with its command and whether it sees the call on, and `load s`.
use Rattle.std.specs.Prelude.{ℕ, zero, suc, ◌+◌, ◌≤◌, ◌<◌, Bool, true, false, List, [], ◌∷◌, ◌≡◌, Ok}
use Rattle.units.specs.Numbers.{pick}
use Rattle.units.specs.declared.Tenths.{Tenths}
use Rattle.sheet.specs.declared.Sheet.{Sheet}
use Rattle.sheet.specs.Refusals.{is_fine}
use Rattle.rules.specs.Rules.{ticks}
use Rattle.lines.specs.declared.Lines.{Lines}
use Rattle.lines.specs.Worksheet.{worksheet_of}
use Rattle.stage.specs.declared.Command.{Command}
use Rattle.stage.specs.declared.Stage.TheVariants.{ClearanceGreen}
use Rattle.stage.specs.Shown.{in_normal}
use Rattle.unit.specs.declared.Unit.{Unit}
use Rattle.unit.specs.Unit.{start_of, load_of}
use Rattle.unit.specs.Runs.{Event, tick, load, answer_to, run}

-- a line of the worksheet that belongs to the sheet held, in ticks
abbrev pub line : (Lines → Tenths) → Unit → ℕ
line l u = ticks (l (worksheet_of u.sheet).lines)

abbrev pub line3 : Unit → ℕ
line3 = line (λ l. l.l03)

abbrev pub line17 : Unit → ℕ
line17 = line (λ l. l.l17)

abbrev pub line25 : Unit → ℕ
line25 = line (λ l. l.l25)

abbrev pub line28 : Unit → ℕ
line28 = line (λ l. l.l28)

abbrev pub line34 : Unit → ℕ
line34 = line (λ l. l.l34)

abbrev pub line35 : Unit → ℕ
line35 = line (λ l. l.l35)

abbrev pub line36 : Unit → ℕ
line36 = line (λ l. l.l36)

abbrev pub line40 : Unit → ℕ
line40 = line (λ l. l.l40)

abbrev pub line51 : Unit → ℕ
line51 = line (λ l. l.l51)

abbrev pub line53 : Unit → ℕ
line53 = line (λ l. l.l53)

abbrev pub line54 : Unit → ℕ
line54 = line (λ l. l.l54)

abbrev pub line60 : Unit → ℕ
line60 = line (λ l. l.l60)

abbrev pub line61 : Unit → ℕ
line61 = line (λ l. l.l61)

-- ---- the call begins
-- whether the call was on at the last of the ticks since the start or the last load that was taken; off where there is none
unfoldable pub seen_on : Bool → Unit → List Event → Bool
seen_on on u [] = on
seen_on on u (tick c call ∷ es) = seen_on call (answer_to u (tick c call)).unit es
seen_on on u (load s ∷ es) = seen_on (pick (is_fine (load_of u s).answer) false on) (answer_to u (load s)).unit es

-- a tick that sees the call on would be the call's first, and finds the unit in normal operation: "Between transfer and the end of dwell the call
-- is read only at the end of track red and in dwell, so demand 3 speaks of no call that begins in that span"
pub record MayBegin (u : Unit) (past : List Event) : Type 0 where
  pub off : seen_on false u past ≡ false
  pub normal : in_normal (run u past).stage ≡ true

-- and stays on: every tick sees it; commands and loads come as they may
abbrev pub CallOn : List Event → Type 0
CallOn [] = Prim.Unit {0}
CallOn (tick c call ∷ es) = (call ≡ true) × CallOn es
CallOn (load s ∷ es) = CallOn es

-- ---- ticks are counted from the call's first; a load is none
abbrev pub ticks_in : List Event → ℕ
ticks_in [] = 0
ticks_in (tick c call ∷ es) = suc (ticks_in es)
ticks_in (load s ∷ es) = ticks_in es

-- "By line 17 means at the end of that many ticks, the first tick with the call on counted; lines 34 and 40 are counted the same way":
-- the events to the end of tick n, and the unit then
abbrev pub up_to : ℕ → List Event → List Event
up_to zero es = []
up_to (suc n) [] = []
up_to (suc n) (tick c call ∷ es) = tick c call ∷ up_to n es
up_to (suc n) (load s ∷ es) = load s ∷ up_to (suc n) es

abbrev pub at_end : Unit → List Event → ℕ → Unit
at_end u es n = run u (up_to n es)

-- ---- the green
-- "Green in demand 3 is the track clearance green that answers the call, not a green of normal operation"
abbrev pub ShowsGreen : Unit → Type 0
ShowsGreen u = (spent : ℕ) × (u.stage ≡ ClearanceGreen spent)

-- ---- the call that these events bring to that unit is answered by a green that shows with tick g
pub record Answered (u : Unit) (es : List Event) (g : ℕ) : Type 0 where
  pub by_line17 : g ≤ line17 u
  -- "It lasts line 51 ticks", as far as the events go
  pub green : (n : ℕ) → n ≤ ticks_in es → g ≤ n → n < g + line51 u → ShowsGreen (at_end u es n)
  -- if line 35 is 0, the train comes at line 34 or later and the vehicle is off within line 25 of the green, it is off line 28 before the train
  pub vehicle : line35 u ≡ 0 → (train off : ℕ) → line34 u ≤ train → off ≤ g + line25 u → off + line28 u ≤ train
  -- gates that are down by line 40 are down when the green ends
  pub gates : (down : ℕ) → down ≤ line40 u → down ≤ g + line51 u

-- the gate and the trailer: if line 61 is at most line 36, the lights start no sooner than line 36 after the call, the gate reaches the vehicle no
-- sooner than line 60 after the lights, and the vehicle has gone its own length within lines 53 and 54 of the green, it has before the gate
-- reaches it
pub record Spared (u : Unit) (g : ℕ) : Type 0 where
  pub trailer : line61 u ≤ line36 u → (lights gate gone : ℕ)
      → line36 u ≤ lights → lights + line60 u ≤ gate → gone ≤ g + line53 u + line54 u → gone ≤ gate

-- and no more than was asked: g is the first tick at whose end green shows, not before line 3, and none shows after line 51 of it while the call
-- stays on
pub record NoSooner (u : Unit) (es : List Event) (g : ℕ) : Type 0 where
  pub not_before : line3 u ≤ g
  pub first : (n : ℕ) → n ≤ ticks_in es → n < g → ShowsGreen (at_end u es n) → ⊥
  pub once : (n : ℕ) → n ≤ ticks_in es → g + line51 u ≤ n → ShowsGreen (at_end u es n) → ⊥

pub record Demanded (u : Unit) (es : List Event) (g : ℕ) : Type 0 where
  pub answered : Answered u es g
  pub spared : Spared u g
  pub no_sooner : NoSooner u es g

-- from a fresh start, whatever came before, and whatever comes after the call's first tick as long as the call stays on
abbrev pub ForEveryCall : (Unit → List Event → Type 0) → Type 0
ForEveryCall P =
    (s : Sheet) → (start_of s).answer ≡ Ok tt → (past : List Event) → MayBegin (start_of s).unit past
    → (c : Command) (es : List Event) → CallOn es → P (run (start_of s).unit past) (tick c true ∷ es)

abbrev pub Demand3 : Type 0
Demand3 = ForEveryCall (λ u es. (g : ℕ) × Demanded u es g)

-- in the owner's words, of a call that lasts to line 17: "track green shows by line 17 and stays on for line 51"
abbrev pub GreenByLine17 : Type 0
GreenByLine17 =
    ForEveryCall
    (λ u es. line17 u ≤ ticks_in es
    → (g : ℕ) × (g ≤ line17 u) × ShowsGreen (at_end u es g) × ((n : ℕ) → n ≤ ticks_in es → g ≤ n → n < g + line51 u → ShowsGreen (at_end u es n)))
