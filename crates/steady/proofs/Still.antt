-- On a steady tick without a command the three steps change nothing but the times and the count: stage by stage. Assumes nothing.
use Prim.Native.Nat.{ℕ, ◌+◌}
use mathlib.Core.Bool.{Bool, true, false}
use mathlib.Core.Path.{◌≡◌, refl}
use native.Mathlib.Omega.{arith}
use lib.Dec.{leb, ltb, eqb}
use borrow.Author.Tests.{ltb-true, lt-ltb, lt-leb, ne_eqb}
use Rattle.units.specs.Numbers.{pick}
use Rattle.units.proofs.Steps.{never}
use Rattle.sheet.specs.declared.Sheet.{Sheet}
use Rattle.phase.specs.Times.{one_more}
use Rattle.stage.specs.declared.Command.{Command}
use Rattle.stage.specs.declared.Command.TheVariants.{None}
use Rattle.stage.specs.declared.Lengths.{Lengths}
use Rattle.stage.specs.declared.Place.TheVariants.{Normal, Train}
use Rattle.stage.specs.declared.Stage.{Stage}
use Rattle.stage.specs.declared.Stage.TheVariants.{TrackGreen, TrackYellow, TrackRed, Open, Ending, ClearanceGreen, AllRed}
use Rattle.stage.specs.Commands.{allowed, obeyed}
use Rattle.stage.specs.Shown.{in_normal, is_normal}
use Rattle.stage.specs.Times.{add_one}
use Rattle.flow.specs.declared.Now.{Now}
use Rattle.flow.specs.Calls.{counting, count_after, called, begins, becomes, open_dropped, dropped, overdue}
use Rattle.flow.specs.Settling.{settle, settle_green}
use Rattle.flow.specs.Tick.{heard, ticked}
use Rattle.steady.specs.Steady.{waits, steady_open, steady_in, count_open, count_later, later}

-- the count waits: it is not at line 3, nor will this tick bring it there
not_at : (call : Bool) (t : Lengths) (n : ℕ) → waits t call n ≡ true → eqb n t.l03 ≡ false
unfolding waits pick
not_at true t n e = let h = ltb-true (n + 1) t.l03 e in ne_eqb n t.l03 (λ z. omega arith)
not_at false t n e = let h = ltb-true n t.l03 e in ne_eqb n t.l03 (λ z. omega arith)

not_next : (t : Lengths) (n : ℕ) → waits t true n ≡ true → eqb (n + 1) t.l03 ≡ false
unfolding waits pick
not_next t n e = let h = ltb-true (n + 1) t.l03 e in ne_eqb (n + 1) t.l03 (λ z. omega arith)

abbrev at : Stage → ℕ → Now
at st n = record { stage = st; count = n }

-- what a steady tick gives
abbrev Same : Lengths → Sheet → Bool → Now → Type 0
Same t s call now = record { now = later t s call now; allowed = true } ≡ ticked t s now None call

green : (t : Lengths) (s : Sheet) (call : Bool) (n : ℕ) → waits t call n ≡ true → Same t s call (at TrackGreen n)
unfolding pick add_one overdue settle heard allowed obeyed called begins becomes counting in_normal dropped count_after count_later
green t s true n e = rw (not_at true t n e) (rw (not_next t n e) refl)
green t s false n e = rw (not_at false t n e) refl

opened : (t : Lengths) (s : Sheet) (call : Bool) (n m g w : ℕ) → waits t call n ≡ true → Same t s call (at (Open Normal m g w) n)
unfolding pick add_one overdue settle heard allowed obeyed called begins becomes counting in_normal is_normal open_dropped dropped count_after count_open count_later
opened t s true n m g w e = rw (not_at true t n e) (rw (not_next t n e) refl)
opened t s false n m g w e = rw (not_at false t n e) refl

-- clearance green is not over, and is not counted in
still : (l k : ℕ) → ltb (k + 1) l ≡ true → leb l (one_more k l) ≡ false
unfolding one_more pick
still l k e = let h = ltb-true (k + 1) l e in rw (lt-ltb k l (omega arith)) (lt-leb l (k + 1) h)

clearance : (t : Lengths) (s : Sheet) (call at-l03 : Bool) (n k : ℕ) → eqb n t.l03 ≡ at-l03 → ltb (k + 1) t.l51 ≡ true → Same t s call (at (ClearanceGreen k) n)
unfolding pick add_one overdue settle settle_green heard allowed obeyed called begins becomes counting in_normal dropped count_after count_later
clearance t s true true n k a e = rw a (rw (still t.l51 k e) (rw (still t.l51 k e) (rw (still t.l51 k e) refl)))
clearance t s true false n k a e = rw a (rw (still t.l51 k e) (rw (still t.l51 k e) (rw (still t.l51 k e) refl)))
clearance t s false true n k a e = rw a (rw (still t.l51 k e) (rw (still t.l51 k e) (rw (still t.l51 k e) refl)))
clearance t s false false n k a e = rw a (rw (still t.l51 k e) (rw (still t.l51 k e) (rw (still t.l51 k e) refl)))

-- dwell, with the call on: a phase that is not asked to end, and all red
side : (t : Lengths) (s : Sheet) (at-l03 : Bool) (n m g w : ℕ) → eqb n t.l03 ≡ at-l03 → Same t s true (at (Open Train m g w) n)
unfolding pick add_one overdue settle heard allowed obeyed called begins becomes counting in_normal is_normal dropped count_after count_open count_later
side t s true n m g w a = rw a refl
side t s false n m g w a = rw a refl

dwell : (t : Lengths) (s : Sheet) (at-l03 : Bool) (n : ℕ) → eqb n t.l03 ≡ at-l03 → Same t s true (at AllRed n)
unfolding pick add_one overdue settle heard allowed obeyed called begins becomes counting in_normal dropped count_after count_later
dwell t s true n a = rw a refl
dwell t s false n a = rw a refl

steady_is : (t : Lengths) (s : Sheet) (call : Bool) (n : ℕ) (st : Stage) → steady_in t call n st ≡ true → Same t s call (at st n)
unfolding steady_in steady_open
steady_is t s call n TrackGreen e = green t s call n e
steady_is t s call n (TrackYellow p z k) e = never e
steady_is t s call n (TrackRed p z k) e = never e
steady_is t s call n (Open Normal m g w) e = opened t s call n m g w e
steady_is t s true n (Open Train m g w) e = side t s (eqb n t.l03) n m g w refl
steady_is t s false n (Open Train m g w) e = never e
steady_is t s call n (Ending p m z l w) e = never e
steady_is t s call n (ClearanceGreen k) e = clearance t s call (eqb n t.l03) n k refl e
steady_is t s true n AllRed e = dwell t s (eqb n t.l03) n refl
steady_is t s false n AllRed e = never e

-- on such a tick, where no command was found
pub goes_on : (t : Lengths) (s : Sheet) (now : Now) (c : Command) (call : Bool) (st : Stage) (n : ℕ)
    → c ≡ None → steady_in t call now.count now.stage ≡ true → st ≡ add_one t s now.stage → n ≡ count_later t call now.count now.stage
    → record { now = record { stage = st; count = n }; allowed = true } ≡ ticked t s now c call
goes_on t s now c call st n z e a b = rw z (rw a (rw b (steady_is t s call now.count now.stage e)))
