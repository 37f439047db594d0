-- Refusals 20 and 23 of a tick, a refused start and a refused load change nothing but what the paper names. Assumes nothing.
use mathlib.Core.Bool.{Bool, true, false}
use mathlib.Core.Path.{◌≡◌, refl, sym, ap, ◌∙◌}
use native.Mathlib.Omega.{arith}
use Rattle.units.specs.Numbers.{pick}
use Rattle.units.proofs.Steps.{cases}
use Rattle.sheet.specs.Refusals.{Answer, refused, is_fine, answer_number, answer_line, unless}
use Rattle.sheet.specs.declared.Refusal.TheVariants.{CommandNotAllowed, UnitUnfit}
use Rattle.sheet.specs.declared.Sheet.{Sheet}
use Rattle.sheet.specs.Zero.{zero_sheet}
use Rattle.stage.specs.declared.Command.{Command}
use Rattle.stage.specs.declared.Command.TheVariants.{None}
use Rattle.flow.specs.declared.Ticked.{Ticked}
use Rattle.flow.specs.Tick.{ticked}
use Rattle.flow.proofs.Dwell as flow
use Rattle.lines.specs.Worksheet.{worksheet_of}
use Rattle.unit.specs.declared.Reply.{Reply}
use Rattle.unit.specs.declared.Unit.{Unit}
use Rattle.measured.specs.Measured.{lengths_of}
use Rattle.unit.specs.Unit.{now_of, holding, fits, replied, tick_of, fresh, restarted, load_answer}
use Rattle.unit.specs.Promises.{Unchanged, AsWithNone, NoLine, RefusedStart, NotLoaded}

-- a command is answered fine or 23, and no line is named
pub not_twenty : (b : Bool) → answer_number (unless b CommandNotAllowed 0) ≡ 20 → ⊥
unfolding unless
not_twenty true e = omega arith
not_twenty false e = omega arith

no_line_of : (b : Bool) → answer_line (unless b CommandNotAllowed 0) ≡ 0
unfolding unless
no_line_of true = refl
no_line_of false = refl

refused_so : (b : Bool) → answer_number (unless b CommandNotAllowed 0) ≡ 23 → b ≡ false
unfolding unless
refused_so true e = absurd (omega arith)
refused_so false e = refl

module _ (u : Unit) (c : Command) (call : Bool) where
  abbrev next : Command → Ticked
  next d = ticked (lengths_of u.sheet) u.sheet (now_of u) d call

  -- the tick with a command, where the unit fits or not
  abbrev answers : Command → Bool → Reply
  answers d b = pick b (replied u.sheet (next d)) (record { unit = u; answer = refused UnitUnfit 0 })

  as_none : (b : Bool) → answer_number (answers c b).answer ≡ 23 → (answers c b).unit ≡ (answers None b).unit
  unfolding pick
  as_none true e =
      ap (holding u.sheet) (flow.as_with_none (lengths_of u.sheet) u.sheet (now_of u) c call (refused_so (next c).allowed e))
  as_none false e = absurd (omega arith)

pub unchanged : Unchanged
unfolding tick_of
unchanged u c call =
    cases (λ (t : Reply). answer_number t.answer ≡ 20 → t.unit ≡ u) (fits u) _ _
    (λ f e. absurd (not_twenty (next u c call c).allowed e)) (λ f e. refl)

pub no_line : NoLine
unfolding tick_of
no_line u c call = cases (λ (t : Reply). answer_line t.answer ≡ 0) (fits u) _ _ (λ f. no_line_of (next u c call c).allowed) (λ f. refl)

pub as_with_none : AsWithNone
unfolding tick_of
as_with_none u c call e = as_none u c call (fits u) e

pub restarted_answer : (a : Answer) (s : Sheet) (kept : Unit) → (restarted a s kept).answer ≡ a
unfolding restarted
restarted_answer a s kept = cases (λ (r : Reply). r.answer ≡ a) (is_fine a) _ _ (λ e. refl) (λ e. refl)

pub kept_so : (a : Answer) (s : Sheet) (kept : Unit) → is_fine (restarted a s kept).answer ≡ false → (restarted a s kept).unit ≡ kept
unfolding restarted pick
kept_so a s kept e =
    let b : is_fine a ≡ false = ap is_fine (sym (restarted_answer a s kept)) ∙ e in
    rw b refl

pub refused_start : RefusedStart
refused_start s e = kept_so (worksheet_of s).answer s (fresh zero_sheet) e

pub not_loaded : NotLoaded
not_loaded u s e = kept_so (load_answer u s) s u e
