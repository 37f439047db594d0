-- What a load that is taken says, that this is enough, and the refusal where it is not: the first of four. Assumes nothing.
use Prim.Native.Nat.{ℕ, ◌≤◌}
use mathlib.Core.Bool.{true, false}
use mathlib.Core.Path.{◌≡◌, refl, sym, ap, ◌∙◌}
use borrow.Author.Tests.{ltb-true, lt-ltb, le-ltb, eqb-true, eq-eqb}
use Rattle.units.specs.Numbers.{pick}
use Rattle.units.proofs.Steps.{split, never}
use Rattle.sheet.specs.Refusals.{Answer, refused, is_fine, or_else, unless}
use Rattle.std.specs.Prelude.{Ok}
use Rattle.sheet.specs.declared.Refusal.TheVariants.{UnitUnfit, LoadNotNow, IssueNotNewer}
use Rattle.sheet.specs.declared.Sheet.{Sheet}
use Rattle.sheet.proofs.Answers.{both_fine, fine_or, bad_or, passes, is_fine_lem}
use Rattle.lines.specs.Worksheet.{worksheet_of}
use Rattle.stage.specs.declared.Stage.{Stage}
use Rattle.stage.specs.declared.Stage.TheVariants.{TrackGreen, TrackYellow, TrackRed, Open, Ending, ClearanceGreen, AllRed}
use Rattle.stage.specs.Shown.{resting}
use Rattle.unit.specs.declared.Unit.{Unit}
use Rattle.measured.specs.Measured.{accepted}
use Rattle.loading.specs.Loading.{newer}
use Rattle.unit.specs.Unit.{fits, restarted, place_answer, load_answer}
use Rattle.unit.specs.Promises.{Loadable, LoadNeeds, LoadTakes, LoadOrder}
use Rattle.unit.proofs.Refused.{restarted_answer}

at_rest : (st : Stage) (count : ℕ) → resting st count ≡ true → (st ≡ TrackGreen) × (count ≡ 0)
unfolding resting
at_rest TrackGreen count e = (refl, eqb-true count 0 e)
at_rest (TrackYellow p z k) count e = never e
at_rest (TrackRed p z k) count e = never e
at_rest (Open p n g w) count e = never e
at_rest (Ending p n z l w) count e = never e
at_rest (ClearanceGreen k) count e = never e
at_rest AllRed count e = never e

module _ (u : Unit) (s : Sheet) where
  pub loadable : load_answer u s ≡ Ok tt → Loadable u s
  unfolding load_answer place_answer
  loadable e =
      let a = both_fine (unless (fits u) UnitUnfit 0) (or_else (worksheet_of s).answer (place_answer u s)) e in
      let b = both_fine (worksheet_of s).answer (place_answer u s) a.1 in
      let d = both_fine (unless (resting u.stage u.count) LoadNotNow 0) (unless (newer u.sheet.issue s.issue) IssueNotNewer 0) b.1 in
      let r = at_rest u.stage u.count (passes (resting u.stage u.count) LoadNotNow 0 d.0) in
      record {
        unit = passes (fits u) UnitUnfit 0 a.0;
        sheet = ap is_fine b.0;
        stage = r.0;
        count = r.1;
        issue = ltb-true u.sheet.issue s.issue (passes (newer u.sheet.issue s.issue) IssueNotNewer 0 d.1);
      }

  pub taken : Loadable u s → load_answer u s ≡ Ok tt
  unfolding load_answer place_answer resting or_else unless
  taken l =
      rw l.unit
      (rw (is_fine_lem (worksheet_of s).answer l.sheet) (rw l.stage (rw l.count (rw (lt-ltb u.sheet.issue s.issue l.issue) refl))))

pub load_needs : LoadNeeds
load_needs u s e = loadable u s (sym (restarted_answer (load_answer u s) s u) ∙ e)

pub load_takes : LoadTakes
unfolding restarted pick
load_takes u s l = rw (taken u s l) refl

-- ---- the first refusal: what is not the first is not looked at
green_at_rest : (count : ℕ) → count ≡ 0 → resting TrackGreen count ≡ true
unfolding resting
green_at_rest count z = eq-eqb count 0 z

not_resting : (u : Unit) → (u.stage ≡ TrackGreen → u.count ≡ 0 → ⊥) → resting u.stage u.count ≡ false
not_resting u n =
    split (resting u.stage u.count) (λ e. let r = at_rest u.stage u.count e in absurd (n r.0 r.1)) (λ e. e)

is_resting : (u : Unit) → u.stage ≡ TrackGreen → u.count ≡ 0 → resting u.stage u.count ≡ true
is_resting u g z = rw g (green_at_rest u.count z)

module _ (u : Unit) (s : Sheet) where
  abbrev reply : Answer → Type 0
  reply a = (restarted (load_answer u s) s u).answer ≡ a

  answered : (a : Answer) → load_answer u s ≡ a → reply a
  answered a e = restarted_answer (load_answer u s) s u ∙ e

  unfit : fits u ≡ false → load_answer u s ≡ refused UnitUnfit 0
  unfolding load_answer or_else unless
  unfit f = rw f refl

  own_or_place : fits u ≡ true → load_answer u s ≡ or_else (worksheet_of s).answer (place_answer u s)
  unfolding load_answer or_else unless
  own_or_place f = rw f refl

  own : fits u ≡ true → accepted s ≡ false → load_answer u s ≡ (worksheet_of s).answer
  own f a = own_or_place f ∙ bad_or (worksheet_of s).answer (place_answer u s) a

  place : fits u ≡ true → accepted s ≡ true → load_answer u s ≡ place_answer u s
  place f a = own_or_place f ∙ fine_or (worksheet_of s).answer (place_answer u s) a

  elsewhere : resting u.stage u.count ≡ false → place_answer u s ≡ refused LoadNotNow 0
  unfolding place_answer or_else unless
  elsewhere r = rw r refl

  old : resting u.stage u.count ≡ true → s.issue ≤ u.sheet.issue → place_answer u s ≡ refused IssueNotNewer 0
  unfolding place_answer or_else unless
  old r h = rw r (rw (le-ltb u.sheet.issue s.issue h) refl)

pub load_order : LoadOrder
load_order u s =
    record {
      unfit = λ f. answered u s _ (unfit u s f);
      own = λ f a. answered u s _ (own u s f a);
      elsewhere = λ f a n. answered u s _ (place u s f a ∙ elsewhere u s (not_resting u n));
      old = λ f a g z h. answered u s _ (place u s f a ∙ old u s (is_resting u g z) h);
    }
