-- What was read is what is written: a text whose lines are fine gives numbers without a fault, and is their text without the lines that were absent. Assumes nothing.
use Prim.Native.Nat.{ℕ, zero, suc, ◌+◌, ◌≤◌, ◌<◌}
use mathlib.Core.Path.{◌≡◌, refl, sym, ap, subst, ◌∙◌}
use mathlib.Core.List.{List, [], ◌++◌}
use mathlib.Core.Bool.{Bool, true, false}
use native.Mathlib.Omega.{arith}
use lib.ListN.{length, get_or, drop, replicate, length-set, drop_of_length-le}
use lib.Seq.{get_or-set_same, get_or-set_other}
use lib.Dec.{eqb}
use borrow.Author.Tests.{eq-eqb, ne_eqb, eqb-true, eqb-false}
use Rattle.units.specs.Numbers.{pick}
use Rattle.units.proofs.Steps.{split, never}
use Rattle.std.specs.Prelude.{Ok}
use Rattle.sheet.specs.Refusals.{is_fine, or_else}
use Rattle.rows.specs.Table.{is_list, row_count, number_count, form_of, width_of, place_of, present}
use Rattle.rows.proofs.Tables.{place_room, width_some}
use Rattle.faults.specs.Lines.{row_fault, here_fault, line_after, fault_from}
use Rattle.text.specs.Read.{Step, judged_at, end_at, on_step, begins, passed, stands_for, filled, here_at, lines_from, lines_of, may_lack}
use Rattle.text.specs.Text.{here_text, text_from}
use Rattle.trips.specs.Older.{text_less}
use Rattle.trips.proofs.Agree.{Below, used, used_all, used_list, used_agree, place_next, row_agree, row_below, present_below, fault_below}
use Rattle.trips.proofs.Back.{Good, line_back, judged_back, held_here, held_none, ClearAt, Clear, zeros_in}
use Rattle.trips.proofs.Absent.{any_line, none_today, present_before, stood, stood_fine, stands_below}
use Rattle.trips.proofs.Again.{less_agree, text_all}

-- n rows from `row` on, read from the place `at` into the numbers w; those that are gone were absent, and the numbers have what they stand for
pub record Whole (older : Bool) (s : List ℕ) (n row at : ℕ) (v w : List ℕ) : Type 0 where
  pub gone : ℕ → Bool
  pub may : (r : ℕ) → row ≤ r → gone r ≡ true → may_lack older r ≡ true
  pub same : (r : ℕ) → row ≤ r → gone r ≡ true → get_or w (place_of r) 0 ≡ stands_for w r
  pub text : drop at s ≡ text_less gone w n row
  pub before : Below (place_of row) v w
  pub long : length w ≡ number_count
  pub checked : (line : ℕ) → fault_from w n row line ≡ Ok tt
  pub clear : Clear row w

-- a row passed over or read, up to the numbers u and the place p
record Here (older : Bool) (s : List ℕ) (row at : ℕ) (v u : List ℕ) (p : ℕ) : Type 0 where
  below : Below (place_of row) v u
  behind : (m : ℕ) → place_of row + width_of row ≤ m → get_or u m 0 ≡ get_or v m 0
  long : length u ≡ length v
  fault : (w : List ℕ) (line : ℕ) → length w ≡ length u → Below (place_of row + width_of row) u w → here_fault w row line ≡ Ok tt
  lacks : Bool
  may : lacks ≡ true → may_lack older row ≡ true
  same : lacks ≡ true → (w : List ℕ) → Below (place_of row + width_of row) u w → get_or w (place_of row) 0 ≡ stands_for w row
  text : (w : List ℕ) → Below (place_of row + width_of row) u w → drop at s ≡ pick lacks [] (here_text row w) ++ drop p s
  clear : (w : List ℕ) → Below (place_of row + width_of row) u w → ClearAt w row

abbrev Bare : ℕ → List ℕ → Type 0
Bare row v = (m : ℕ) → place_of row ≤ m → get_or v m 0 ≡ 0

-- the row before has no fault, whatever its line
abbrev Fined : ℕ → List ℕ → Type 0
Fined row v = (r line : ℕ) → r + 1 ≡ row → here_fault v r line ≡ Ok tt

module _ (older : Bool) (s : List ℕ) (row line at : ℕ) (v : List ℕ) (h : row < row_count) where
  past_count : Bare row v → present v row ≡ false → Here older s row at v v at
  unfolding here_fault here_text pick
  past_count z a =
      let same : (w : List ℕ) → Below (place_of row + width_of row) v w → present w row ≡ false = λ w b. present_below row v w h (λ m l. b m (omega arith)) ∙ a in
      record {
        below = λ m l. refl;
        behind = λ m l. refl;
        long = refl;
        fault = λ w l k b. rw (same w b);
        lacks = false;
        may = λ e. never e;
        same = λ e. never e;
        text = λ w b. rw (same w b);
        clear = λ w b m g l. b m l ∙ z m (omega (arith, held_none w row (same w b)));
      }

  used_some : (w : List ℕ) → 1 ≤ used w row
  used_some w =
      split (is_list (form_of row)) (λ t. omega (arith, used_list w row t, width_some row h)) (λ t. omega (arith, used_all w row t, width_some row h))

  absent_here : length v ≡ number_count → Bare row v → Fined row v → present v row ≡ true → may_lack older row ≡ true → Here older s row at v (stood v row) at
  unfolding here_fault here_text pick
  absent_here e z f a m =
      let u = stood v row in
      let wide = width_some row h in
      let x = get_or u (place_of row) 0 in
      let other : (k : ℕ) → (k ≡ place_of row → ⊥) → get_or u k 0 ≡ get_or v k 0 = λ k d. get_or-set_other v (place_of row) k _ 0 d in
      let long : length u ≡ length v = length-set v (place_of row) _ in
      let same : (w : List ℕ) → Below (place_of row + width_of row) u w → present w row ≡ true = λ w b. present_below row v w h (λ k l. b k (omega arith) ∙ other k (λ d. omega arith)) ∙ a in
      let earlier : (r l : ℕ) → r + 1 ≡ row → row_fault u r l ≡ (Ok tt) =
      λ r l n.
      let next : place_of row ≡ place_of r + width_of r = sym (ap place_of n) ∙ place_next r in
      fault_below r l v u (omega arith) long (λ k b. other k (λ d. omega arith)) ∙ rw (present_before older v row r h m n) at (f r l n) in
      record {
        below = λ k l. other k (λ d. omega arith);
        behind = λ k l. other k (λ d. omega arith);
        long = long;
        fault = λ w l k b. rw (same w b) (fault_below row l u w h k b ∙ stood_fine older v row l h e m earlier);
        lacks = true;
        may = λ o. m;
        same = λ o w b. b (place_of row) (omega arith) ∙ get_or-set_same v (place_of row) _ 0 (omega (arith, place_room row h)) ∙ sym (stands_below older v w row h m (λ k l. b k (omega arith) ∙ other k (λ d. omega arith)));
        text = λ w b. refl;
        clear = λ w b k g l. b k l ∙ other k (λ d. omega (arith, held_here w row (same w b), used_some w)) ∙ z k (omega (arith, held_here w row (same w b), used_some w));
      }

  line_here : length v ≡ number_count → Bare row v → present v row ≡ true → (t : Step) → Good s at row line v t → Here older s row at v t.numbers t.next
  unfolding here_fault here_text pick
  line_here e z a t g =
      let c = line_back s at row v t.next t.numbers (omega (arith, place_room row h)) g.line in
      let r = c.read in
      let u = t.numbers in
      let same : (w : List ℕ) → Below (place_of row + width_of row) u w → present w row ≡ true =
      λ w b. present_below row v w h (λ m l. b m (omega arith) ∙ r.stored.before m l) ∙ a in
      record {
        below = r.stored.before;
        behind = r.stored.behind;
        long = r.stored.long;
        fault = λ w l k b. rw (same w b) (fault_below row l u w h k b ∙ any_line u row line l g.fine);
        lacks = false;
        may = λ e. never e;
        same = λ e. never e;
        text = λ w b. rw (same w b) (r.cut.here ∙ ap (λ (x : List ℕ). x ++ drop t.next s) (sym (row_agree row u w (row_below row u w b))));
        clear =
            λ w b m g l.
            let few : used w row ≡ used u row = ap length (used_agree row u w (row_below row u w b)) in
            b m l ∙ c.bare z m (omega (arith, held_here w row (same w b))) l;
      }

  here_back : length v ≡ number_count → Bare row v → Fined row v → is_fine (here_at (may_lack older) s at row line v).answer ≡ true
      → Here older s row at v (here_at (may_lack older) s at row line v).numbers (here_at (may_lack older) s at row line v).next
  unfolding here_at passed filled pick
  here_back e z f k =
      split (present v row)
      (λ a. split (may_lack older row)
      (λ m. split (begins s at row)
      (λ b. rw (a, m, b) (line_here e z a (judged_at s at row line v) (judged_back s at row line v (rw (a, m, b) at k))))
      (λ b. rw (a, m, b) (absent_here e z f a m)))
      (λ m. rw (a, m) (line_here e z a (judged_at s at row line v) (judged_back s at row line v (rw (a, m) at k)))))
      (λ a. rw a (past_count z a))

step_back : (t : Step) (g : ℕ → List ℕ → Step) → is_fine (on_step t g).answer ≡ true → (is_fine t.answer ≡ true) × (on_step t g ≡ g t.next t.numbers)
unfolding pick
step_back t g f = split (is_fine t.answer) (λ a. (a, rw a)) (λ a. never (sym a ∙ rw a at f))

-- the end: nothing is left of the text
end_back : (s : List ℕ) (line at : ℕ) (v : List ℕ) → is_fine (end_at s line at v).answer ≡ true → (at ≡ length s) × ((end_at s line at v).numbers ≡ v)
unfolding end_at pick
end_back s line at v f = split (eqb at (length s)) (λ t. (eqb-true at (length s) t, rw t)) (λ t. never (rw t at f))

-- at the end, and one row more
whole_end : (older : Bool) (s : List ℕ) (row at : ℕ) (v : List ℕ) → row_count ≤ row → length v ≡ number_count → drop at s ≡ [] → Whole older s 0 row at v v
unfolding text_less fault_from
whole_end older s row at v k l e =
    record { gone = λ r. false; may = λ r g i. never i; same = λ r g i. never i; text = e; before = λ m i. refl; long = l; checked = λ line. refl; clear = λ r g i. absurd (omega arith) }

whole_next : (older : Bool) (s : List ℕ) (n row at : ℕ) (v u w : List ℕ) (p : ℕ) → row < row_count → length v ≡ number_count → Here older s row at v u p → Whole older s n (row + 1) p u w → Whole older s (suc n) row at v w
unfolding fault_from text_less or_else pick
whole_next older s n row at v u w p h lv r o =
    let b : Below (place_of row + width_of row) u w = λ m l. o.before m (omega (arith, place_next row)) in
    let bv : Below (place_of row) v w = λ m l. b m (omega arith) ∙ r.below m l in
    let gone : ℕ → Bool = λ k. pick (eqb k row) r.lacks (o.gone k) in
    let later = less_agree o.gone gone w n (row + 1) (λ k g i. rw (ne_eqb k row (λ e. omega arith)) refl) in
    record {
      gone = gone;
      may = λ k g i. split (eqb k row) (λ q. let e = eqb-true k row q in rw e (r.may (rw q at i))) (λ q. let ne : (k ≡ row → ⊥) = eqb-false k row q in o.may k (omega arith) (rw q at i));
      same = λ k g i. split (eqb k row) (λ q. let e = eqb-true k row q in rw e (r.same (rw q at i) w b)) (λ q. let ne : (k ≡ row → ⊥) = eqb-false k row q in o.same k (omega arith) (rw q at i));
      text = rw (eq-eqb row row refl) (r.text w b ∙ ap (λ (l : List ℕ). pick r.lacks [] (here_text row w) ++ l) (o.text ∙ later));
      before = bv;
      long = o.long;
      checked = λ line. rw (r.fault w line (o.long ∙ sym (r.long ∙ lv)) b) (o.checked (line_after w row line));
      clear =
          λ k g l m i j. split (eqb row k)
          (λ q. let e = eqb-true row k q in r.clear w b m (rw (← e) at i) (rw (← e) at j))
          (λ q. let ne : (row ≡ k → ⊥) = eqb-false row k q in o.clear k (omega arith) l m i j);
    }

lines_back : (older : Bool) (s : List ℕ) (n row line at : ℕ) (v : List ℕ) → n + row ≡ row_count → length v ≡ number_count → Bare row v → Fined row v
    → is_fine (lines_from (may_lack older) s n row line at v).answer ≡ true → Whole older s n row at v (lines_from (may_lack older) s n row line at v).numbers
unfolding lines_from
lines_back older s zero row line at v k l z d f =
    let b = end_back s line at v f in
    let over : length s ≤ at = omega (arith, b.0) in
    rw b.1 (whole_end older s row at v (omega arith) l (drop_of_length-le s over))
lines_back older s (suc n) row line at v k l z d f =
    let may = may_lack older in
    let t = here_at may s at row line v in
    let later = pick (passed may s at row v) line (line + 1) in
    let on = step_back t (λ p w. lines_from may s n (row + 1) later p w) f in
    let here = here_back older s row line at v (omega arith) l z d on.0 in
    let zero-behind : Bare (row + 1) t.numbers = λ m g. here.behind m (omega (arith, place_next row)) ∙ z m (omega (arith, place_next row)) in
    let fined : Fined (row + 1) t.numbers = λ r i e. let q : r ≡ row = omega arith in rw q (here.fault t.numbers i refl (λ m g. refl)) in
    let rest = lines_back older s n (row + 1) later t.next t.numbers (omega arith) (here.long ∙ l) zero-behind fined (ap (λ (x : Step). is_fine x.answer) (sym on.1) ∙ f) in
    subst (λ (x : Step). Whole older s (suc n) row at v x.numbers) (sym on.1) (whole_next older s n row at v t.numbers _ t.next (omega arith) l here rest)

-- a text whose lines are fine, and the numbers that were read
pub text_back : (older : Bool) (s : List ℕ) → (lines_of (may_lack older) s).answer ≡ Ok tt → Whole older s row_count 0 0 (replicate number_count 0) (lines_of (may_lack older) s).numbers
text_back older s e =
    lines_back older s row_count 0 1 0 (replicate number_count 0) refl refl (λ m g. zeros_in number_count m) (λ r l n. absurd (omega arith)) (ap is_fine e)

-- where no line may be absent it is their text
pub today_back : (s : List ℕ) (n row at : ℕ) (v w : List ℕ) → Whole false s n row at v w → drop at s ≡ text_from w n row
today_back s n row at v w o =
    o.text ∙ less_agree o.gone (λ r. false) w n row (λ r g i. split (o.gone r) (λ e. none_today r (o.may r g e)) (λ e. e)) ∙ text_all w n row
