-- What was read of a line is what is written: a line that is read as the numbers w is the line of w. Assumes nothing.
use Prim.Native.Nat.{ℕ, zero, suc, ◌+◌, ◌-◌, ◌≤◌, ◌<◌, min}
use mathlib.Core.Path.{◌≡◌, refl, sym, ap, ◌∙◌}
use mathlib.Core.List.{List}
use mathlib.Core.Bool.{true, false}
use native.Mathlib.Omega.{arith}
use lib.ListN.{length, get_or, set, replicate, length-set, length-replicate, get_or-replicate, get_or-eq_default}
use lib.Seq.{get_or-set_same, get_or-set_other}
use lib.Dec.{ltb, eqb}
use borrow.Author.Tests.{eqb-true, eqb-false, ne_eqb, ltb-true, ltb-false}
use Rattle.units.specs.Numbers.{pick}
use Rattle.units.proofs.Steps.{split, never}
use Rattle.std.specs.Prelude.{Ok, Some}
use Rattle.sheet.specs.Refusals.{is_fine}
use Rattle.rows.specs.declared.table.Form.{Form}
use Rattle.rows.specs.Table.{is_list, row_count, plain, form_of, key_of, width_of, place_of, present}
use Rattle.rows.specs.Marks.{mark_of, line_feed}
use Rattle.faults.specs.Lines.{row_fault}
use Rattle.text.specs.Line.{Taken}
use Rattle.text.specs.Read.{Step}
use Rattle.figures.specs.Figures.{is, after_at, number_at}
use Rattle.text.specs.Line.{field_at, bad, good, fields, list_count, list_end, list_fields, values_at, ended, line_at}
use Rattle.text.specs.Read.{judged_at}
use Rattle.text.specs.Digits.{digits_in}
use Rattle.text.specs.Text.{field_text, fields_text, list_text, values_text, row_text}
use Rattle.text.proofs.Cases.{past_fine, by_place, by_figure, plain_field}
use Rattle.text.proofs.Rows.{list_wide}
use Rattle.trips.proofs.Cuts.{Cut, cut_then, cut_same}
use Rattle.trips.proofs.Figures.{after_back}
use Rattle.trips.proofs.Fields.{field_back}
use Rattle.trips.proofs.Agree.{used, used_all, used_list}

-- ---- the numbers of a line that was read: what they were, and that no other number has changed

pub record Stored (v w : List ℕ) (from to : ℕ) : Type 0 where
  pub before : (m : ℕ) → m < from → get_or w m 0 ≡ get_or v m 0
  pub behind : (m : ℕ) → to ≤ m → get_or w m 0 ≡ get_or v m 0
  pub long : length w ≡ length v

pub record Read (s v w : List ℕ) (p q : ℕ) (t : List ℕ) (from to : ℕ) : Type 0 where
  pub cut : Cut s p q t
  pub stored : Stored v w from to

bad_good : {X : Type 0} (v w : List ℕ) (q : ℕ) → bad v ≡ good q w → X
bad_good v w q e = never (ap (λ (t : Taken). t.good) e)

-- a number's store taken apart
after_set : (v w : List ℕ) (a x to : ℕ) → a < length v → a < to → Stored (set v a x) w (a + 1) to → Stored v w a to × (get_or w a 0 ≡ x)
after_set v w a x to h ht st = (
  record {
    before = λ m l. st.before m (omega arith) ∙ get_or-set_other v a m x 0 (λ e. omega arith);
    behind = λ m l. st.behind m l ∙ get_or-set_other v a m x 0 (λ e. omega arith);
    long = st.long ∙ length-set v a x;
  },
  st.before a (omega arith) ∙ get_or-set_same v a x 0 h,
)

fields_back : (s : List ℕ) (form : Form) (place n j p : ℕ) (v : List ℕ) (q : ℕ) (w : List ℕ) → place + j + n ≤ length v → fields s form place n j p v ≡ good q w
    → Read s v w p q (fields_text form place n j w) (place + j) (place + j + n)
unfolding fields fields_text
fields_back s form place zero j p v q w h e =
    let ep : p ≡ q = ap (λ (t : Taken). t.next) e in
    let ev : v ≡ w = ap (λ (t : Taken). t.numbers) e in
    record { cut = record { here = rw ep; place = omega arith }; stored = record { before = λ m l. rw ev; behind = λ m l. rw ev; long = rw ev } }
fields_back s form place (suc n) j p v q w h e =
    by_place (after_at s p (mark_of j))
    (λ a. bad_good v w q (rw a at e))
    (λ r a. by_figure (field_at s r form)
    (λ b. bad_good v w q (rw (a, b) at e))
    (λ x t b.
    let e' : fields s form place n (j + 1) t (set v (place + j) x) ≡ good q w = rw (a, b) at e in
    let hl : length (set v (place + j) x) ≡ length v = length-set v (place + j) x in
    let ih = fields_back s form place n (j + 1) t (set v (place + j) x) q w (omega arith) e' in
    let e₁ : place + (j + 1) ≡ place + j + 1 = omega arith in
    let e₂ : place + (j + 1) + n ≡ place + j + suc n = omega arith in
    let st : Stored (set v (place + j) x) w (place + j + 1) (place + j + suc n) = rw (← e₁, ← e₂) ih.stored in
    let r₂ = after_set v w (place + j) x (place + j + suc n) (omega arith) (omega arith) st in
    record { cut = rw r₂.1 (cut_then (after_back s p r (mark_of j) a) (cut_then (field_back s r form x t b) ih.cut)); stored = r₂.0 }))

-- ---- the numbers of a list that was read, from number k on, which are `count` in all

record Listed (s v w : List ℕ) (place n k p q : ℕ) : Type 0 where
  count : ℕ
  some : 1 ≤ count
  from : k ≤ count
  few : count ≤ k + n
  cut : Cut s p q (fields_text plain (place + 1) (count - k) k w)
  before : (m : ℕ) → m < place + 1 + k → (m ≡ place → ⊥) → get_or w m 0 ≡ get_or v m 0
  behind : (m : ℕ) → place + 1 + count ≤ m → get_or w m 0 ≡ get_or v m 0
  counted : get_or w place 0 ≡ list_count count (get_or w (place + 1) 0)
  long : length w ≡ length v

list_over : (s : List ℕ) (place n k p : ℕ) (v : List ℕ) (q : ℕ) (w : List ℕ) → 1 ≤ k → place < length v → list_end place k p v ≡ good q w → Listed s v w place n k p q
unfolding fields_text
list_over s place n k p v q w o h e =
    let c = list_count k (get_or v (place + 1) 0) in
    let ep : p ≡ q = ap (λ (t : Taken). t.next) e in
    let ev : set v place c ≡ w = ap (λ (t : Taken). t.numbers) e in
    let none : k - k ≡ 0 = omega arith in
    let other : (m : ℕ) → (m ≡ place → ⊥) → get_or w m 0 ≡ get_or v m 0 = λ m d. ap (λ (l : List ℕ). get_or l m 0) (sym ev) ∙ get_or-set_other v place m c 0 d in
    record {
      count = k;
      some = o;
      from = omega arith;
      few = omega arith;
      cut = rw none (record { here = rw ep; place = omega arith });
      before = λ m l d. other m d;
      behind = λ m l. other m (λ d. omega arith);
      counted = ap (λ (l : List ℕ). get_or l place 0) (sym ev) ∙ get_or-set_same v place c 0 h ∙ ap (list_count k) (sym (other (place + 1) (λ d. omega arith)));
      long = ap length (sym ev) ∙ length-set v place c;
    }

list_next : (s : List ℕ) (place n k p r x t : ℕ) (v : List ℕ) (q : ℕ) (w : List ℕ) → place + 1 + k < length v → after_at s p (mark_of k) ≡ Some r → number_at s r ≡ is x t
    → Listed s (set v (place + 1 + k) x) w place n (k + 1) t q → Listed s v w place (suc n) k p q
unfolding fields_text
list_next s place n k p r x t v q w h a b l =
    let at = place + 1 + k in
    let here : get_or w at 0 ≡ x = l.before at (omega arith) (λ d. omega arith) ∙ get_or-set_same v at x 0 h in
    let more : l.count - k ≡ suc (l.count - (k + 1)) = omega (arith, l.from) in
    record {
      count = l.count;
      some = l.some;
      from = omega (arith, l.from);
      few = omega (arith, l.few);
      cut = rw (more, here) (cut_then (after_back s p r (mark_of k) a) (cut_then (field_back s r plain x t (plain_field s r ∙ b)) l.cut));
      before = λ m i d. l.before m (omega arith) d ∙ get_or-set_other v at m x 0 (λ c. omega arith);
      behind = λ m i. l.behind m i ∙ get_or-set_other v at m x 0 (λ c. omega (arith, l.from));
      counted = l.counted;
      long = l.long ∙ length-set v at x;
    }

list_back : (s : List ℕ) (place n k p : ℕ) (v : List ℕ) (q : ℕ) (w : List ℕ) → 1 ≤ k + n → place + 1 + k + n ≤ length v → list_fields s place n k p v ≡ good q w → Listed s v w place n k p q
unfolding list_fields pick
list_back s place zero k p v q w o h e = list_over s place zero k p v q w (omega arith) (omega arith) e
list_back s place (suc n) k p v q w o h e =
    by_place (after_at s p (mark_of k))
    (λ a. split (eqb k 0)
    (λ z. bad_good v w q (rw (a, z) at e))
    (λ z. let ne : (k ≡ 0 → ⊥) = eqb-false k 0 z in list_over s place (suc n) k p v q w (omega arith) (omega arith) (rw (a, z) at e)))
    (λ r a. by_figure (number_at s r)
    (λ b. bad_good v w q (rw (a, b) at e))
    (λ x t b.
    let hl : length (set v (place + 1 + k) x) ≡ length v = length-set v (place + 1 + k) x in
    list_next s place n k p r x t v q w (omega arith) a b (list_back s place n (k + 1) t (set v (place + 1 + k) x) q w (omega arith) (omega arith) (rw (a, b) at e))))

-- the count that was stored: 0 where 0 stands alone, else how many were read
by_count : {X : Type 0} (k x : ℕ) → (k ≡ 1 → x ≡ 0 → list_count k x ≡ 0 → X) → (list_count k x ≡ k → X) → X
unfolding pick
by_count k x f g =
    split (eqb k 1)
    (λ a. split (eqb x 0) (λ b. f (eqb-true k 1 a) (eqb-true x 0 b) (rw (a, b))) (λ b. g (rw (a, b) (sym (eqb-true k 1 a)))))
    (λ a. g (rw a))

listed_text : (place n k : ℕ) (w : List ℕ) → 1 ≤ k → k ≤ n → get_or w place 0 ≡ list_count k (get_or w (place + 1) 0) → fields_text plain (place + 1) k 0 w ≡ list_text place n w
unfolding list_text fields_text field_text mark_of digits_in pick
listed_text place n k w o h c =
    by_count k (get_or w (place + 1) 0)
    (λ one x e.
    let none : get_or w place 0 ≡ 0 = c ∙ e in
    let z : place + 1 + 0 ≡ place + 1 = omega arith in
    rw (none, one, z, x) refl)
    (λ e.
    let all : get_or w place 0 ≡ k = c ∙ e in
    let few : min k n ≡ k = omega arith in
    rw (all, ne_eqb k 0 (λ d. omega arith), few) refl)

-- the numbers of a line that was read; where v has zeros, those that the line has not are 0
record Values (s v w : List ℕ) (row p q : ℕ) : Type 0 where
  read : Read s v w p q (values_text (form_of row) (place_of row) (width_of row) w) (place_of row) (place_of row + width_of row)
  bare : ((m : ℕ) → place_of row ≤ m → get_or v m 0 ≡ 0) → (m : ℕ) → place_of row + used w row ≤ m → m < place_of row + width_of row → get_or w m 0 ≡ 0

list_values : (s : List ℕ) (row p : ℕ) (v : List ℕ) (q : ℕ) (w : List ℕ) → is_list (form_of row) ≡ true → place_of row + width_of row ≤ length v → list_fields s (place_of row) (width_of row - 1) 0 p v ≡ good q w → Values s v w row p q
unfolding values_text pick
list_values s row p v q w t h e =
    let wide = list_wide row t in
    let n = width_of row - 1 in
    let r = list_back s (place_of row) n 0 p v q w (omega arith) (omega arith) e in
    let all : r.count - 0 ≡ r.count = omega arith in
    let text : fields_text plain (place_of row + 1) (r.count - 0) 0 w ≡ values_text (form_of row) (place_of row) (width_of row) w = rw (all, t) (listed_text (place_of row) n r.count w r.some (omega (arith, r.few)) r.counted) in
    record {
      read = record {
        cut = cut_same text r.cut;
        stored = record { before = λ m l. r.before m (omega arith) (λ d. omega arith); behind = λ m l. r.behind m (omega (arith, r.few)); long = r.long };
      };
      bare = λ z m g l. by_count r.count (get_or w (place_of row + 1) 0)
          (λ one x e. split (eqb m (place_of row + 1))
          (λ same. ap (λ (k : ℕ). get_or w k 0) (eqb-true m (place_of row + 1) same) ∙ x)
          (λ other. let ne : (m ≡ place_of row + 1 → ⊥) = eqb-false m (place_of row + 1) other in r.behind m (omega (arith, used_list w row t, one)) ∙ z m (omega (arith, used_list w row t))))
          (λ e. let c : get_or w (place_of row) 0 ≡ r.count = r.counted ∙ e in r.behind m (omega (arith, used_list w row t, r.few)) ∙ z m (omega arith));
    }

values_back : (s : List ℕ) (row p : ℕ) (v : List ℕ) (q : ℕ) (w : List ℕ) → place_of row + width_of row ≤ length v → values_at s (form_of row) (place_of row) (width_of row) p v ≡ good q w → Values s v w row p q
unfolding values_at values_text pick
values_back s row p v q w h e =
    split (is_list (form_of row))
    (λ t. list_values s row p v q w t h (rw t at e))
    (λ t.
    let z : place_of row + 0 ≡ place_of row = omega arith in
    let r = fields_back s (form_of row) (place_of row) (width_of row) 0 p v q w (omega arith) (rw t at e) in
    let text : fields_text (form_of row) (place_of row) (width_of row) 0 w ≡ values_text (form_of row) (place_of row) (width_of row) w = rw t in
    record { read = record { cut = cut_same text r.cut; stored = rw z at r.stored }; bare = λ a m g l. absurd (omega (arith, used_all w row t)) })

ended_back : (s : List ℕ) (t : Taken) (q : ℕ) (w : List ℕ) → ended s t ≡ good q w → (t ≡ good t.next w) × Cut s t.next q line_feed
unfolding pick
ended_back s t q w e =
    split t.good
    (λ g. by_place (after_at s t.next line_feed)
    (λ a. bad_good t.numbers w q (rw (g, a) at e))
    (λ r a.
    let e' : good r t.numbers ≡ good q w = rw (g, a) at e in
    let er : r ≡ q = ap (λ (x : Taken). x.next) e' in
    let ev : t.numbers ≡ w = ap (λ (x : Taken). x.numbers) e' in
    (λ i. record { good = g i; next = t.next; numbers = ev i }, after_back s t.next q line_feed (a ∙ ap Some er))))
    (λ g. never (let e' : record { good = false; next = t.next; numbers = t.numbers } ≡ good q w = rw g at e in ap (λ (x : Taken). x.good) e'))

pub record Line (s v w : List ℕ) (row at q : ℕ) : Type 0 where
  pub read : Read s v w at q (row_text row w) (place_of row) (place_of row + width_of row)
  pub bare : ((m : ℕ) → place_of row ≤ m → get_or v m 0 ≡ 0) → (m : ℕ) → place_of row + used w row ≤ m → m < place_of row + width_of row → get_or w m 0 ≡ 0

pub line_back : (s : List ℕ) (at row : ℕ) (v : List ℕ) (q : ℕ) (w : List ℕ) → place_of row + width_of row ≤ length v → line_at s at row v ≡ good q w → Line s v w row at q
unfolding line_at row_text
line_back s at row v q w h e =
    by_place (after_at s at (key_of row))
    (λ a. bad_good v w q (rw a at e))
    (λ p a.
    let t = values_at s (form_of row) (place_of row) (width_of row) p v in
    let l = ended_back s t q w (rw a at e) in
    let r = values_back s row p v t.next w h l.0 in
    record {
      read = record { cut = cut_then (after_back s at p (key_of row) a) (cut_then r.read.cut l.1); stored = r.read.stored };
      bare = r.bare;
    })

-- a fine step: a well-made line without a fault
pub record Good (s : List ℕ) (at row number : ℕ) (v : List ℕ) (t : Step) : Type 0 where
  pub line : line_at s at row v ≡ good t.next t.numbers
  pub fine : row_fault t.numbers row number ≡ Ok tt

pub judged_back : (s : List ℕ) (at row line : ℕ) (v : List ℕ) → is_fine (judged_at s at row line v).answer ≡ true → Good s at row line v (judged_at s at row line v)
unfolding judged_at pick
judged_back s at row line v f =
    split (line_at s at row v).good
    (λ g.
    let t = line_at s at row v in
    let fine = past_fine (row_fault t.numbers row line) t.next t.numbers (rw g at f) in
    rw (g, fine) (record { line = λ i. record { good = g i; next = t.next; numbers = t.numbers }; fine = fine }))
    (λ g. never (rw g at f))

-- ---- all lines

-- how many numbers of a row the text has: none where it has not the row
unfoldable pub held : List ℕ → ℕ → ℕ
held v row = pick (present v row) (used v row) 0

pub held_here : (v : List ℕ) (row : ℕ) → present v row ≡ true → held v row ≡ used v row
unfolding held pick
held_here v row a = rw a

pub held_none : (v : List ℕ) (row : ℕ) → present v row ≡ false → held v row ≡ 0
unfolding held pick
held_none v row a = rw a

-- the numbers of a row that the text has not are 0
abbrev pub ClearAt : List ℕ → ℕ → Type 0
ClearAt v row = (m : ℕ) → place_of row + held v row ≤ m → m < place_of row + width_of row → get_or v m 0 ≡ 0

abbrev pub Clear : ℕ → List ℕ → Type 0
Clear from v = (row : ℕ) → from ≤ row → row < row_count → ClearAt v row

pub zeros_in : (a b : ℕ) → get_or {A = ℕ} (replicate a 0) b 0 ≡ 0
zeros_in a b =
    split (ltb b a) (λ t. get_or-replicate a b 0 0 (ltb-true b a t))
    (λ t. let h : length {A = ℕ} (replicate a 0) ≤ b = rw (length-replicate) (ltb-false b a t) in get_or-eq_default (replicate a 0) 0 h)
