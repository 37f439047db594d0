-- What is written is read back: the text of numbers without a fault, of whichever form, is read as those numbers. Assumes nothing.
use Prim.Native.Nat.{ℕ, zero, suc, ◌+◌, ◌-◌, ◌≤◌, ◌<◌}
use mathlib.Core.Path.{◌≡◌, refl, sym, ap, ◌∙◌}
use mathlib.Core.List.{List, [], ◌++◌, append_assoc}
use mathlib.Core.Bool.{Bool, true, false}
use native.Mathlib.Omega.{arith}
use lib.ListN.{length, get_or, drop, set, length-append, length-drop}
use borrow.Author.Tests.{eq-eqb}
use Rattle.units.specs.Numbers.{pick}
use Rattle.units.proofs.Steps.{split, never}
use Rattle.std.specs.Prelude.{Ok, None}
use Rattle.sheet.proofs.Answers.{both_fine}
use Rattle.rows.specs.Table.{is_list, row_for, place_for, row_count, number_count, key_of, kind_of, form_of, ranges_of, width_of, place_of, present}
use Rattle.rows.specs.Marks.{mark_of, line_feed}
use Rattle.rows.proofs.Tables.{place_room, place_past, width_some}
use Rattle.faults.specs.Lines.{row_fault, here_fault, line_after, fault_from}
use Rattle.figures.specs.Figures.{after, after_at}
use Rattle.text.specs.Line.{Taken, bad, good, list_fields, values_at, line_at}
use Rattle.text.specs.Read.{step, judged_at, end_at, begins, passed, stands_for, filled, here_at, lines_from, lines_of, may_lack}
use Rattle.text.specs.Text.{values_text, row_text, here_text, text_from}
use Rattle.text.proofs.Cases.{by_place, first_no_mark}
use Rattle.text.proofs.Rows.{list_wide}
use Rattle.trips.specs.Older.{text_less}
use Rattle.trips.proofs.Cuts.{past}
use Rattle.trips.proofs.Agree.{head_present, middle_present, used, used_all, used_list, place_next, present_below, fault_below}
use Rattle.trips.proofs.Back.{ClearAt, Clear, held_here, held_none}
use Rattle.trips.proofs.Absent.{any_line, by_absent}
use Rattle.text.proofs.Absent.{absent_is_first_grade, absent_is_none}
use Rattle.trips.proofs.Forth.{part, part_at, part_long, part_set, part_over, part_all, line_read, told}

-- ---- the end

end_read : (s : List ℕ) (line at : ℕ) (v : List ℕ) → at ≤ length s → drop at s ≡ [] → end_at s line at v ≡ step (Ok tt) (length s) v
unfolding end_at pick
end_read s line at v h e =
    let n : length s - at ≡ 0 = sym (length-drop at s) ∙ ap length e in
    let q : at ≡ length s = omega arith in
    rw (eq-eqb at (length s) q) (ap (λ (p : ℕ). step (Ok tt) p v) q)

-- ---- a line that is there begins with its key

no_values : (s : List ℕ) (row p : ℕ) (v : List ℕ) → row < row_count → after_at s p (mark_of 0) ≡ None → values_at s (form_of row) (place_of row) (width_of row) p v ≡ bad v
unfolding values_at list_fields pick
no_values s row p v h a =
    split (is_list (form_of row))
    (λ t. let e : width_of row - 1 ≡ suc (width_of row - 2) = omega (arith, list_wide row t) in rw (t, e, a))
    (λ t. rw t (sym (first_no_mark s (form_of row) (place_of row) (width_of row) p v (omega (arith, width_some row h)) a)))

good_begins : (s : List ℕ) (at row : ℕ) (v w : List ℕ) (q : ℕ) → row < row_count → line_at s at row v ≡ good q w → begins s at row ≡ true
unfolding line_at begins pick
good_begins s at row v w q h e =
    by_place (after_at s at (key_of row))
    (λ a. never (ap (λ (t : Taken). t.good) (rw a at e)))
    (λ p a. by_place (after_at s p (mark_of 0))
    (λ b. never (ap (λ (t : Taken). t.good) (rw (a, no_values s row p v h b) at e)))
    (λ r b. rw (a, b)))

-- ---- a line that is absent: the next begins with another key

abbrev Rest : (ℕ → Bool) → List ℕ → ℕ → List ℕ
Rest gone v row = text_less gone v (row_count - row) row

-- the text of the rows from one on that is there
rest_there : (gone : ℕ → Bool) (v : List ℕ) (row : ℕ) → row < row_count → gone row ≡ false → present v row ≡ true
    → Rest gone v row ≡ key_of row ++ ((values_text (form_of row) (place_of row) (width_of row) v ++ line_feed) ++ Rest gone v (row + 1))
unfolding text_less here_text row_text pick
rest_there gone v row h g a =
    let e : row_count - row ≡ suc (row_count - (row + 1)) = omega arith in
    rw (e, g, a) (append_assoc (key_of row) (values_text (form_of row) (place_of row) (width_of row) v ++ line_feed) (Rest gone v (row + 1)))

after_grade2 : (at : ℕ) (l : List ℕ) → after at (key_of (row_for "grade2")) (key_of (row_for "l01") ++ l) ≡ None
unfolding after key_of kind_of pick
after_grade2 at l = refl

after_dwell : (at : ℕ) (l : List ℕ) → after at (key_of (row_for "dwell")) (key_of (row_for "l18") ++ l) ≡ None
unfolding after key_of kind_of pick
after_dwell at l = refl

-- the rows that a form has not got: they may be absent, and stand for what the numbers have
pub record Spare (older : Bool) (gone : ℕ → Bool) (v : List ℕ) : Type 0 where
  pub may : (row : ℕ) → gone row ≡ true → may_lack older row ≡ true
  pub same : (row : ℕ) → gone row ≡ true → get_or v (place_of row) 0 ≡ stands_for v row

module _ (older : Bool) (gone : ℕ → Bool) (v : List ℕ) (sp : Spare older gone v) where
  stays : (row : ℕ) → row < row_count → (row ≡ row_for "grade2" → ⊥) → (row ≡ row_for "dwell" → ⊥) → gone row ≡ false
  stays row h a b = split (gone row) (λ g. absurd (by_absent older row h (sp.may row g) a b)) (λ g. g)

  not_begun : (s : List ℕ) (at row : ℕ) → row < row_count → gone row ≡ true → drop at s ≡ Rest gone v (row + 1) → begins s at row ≡ false
  unfolding begins
  not_begun s at row h g e =
      by_absent older row h (sp.may row g)
      (λ q.
      let n : row + 1 ≡ row_for "l01" = omega arith in
      let k = rest_there gone v (row_for "l01") (omega arith) (stays (row_for "l01") (omega arith) (λ x. omega arith) (λ x. omega arith)) (head_present v (row_for "l01") (omega arith)) in
      rw (q, e, n, k, after_grade2 at ((values_text (form_of (row_for "l01")) (place_of (row_for "l01")) (width_of (row_for "l01")) v ++ line_feed) ++ Rest gone v (row_for "l01" + 1))) refl)
      (λ q.
      let n : row + 1 ≡ row_for "l18" = omega arith in
      let k = rest_there gone v (row_for "l18") (omega arith) (stays (row_for "l18") (omega arith) (λ x. omega arith) (λ x. omega arith)) (middle_present v (row_for "l18") (omega arith) (omega arith)) in
      rw (q, e, n, k, after_dwell at ((values_text (form_of (row_for "l18")) (place_of (row_for "l18")) (width_of (row_for "l18")) v ++ line_feed) ++ Rest gone v (row_for "l18" + 1))) refl)

  -- ---- each row

  one_used : (row : ℕ) → row < row_count → gone row ≡ true → used v row ≡ 1
  unfolding form_of width_of ranges_of kind_of
  one_used row h g =
      by_absent older row h (sp.may row g)
      (λ q. rw q (used_all v (row_for "grade2") refl))
      (λ q.
      let none : get_or v (place_of (row_for "dwell")) 0 ≡ 0 = rw q at (sp.same row g) ∙ absent_is_none v in
      rw q (omega (arith, used_list v (row_for "dwell") refl)))

  still : (row : ℕ) → row < row_count → length v ≡ number_count → gone row ≡ true → stands_for (part v (place_of row)) row ≡ stands_for v row
  unfolding place_of width_of ranges_of kind_of
  still row h hv g =
      by_absent older row h (sp.may row g)
      (λ q. rw q (absent_is_first_grade (part v (place_of (row_for "grade2"))) ∙ part_at v (place_of (row_for "grade2")) (place_for "grade") (omega arith) (omega arith) ∙ sym (absent_is_first_grade v)))
      (λ q. rw q (absent_is_none (part v (place_of (row_for "dwell"))) ∙ sym (absent_is_none v)))

  module _ (s : List ℕ) (row line at : ℕ) (hv : length v ≡ number_count) (h : row < row_count) (c : ClearAt v row) where
    same : present (part v (place_of row)) row ≡ present v row
    same = present_below row v (part v (place_of row)) h (λ m g. part_at v (place_of row) m (omega (arith, place_room row h)) g)

    read_gone : gone row ≡ true → present v row ≡ true → drop at s ≡ Rest gone v (row + 1) → here_at (may_lack older) s at row line (part v (place_of row)) ≡ step (Ok tt) at (part v (place_of (row + 1)))
    unfolding here_at passed filled pick
    read_gone g a e =
        let n = place_next row in
        let b = not_begun s at row h g e in
        let stored : set (part v (place_of row)) (place_of row) (stands_for (part v (place_of row)) row) ≡ part v (place_of row + 1) =
        ap (λ (x : ℕ). set (part v (place_of row)) (place_of row) x) (still row h hv g ∙ sym (sp.same row g)) ∙ part_set v (place_of row) hv (omega (arith, place_room row h, width_some row h)) in
        let over : part v (place_of row + 1) ≡ part v (place_of row + width_of row) =
        part_over v (place_of row + 1) (place_of row + width_of row) hv (omega (arith, width_some row h)) (place_room row h) (λ m i j. c m (omega (arith, held_here v row a, one_used row h g)) j) in
        rw (same, a, sp.may row g, b, n) (ap (λ (x : List ℕ). step (Ok tt) at x) (stored ∙ over))

    read_there : (l : List ℕ) → present v row ≡ true → row_fault v row line ≡ Ok tt → drop at s ≡ row_text row v ++ l
        → here_at (may_lack older) s at row line (part v (place_of row)) ≡ step (Ok tt) (at + length (row_text row v)) (part v (place_of (row + 1)))
    unfolding here_at judged_at passed pick
    read_there l a f e =
        let n = place_next row in
        let r = line_read s at row v l hv h (told row v line h f (λ m i j. c m (omega (arith, held_here v row a)) j)) e in
        let b = good_begins s at row _ _ _ h r in
        let g : row_fault (part v (place_of row + width_of row)) row line ≡ (Ok tt) = fault_below row line v (part v (place_of row + width_of row)) h (part_long v (place_of row + width_of row) hv (place_room row h) ∙ sym hv) (λ m b. part_at v (place_of row + width_of row) m (omega (arith, place_room row h)) b) ∙ f in
        split (may_lack older row) (λ m. rw (same, a, m, b, r, g, n)) (λ m. rw (same, a, m, r, g, n))

    read_past : present v row ≡ false → here_at (may_lack older) s at row line (part v (place_of row)) ≡ step (Ok tt) at (part v (place_of (row + 1)))
    unfolding here_at passed filled pick
    read_past a =
        let n = place_next row in
        let p : part v (place_of row) ≡ part v (place_of row + width_of row) = part_over v (place_of row) (place_of row + width_of row) hv (omega arith) (place_room row h) (λ m i j. c m (omega (arith, held_none v row a)) j) in
        rw (same, a, n) (ap (λ (x : List ℕ). step (Ok tt) at x) p)

    -- whichever it is
    read_here : (l : ℕ) → here_fault v row l ≡ Ok tt → drop at s ≡ pick (gone row) [] (here_text row v) ++ Rest gone v (row + 1)
        → here_at (may_lack older) s at row line (part v (place_of row)) ≡ step (Ok tt) (at + length (pick (gone row) [] (here_text row v))) (part v (place_of (row + 1)))
    unfolding here_fault here_text pick
    read_here l f e =
        let z : at + 0 ≡ at = omega arith in
        split (present v row)
        (λ a. split (gone row)
        (λ g. rw (g, z) (read_gone g a (rw g at e)))
        (λ g. rw (g, a) (read_there (Rest gone v (row + 1)) a (any_line v row l line (rw a at f)) (rw (g, a) at e))))
        (λ a. split (gone row) (λ g. rw (g, z) (read_past a)) (λ g. rw (g, a, z) (read_past a)))

  -- ---- all rows

  lines_read : (s : List ℕ) (n row line l at : ℕ) → n + row ≡ row_count → length v ≡ number_count → Clear 0 v → fault_from v n row l ≡ Ok tt → at ≤ length s
      → drop at s ≡ text_less gone v n row → lines_from (may_lack older) s n row line at (part v (place_of row)) ≡ step (Ok tt) (length s) v
  unfolding lines_from fault_from text_less pick
  lines_read s zero row line l at n hv c f h e =
      let q : place_of row ≡ number_count = place_past row (omega arith) in
      rw (q, part_all v hv) (end_read s line at v h e)
  lines_read s (suc k) row line l at n hv c f h e =
      let hr : row < row_count = omega arith in
      let t = pick (gone row) [] (here_text row v) in
      let rest : k ≡ row_count - (row + 1) = omega arith in
      let both = both_fine _ _ f in
      let r = read_here s row line at hv hr (c row (omega arith) hr) l both.0 (rw rest at e) in
      let ln : length s - at ≡ length t + length (text_less gone v k (row + 1)) = sym (length-drop at s) ∙ ap length e ∙ length-append t (text_less gone v k (row + 1)) in
      rw r
      (lines_read s k (row + 1) (pick (passed (may_lack older) s at row (part v (place_of row))) line (line + 1)) (line_after v row l) (at + length t) (omega arith) hv c both.1 (omega arith)
      (past s at t (text_less gone v k (row + 1)) e))

  -- the text of numbers without a fault, 0 in the rows that they have not, is read as those numbers
  pub text_read : length v ≡ number_count → Clear 0 v → fault_from v row_count 0 1 ≡ Ok tt → lines_of (may_lack older) (text_less gone v row_count 0) ≡ step (Ok tt) (length (text_less gone v row_count 0)) v
  unfolding part place_of
  text_read hv c f = lines_read (text_less gone v row_count 0) row_count 0 1 1 0 refl hv c f (omega arith) refl

-- two forms that have the same rows have the same text
pub less_agree : (g h : ℕ → Bool) (v : List ℕ) (n row : ℕ) → ((r : ℕ) → row ≤ r → r < n + row → g r ≡ h r) → text_less g v n row ≡ text_less h v n row
unfolding text_less pick
less_agree g h v zero row a = refl
less_agree g h v (suc n) row a = rw (a row (omega arith) (omega arith), less_agree g h v n (row + 1) (λ r l b. a r (omega arith) (omega arith)))

-- today's form is the text
pub text_all : (v : List ℕ) (n row : ℕ) → text_less (λ r. false) v n row ≡ text_from v n row
unfolding text_less text_from pick
text_all v zero row = refl
text_all v (suc n) row = ap (λ (l : List ℕ). here_text row v ++ l) (text_all v n (row + 1))

pub all_there : (older : Bool) (v : List ℕ) → Spare older (λ r. false) v
all_there older v = record { may = λ r g. never g; same = λ r g. never g }
