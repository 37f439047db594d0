-- The promises of older forms and of converting. Assumes nothing.
use Prim.Native.Nat.{ℕ, ◌≤◌, ◌<◌}
use mathlib.Core.Path.{◌≡◌, refl, sym, ap, subst, ◌∙◌}
use mathlib.Core.Bool.{Bool, true, false}
use mathlib.Core.List.{List, ◌++◌}
use native.Mathlib.Omega.{arith}
use lib.ListN.{length, get_or, take, drop}
use lib.Dec.{eqb}
use borrow.Author.Tests.{eqb-true, eqb-false, le-leb}
use Rattle.units.specs.Numbers.{pick}
use Rattle.units.proofs.Steps.{split, never, both_left, both_right}
use Rattle.sheet.specs.declared.Sheet.{Sheet}
use Rattle.std.specs.Prelude.{Ok}
use Rattle.sheet.specs.Refusals.{is_fine, or_else}
use Rattle.sheet.proofs.Answers.{both_fine, holds, is_fine_lem}
use Rattle.rows.specs.Table.{row_for, row_count, kind_of, ranges_of, absent_of, width_of, place_of}
use Rattle.numbers.specs.Flat.{grade_number, grade_of, numbers_from, flat_of, sheet_of}
use Rattle.numbers.proofs.Again.{grade_again, sheet_again}
use Rattle.faults.specs.Whole.{whole_fault, accept_of}
use Rattle.faults.specs.Ranges.{Between}
use Rattle.faults.proofs.Sound.{sound}
use Rattle.text.specs.declared.Reading.{Reading}
use Rattle.text.specs.declared.Written.{Written}
use Rattle.text.specs.Read.{stands_for, read_by, may_lack, read_of, older_of}
use Rattle.text.specs.Text.{text_of}
use Rattle.text.specs.Write.{answer_to, written_of, bytes_of}
use Rattle.trips.specs.Convert.{converted_of, converted_bytes}
use Rattle.trips.specs.Promises.{Blank}
use Rattle.trips.specs.Older.{lacking, older_text, EachFormIsTaken, EachFormIsConverted, Form, TakenIsAForm, OlderIsAccepted, ConvertedIsRead, TodayIsRead, TodayComesBack, TwiceIsOnce, RefusedIsNotConverted}
use Rattle.trips.proofs.Back.{Clear}
use Rattle.text.proofs.Absent.{absent_is_first_grade, absent_is_none}
use Rattle.trips.proofs.Trimmed.{clear}
use Rattle.trips.proofs.Absent.{by_absent}
use Rattle.trips.proofs.Again.{Spare, text_read, less_agree}
use Rattle.trips.proofs.Promised.{flat_long, graded, blank_same, read_fine, Back, read_back, back_text, read_is_accepted, written_is_text}

-- ---- each form

by_lacking : {X : Type 0} (no_grade2 no_dwell : Bool) (row : ℕ) → lacking no_grade2 no_dwell row ≡ true
    → (row ≡ row_for "grade2" → no_grade2 ≡ true → X) → (row ≡ row_for "dwell" → no_dwell ≡ true → X) → X
unfolding pick
by_lacking no_grade2 no_dwell row g f h =
    split (eqb row (row_for "grade2"))
    (λ a. f (eqb-true row (row_for "grade2") a) (rw a at g))
    (λ a. let b : pick (eqb row (row_for "dwell")) no_dwell false ≡ true = rw a at g in
    h (eqb-true row (row_for "dwell") (both_left (eqb row (row_for "dwell")) no_dwell b)) (both_right (eqb row (row_for "dwell")) no_dwell b))

grade2_may : may_lack true (row_for "grade2") ≡ true
unfolding may_lack absent_of kind_of pick
grade2_may = refl

dwell_may : may_lack true (row_for "dwell") ≡ true
unfolding may_lack absent_of kind_of pick
dwell_may = refl

grade2_same : (s : Sheet) → s.grade2 ≡ s.grade → get_or (flat_of s) (place_of (row_for "grade2")) 0 ≡ stands_for (flat_of s) (row_for "grade2")
unfolding flat_of place_of width_of ranges_of kind_of
grade2_same s e = ap grade_number e ∙ sym (absent_is_first_grade (flat_of s))

dwell_same : (s : Sheet) → s.dwell_count ≡ 0 → get_or (flat_of s) (place_of (row_for "dwell")) 0 ≡ stands_for (flat_of s) (row_for "dwell")
unfolding flat_of numbers_from place_of width_of ranges_of kind_of
dwell_same s e = e ∙ sym (absent_is_none (flat_of s))

spare : (no_grade2 no_dwell : Bool) (s : Sheet) → (no_grade2 ≡ true → s.grade2 ≡ s.grade) → (no_dwell ≡ true → s.dwell_count ≡ 0) → Spare true (lacking no_grade2 no_dwell) (flat_of s)
spare no_grade2 no_dwell s g d =
    record {
      may = λ row e. by_lacking no_grade2 no_dwell row e (λ q o. rw q grade2_may) (λ q o. rw q dwell_may);
      same = λ row e. by_lacking no_grade2 no_dwell row e (λ q o. rw q (grade2_same s (g o))) (λ q o. rw q (dwell_same s (d o)));
    }

blank_clear : (s : Sheet) → Blank s → Clear 0 (flat_of s)
blank_clear s b = subst (λ (x : Sheet). Clear 0 (flat_of x)) (blank_same s b) (clear s)

pub each_form_is_taken : EachFormIsTaken
unfolding accept_of flat_of
each_form_is_taken no_grade2 no_dwell s g d h b e =
    let both = both_fine _ _ e in
    let k = sound s e in
    let same : sheet_of (flat_of s) ≡ s = sheet_again s h.phases h.dwell h.points (graded _ k.grade) (graded _ k.grade2) in
    let t = text_read true (lacking no_grade2 no_dwell) (flat_of s) (spare no_grade2 no_dwell s g d) (flat_long s) (blank_clear s b) both.0 in
    read_fine (may_lack true) (older_text no_grade2 no_dwell s) (flat_of s) _ t (ap whole_fault same ∙ both.1) ∙ ap (λ (x : Sheet). record { answer = Ok tt; sheet = x }) same

-- ---- no other text

grade2_said : (s : Sheet) → Between 999920 (grade_number s.grade) 1000080 → Between 999920 (grade_number s.grade2) 1000080
    → get_or (flat_of s) (place_of (row_for "grade2")) 0 ≡ stands_for (flat_of s) (row_for "grade2") → s.grade2 ≡ s.grade
unfolding flat_of place_of width_of ranges_of kind_of
grade2_said s g h e =
    let same : grade_number s.grade2 ≡ grade_number s.grade = e ∙ absent_is_first_grade (flat_of s) in
    sym (grade_again s.grade2 (graded _ h)) ∙ ap grade_of same ∙ grade_again s.grade (graded _ g)

dwell_said : (s : Sheet) → get_or (flat_of s) (place_of (row_for "dwell")) 0 ≡ stands_for (flat_of s) (row_for "dwell") → s.dwell_count ≡ 0
unfolding flat_of numbers_from place_of width_of ranges_of kind_of
dwell_said s e = e ∙ absent_is_none (flat_of s)

-- the rows that were absent are those of a form
gone_lacking : (gone : ℕ → Bool) → ((r : ℕ) → 0 ≤ r → gone r ≡ true → may_lack true r ≡ true) → (r : ℕ) → r < row_count → gone r ≡ lacking (gone (row_for "grade2")) (gone (row_for "dwell")) r
unfolding pick
gone_lacking gone may r h =
    split (eqb r (row_for "grade2"))
    (λ a. let e = eqb-true r (row_for "grade2") a in rw (a, e))
    (λ a. split (eqb r (row_for "dwell"))
    (λ b. let e = eqb-true r (row_for "dwell") b in rw (a, b, e))
    (λ b. split (gone r)
    (λ g. absurd (by_absent true r h (may r (omega arith) g) (eqb-false r (row_for "grade2") a) (eqb-false r (row_for "dwell") b)))
    (λ g. rw (a, b, g))))

form_of : (t : List ℕ) (s : Sheet) → Back true t s → Form t s
unfolding flat_of
form_of t s b =
    let w = b.lines in
    let k = sound s b.accepted in
    record {
      no_grade2 = w.gone (row_for "grade2");
      no_dwell = w.gone (row_for "dwell");
      text = w.text ∙ less_agree w.gone (lacking (w.gone (row_for "grade2")) (w.gone (row_for "dwell"))) (flat_of s) row_count 0 (λ r g i. gone_lacking w.gone w.may r i);
      grades = λ e. grade2_said s k.grade k.grade2 (w.same (row_for "grade2") (omega arith) e);
      none = λ e. dwell_said s (w.same (row_for "dwell") (omega arith) e);
    }

pub taken_is_a_form : TakenIsAForm
taken_is_a_form t e = let b = read_back true t e in subst (Form t) (sym b.sheet) (form_of t _ b)

-- ---- what is read and written again

pub older_is_accepted : OlderIsAccepted
older_is_accepted t e = let b = read_back true t e in ap accept_of b.sheet ∙ b.accepted

fine_reading : (r : Reading) (s : Sheet) → r.answer ≡ Ok tt → r.sheet ≡ s → record { answer = Ok tt; sheet = s } ≡ r
fine_reading r s a b = λ i. record { answer = sym a i; sheet = sym b i }

module _ (older : Bool) (t : List ℕ) (e : (read_by (may_lack older) t).answer ≡ Ok tt) where
  again : (o : Bool) → read_by (may_lack o) (text_of (read_by (may_lack older) t).sheet) ≡ read_by (may_lack older) t
  again o =
      let b = read_back older t e in
      ap (λ (s : Sheet). read_by (may_lack o) (text_of s)) b.sheet ∙ b.again o ∙ fine_reading (read_by (may_lack older) t) _ e b.sheet

pub converted_is_read : ConvertedIsRead
converted_is_read t e = again true t e false

today_text : (t : List ℕ) → (read_of t).answer ≡ Ok tt → text_of (read_of t).sheet ≡ t
today_text t e = let b = read_back false t e in ap text_of b.sheet ∙ back_text t _ b

pub today_is_read : TodayIsRead
today_is_read t e = ap older_of (sym (today_text t e)) ∙ again false t e true

-- ---- converting

module _ (t : List ℕ) (s : Sheet) (e : older_of t ≡ record { answer = Ok tt; sheet = s }) where
  as_written : (room : ℕ) → converted_of t room ≡ written_of s room
  unfolding converted_of pick
  as_written room = ap (λ (r : Reading). pick (is_fine r.answer) (written_of r.sheet room) (record { answer = r.answer; length = 0 })) e

  as_bytes : (old : List ℕ) → converted_bytes t old ≡ bytes_of s old
  unfolding converted_bytes pick
  as_bytes old = ap (λ (r : Reading). pick (is_fine r.answer) (bytes_of r.sheet old) old) e

  with_room : (old : List ℕ) → accept_of s ≡ Ok tt → length (text_of s) ≤ length old
      → (converted_of t (length old) ≡ record { answer = Ok tt; length = length (text_of s) }) × (converted_bytes t old ≡ text_of s ++ drop (length (text_of s)) old)
  unfolding answer_to written_of bytes_of or_else pick
  with_room old a h =
      let room : answer_to s (length old) ≡ (Ok tt) = rw a (holds _ _ _ (le-leb (length (text_of s)) (length old) h)) in
      (as_written (length old) ∙ rw room, as_bytes old ∙ rw room)

pub each_form_is_converted : EachFormIsConverted
each_form_is_converted no_grade2 no_dwell s old g d h b e r =
    with_room (older_text no_grade2 no_dwell s) s (each_form_is_taken no_grade2 no_dwell s g d h b e) old e r

whole_reading : (r : Reading) → r.answer ≡ Ok tt → r ≡ record { answer = Ok tt; sheet = r.sheet }
whole_reading r e = sym (fine_reading r r.sheet e refl)

pub today_comes_back : TodayComesBack
today_comes_back t old e h =
    let text = today_text t e in
    let taken = today_is_read t e ∙ whole_reading (read_of t) e in
    let r = with_room t (read_of t).sheet taken old (read_is_accepted t e) (rw text h) in
    (r.0 ∙ rw text, r.1 ∙ rw text)

refused_first : (t : List ℕ) (room : ℕ) → (converted_of t room).answer ≡ Ok tt → (older_of t).answer ≡ Ok tt
unfolding converted_of pick
refused_first t room e = split (is_fine (older_of t).answer) (λ a. is_fine_lem _ a) (λ a. rw a at e)

pub twice_is_once : TwiceIsOnce
twice_is_once t old e =
    let fine = refused_first t (length old) e in
    let s = (older_of t).sheet in
    let taken = whole_reading (older_of t) fine in
    let written = as_written t s taken (length old) in
    let bytes = as_bytes t s taken old in
    let out : take (converted_of t (length old)).length (converted_bytes t old) ≡ text_of s =
    (λ i. take (written i).length (bytes i)) ∙ written_is_text s old (ap (λ (w : Written). w.answer) (sym written) ∙ e) in
    let same : older_of (text_of s) ≡ record { answer = Ok tt; sheet = s } = again true t fine true ∙ taken in (
      ap (λ (x : List ℕ). converted_of x (length old)) out ∙ as_written (text_of s) s same (length old) ∙ sym written,
      ap (λ (x : List ℕ). converted_bytes x old) out ∙ as_bytes (text_of s) s same old ∙ sym bytes,
    )

pub refused_is_not_converted : RefusedIsNotConverted
unfolding converted_of converted_bytes written_of bytes_of pick
refused_is_not_converted t old f =
    split (is_fine (older_of t).answer)
    (λ a. split (is_fine (answer_to (older_of t).sheet (length old))) (λ b. never (sym (rw (a, b) at f))) (λ b. (rw (a, b), rw (a, b))))
    (λ a. (rw a, rw a))
