-- The promises of reading and writing, from the trips of the rows. Assumes nothing.
use Prim.Native.Nat.{ℕ, ◌+◌, ◌≤◌, ◌<◌}
use mathlib.Core.Path.{◌≡◌, refl, sym, ap, subst, ◌∙◌}
use mathlib.Core.Bool.{Bool, true, false}
use mathlib.Core.List.{List, [], ◌∷◌}
use native.Mathlib.Omega.{arith}
use lib.ListN.{length, get_or, drop, replicate}
use lib.Dec.{leb}
use lib.Seq.{take-append_seam}
use Rattle.units.specs.Numbers.{pick}
use Rattle.units.proofs.Steps.{split, never}
use Rattle.sheet.specs.declared.Sheet.{Sheet}
use Rattle.sheet.specs.Refusals.{Answer, is_fine, or_else, unless}
use Rattle.std.specs.Prelude.{Ok, Err}
use Rattle.sheet.specs.declared.Refusal.TheVariants.{NoRoom}
use Rattle.sheet.specs.Zero.{zero_phase, zero_point, zero_sheet}
use Rattle.sheet.proofs.Answers.{both_fine, bad_or}
use Rattle.rows.specs.Table.{row_for, place_for, row_count, number_count, kind_of, form_of, ranges_of, range_of, width_of, place_of, used_ranges, present}
use Rattle.numbers.specs.Flat.{numbers_from, flat_of, sheet_of}
use Rattle.numbers.proofs.Again.{Graded, numbers_again, sheet_again}
use Rattle.faults.specs.Lines.{lines_fault}
use Rattle.faults.specs.Whole.{whole_fault, accept_of}
use Rattle.faults.specs.Ranges.{Between}
use Rattle.faults.proofs.Rows.{FineRow, fine_rows}
use Rattle.faults.proofs.Sound.{sound}
use Rattle.text.specs.declared.Reading.{Reading}
use Rattle.text.specs.Read.{Step, step, lines_of, reply, read_by, may_lack, read_of}
use Rattle.text.specs.Text.{text_from, text_of}
use Rattle.text.specs.Write.{answer_to, written_of, bytes_of}
use Rattle.sheet.specs.Entries.{Shaped}
use Rattle.text.proofs.Lengths.{short_text}
use Rattle.trips.specs.Promises.{Blank, kept, with_entries, trimmed, SheetToText, SheetToSheet, TextToText, ReadIsAccepted, WriteRefusesAlike, WrittenIsText, TextIsShort, ReadIsShort}
use Rattle.trips.proofs.Kept.{kept_long, kept_same}
use Rattle.trips.specs.Older.{text_less}
use Rattle.trips.proofs.Agree.{used}
use Rattle.trips.proofs.Back.{Clear}
use Rattle.trips.proofs.Whole.{Whole, text_back, today_back}
use Rattle.trips.proofs.Forth.{ranged}
use Rattle.trips.proofs.Again.{text_read, text_all, all_there}
use Rattle.trips.proofs.Trimmed.{text_same, fault_same, clear, whole_same}

-- ---- sheet to text to sheet

pub flat_long : (s : Sheet) → length (flat_of s) ≡ number_count
unfolding flat_of numbers_from
flat_long s = refl

pub graded : (x : ℕ) → Between 999920 x 1000080 → Graded x
graded x b = (omega (arith, b.low), omega (arith, b.high))

sheet_kept : (s : Sheet) → Shaped s → Between 999920 (get_or (flat_of s) (place_for "grade") 0) 1000080 → Between 999920 (get_or (flat_of s) (place_for "grade2") 0) 1000080 → sheet_of (flat_of (trimmed s)) ≡ trimmed s
unfolding trimmed flat_of
sheet_kept s h g g2 =
    sheet_again (trimmed s) (kept_long zero_phase s.phase_count s.phases ∙ h.phases) (kept_long 0 s.dwell_count s.dwell ∙ h.dwell) (kept_long zero_point s.point_count s.points ∙ h.points) (graded _ g) (graded _ g2)

pub read_fine : (may : ℕ → Bool) (t v : List ℕ) (p : ℕ) → lines_of may t ≡ step (Ok tt) p v → whole_fault (sheet_of v) ≡ Ok tt → read_by may t ≡ record { answer = Ok tt; sheet = sheet_of v }
unfolding read_by reply or_else pick
read_fine may t v p e f =
    ap (λ (x : Step). reply (or_else x.answer (whole_fault (sheet_of x.numbers))) (sheet_of x.numbers)) e ∙ ap (λ (a : Answer). reply a (sheet_of v)) f

-- the text of numbers without a fault, whichever forms are taken
pub numbers_read : (older : Bool) (v : List ℕ) → length v ≡ number_count → Clear 0 v → lines_fault v ≡ Ok tt → whole_fault (sheet_of v) ≡ Ok tt
    → read_by (may_lack older) (text_from v row_count 0) ≡ record { answer = Ok tt; sheet = sheet_of v }
numbers_read older v l c e f =
    let t = text_read older (λ r. false) v (all_there older v) l c e in
    ap (read_by (may_lack older)) (sym (text_all v row_count 0)) ∙ read_fine (may_lack older) (text_less (λ r. false) v row_count 0) v _ t f

pub sheet_to_text : SheetToText
unfolding accept_of flat_of
sheet_to_text s h e =
    let both = both_fine _ _ e in
    let k = sound s e in
    let same = sheet_kept s h k.grade k.grade2 in
    let whole = ap whole_fault same ∙ whole_same s (omega (arith, k.point_count.low)) ∙ both.1 in
    ap read_of (sym (text_same s))
    ∙ numbers_read false (flat_of (trimmed s)) (flat_long (trimmed s)) (clear s) (fault_same s ∙ both.0) whole
    ∙ ap (λ (x : Sheet). record { answer = Ok tt; sheet = x }) same

-- numbers for dwell that are not counted do not come back: of a sheet that counts none and has some
dwell_cleared : (trimmed (with_entries zero_sheet [] (8 ∷ 8 ∷ []) [])).dwell ≡ 0 ∷ 0 ∷ []
unfolding trimmed kept
dwell_cleared = refl

pub blank_same : (s : Sheet) → Blank s → trimmed s ≡ s
unfolding trimmed
blank_same s b =
    let p = kept_same zero_phase s.phase_count s.phases b.phases in
    let d = kept_same 0 s.dwell_count s.dwell b.dwell in
    let q = kept_same zero_point s.point_count s.points b.points in
    λ i. with_entries s (p i) (d i) (q i)

pub sheet_to_sheet : SheetToSheet
sheet_to_sheet s h b e = sheet_to_text s h e ∙ ap (λ (x : Sheet). record { answer = Ok tt; sheet = x }) (blank_same s b)

-- ---- text to sheet to text

reply_fine : (a : Answer) (s : Sheet) → (reply a s).answer ≡ Ok tt → (a ≡ Ok tt) × ((reply a s).sheet ≡ s)
unfolding reply pick
reply_fine (Ok _) s e = (refl, refl)
reply_fine (Err d) s e = never (ap is_fine e)

-- the first number of a row of numbers without a fault: the vehicle, a grade
first_in : (v : List ℕ) (row : ℕ) → lines_fault v ≡ Ok tt → row < row_count → present v row ≡ true → 0 < used v row → Between (range_of row 0).least (get_or v (place_of row + 0) 0) (range_of row 0).most
first_in v row e h p u =
    let z : 0 + row ≡ row = omega arith in
    let f : FineRow v row = rw z at (fine_rows v row_count 0 1 e row h (rw z p)) in
    ranged row v f.line f.fine 0 u

vehicle_in : (v : List ℕ) → lines_fault v ≡ Ok tt → get_or v (place_for "vehicle") 0 ≤ 3
unfolding present pick used_ranges form_of ranges_of kind_of place_of width_of
vehicle_in v e = (first_in v (row_for "vehicle") e (omega arith) refl (omega arith)).high

grades_in : (v : List ℕ) → lines_fault v ≡ Ok tt → Graded (get_or v (place_for "grade") 0) × Graded (get_or v (place_for "grade2") 0)
unfolding present pick used_ranges form_of ranges_of kind_of place_of width_of
grades_in v e =
    (graded _ (first_in v (row_for "grade") e (omega arith) refl (omega arith)), graded _ (first_in v (row_for "grade2") e (omega arith) refl (omega arith)))

-- a text that is read, and the sheet: how the lines were read, and that the sheet's text is read as the sheet
pub record Back (older : Bool) (t : List ℕ) (s : Sheet) : Type 0 where
  pub sheet : (read_by (may_lack older) t).sheet ≡ s
  pub lines : Whole older t row_count 0 0 (replicate number_count 0) (flat_of s)
  pub accepted : accept_of s ≡ Ok tt
  pub again : (o : Bool) → read_by (may_lack o) (text_of s) ≡ record { answer = Ok tt; sheet = s }

pub read_back : (older : Bool) (t : List ℕ) → (read_by (may_lack older) t).answer ≡ Ok tt → Back older t (sheet_of (lines_of (may_lack older) t).numbers)
unfolding read_by accept_of or_else
read_back older t e =
    let lines = lines_of (may_lack older) t in
    let v = lines.numbers in
    let r = reply_fine (or_else lines.answer (whole_fault (sheet_of v))) (sheet_of v) e in
    let both = both_fine _ _ r.0 in
    let w = text_back older t both.0 in
    let fine = w.checked 1 in
    let grades = grades_in v fine in
    let flat : flat_of (sheet_of v) ≡ v = numbers_again v w.long (vehicle_in v fine) grades.0 grades.1 in
    let text : text_of (sheet_of v) ≡ text_from v row_count 0 = ap (λ (x : List ℕ). text_from x row_count 0) flat in
    record {
      sheet = r.1;
      lines = subst (λ (x : List ℕ). Whole older t row_count 0 0 (replicate number_count 0) x) (sym flat) w;
      accepted = ap (λ (x : List ℕ). or_else (lines_fault x) (whole_fault (sheet_of v))) flat ∙ (λ i. or_else (fine i) (both.1 i));
      again = λ o. ap (read_by (may_lack o)) text ∙ numbers_read o v w.long w.clear fine both.1;
    }

-- where no line may be absent it is the sheet's text
pub back_text : (t : List ℕ) (s : Sheet) → Back false t s → text_of s ≡ t
back_text t s b = sym (today_back t row_count 0 0 (replicate number_count 0) (flat_of s) b.lines)

pub text_to_text : TextToText
text_to_text t s e =
    let b = read_back false t (ap (λ (r : Reading). r.answer) e) in
    ap text_of (sym (ap (λ (r : Reading). r.sheet) e) ∙ b.sheet) ∙ back_text t _ b

pub read_is_accepted : ReadIsAccepted
read_is_accepted t e = let b = read_back false t e in ap accept_of b.sheet ∙ b.accepted

-- ---- writing

pub write_refuses_alike : WriteRefusesAlike
unfolding written_of answer_to pick
write_refuses_alike s room f =
    let e : answer_to s room ≡ accept_of s = bad_or (accept_of s) (unless (leb (length (text_of s)) room) NoRoom 0) f in
    rw (e, f)

pub written_is_text : WrittenIsText
unfolding written_of bytes_of pick
written_is_text s old e =
    split (is_fine (answer_to s (length old)))
    (λ t. rw t (take-append_seam (text_of s) (drop (length (text_of s)) old)))
    (λ t. never (sym t ∙ ap is_fine (rw t at e)))

pub text_is_short : TextIsShort
text_is_short s = omega (arith, short_text (flat_of s) row_count 0)

pub read_is_short : ReadIsShort
read_is_short t e = let b = read_back false t e in rw (← (back_text t _ b)) (text_is_short (sheet_of (lines_of (may_lack false) t).numbers))
