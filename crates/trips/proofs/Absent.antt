-- A row that may be absent: which they are, and that what it stands for has no fault. Assumes nothing.
use Prim.Native.Nat.{ℕ, ◌+◌, ◌<◌}
use mathlib.Core.Path.{◌≡◌, refl, sym, ◌∙◌}
use mathlib.Core.List.{List}
use mathlib.Core.Bool.{Bool, true, false}
use native.Mathlib.Omega.{arith}
use lib.ListN.{length, get_or, set, take}
use lib.Seq.{get_or-set_same, get_or-set_other}
use lib.Dec.{eqb}
use borrow.Author.Tests.{eqb-true, eqb-false}
use Rattle.units.specs.Numbers.{pick}
use Rattle.units.proofs.Steps.{split, never}
use Rattle.sheet.specs.declared.Phase.{Phase}
use Rattle.std.specs.Prelude.{Ok}
use Rattle.sheet.specs.Refusals.{or_else, unless}
use Rattle.sheet.proofs.Answers.{both_fine, fine_both, passes, holds}
use Rattle.rows.specs.Table.{is_list, row_for, place_for, row_count, number_count, kind_of, form_of, ranges_of, width_of, place_of, used_ranges, in_range, in_ranges, present, phase_kind, point_kind}
use Rattle.rows.proofs.Tables.{dwell_place_lem}
use Rattle.faults.specs.Lines.{rises_after, phase_fault, rule_fault, row_fault}
use Rattle.text.specs.Read.{stands_for, may_lack}
use Rattle.text.proofs.Absent.{absent_is_first_grade, absent_is_none, only_these_lack}
use Rattle.trips.proofs.Agree.{head_present, middle_present}

-- ---- a row without a fault has none on another line

phase_any : (before p : Phase) (l k : ℕ) → phase_fault before p l ≡ Ok tt → phase_fault before p k ≡ Ok tt
unfolding phase_fault
phase_any before p l k e =
    let a = both_fine _ _ e in
    let b = both_fine _ _ a.1 in
    fine_both _ _ (holds _ _ _ (passes _ _ _ a.0)) (fine_both _ _ (holds _ _ _ (passes _ _ _ b.0)) (holds _ _ _ (passes _ _ _ b.1)))

rule_any : (v : List ℕ) (row l k : ℕ) → rule_fault v row l ≡ Ok tt → rule_fault v row k ≡ Ok tt
unfolding rule_fault pick
rule_any v row l k e =
    split (eqb (kind_of row) phase_kind)
    (λ a. rw a (phase_any _ _ l k (rw a at e)))
    (λ a. split (eqb (kind_of row) point_kind)
    (λ b. rw (a, b) (holds _ _ _ (passes _ _ _ (rw (a, b) at e))))
    (λ b. split (is_list (form_of row))
    (λ d. rw (a, b, d) (holds _ _ _ (passes _ _ _ (rw (a, b, d) at e))))
    (λ d. rw (a, b, d))))

pub any_line : (v : List ℕ) (row l k : ℕ) → row_fault v row l ≡ Ok tt → row_fault v row k ≡ Ok tt
unfolding row_fault
any_line v row l k e = let a = both_fine _ _ e in fine_both _ _ (holds _ _ _ (passes _ _ _ a.0)) (rule_any v row l k a.1)

-- ---- which rows may be absent

pub by_absent : {X : Type 0} (older : Bool) (row : ℕ) → row < row_count → may_lack older row ≡ true → (row ≡ row_for "grade2" → X) → (row ≡ row_for "dwell" → X) → X
by_absent older row h m f g =
    split (eqb row (row_for "grade2"))
    (λ a. f (eqb-true row (row_for "grade2") a))
    (λ a. g ((only_these_lack older row h m).1 (eqb-false row (row_for "grade2") a)))

pub none_today : {X : Type 0} (row : ℕ) → may_lack false row ≡ true → X
unfolding may_lack pick
none_today row m = never m

-- ---- what they stand for has no fault

grade_same : (v : List ℕ) (line : ℕ) → get_or v (place_for "grade2") 0 ≡ get_or v (place_for "grade") 0 → row_fault v (row_for "grade2") line ≡ row_fault v (row_for "grade") line
unfolding row_fault rule_fault used_ranges in_ranges form_of ranges_of kind_of place_of width_of pick
grade_same v line e = rw e

none_in : (v : List ℕ) → get_or v (place_for "dwell") 0 ≡ 0 → in_ranges v (place_of (row_for "dwell")) (take 1 (ranges_of (row_for "dwell"))) ≡ true
unfolding in_range in_ranges ranges_of kind_of place_of width_of pick
none_in v e = rw e refl

none_fine : (v : List ℕ) (line : ℕ) → get_or v (place_for "dwell") 0 ≡ 0 → row_fault v (row_for "dwell") line ≡ Ok tt
unfolding row_fault rule_fault used_ranges rises_after form_of kind_of pick or_else unless
none_fine v line e = let at : get_or v (place_of (row_for "dwell")) 0 ≡ 0 = rw dwell_place_lem e in rw (at, none_in v e) refl

abbrev pub stood : List ℕ → ℕ → List ℕ
stood v row = set v (place_of row) (stands_for v row)

grade2_at : place_of (row_for "grade2") ≡ place_for "grade2"
unfolding place_of width_of ranges_of kind_of
grade2_at = refl

grade2_fine : (v : List ℕ) (line : ℕ) → length v ≡ number_count → ((l : ℕ) → row_fault (stood v (row_for "grade2")) (row_for "grade") l ≡ Ok tt) → row_fault (stood v (row_for "grade2")) (row_for "grade2") line ≡ Ok tt
grade2_fine v line long f =
    let x = stands_for v (row_for "grade2") in
    let here : get_or (stood v (row_for "grade2")) (place_for "grade2") 0 ≡ x = rw grade2_at (get_or-set_same v (place_for "grade2") x 0 (omega arith)) in
    let there : get_or (stood v (row_for "grade2")) (place_for "grade") 0 ≡ get_or v (place_for "grade") 0 = rw grade2_at (get_or-set_other v (place_for "grade2") (place_for "grade") x 0 (λ e. omega arith)) in
    grade_same (stood v (row_for "grade2")) line (here ∙ absent_is_first_grade v ∙ sym there) ∙ f line

dwell_fine : (v : List ℕ) (line : ℕ) → length v ≡ number_count → row_fault (stood v (row_for "dwell")) (row_for "dwell") line ≡ Ok tt
dwell_fine v line long =
    let x = stands_for v (row_for "dwell") in
    let here : get_or (stood v (row_for "dwell")) (place_for "dwell") 0 ≡ x = rw dwell_place_lem (get_or-set_same v (place_for "dwell") x 0 (omega arith)) in
    none_fine (stood v (row_for "dwell")) line (here ∙ absent_is_none v)

-- the row before one that may be absent is a line of every text
pub present_before : (older : Bool) (v : List ℕ) (row r : ℕ) → row < row_count → may_lack older row ≡ true → r + 1 ≡ row → present v r ≡ true
present_before older v row r h m n =
    by_absent older row h m (λ e. head_present v r (omega arith)) (λ e. middle_present v r (omega arith) (omega arith))

-- where the row before it has no fault
pub stood_fine : (older : Bool) (v : List ℕ) (row line : ℕ) → row < row_count → length v ≡ number_count → may_lack older row ≡ true
    → ((r l : ℕ) → r + 1 ≡ row → row_fault (stood v row) r l ≡ Ok tt) → row_fault (stood v row) row line ≡ Ok tt
stood_fine older v row line h long m f =
    by_absent older row h m
    (λ e. rw e (grade2_fine v line long (λ l. rw e at (f (row_for "grade") l (omega arith)))))
    (λ e. rw e (dwell_fine v line long))

-- what it stands for is decided by the numbers before it
pub stands_below : (older : Bool) (v w : List ℕ) (row : ℕ) → row < row_count → may_lack older row ≡ true → ((m : ℕ) → m < place_of row → get_or w m 0 ≡ get_or v m 0) → stands_for w row ≡ stands_for v row
unfolding place_of width_of ranges_of kind_of
stands_below older v w row h m b =
    by_absent older row h m
    (λ e. rw e (absent_is_first_grade w ∙ b (place_for "grade") (rw e (omega arith)) ∙ sym (absent_is_first_grade v)))
    (λ e. rw e (absent_is_none w ∙ sym (absent_is_none v)))
