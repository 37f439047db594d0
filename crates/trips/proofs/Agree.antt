-- What a row depends on: those of its numbers that it has, a count below it, and the row before. So numbers that agree there have the same text and fault. Assumes nothing.
use Prim.Native.Nat.{ℕ, zero, suc, ◌+◌, ◌-◌, ◌≤◌, ◌<◌, min}
use mathlib.Core.Path.{◌≡◌, refl, sym, ap, ◌∙◌, subst}
use mathlib.Core.List.{List, [], ◌∷◌}
use mathlib.Core.Bool.{Bool, true, false}
use native.Mathlib.Numerals.{add-one}
use native.Mathlib.Omega.{arith}
use lib.ListN.{length, get_or, take, drop, length-take, length-drop}
use lib.Seq.{get_or-take, get_or-drop, ext_get_or}
use lib.Dec.{T, leb, ltb, eqb, eqb→eq, leb→le, ltb→lt, le→leb}
use borrow.Author.Tests.{lt-ltb, le-ltb, ltb-false, eqb-true, eqb-false, eq-eqb}
use Rattle.units.specs.Numbers.{pick}
use Rattle.units.proofs.Steps.{split}
use Rattle.units.proofs.Tested.{also, also_left, also_right, given, given_then, at}
use Rattle.sheet.specs.declared.Refusal.TheVariants.{OutOfRange, PhasesDontRise, PointsDontRise}
use Rattle.sheet.specs.Refusals.{or_else, unless}
use Rattle.rows.specs.declared.table.Form.{Form}
use Rattle.rows.specs.Table.{is_list, place_for, first_phase, first_point, row_count, plain, Range, kind_of, form_of, ranges_of, width_of, place_of, used_ranges, in_ranges, present, phase_kind, point_kind}
use Rattle.numbers.specs.Flat.{phase_place, point_place, phase_at, point_at}
use Rattle.faults.specs.Lines.{phase_fault, starts_at_zero, point_rises, before_phase, point_fits, list_at, rises_after, rule_fault, row_fault}
use Rattle.faults.proofs.Sound.{phase_place_lem, point_place_lem}
use Rattle.text.specs.Text.{fields_text, list_text, values_text, row_text}
use Rattle.text.proofs.Rows.{list_wide}
use Rattle.rows.proofs.Tables.{past_phases}

-- the numbers v and w agree below a place, or between two
abbrev pub Below : ℕ → List ℕ → List ℕ → Type 0
Below n v w = (m : ℕ) → m < n → get_or w m 0 ≡ get_or v m 0

abbrev pub Within : ℕ → ℕ → List ℕ → List ℕ → Type 0
Within from to v w = (m : ℕ) → from ≤ m → m < to → get_or w m 0 ≡ get_or v m 0

-- how many numbers v has of a row: of a list its count and as many as that, else all
abbrev pub used : List ℕ → ℕ → ℕ
used v row = length (used_ranges v row)

pub used_all : (v : List ℕ) (row : ℕ) → is_list (form_of row) ≡ false → used v row ≡ width_of row
unfolding used_ranges width_of pick
used_all v row e = rw e

pub used_list : (v : List ℕ) (row : ℕ) → is_list (form_of row) ≡ true → used v row ≡ min (1 + get_or v (place_of row) 0) (width_of row)
unfolding used_ranges width_of pick
used_list v row e = rw e (length-take (1 + get_or v (place_of row) 0) (ranges_of row))

pub used_few : (v : List ℕ) (row : ℕ) → used v row ≤ width_of row
used_few v row =
    split (is_list (form_of row)) (λ t. omega (arith, used_list v row t)) (λ t. omega (arith, used_all v row t))

abbrev pub Row : ℕ → List ℕ → List ℕ → Type 0
Row row v w = Within (place_of row) (place_of row + used v row) v w

count_agree : (row : ℕ) (v w : List ℕ) → Row row v w → is_list (form_of row) ≡ true → get_or w (place_of row) 0 ≡ get_or v (place_of row) 0
count_agree row v w a t = a (place_of row) (omega arith) (omega (arith, used_list v row t, list_wide row t))

pub place_next : (row : ℕ) → place_of (row + 1) ≡ place_of row + width_of row
unfolding place_of
place_next row = rw (add-one row)

-- ---- the text of a row

text_agree : (form : Form) (place n j : ℕ) (v w : List ℕ) → Within (place + j) (place + j + n) v w → fields_text form place n j w ≡ fields_text form place n j v
unfolding fields_text
text_agree form place zero j v w a = refl
text_agree form place (suc n) j v w a =
    rw (a (place + j) (omega arith) (omega arith), text_agree form place n (j + 1) v w (λ m g l. a m (omega arith) (omega arith)))

values_agree : (row : ℕ) (v w : List ℕ) → Row row v w → values_text (form_of row) (place_of row) (width_of row) w ≡ values_text (form_of row) (place_of row) (width_of row) v
unfolding values_text list_text pick
values_agree row v w a =
    split (is_list (form_of row))
    (λ t.
    let n = min (get_or v (place_of row) 0) (width_of row - 1) in
    rw (t, count_agree row v w a t, text_agree plain (place_of row + 1) n 0 v w (λ m g l. a m (omega arith) (omega (arith, used_list v row t, list_wide row t)))))
    (λ t. rw (t, text_agree (form_of row) (place_of row) (width_of row) 0 v w (λ m g l. a m (omega arith) (omega (arith, used_all v row t)))))

pub row_agree : (row : ℕ) (v w : List ℕ) → Row row v w → row_text row w ≡ row_text row v
unfolding row_text
row_agree row v w a = rw (values_agree row v w a)

-- ---- whether the text has a row

pub present_agree : (row : ℕ) (v w : List ℕ) → (first_phase ≤ row → get_or w (place_for "phases") 0 ≡ get_or v (place_for "phases") 0) → (first_point ≤ row → get_or w (place_for "points") 0 ≡ get_or v (place_for "points") 0) → present w row ≡ present v row
unfolding present pick
present_agree row v w a b =
    split (ltb row first_phase) (λ t. rw t)
    (λ t. split (ltb row past_phases)
    (λ t₁. rw (t, t₁, a (ltb-false row first_phase t)))
    (λ t₁. split (ltb row first_point) (λ t₂. rw (t, t₁, t₂)) (λ t₂. rw (t, t₁, t₂, b (ltb-false row first_point t₂)))))

pub head_present : (v : List ℕ) (row : ℕ) → row < first_phase → present v row ≡ true
unfolding present pick
head_present v row h = rw (lt-ltb row first_phase h)

pub middle_present : (v : List ℕ) (row : ℕ) → past_phases ≤ row → row < first_point → present v row ≡ true
unfolding present pick
middle_present v row l h = rw (le-ltb row first_phase (omega arith), le-ltb row past_phases l, lt-ltb row first_point h)

pub past_phases_lem : (row : ℕ) → row < row_count → first_phase ≤ row → place_for "phases" < place_of row
unfolding place_of width_of ranges_of kind_of
past_phases_lem row h l =
    ltb→lt (place_for "phases") (place_of row) (given_then (leb first_phase row) (ltb (place_for "phases") (place_of row)) (at (λ (r : ℕ). given (leb first_phase r) (ltb (place_for "phases") (place_of r))) row_count tt row h) (le→leb first_phase row l))

pub past_points : (row : ℕ) → row < row_count → first_point ≤ row → place_for "points" < place_of row
unfolding place_of width_of ranges_of kind_of
past_points row h l =
    ltb→lt (place_for "points") (place_of row) (given_then (leb first_point row) (ltb (place_for "points") (place_of row)) (at (λ (r : ℕ). given (leb first_point r) (ltb (place_for "points") (place_of r))) row_count tt row h) (le→leb first_point row l))

pub present_below : (row : ℕ) (v w : List ℕ) → row < row_count → Below (place_of row) v w → present w row ≡ present v row
present_below row v w h a = present_agree row v w (λ l. a (place_for "phases") (past_phases_lem row h l)) (λ l. a (place_for "points") (past_points row h l))

-- ---- the fault of a row

ranges_agree : (rs : List Range) (p : ℕ) (v w : List ℕ) → Within p (p + length rs) v w → in_ranges w p rs ≡ in_ranges v p rs
unfolding in_ranges
ranges_agree [] p v w a = refl
ranges_agree (r ∷ rs) p v w a =
    rw (a p (omega arith) (omega arith), ranges_agree rs (p + 1) v w (λ m g l. a m (omega arith) (omega arith)))

pub phase_row : (row : ℕ) → row < row_count → kind_of row ≡ phase_kind → (first_phase ≤ row) × (row < past_phases) × (width_of row ≡ 8)
unfolding width_of ranges_of kind_of
phase_row row h e =
    let t = given_then (eqb (kind_of row) phase_kind) (also (leb first_phase row) (also (ltb row past_phases) (eqb (width_of row) 8))) (at (λ (r : ℕ). given (eqb (kind_of r) phase_kind) (also (leb first_phase r) (also (ltb r past_phases) (eqb (width_of r) 8)))) row_count tt row h) (subst T (sym (eq-eqb (kind_of row) phase_kind e)) tt) in
    let u = also_right (leb first_phase row) (also (ltb row past_phases) (eqb (width_of row) 8)) t in
    (leb→le first_phase row (also_left (leb first_phase row) (also (ltb row past_phases) (eqb (width_of row) 8)) t), ltb→lt row past_phases (also_left (ltb row past_phases) (eqb (width_of row) 8) u), eqb→eq (width_of row) 8 (also_right (ltb row past_phases) (eqb (width_of row) 8) u))

pub point_row : (row : ℕ) → row < row_count → kind_of row ≡ point_kind → (first_point ≤ row) × (width_of row ≡ 2)
unfolding width_of ranges_of kind_of
point_row row h e =
    let t = given_then (eqb (kind_of row) point_kind) (also (leb first_point row) (eqb (width_of row) 2)) (at (λ (r : ℕ). given (eqb (kind_of r) point_kind) (also (leb first_point r) (eqb (width_of r) 2))) row_count tt row h) (subst T (sym (eq-eqb (kind_of row) point_kind e)) tt) in
    (leb→le first_point row (also_left (leb first_point row) (eqb (width_of row) 2) t), eqb→eq (width_of row) 2 (also_right (leb first_point row) (eqb (width_of row) 2) t))

phase_agree : (i : ℕ) (v w : List ℕ) → Within (phase_place i) (phase_place i + 8) v w → phase_at w i ≡ phase_at v i
phase_agree i v w a =
    λ d. record {
      number = a (phase_place i) (omega arith) (omega arith) d;
      green = a (phase_place i + 1) (omega arith) (omega arith) d;
      other = a (phase_place i + 2) (omega arith) (omega arith) d;
      yellow = a (phase_place i + 3) (omega arith) (omega arith) d;
      red = a (phase_place i + 4) (omega arith) (omega arith) d;
      walk = a (phase_place i + 5) (omega arith) (omega arith) d;
      clearance = a (phase_place i + 6) (omega arith) (omega arith) d;
      mode = a (phase_place i + 7) (omega arith) (omega arith) d;
    }

point_agree : (i : ℕ) (v w : List ℕ) → Within (point_place i) (point_place i + 2) v w → point_at w i ≡ point_at v i
point_agree i v w a =
    λ d. record { feet = a (point_place i) (omega arith) (omega arith) d; tenths = a (point_place i + 1) (omega arith) (omega arith) d }

-- the numbers of a list
pub list_agree : (row : ℕ) (v w : List ℕ) → length w ≡ length v → Row row v w → is_list (form_of row) ≡ true → list_at w row ≡ list_at v row
list_agree row v w long a t =
    let n = get_or v (place_of row) 0 in
    let most = width_of row - 1 in
    let from = place_of row + 1 in
    let all : List ℕ → List ℕ = λ x. take most (drop from x) in
    let few : (x : List ℕ) → length (take n (all x)) ≡ min n (min most (length x - from)) = λ x. length-take n (all x) ∙ ap (min n) (length-take most (drop from x) ∙ ap (min most) (length-drop from x)) in
    let at : (x : List ℕ) (i : ℕ) → i < n → i < most → get_or (take n (all x)) i 0 ≡ get_or x (from + i) 0 = λ x i h k. get_or-take n (all x) i 0 h ∙ get_or-take most (drop from x) i 0 k ∙ get_or-drop from x i 0 in
    ap (λ (k : ℕ). take k (all w)) (count_agree row v w a t)
    ∙ ext_get_or 0 (take n (all w)) (take n (all v)) (few w ∙ ap (λ (l : ℕ). min n (min most (l - from))) long ∙ sym (few v))
    (λ i h.
    let k : i < min n (min most (length w - from)) = rw (few w) at h in
    at w i (omega arith) (omega arith) ∙ a (from + i) (omega arith) (omega (arith, used_list v row t)) ∙ sym (at v i (omega arith) (omega arith)))

-- the row's phase or point and the one before it, or its list
pub rule_agree : (row line : ℕ) (v w : List ℕ) → (kind_of row ≡ phase_kind → (phase_at w (row - first_phase) ≡ phase_at v (row - first_phase)) × (before_phase w (row - first_phase) ≡ before_phase v (row - first_phase)))
    → (kind_of row ≡ point_kind → point_fits w (row - first_point) ≡ point_fits v (row - first_point)) → (is_list (form_of row) ≡ true → list_at w row ≡ list_at v row)
    → rule_fault w row line ≡ rule_fault v row line
unfolding rule_fault pick
rule_agree row line v w a b c =
    split (eqb (kind_of row) phase_kind)
    (λ t. let e = a (eqb-true (kind_of row) phase_kind t) in rw t (λ d. phase_fault (e.1 d) (e.0 d) line))
    (λ t. split (eqb (kind_of row) point_kind)
    (λ t₁. rw (t, t₁) (ap (λ (x : Bool). unless x PointsDontRise line) (b (eqb-true (kind_of row) point_kind t₁))))
    (λ t₁. split (is_list (form_of row))
    (λ t₂. rw (t, t₁, t₂) (ap (λ (ns : List ℕ). unless (rises_after 0 ns) PhasesDontRise line) (c t₂)))
    (λ t₂. rw (t, t₁, t₂))))

pub used_agree : (row : ℕ) (v w : List ℕ) → Row row v w → used_ranges w row ≡ used_ranges v row
unfolding used_ranges pick
used_agree row v w a =
    split (is_list (form_of row))
    (λ t. rw t (ap (λ (n : ℕ). take (1 + n) (ranges_of row)) (count_agree row v w a t)))
    (λ t. rw t)

pub fault_agree : (row line : ℕ) (v w : List ℕ) → Row row v w → rule_fault w row line ≡ rule_fault v row line → row_fault w row line ≡ row_fault v row line
unfolding row_fault
fault_agree row line v w a r =
    let e : in_ranges w (place_of row) (used_ranges w row) ≡ in_ranges v (place_of row) (used_ranges v row) = ap (in_ranges w (place_of row)) (used_agree row v w a) ∙ ranges_agree (used_ranges v row) (place_of row) v w a in
    λ d. or_else (unless (e d) OutOfRange line) (r d)

pub before_agree : (i : ℕ) (v w : List ℕ) → (0 < i → phase_at w (i - 1) ≡ phase_at v (i - 1)) → before_phase w i ≡ before_phase v i
unfolding before_phase pick
before_agree i v w a =
    split (eqb i 0) (λ t. rw t) (λ t. let ne : (i ≡ 0 → ⊥) = eqb-false i 0 t in rw t (a (omega arith)))

pub fits_agree : (i : ℕ) (v w : List ℕ) → point_at w i ≡ point_at v i → (0 < i → point_at w (i - 1) ≡ point_at v (i - 1)) → point_fits w i ≡ point_fits v i
unfolding point_fits pick
fits_agree i v w a b =
    split (eqb i 0)
    (λ t. rw t (ap starts_at_zero a))
    (λ t. let ne : (i ≡ 0 → ⊥) = eqb-false i 0 t in let e = b (omega arith) in rw t (λ d. point_rises (e d) (a d)))

pub row_below : (row : ℕ) (v w : List ℕ) → Below (place_of row + width_of row) v w → Row row v w
row_below row v w a m g l = a m (omega (arith, used_few v row))

pub fault_below : (row line : ℕ) (v w : List ℕ) → row < row_count → length w ≡ length v → Below (place_of row + width_of row) v w → row_fault w row line ≡ row_fault v row line
fault_below row line v w h long a =
    fault_agree row line v w (row_below row v w a)
    (rule_agree row line v w
    (λ e.
    let r = phase_row row h e in
    let i = row - first_phase in
    let back : first_phase + (row - first_phase) ≡ row = omega (arith, r.0) in
    let p : place_of row ≡ phase_place (row - first_phase) = sym (ap place_of back) ∙ phase_place_lem (row - first_phase) (omega (arith, r.0, r.1)) in
    (phase_agree (row - first_phase) v w (λ m g l. a m (omega (arith, p, r.2))), before_agree (row - first_phase) v w (λ z. phase_agree (row - first_phase - 1) v w (λ m g l. a m (omega (arith, p, r.2))))))
    (λ e.
    let r = point_row row h e in
    let back : first_point + (row - first_point) ≡ row = omega (arith, r.0) in
    let p : place_of row ≡ point_place (row - first_point) = sym (ap place_of back) ∙ point_place_lem (row - first_point) (omega (arith, r.0)) in
    fits_agree (row - first_point) v w (point_agree (row - first_point) v w (λ m g l. a m (omega (arith, p, r.1)))) (λ z. point_agree (row - first_point - 1) v w (λ m g l. a m (omega (arith, p, r.1)))))
    (list_agree row v w long (row_below row v w a)))
