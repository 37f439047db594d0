-- A sheet and the same with its entries past the counts 0 have the same text and the same faults: row by row. Assumes nothing.
use Prim.Native.Nat.{ℕ, zero, suc, ◌+◌, ◌-◌, ◌≤◌, ◌<◌}
use mathlib.Core.Path.{◌≡◌, refl, sym, ap, ◌∙◌}
use mathlib.Core.List.{List, ◌∷◌, ◌++◌}
use mathlib.Core.Bool.{Bool, true, false}
use native.Mathlib.Omega.{arith}
use lib.ListN.{length, get_or, take, drop}
use lib.Seq.{get_or-take, get_or-drop}
use lib.Dec.{T, ltb, leb, eqb, leb→le, eqb→eq}
use borrow.Author.Tests.{lt-ltb, le-ltb, ltb-true, ltb-false}
use Rattle.units.specs.Numbers.{pick}
use Rattle.units.proofs.Steps.{split, never}
use Rattle.units.proofs.Tested.{also, also_left, also_right, given, given_then, at}
use Rattle.sheet.specs.declared.Sheet.{Sheet}
use Rattle.sheet.specs.declared.Phase.{Phase}
use Rattle.sheet.specs.declared.Point.{Point}
use Rattle.sheet.specs.declared.Refusal.TheVariants.{RelocationBeyondStorage, WarningTooShort, RelocationTooFar, TrackLongerThanTransfer, DwellPhaseNotListed}
use Rattle.sheet.specs.Refusals.{or_else, unless}
use Rattle.sheet.specs.Zero.{zero_phase, zero_point}
use Rattle.rows.specs.Table.{is_list, most_phases, most_points, row_for, place_for, first_phase, first_point, row_count, kind_of, form_of, ranges_of, width_of, place_of, present}
use Rattle.numbers.specs.Flat.{phase_place, point_place, phase_numbers, point_numbers, numbers_from, flat_of, phase_at, point_at}
use Rattle.transfer.specs.Transfer.{track_fits}
use Rattle.faults.specs.Lines.{here_fault, line_after, rule_fault, fault_from}
use Rattle.faults.specs.Whole.{least_warning, line48, farthest, all_listed, whole_fault}
use Rattle.faults.proofs.Sound.{phase_in, point_in, dwell_in, dwell_width, phases_at, points_at, phase_kind_lem, phase_place_lem, point_kind_lem, point_place_lem}
use Rattle.text.specs.Text.{here_text, text_from}
use Rattle.trips.specs.Promises.{kept, trimmed}
use Rattle.trips.proofs.Kept.{kept_at, kept_past, kept_take}
use Rattle.trips.proofs.Agree.{head_present, middle_present, Row, used, used_all, used_list, used_few, row_agree, list_agree, present_agree, rule_agree, fault_agree, before_agree, fits_agree, phase_row, point_row}
use Rattle.trips.proofs.Back.{Clear, held_here, held_none, zeros_in}
use Rattle.rows.proofs.Tables.{past_phases, dwell_place_lem}

-- ---- the rows in their four parts

by_part : {X : Type 0} (row : ℕ) → row < row_count → (row < first_phase → X) → ((i : ℕ) → i < most_phases → first_phase + i ≡ row → X) → (past_phases ≤ row → row < first_point → X) → ((i : ℕ) → i < most_points → first_point + i ≡ row → X) → X
by_part row h a b c d =
    split (ltb row first_phase) (λ t. a (ltb-true row first_phase t))
    (λ t. split (ltb row past_phases)
    (λ t₁. b (row - first_phase) (omega (arith, ltb-false row first_phase t, ltb-true row past_phases t₁)) (omega (arith, ltb-false row first_phase t)))
    (λ t₁. split (ltb row first_point)
    (λ t₂. c (ltb-false row past_phases t₁) (ltb-true row first_point t₂))
    (λ t₂. d (row - first_point) (omega (arith, ltb-false row first_point t₂)) (omega (arith, ltb-false row first_point t₂)))))

head_row : (row : ℕ) → row < first_phase → place_of row + width_of row ≤ place_for "phase"
unfolding place_of width_of ranges_of kind_of
head_row row h =
    leb→le (place_of row + width_of row) (place_for "phase") (at (λ (r : ℕ). leb (place_of r + width_of r) (place_for "phase")) first_phase tt row h)

-- between the phases and the points stand the track, the one list, and the rows of one number
only_list : (row : ℕ) → row < row_count → is_list (form_of row) ≡ true → row ≡ row_for "dwell"
unfolding form_of kind_of
only_list row h t =
    eqb→eq row (row_for "dwell")
    (given_then (is_list (form_of row)) (eqb row (row_for "dwell")) (at (λ (r : ℕ). given (is_list (form_of r)) (eqb r (row_for "dwell"))) row_count tt row h) (rw t tt))

-- the row's numbers stand from one place to another
abbrev stands : ℕ → ℕ → ℕ → Bool
stands row from to = also (leb from (place_of row)) (leb (place_of row + width_of row) to)

stood : {X : Type 0} (row from to : ℕ) → (from ≤ place_of row → place_of row + width_of row ≤ to → X) → T (stands row from to) → X
stood row from to f t =
    f (leb→le from (place_of row) (also_left (leb from (place_of row)) (leb (place_of row + width_of row) to) t))
    (leb→le (place_of row + width_of row) to (also_right (leb from (place_of row)) (leb (place_of row + width_of row) to) t))

abbrev on_track : ℕ → Bool
on_track row = stands row (place_for "track") (place_for "dwell")

abbrev single : ℕ → Bool
single row = stands row (place_for "l18") (place_for "point")

middle_row : {X : Type 0} (row : ℕ) → past_phases ≤ row → row < first_point → is_list (form_of row) ≡ false
    → (place_for "track" ≤ place_of row → place_of row + width_of row ≤ place_for "dwell" → X) → (place_for "l18" ≤ place_of row → place_of row + width_of row ≤ place_for "point" → X) → X
unfolding form_of place_of width_of ranges_of kind_of pick
middle_row row l h n f g =
    let e : past_phases + (row - past_phases) ≡ row = omega arith in
    let t : T (pick (is_list (form_of row)) true (pick (on_track row) true (single row))) = rw e at (at (λ (r : ℕ). pick (is_list (form_of (past_phases + r))) true (pick (on_track (past_phases + r)) true (single (past_phases + r)))) (first_point - past_phases) tt (row - past_phases) (omega arith)) in
    split (on_track row) (λ o. stood row (place_for "track") (place_for "dwell") f (rw o tt)) (λ o. stood row (place_for "l18") (place_for "point") g (rw (n, o) at t))

phase_counted : (v : List ℕ) (i : ℕ) → i < most_phases → present v (first_phase + i) ≡ ltb i (get_or v (place_for "phases") 0)
unfolding present pick
phase_counted v i h =
    let e : first_phase + i - first_phase ≡ i = omega arith in
    rw (le-ltb (first_phase + i) first_phase (omega arith), lt-ltb (first_phase + i) past_phases (omega arith), e)

point_counted : (v : List ℕ) (i : ℕ) → i < most_points → present v (first_point + i) ≡ ltb i (get_or v (place_for "points") 0)
unfolding present pick
point_counted v i h =
    let e : first_point + i - first_point ≡ i = omega arith in
    rw (le-ltb (first_point + i) first_phase (omega arith), le-ltb (first_point + i) past_phases (omega arith), le-ltb (first_point + i) first_point (omega arith), e)

-- ---- a phase's and a point's numbers

phase_entry : (v : List ℕ) (i j : ℕ) → j < 8 → get_or v (phase_place i + j) 0 ≡ get_or (phase_numbers (phase_at v i)) j 0
phase_entry v i zero h = ap (λ (k : ℕ). get_or v k 0) (omega arith)
phase_entry v i (suc zero) h = refl
phase_entry v i (suc (suc zero)) h = refl
phase_entry v i (suc (suc (suc zero))) h = refl
phase_entry v i (suc (suc (suc (suc zero)))) h = refl
phase_entry v i (suc (suc (suc (suc (suc zero))))) h = refl
phase_entry v i (suc (suc (suc (suc (suc (suc zero)))))) h = refl
phase_entry v i (suc (suc (suc (suc (suc (suc (suc zero))))))) h = refl
phase_entry v i (suc (suc (suc (suc (suc (suc (suc (suc j)))))))) h = absurd (omega arith)

point_entry : (v : List ℕ) (i j : ℕ) → j < 2 → get_or v (point_place i + j) 0 ≡ get_or (point_numbers (point_at v i)) j 0
point_entry v i zero h = ap (λ (k : ℕ). get_or v k 0) (omega arith)
point_entry v i (suc zero) h = refl
point_entry v i (suc (suc j)) h = absurd (omega arith)

-- a number of a phase row or a point row, by its phase or point
phase_number : (v : List ℕ) (i m : ℕ) → i < most_phases → place_of (first_phase + i) ≤ m → m < place_of (first_phase + i) + width_of (first_phase + i) → get_or v m 0 ≡ get_or (phase_numbers (phase_at v i)) (m - (phase_place i)) 0
phase_number v i m h g l =
    let p = phase_place_lem i h in
    let w = (phase_row (first_phase + i) (omega arith) (phase_kind_lem i h)).2 in
    let e : m ≡ phase_place i + (m - (phase_place i)) = omega arith in
    ap (λ (k : ℕ). get_or v k 0) e ∙ phase_entry v i (m - (phase_place i)) (omega arith)

point_number : (v : List ℕ) (i m : ℕ) → i < most_points → place_of (first_point + i) ≤ m → m < place_of (first_point + i) + width_of (first_point + i) → get_or v m 0 ≡ get_or (point_numbers (point_at v i)) (m - (point_place i)) 0
point_number v i m h g l =
    let p = point_place_lem i h in
    let w = (point_row (first_point + i) (omega arith) (point_kind_lem i h)).1 in
    let e : m ≡ point_place i + (m - (point_place i)) = omega arith in
    ap (λ (k : ℕ). get_or v k 0) e ∙ point_entry v i (m - (point_place i)) (omega arith)

-- ---- the two sheets

module _ (s : Sheet) where
  abbrev v : List ℕ
  v = flat_of s

  abbrev w : List ℕ
  w = flat_of (trimmed s)

  head_same : (m : ℕ) → m < place_for "phase" → get_or w m 0 ≡ get_or v m 0
  unfolding flat_of trimmed
  head_same m h =
      let n = place_for "phase" in
      let e : take n w ≡ take n v = refl in
      sym (get_or-take n w m 0 h) ∙ ap (λ (l : List ℕ). get_or l m 0) e ∙ get_or-take n v m 0 h

  stretch_same : (f n : ℕ) → take n (drop f w) ≡ take n (drop f v) → (m : ℕ) → f ≤ m → m < f + n → get_or w m 0 ≡ get_or v m 0
  stretch_same f n e m l h =
      let k = m - f in
      let b : k < n = omega arith in
      let q : f + k ≡ m = omega arith in
      ap (λ (i : ℕ). get_or w i 0) (sym q)
      ∙ sym (get_or-take n (drop f w) k 0 b ∙ get_or-drop f w k 0)
      ∙ ap (λ (x : List ℕ). get_or x k 0) e
      ∙ (get_or-take n (drop f v) k 0 b ∙ get_or-drop f v k 0)
      ∙ ap (λ (i : ℕ). get_or v i 0) q

  track_same : (m : ℕ) → place_for "track" ≤ m → m < place_for "dwell" → get_or w m 0 ≡ get_or v m 0
  unfolding flat_of numbers_from trimmed
  track_same m l h = stretch_same (place_for "track") (place_for "dwell" - place_for "track") refl m l (omega arith)

  later_same : (m : ℕ) → place_for "l18" ≤ m → m < place_for "point" → get_or w m 0 ≡ get_or v m 0
  unfolding flat_of numbers_from trimmed
  later_same m l h = stretch_same (place_for "l18") (place_for "point" - place_for "l18") refl m l (omega arith)

  -- the numbers for dwell, and their count before them
  dwell_kept : (j : ℕ) → j < 1 + s.dwell_count → get_or (s.dwell_count ∷ kept 0 s.dwell_count s.dwell) j 0 ≡ get_or (s.dwell_count ∷ s.dwell) j 0
  dwell_kept zero c = refl
  dwell_kept (suc i) c = kept_at 0 s.dwell_count s.dwell i (omega arith)

  dwell_same : (j : ℕ) → j < 1 + most_phases → j < 1 + s.dwell_count → get_or w (place_for "dwell" + j) 0 ≡ get_or v (place_for "dwell" + j) 0
  unfolding trimmed
  dwell_same j h c = dwell_in (trimmed s) j h ∙ dwell_kept j c ∙ sym (dwell_in s j h)

  dwell_none : (i : ℕ) → i < most_phases → s.dwell_count ≤ i → get_or w (place_for "dwell" + suc i) 0 ≡ 0
  unfolding trimmed
  dwell_none i h c = dwell_in (trimmed s) (suc i) (omega arith) ∙ kept_past 0 s.dwell_count s.dwell i c

  -- how many of them a sheet has
  dwell_counted : (row : ℕ) → row < row_count → is_list (form_of row) ≡ true → (x : Sheet) → (place_of row ≡ place_for "dwell") × (width_of row ≡ 1 + most_phases) × (get_or (flat_of x) (place_of row) 0 ≡ x.dwell_count)
  unfolding width_of
  dwell_counted row h t x =
      let e = only_list row h t in
      rw e (dwell_place_lem, dwell_width, ap (λ (k : ℕ). get_or (flat_of x) k 0) dwell_place_lem ∙ dwell_in x 0 (omega arith))

  middle_same : (row : ℕ) → row < row_count → past_phases ≤ row → row < first_point → Row row v w
  middle_same row hr l k m g b =
      split (is_list (form_of row))
      (λ t.
      let d = dwell_counted row hr t s in
      let few = used_list v row t in
      let q : place_for "dwell" + (m - place_for "dwell") ≡ m = omega (arith, d.0) in
      rw q at (dwell_same (m - place_for "dwell") (omega (arith, d.0, d.1)) (omega (arith, d.0, d.2))))
      (λ t. middle_row row l k t
      (λ i j. track_same m (omega arith) (omega (arith, used_few v row)))
      (λ i j. later_same m (omega arith) (omega (arith, used_few v row))))

  held_clear : (row : ℕ) → row < row_count → (m : ℕ) → place_of row + used w row ≤ m → m < place_of row + width_of row → get_or w m 0 ≡ 0
  unfolding trimmed
  held_clear row hr m g b =
      split (is_list (form_of row))
      (λ t.
      let d = dwell_counted row hr t (trimmed s) in
      let few = used_list w row t in
      let i = m - place_for "dwell" - 1 in
      let q : place_for "dwell" + suc i ≡ m = omega (arith, d.0, d.1) in
      rw q at (dwell_none i (omega (arith, d.0, d.1)) (omega (arith, d.0, d.1, d.2))))
      (λ t. absurd (omega (arith, used_all w row t)))

  phase_same : (i : ℕ) → i < most_phases → i < s.phase_count → phase_at w i ≡ phase_at v i
  unfolding trimmed
  phase_same i h c = phase_in (trimmed s) i h ∙ kept_at zero_phase s.phase_count s.phases i c ∙ sym (phase_in s i h)

  phase_none : (i : ℕ) → i < most_phases → s.phase_count ≤ i → phase_at w i ≡ zero_phase
  unfolding trimmed
  phase_none i h c = phase_in (trimmed s) i h ∙ kept_past zero_phase s.phase_count s.phases i c

  point_same : (i : ℕ) → i < most_points → i < s.point_count → point_at w i ≡ point_at v i
  unfolding trimmed
  point_same i h c = point_in (trimmed s) i h ∙ kept_at zero_point s.point_count s.points i c ∙ sym (point_in s i h)

  point_none : (i : ℕ) → i < most_points → s.point_count ≤ i → point_at w i ≡ zero_point
  unfolding trimmed
  point_none i h c = point_in (trimmed s) i h ∙ kept_past zero_point s.point_count s.points i c

  counts_same : (get_or w (place_for "phases") 0 ≡ get_or v (place_for "phases") 0) × (get_or w (place_for "points") 0 ≡ get_or v (place_for "points") 0)
  unfolding trimmed
  counts_same = (phases_at (trimmed s) ∙ sym (phases_at s), points_at (trimmed s) ∙ sym (points_at s))

  present_same : (row : ℕ) → present w row ≡ present v row
  present_same row = present_agree row v w (λ l. counts_same.0) (λ l. counts_same.1)

  counted_phase : (i : ℕ) → i < most_phases → present v (first_phase + i) ≡ true → i < s.phase_count
  counted_phase i h a = rw (phases_at s) at (ltb-true i (get_or v (place_for "phases") 0) (sym (phase_counted v i h) ∙ a))

  counted_point : (i : ℕ) → i < most_points → present v (first_point + i) ≡ true → i < s.point_count
  counted_point i h a = rw (points_at s) at (ltb-true i (get_or v (place_for "points") 0) (sym (point_counted v i h) ∙ a))

  row_same : (row : ℕ) → row < row_count → present v row ≡ true → Row row v w
  row_same row h a =
      by_part row h
      (λ l m g b. head_same m (omega (arith, head_row row l, used_few v row)))
      (λ i l e m g b.
      let c : m < place_of row + width_of row = omega (arith, used_few v row) in
      let p = phase_number w i m l (rw (← e) at g) (rw (← e) at c) in
      let q = phase_number v i m l (rw (← e) at g) (rw (← e) at c) in
      p ∙ ap (λ (x : Phase). get_or (phase_numbers x) (m - (phase_place i)) 0) (phase_same i l (counted_phase i l (rw (← e) at a))) ∙ sym q)
      (λ l k. middle_same row h l k)
      (λ i l e m g b.
      let c : m < place_of row + width_of row = omega (arith, used_few v row) in
      let p = point_number w i m l (rw (← e) at g) (rw (← e) at c) in
      let q = point_number v i m l (rw (← e) at g) (rw (← e) at c) in
      p ∙ ap (λ (x : Point). get_or (point_numbers x) (m - (point_place i)) 0) (point_same i l (counted_point i l (rw (← e) at a))) ∙ sym q)

  long_same : length w ≡ length v
  unfolding flat_of numbers_from trimmed
  long_same = refl

  rule_same : (row line : ℕ) → row < row_count → present v row ≡ true → rule_fault w row line ≡ rule_fault v row line
  rule_same row line h a =
      rule_agree row line v w
      (λ e.
      let r = phase_row row h e in
      let i = row - first_phase in
      let q : first_phase + (row - first_phase) ≡ row = omega (arith, r.0) in
      let c = counted_phase i (omega (arith, r.1)) (rw q a) in
      (phase_same i (omega (arith, r.1)) c, before_agree i v w (λ z. phase_same (i - 1) (omega (arith, r.1)) (omega arith))))
      (λ e.
      let r = point_row row h e in
      let i = row - first_point in
      let q : first_point + (row - first_point) ≡ row = omega (arith, r.0) in
      let c = counted_point i (omega arith) (rw q a) in
      fits_agree i v w (point_same i (omega arith) c) (λ z. point_same (i - 1) (omega arith) (omega arith)))
      (list_agree row v w long_same (row_same row h a))

  here_same : (row line : ℕ) → row < row_count → (here_text row w ≡ here_text row v) × (here_fault w row line ≡ here_fault v row line)
  unfolding here_text here_fault pick
  here_same row line h =
      split (present v row)
      (λ a.
      let b = present_same row ∙ a in
      let r = row_same row h a in
      (rw (a, b) (row_agree row v w r), rw (a, b) (fault_agree row line v w r (rule_same row line h a))))
      (λ a. let b = present_same row ∙ a in (rw (a, b), rw (a, b)))

  text_from_lem : (n row : ℕ) → n + row ≤ row_count → text_from w n row ≡ text_from v n row
  unfolding text_from
  text_from_lem zero row h = refl
  text_from_lem (suc n) row h =
      let e = (here_same row 0 (omega arith)).0 in
      let r = text_from_lem n (row + 1) (omega arith) in
      λ d. e d ++ r d

  fault_from_lem : (n row line : ℕ) → n + row ≤ row_count → fault_from w n row line ≡ fault_from v n row line
  unfolding fault_from line_after
  fault_from_lem zero row line h = refl
  fault_from_lem (suc n) row line h =
      let e = (here_same row line (omega arith)).1 in
      let r = fault_from_lem n (row + 1) (pick (present v row) (line + 1) line) (omega arith) in
      rw (present_same row) (λ d. or_else (e d) (r d))

  pub text_same : text_from w row_count 0 ≡ text_from v row_count 0
  text_same = text_from_lem row_count 0 (omega arith)

  pub fault_same : fault_from w row_count 0 1 ≡ fault_from v row_count 0 1
  fault_same = fault_from_lem row_count 0 1 (omega arith)

  -- a row that the text has not
  absent : (row : ℕ) → row < row_count → present w row ≡ false → (m : ℕ) → place_of row ≤ m → m < place_of row + width_of row → get_or w m 0 ≡ 0
  absent row h a =
      by_part row h
      (λ l. never (sym a ∙ head_present w row l))
      (λ i l e m g b.
      let n = ltb-false i (get_or w (place_for "phases") 0) (sym (phase_counted w i l) ∙ rw (← e) at a) in
      let c : s.phase_count ≤ i = rw (counts_same.0 ∙ phases_at s) at n in
      phase_number w i m l (rw (← e) at g) (rw (← e) at b) ∙ ap (λ (x : Phase). get_or (phase_numbers x) (m - (phase_place i)) 0) (phase_none i l c) ∙ zeros_in 8 (m - (phase_place i)))
      (λ l k. never (sym a ∙ middle_present w row l k))
      (λ i l e m g b.
      let n = ltb-false i (get_or w (place_for "points") 0) (sym (point_counted w i l) ∙ rw (← e) at a) in
      let c : s.point_count ≤ i = rw (counts_same.1 ∙ points_at s) at n in
      point_number w i m l (rw (← e) at g) (rw (← e) at b) ∙ ap (λ (x : Point). get_or (point_numbers x) (m - (point_place i)) 0) (point_none i l c) ∙ zeros_in 2 (m - (point_place i)))

  pub clear : Clear 0 w
  clear row z h m g b =
      split (present w row)
      (λ a. held_clear row h m (omega (arith, held_here w row a)) b)
      (λ a. absent row h a m (omega (arith, held_none w row a)) b)

  pub whole_same : 1 ≤ s.point_count → whole_fault (trimmed s) ≡ whole_fault s
  unfolding whole_fault trimmed
  whole_same h =
      let transfer = kept_take zero_phase s.phase_count s.phases in
      let dwell = kept_take 0 s.dwell_count s.dwell in
      let last = kept_at zero_point s.point_count s.points (s.point_count - 1) (omega arith) in
      λ d.
      or_else (unless (leb s.l47 s.l18) RelocationBeyondStorage 0)
      (or_else (unless (leb (least_warning s.l19) s.l31) WarningTooShort 0)
      (or_else (unless (leb (line48 s) (farthest (last d).feet)) RelocationTooFar 0)
      (or_else (unless (track_fits (transfer d) s.track_yellow s.track_red) TrackLongerThanTransfer 0) (unless (all_listed (transfer d) (dwell d)) DwellPhaseNotListed 0))))
