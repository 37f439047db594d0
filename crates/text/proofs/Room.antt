-- How long a text can be by its counts of phases and points. Assumes nothing.
use Prim.Native.Nat.{ℕ, zero, suc, ◌+◌, ◌-◌, ◌*◌, ◌≤◌}
use mathlib.Core.Path.{◌≡◌, refl, ◌∙◌}
use mathlib.Core.List.{List}
use native.Mathlib.Omega.{arith}
use lib.ListN.{length, get_or, length-append}
use lib.Dec.{ltb}
use borrow.Author.Tests.{ltb-true, ltb-false}
use Rattle.units.specs.Numbers.{pick}
use Rattle.units.proofs.Steps.{split}
use Rattle.rows.specs.Table.{row_count, first_phase, most_phases, first_point, most_points, place_for, key_of, form_of, ranges_of, kind_of, width_of, present}
use Rattle.rows.specs.Longest.{longest_field, longest_fields, most_fields, longest_row, longest_from, longest}
use Rattle.text.specs.Text.{here_text, text_from}
use Rattle.text.proofs.Lengths.{short_row}

-- ---- the rows that a text has

unfoldable longest_here : List ℕ → ℕ → ℕ → ℕ
longest_here v zero row = 0
longest_here v (suc n) row = pick (present v row) (longest_row row) 0 + longest_here v n (row + 1)

short_present : (v : List ℕ) (row : ℕ) → length (here_text row v) ≤ pick (present v row) (longest_row row) 0
unfolding here_text pick
short_present v row = split (present v row) (λ t. rw t (short_row row v)) (λ t. rw t (omega arith))

short_counted : (v : List ℕ) (n row : ℕ) → length (text_from v n row) ≤ longest_here v n row
unfolding text_from longest_here
short_counted v zero row = omega arith
short_counted v (suc n) row =
    rw (length-append (here_text row v) (text_from v n (row + 1))) (omega (arith, short_present v row, short_counted v n (row + 1)))

parts : (v : List ℕ) (n m row : ℕ) → longest_here v (n + m) row ≡ longest_here v n row + longest_here v m (row + n)
unfolding longest_here
parts v zero m row = let a : zero + m ≡ m = omega arith in let b : row + zero ≡ row = omega arith in rw (a, b) (omega arith)
parts v (suc n) m row =
    let a : suc n + m ≡ suc (n + m) = omega arith in
    let b : row + suc n ≡ row + 1 + n = omega arith in
    rw (a, b) (omega (arith, parts v n m (row + 1)))

-- ---- c for each of n numbers from i on that is below p

unfoldable each : ℕ → ℕ → ℕ → ℕ → ℕ
each c p zero i = 0
each c p (suc n) i = pick (ltb i p) c 0 + each c p n (i + 1)

phases_most : (p n i : ℕ) → each 62 p n i ≤ 62 * (p - i)
unfolding each pick
phases_most p zero i = omega arith
phases_most p (suc n) i =
    split (ltb i p)
    (λ t. rw t (omega (arith, ltb-true i p t, phases_most p n (i + 1))))
    (λ t. rw t (omega (arith, ltb-false i p t, phases_most p n (i + 1))))

points_most : (p n i : ℕ) → each 20 p n i ≤ 20 * (p - i)
unfolding each pick
points_most p zero i = omega arith
points_most p (suc n) i =
    split (ltb i p)
    (λ t. rw t (omega (arith, ltb-true i p t, points_most p n (i + 1))))
    (λ t. rw t (omega (arith, ltb-false i p t, points_most p n (i + 1))))

-- ---- the four stretches of rows

abbrev past_phases : ℕ
past_phases = first_phase + most_phases

module _ (v : List ℕ) where
  abbrev phases : ℕ
  phases = get_or v (place_for "phases") 0

  abbrev points : ℕ
  points = get_or v (place_for "points") 0

  stretches : longest_here v row_count 0 ≡ longest_here v first_phase 0 + (longest_here v most_phases first_phase + (longest_here v (first_point - past_phases) past_phases + longest_here v most_points first_point))
  stretches =
      parts v first_phase (row_count - first_phase) 0
      ∙ (λ i. longest_here v first_phase 0 + parts v most_phases (row_count - past_phases) first_phase i)
      ∙ (λ i. longest_here v first_phase 0 + (longest_here v most_phases first_phase + parts v (first_point - past_phases) most_points past_phases i))

  of_phases : longest_here v most_phases first_phase ≡ each 62 phases most_phases 0
  unfolding longest_here each longest_fields longest_field most_fields key_of form_of width_of ranges_of kind_of present pick
  of_phases = refl

  of_points : longest_here v most_points first_point ≡ each 20 points most_points 0
  unfolding longest_here each longest_fields longest_field most_fields key_of form_of width_of ranges_of kind_of present pick
  of_points = refl

  of_others : longest_here v first_phase 0 + longest_here v (first_point - past_phases) past_phases + (62 * most_phases + 20 * most_points) ≡ longest
  unfolding longest_here longest_from longest_fields longest_field most_fields key_of form_of width_of ranges_of kind_of present pick
  of_others = refl

  pub short_by_counts : length (text_from v row_count 0) + (62 * most_phases + 20 * most_points) ≤ longest + 62 * phases + 20 * points
  short_by_counts =
      omega (arith, short_counted v row_count 0, stretches, of_phases, of_points, of_others, phases_most phases most_phases 0, points_most points most_points 0)
