-- The numbers stored place by place are those of the rows' order. Assumes nothing.
use mathlib.Core.Path.{◌≡◌, ◌∙◌}
use mathlib.Core.List.{List, [], ◌∷◌}
use Prim.Native.Nat.{ℕ}
use lib.ListN.{replicate}
use lib.Seq.{sets}
use Rattle.sheet.specs.declared.Sheet.{Sheet}
use Rattle.sheet.specs.Zero.{zero_phase, zero_point}
use Rattle.rows.specs.Table.{most_phases, most_points, number_count, place_for}
use Rattle.numbers.specs.Flat.{vehicle_number, grade_number, phase_numbers, point_numbers, itself, numbers_from, dwell_place, flat_of}

-- all but the phases, the numbers for dwell and the points, with the vehicle's and the grades' numbers v, g and h
abbrev pub plain : Sheet → ℕ → ℕ → ℕ → List ℕ
plain s v g h =
    sets
    (sets
    (sets (replicate number_count 0) 0 (s.issue ∷ v ∷ g ∷ h ∷ s.l01 ∷ s.l02 ∷ s.phase_count ∷ []))
    (place_for "track")
    (s.track_yellow ∷ s.track_red ∷ s.dwell_count ∷ []))
    (place_for "l18")
    (s.l18 ∷ s.l19 ∷ s.l20 ∷ s.l28 ∷ s.l30 ∷ s.l31 ∷ s.l33 ∷ s.l37 ∷ s.l39 ∷ s.l47 ∷ s.l56 ∷ s.l57 ∷ s.l58 ∷ s.point_count ∷ [])

module _ (s : Sheet) where
  abbrev pub with_phases : List ℕ → List ℕ
  with_phases v = sets v (place_for "phase") (numbers_from phase_numbers zero_phase most_phases 0 s.phases)

  abbrev pub with_dwell : List ℕ → List ℕ
  with_dwell v = sets v (dwell_place 0) (numbers_from itself 0 most_phases 0 s.dwell)

  abbrev pub with_points : List ℕ → List ℕ
  with_points v = sets v (place_for "point") (numbers_from point_numbers zero_point most_points 0 s.points)

  pub stored : (v g h : ℕ) (a b c : List ℕ) → v ≡ vehicle_number s.vehicle → g ≡ grade_number s.grade → h ≡ grade_number s.grade2
      → a ≡ with_phases (plain s v g h) → b ≡ with_dwell a → c ≡ with_points b → c ≡ flat_of s
  unfolding flat_of numbers_from
  stored v g h a b c ev eg eh ea eb ec =
      ec ∙ (λ i. with_points (eb i)) ∙ (λ i. with_points (with_dwell (ea i))) ∙ (λ i. with_points (with_dwell (with_phases (plain s (ev i) (eg i) (eh i)))))
