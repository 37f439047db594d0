-- How large the far times are, that each is the exact fraction taken up, and that none falls with distance: straight between entries that don't. Assumes nothing.
use mathlib.Core.Path.{◌≡◌, refl, ap}
use Prim.Native.Nat.{ℕ, ◌+◌, ◌*◌, ◌≤◌, ◌<◌, min}
use native.Mathlib.Nat.{le_of_mul-le-mul_right}
use native.Mathlib.Omega.{arith}
use lib.IntN.{ℤ}
use borrow.Author.Tests.{ltb-true, ltb-false}
use Rattle.units.specs.declared.Feet.{Feet}
use Rattle.units.proofs.Rounding.{up_le, up_enough, up_taken, up_rises}
use Rattle.units.proofs.Steps.{cases}
use Rattle.sheet.specs.declared.Vehicle.{Vehicle}
use Rattle.far_table.specs.FarTable.{far_entry_of}
use Rattle.far_table.proofs.FarColumns.{rises, small, within}
use Rattle.scale.specs.declared.Place.{Place}
use Rattle.scale.specs.Scale.{climb, is_car, placed, column_of, mix_of, line_of, spread_of, Standing}
use Rattle.scale.proofs.Places.{column_stands}
use Rattle.scale.proofs.Mixes.{areas, spread_le, spread_ge, mix_more, further}
use Rattle.far.specs.Far.{after_car, far_row_of, chosen, far_column_of, far_table_of, far_of, far_time_of}
use Rattle.far.specs.Promises.{FarTakenUp, FarNeverFalls, FarFits, FarWithin}
use Rattle.far.proofs.Rows.{row_stands, same_width, step_on, past_on}

pub chosen_le : (g : ℤ) → chosen g ≤ 80
unfolding chosen
chosen_le g = cases (λ (n : ℕ). n ≤ 80) _ _ _ (λ e. omega arith) (λ e. omega arith)

-- which it is, by the climb
pub chosen_low : (g : ℤ) → climb g < 10 → chosen g ≡ 0
unfolding chosen
chosen_low g h = cases (λ (n : ℕ). n ≡ 0) _ _ _ (λ e. refl) (λ e. absurd (omega (arith, ltb-false)))

pub chosen_steep : (g : ℤ) → 10 ≤ climb g → chosen g ≡ min (climb g) 80
unfolding chosen
chosen_steep g h = cases (λ (n : ℕ). n ≡ min (climb g) 80) _ _ _ (λ e. absurd (omega (arith, ltb-true))) (λ e. refl)

after : (p : Place) → Standing 20 14 p → Standing 20 15 (after_car p)
after p h = record { near = h.near; apart = h.apart; narrow = h.narrow; inside = omega (arith, h.inside) }

pub far_column_stands : (v : Vehicle) (g : ℤ) → Standing 20 15 (far_column_of v g)
unfolding far_column_of
far_column_stands v g =
    cases (λ (p : Place). Standing 20 15 p) (is_car v) (placed 0 0 1) (after_car (column_of v (chosen g)))
    (λ e. record { near = omega arith; apart = omega arith; narrow = omega arith; inside = omega arith })
    (λ e. after (column_of v (chosen g)) (column_stands v (chosen g) (chosen_le g)))

module _ (v : Vehicle) (g : ℤ) (d : Feet) where
  abbrev c : Place
  c = far_column_of v g

  abbrev r : Place
  r = far_row_of (min d.0 1000)

  hc : Standing 20 15 c
  hc = far_column_stands v g

  hr : Standing 25 24 r
  hr = row_stands (min d.0 1000) (omega arith)

  widths : (1 ≤ c.width * r.width) × (c.width * r.width ≤ 500)
  widths = areas far_entry_of 20 15 25 24 c r hc hr

  bound : spread_of far_entry_of c r ≤ 1048 * (c.width * r.width)
  bound = spread_le far_entry_of 20 15 25 24 c r hc hr 1048 small

  floor : 147 * (c.width * r.width) ≤ spread_of far_entry_of c r
  floor = spread_ge far_entry_of 20 15 25 24 c r hc hr 147 (λ col row hcol hrow. (within col row hcol hrow).0)

  pub fits : ((far_of v g d).over ≤ 524000) × (1 ≤ (far_of v g d).under) × ((far_of v g d).under ≤ 500)
  unfolding far_of far_table_of
  fits = (omega (arith, widths, bound), widths.0, widths.1)

  -- the largest entry, over the same
  pub far_share : (far_of v g d).over ≤ 1048 * (far_of v g d).under
  unfolding far_of far_table_of
  far_share = bound

  pub in_bounds : (147 ≤ (far_time_of v g d).0) × ((far_time_of v g d).0 ≤ 1048)
  unfolding far_time_of far_of far_table_of
  in_bounds =
      let over = spread_of far_entry_of c r in
      let under = c.width * r.width in
      (le_of_mul-le-mul_right (omega (arith, floor, up_enough over under widths.0)) widths.0, up_le over under 1048 widths.0 bound)

pub far_fits : FarFits
far_fits v g d = fits v g d

pub far_within : FarWithin
far_within v g d = in_bounds v g d

pub far_taken_up : FarTakenUp
unfolding far_time_of
far_taken_up v g d = up_taken (far_of v g d).over (far_of v g d).under (far_fits v g d).1

-- a row, straight between two columns, does not fall to the next row
pub lines_rise : (v : Vehicle) (g : ℤ) (k : ℕ) → k + 1 < 24 → line_of far_entry_of (far_column_of v g) k ≤ line_of far_entry_of (far_column_of v g) (k + 1)
unfolding line_of
lines_rise v g k h =
    let p = far_column_of v g in
    let inside = (far_column_stands v g).inside in
    mix_more (far_entry_of k p.step) (far_entry_of k (p.step + 1)) (far_entry_of (k + 1) p.step) (far_entry_of (k + 1) (p.step + 1)) p
    (rises p.step k (omega arith) (omega arith))
    (rises (p.step + 1) k inside (omega arith))

pub far_never_falls : FarNeverFalls
unfolding far_time_of far_of far_table_of spread_of
far_never_falls v g d e from le to =
    let p = far_column_of v g in
    let f = line_of far_entry_of p in
    let near : min d.0 1000 ≤ min e.0 1000 = omega arith in
    let end : min e.0 1000 ≤ 1000 = omega arith in
    let here = far_row_of (min d.0 1000) in
    let there = far_row_of (min e.0 1000) in
    let same = same_width (min d.0 1000) (min e.0 1000) near end in
    let more = further f 24 (lines_rise v g) 25 here there (hr v g d) (hr v g e) same (step_on (min d.0 1000) (min e.0 1000) near end) (past_on (min d.0 1000) (min e.0 1000) near end) in
    rw (ap (λ (n : ℕ). p.width * n) same) (up_rises (mix_of (f here.step) (f (here.step + 1)) here) (mix_of (f there.step) (f (there.step + 1)) there) (p.width * there.width) (widths v g e).0 more)
