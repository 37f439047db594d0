-- Which column serves, and what the time is at a row's own distance: there one row alone counts, and of it the entries of two columns. Assumes nothing.
use mathlib.Core.Path.{◌≡◌, refl, sym, ◌∙◌, ap}
use mathlib.Core.Bool.{Bool, true}
use Prim.Native.Nat.{ℕ, zero, suc, ◌+◌, ◌-◌, ◌*◌, ◌≤◌, ◌<◌, min}
use native.Mathlib.Nat.{le_of_mul-le-mul_right, mul_assoc, mul_comm, zero-mul}
use native.Mathlib.Omega.{arith}
use lib.Dec.{T, leb, ltb, leb→le, ltb→lt}
use lib.IntN.{ℤ, pos}
use lib.Signed.{lt_z}
use Rattle.units.specs.Numbers.{up, pick, feet}
use Rattle.units.proofs.Rounding.{up_le, up_enough, up_product}
use Rattle.units.proofs.Steps.{cases}
use Rattle.units.proofs.Tested.{also, also_left, also_right, all_below, at}
use Rattle.sheet.specs.declared.Vehicle.{Vehicle}
use Rattle.sheet.specs.declared.Vehicle.TheVariants.{Car, Su, Bus, Wb50}
use Rattle.far_table.specs.FarTable.{far_entry_of}
use Rattle.far_table.specs.Promises.{SteeperNeverFaster}
use Rattle.far_table.proofs.FarColumns.{uphill}
use Rattle.scale.specs.declared.Place.{Place}
use Rattle.scale.specs.Scale.{climb, placed, place_on, column_of, mix_of, line_of, spread_of}
use Rattle.scale.proofs.Signs.{climbs_less}
use Rattle.scale.proofs.Promised.{first_column}
use Rattle.scale.proofs.Mixes.{mix_le, mix_ge}
use Rattle.far.specs.Far.{after_car, far_row_of, chosen, far_column_of, far_table_of, far_of, far_time_of}
use Rattle.far.specs.Promises.{AnEntryAtItsColumn, BetweenTwoColumns, OneColumnForCars, FirstBelowTen, FirstBelowItsOwn, HalfWayAtTen}
use Rattle.far.proofs.Rows.{row_own}
use Rattle.far.proofs.Times.{chosen_le, chosen_low, far_column_stands}

-- ---- which column serves

pub one_column : OneColumnForCars
unfolding far_column_of pick
one_column g = refl

pub first_below_ten : FirstBelowTen
unfolding far_column_of column_of place_on pick
first_below_ten g h = rw (chosen_low g (climbs_less 10 (omega arith) g h)) (refl, refl, refl)

-- a grade below a bound chooses a grade below it
below : (n : ℕ) → 0 < n → (g : ℤ) → lt_z g (pos n) ≡ true → chosen g < n
unfolding chosen
below n some g h = cases (λ (k : ℕ). k < n) _ _ _ (λ e. some) (λ e. omega (arith, climbs_less n some g h))

module _ (v : Vehicle) (p : Place) (high : ℕ) (held : (g : ℕ) → g ≤ high → column_of v g ≡ p) where
  first_serves : (g : ℤ) → lt_z g (pos (high + 1)) ≡ true → after_car (column_of v (chosen g)) ≡ after_car p
  first_serves g h = ap after_car (held (chosen g) (omega (arith, below (high + 1) (omega arith) g h)))

pub first_below_its_own : FirstBelowItsOwn
unfolding far_column_of pick
first_below_its_own =
    (first_serves Su (placed 0 0 20) 20 first_column.0, first_serves Bus (placed 4 0 10) 10 first_column.1)

pub half_way : HalfWayAtTen
unfolding far_column_of chosen climb column_of place_on pick
half_way = refl

-- ---- at a row's own distance

-- the mixture of rows is the row itself, 25 times
row_alone : (f : ℕ → ℕ) (k : ℕ) → k < 24 → let r = far_row_of (min (425 + 25 * k) 1000) in (mix_of (f r.step) (f (r.step + 1)) r ≡ 25 * f k) × (r.width ≡ 25)
unfolding mix_of far_row_of place_on pick
row_alone f zero h = (omega arith, refl)
row_alone f (suc k) h =
    let e : min (425 + 25 * suc k) 1000 ≡ 450 + 25 * k = omega arith in
    let next : k + 1 ≡ suc k = omega arith in
    rw (e, sym (row_own k (omega arith))) (omega (arith, ap f next), refl)

-- so the time is one row's, between two columns
row_time : (v : Vehicle) (g : ℤ) (k : ℕ) → k < 24 → let c = far_column_of v g in (far_time_of v g (feet (425 + 25 * k))).0 ≡ up (25 * line_of far_entry_of c k) (c.width * 25)
unfolding far_time_of far_of far_table_of spread_of
row_time v g k h =
    let a = row_alone (line_of far_entry_of (far_column_of v g)) k h in
    λ i. up (a.0 i) ((far_column_of v g).width * a.1 i)

-- 25 times b in each column
evenly : (w b : ℕ) → 25 * (w * b) ≡ b * (w * 25)
evenly w b = omega (arith, mul_comm 25 (w * b), mul_assoc b w 25, mul_comm w b)

line_alone : (c : Place) (k : ℕ) → c.past ≡ 0 → line_of far_entry_of c k ≡ c.width * far_entry_of k c.step
unfolding line_of mix_of
line_alone c k e =
    let whole : c.width - c.past ≡ c.width = omega arith in
    rw (whole, e, zero-mul) (omega arith)

line_from_lem : (c : Place) (k b : ℕ) → c.past ≤ c.width → b ≤ far_entry_of k c.step → b ≤ far_entry_of k (c.step + 1) → c.width * b ≤ line_of far_entry_of c k
unfolding line_of
line_from_lem c k b near lo hi = mix_ge (far_entry_of k c.step) (far_entry_of k (c.step + 1)) b c near lo hi

line_to : (c : Place) (k b : ℕ) → c.past ≤ c.width → far_entry_of k c.step ≤ b → far_entry_of k (c.step + 1) ≤ b → line_of far_entry_of c k ≤ c.width * b
unfolding line_of
line_to c k b near lo hi = mix_le (far_entry_of k c.step) (far_entry_of k (c.step + 1)) b c near lo hi

pub an_entry : AnEntryAtItsColumn
an_entry v g k h e =
    let c = far_column_of v g in
    let b = far_entry_of k c.step in
    let alone : line_of far_entry_of c k ≡ c.width * b = line_alone c k e in
    row_time v g k h ∙ ap (λ (n : ℕ). up n (c.width * 25)) (ap (λ (n : ℕ). 25 * n) alone ∙ evenly c.width b) ∙ up_product b (c.width * 25) (omega (arith, (far_column_stands v g).apart))

-- a vehicle's places stand between its own columns, from the first to the last
abbrev pub among : ℕ → ℕ → Vehicle → ℕ → Bool
among first last v k = also (leb first ((column_of v k).step + 1)) (ltb ((column_of v k).step + 1) last)

slower : (first last : ℕ) (v : Vehicle) → T (all_below (among first last v) 81) → SteeperNeverFaster first last → (g : ℤ) (k : ℕ) → k < 24
    → far_entry_of k ((column_of v (chosen g)).step + 1) ≤ far_entry_of k ((column_of v (chosen g)).step + 1 + 1)
slower first last v t steep g k h =
    let step = (column_of v (chosen g)).step + 1 in
    let u = at (among first last v) 81 t (chosen g) (omega (arith, chosen_le g)) in
    steep step k (leb→le first step (also_left (leb first step) (ltb step last) u)) (ltb→lt step last (also_right (leb first step) (ltb step last) u)) h

-- where the grade is not a column's own, the steeper of the two is not the faster
steeper_slower : (v : Vehicle) (g : ℤ) (k : ℕ) → k < 24 → 0 < (far_column_of v g).past → far_entry_of k (far_column_of v g).step ≤ far_entry_of k ((far_column_of v g).step + 1)
unfolding far_column_of column_of place_on pick
steeper_slower Car g k h some = absurd (omega arith)
steeper_slower Su g k h some = slower 1 4 Su tt uphill.0 g k h
steeper_slower Bus g k h some = slower 5 9 Bus tt uphill.1 g k h
steeper_slower Wb50 g k h some = slower 10 14 Wb50 tt uphill.2 g k h

pub between_two : BetweenTwoColumns
between_two v g k h some =
    let c = far_column_of v g in
    let stands = far_column_stands v g in
    let lo = far_entry_of k c.step in
    let hi = far_entry_of k (c.step + 1) in
    let order = steeper_slower v g k h some in
    let line = line_of far_entry_of c k in
    let wide : 0 < c.width * 25 = omega (arith, stands.apart) in
    let least : c.width * lo ≤ line = line_from_lem c k lo stands.near (omega arith) order in
    let most : line ≤ c.width * hi = line_to c k hi stands.near order (omega arith) in
    rw (row_time v g k h)
    (le_of_mul-le-mul_right (omega (arith, least, evenly c.width lo, up_enough (25 * line) (c.width * 25) wide)) wide, up_le (25 * line) (c.width * 25) hi wide (omega (arith, most, evenly c.width hi)))
