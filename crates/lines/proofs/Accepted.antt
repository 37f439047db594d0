-- The lines of an accepted sheet show what specs/Accepted.antt says: from the laws of the transfer and of the level time, and from what
-- an accepted sheet keeps. Assumes nothing.
use mathlib.Core.Path.{◌≡◌, sym, ◌∙◌, ap}
use mathlib.Core.List.{List, [], ◌∷◌}
use mathlib.Core.Logic.{inl, inr}
use Prim.Native.Nat.{ℕ, zero, suc, ◌-◌, ◌≤◌, ◌<◌}
use native.Mathlib.Numerals.{add-one}
use native.Mathlib.Nat.{not-suc-le-zero, le_of_suc-le-suc}
use native.Mathlib.Omega.{arith}
use lib.Dec.{leb, ltb, eqb}
use lib.ListN.{length, get_or}
use lib.Seq.{get_or-take, length-take-le}
use borrow.Author.Tests.{leb-true, leb-false, ltb-true, ltb-false, eqb-true, eqb-false}
use Rattle.units.specs.Numbers.{pick, feet, tenths}
use Rattle.units.specs.declared.Feet.{Feet}
use Rattle.units.specs.declared.Tenths.{Tenths}
use Rattle.units.proofs.Steps.{split, cases}
use Rattle.sheet.specs.declared.Sheet.{Sheet}
use Rattle.sheet.specs.declared.Phase.{Phase}
use Rattle.sheet.specs.declared.Point.{Point}
use Rattle.sheet.specs.Entries.{Shaped, listed_phases, listed_points, nth_phase, nth_point}
use Rattle.sheet.specs.Zero.{zero_phase, zero_point}
use Rattle.transfer.specs.declared.Users.{Users}
use Rattle.transfer.specs.declared.Users.TheVariants.{Vehicles, Pedestrians}
use Rattle.transfer.specs.Promises.{nth, Shown}
use Rattle.transfer.specs.Transfer.{pedestrian_time, time_of, worst_of}
use Rattle.transfer.proofs.Promised.{largest, listed, shown_above, no_time}
use Rattle.faults.specs.Whole.{line48, last_point}
use Rattle.faults.specs.Ranges.{SoundPhase, Sound}
use Rattle.faults.proofs.Sound.{sound}
use Rattle.faults.proofs.Accepted.{nth_phase_lem}
use Rattle.curve.specs.Promises.{Rising, Next}
use Rattle.curve.specs.Promises.Next.{here, later}
use Rattle.curve.proofs.Times.{level_line}
use Rattle.rules.specs.Rules.{waited}
use Rattle.rules.proofs.Promised.{waited_in_mode_one, none_in_mode_two}
use Rattle.lines.specs.Lines.{pedestrian_phase, l04, l05, l06, l07, l08, l09, l10, l11, l12, l13, l14, l15, l20, l23, l46, l48}
use Rattle.lines.specs.Accepted.{Chosen, VehicleLines, ShowsPedestrians, ShowsNoPedestrians, PedestrianLines, Around, LevelBetweenPoints, HasTimes, PointsAround}

-- ---- the phase that is shown

pedestrian_above : (p : Phase) → SoundPhase p → 1 ≤ p.mode → 0 < (time_of Pedestrians p).0
unfolding time_of pedestrian_time
pedestrian_above p h m =
    cases (λ (t : Tenths). 0 < t.0) (eqb p.mode 0) _ _
    (λ e. absurd (omega (arith, eqb-true p.mode 0 e)))
    (λ e.
    cases (λ (t : Tenths). 0 < t.0) (eqb p.mode 1) _ _
    (λ d. omega (arith, h.yellow.low))
    (λ d.
    let two : p.mode ≡ 2 = omega (arith, h.mode, eqb-false p.mode 1 d) in
    omega (arith, h.yellow.low, h.late two)))

module _ (s : Sheet) (shaped : Shaped s) (h : Sound s) where
  fits : s.phase_count ≤ length s.phases
  fits = omega (arith, shaped.phases, h.phase_count.high)

  long : length (listed_phases s) ≡ s.phase_count
  long = length-take-le s.phase_count s.phases fits

  same : (j : ℕ) → j < s.phase_count → nth (listed_phases s) j ≡ nth_phase s j
  same j c = get_or-take s.phase_count s.phases j zero_phase c

  numbers_rise : (k j : ℕ) → k < j → j < s.phase_count → (nth_phase s k).number < (nth_phase s j).number
  numbers_rise k zero l c = absurd (not-suc-le-zero l)
  numbers_rise k (suc j) l c =
      let step = rw (add-one j) at (h.rising j (omega arith)) in
      split (eqb k j)
      (λ e. rw (eqb-true k j e) step)
      (λ e. omega (arith, step, numbers_rise k j (omega (arith, eqb-false k j e)) (omega arith)))

  module _ (of : Users) where
    abbrev time : ℕ → ℕ
    time j = (time_of of (nth_phase s j)).0

    time_at : (j : ℕ) → j < s.phase_count → (time_of of (nth (listed_phases s) j)).0 ≡ time j
    time_at j c = ap (λ (p : Phase). (time_of of p).0) (same j c)

    module _ (w : Shown of (listed_phases s) (worst_of of (listed_phases s))) where
      inside : w.place < s.phase_count
      inside = rw long at w.inside

      is_nth : worst_of of (listed_phases s) ≡ nth_phase s w.place
      is_nth = w.is ∙ same w.place inside

      worst_time : (time_of of (worst_of of (listed_phases s))).0 ≡ time w.place
      worst_time = ap (λ (p : Phase). (time_of of p).0) is_nth

      chosen : Chosen s of w.place
      chosen =
          record {
            listed = inside;
            largest = λ j c. omega (arith, largest of (listed_phases s) j (rw long c), time_at j c, worst_time);
            lowest = λ j c other tie.
                split (ltb j w.place)
                (λ e. absurd (omega (arith, w.first j (ltb-true j w.place e), time_at j c, worst_time)))
                (λ e. numbers_rise w.place j (omega (arith, ltb-false j w.place e)) c);
          }

pub vehicle_lines : VehicleLines
unfolding time_of l04 l05 l06 l07 l08 l09
vehicle_lines s shaped a =
    let h = sound s a in
    let first = nth_phase_lem s shaped h 0 (omega (arith, h.phase_count.low)) in
    let w = (listed Vehicles (listed_phases s)).0 0 (omega (arith, long s shaped h, h.phase_count.low))
    (omega (arith, time_at s shaped h Vehicles 0 (omega (arith, h.phase_count.low)), first.yellow.low)) in
    let e = is_nth s shaped h Vehicles w in (
      w.place,
      chosen s shaped h Vehicles w,
      record {
        l04 = ap (λ (p : Phase). p.number) e;
        l05 = ap (λ (p : Phase). tenths p.green) e;
        l06 = ap (λ (p : Phase). tenths p.other) e;
        l07 = ap (λ (p : Phase). tenths p.yellow) e;
        l08 = ap (λ (p : Phase). tenths p.red) e;
        l09 = ap (time_of Vehicles) e;
      },
    )

shows : (s : Sheet) (p : Phase) → pedestrian_phase s ≡ p → ShowsPedestrians s p
unfolding l10 l11 l12 l13 l14 l15
shows s p e =
    let yellow = ap (λ (q : Phase). waited q q.yellow) e in
    let red = ap (λ (q : Phase). waited q q.red) e in
    record {
      l10 = ap (λ (q : Phase). q.number) e;
      l11 = ap (λ (q : Phase). tenths q.walk) e;
      l12 = ap (λ (q : Phase). tenths q.clearance) e;
      l13 = (λ m. yellow ∙ waited_in_mode_one p p.yellow m, λ m. yellow ∙ none_in_mode_two p p.yellow m);
      l14 = (λ m. red ∙ waited_in_mode_one p p.red m, λ m. red ∙ none_in_mode_two p p.red m);
      l15 = ap (time_of Pedestrians) e;
    }

none_shown : (s : Sheet) → pedestrian_phase s ≡ zero_phase → ((j : ℕ) → j < s.phase_count → (nth_phase s j).mode ≡ 0) → ShowsNoPedestrians s
unfolding l10 l11 l12 l13 l14 l15 waited time_of pedestrian_time pick
none_shown s e modes =
    record {
      modes = modes;
      l10 = ap (λ (q : Phase). q.number) e;
      l11 = ap (λ (q : Phase). tenths q.walk) e;
      l12 = ap (λ (q : Phase). tenths q.clearance) e;
      l13 = ap (λ (q : Phase). waited q q.yellow) e;
      l14 = ap (λ (q : Phase). waited q q.red) e;
      l15 = ap (time_of Pedestrians) e;
    }

-- a pedestrian time of 0 is that of mode 0
mode_zero : (p : Phase) → SoundPhase p → (time_of Pedestrians p).0 ≡ 0 → p.mode ≡ 0
mode_zero p h t =
    split (eqb p.mode 0) (eqb-true p.mode 0) (λ e. absurd (omega (arith, pedestrian_above p h (omega (arith, eqb-false p.mode 0 e)))))

pub pedestrian_lines : PedestrianLines
pedestrian_lines s shaped a =
    let h = sound s a in
    let ps = listed_phases s in
    let longest = (time_of Pedestrians (worst_of Pedestrians ps)).0 in
    split (eqb longest 0)
    (λ e.
    let zero = eqb-true longest 0 e in
    let none : (k : ℕ) → k < length ps → (time_of Pedestrians (nth ps k)).0 ≡ 0 = λ k b. omega (arith, largest Pedestrians ps k b) in
    inl
    (none_shown s ((listed Pedestrians ps).1 none)
    (λ j c. mode_zero (nth_phase s j) (nth_phase_lem s shaped h j c) (sym (time_at s shaped h Pedestrians j c) ∙ none j (rw (long s shaped h) c)))))
    (λ e.
    let w = shown_above Pedestrians ps (omega (arith, eqb-false longest 0 e)) in
    let k = w.place in
    let p = nth_phase_lem s shaped h k (inside s shaped h Pedestrians w) in
    let t = worst_time s shaped h Pedestrians w in
    let m : 1 ≤ (nth_phase s k).mode = split (eqb (nth_phase s k).mode 0)
    (λ z. absurd (omega (arith, t, eqb-false longest 0 e, no_time (nth_phase s k) (eqb-true (nth_phase s k).mode 0 z))))
    (λ z. omega (arith, eqb-false (nth_phase s k).mode 0 z)) in
    inr (k, m, p.mode, chosen s shaped h Pedestrians w, shows s (nth_phase s k) (is_nth s shaped h Pedestrians w)))

-- ---- the points around a distance

rising_list : (xs : List Point) (z : Point) → ((i : ℕ) → suc i < length xs → (get_or xs i z).feet < (get_or xs (suc i) z).feet)
    → ((i : ℕ) → suc i < length xs → (get_or xs i z).tenths ≤ (get_or xs (suc i) z).tenths) → Rising xs
rising_list [] z f t = tt
rising_list (p ∷ []) z f t = tt
rising_list (p ∷ q ∷ qs) z f t =
    (f 0 (omega arith), t 0 (omega arith), rising_list (q ∷ qs) z (λ i b. f (suc i) (omega arith)) (λ i b. t (suc i) (omega arith)))

next_at : (xs : List Point) (z : Point) (i : ℕ) → suc i < length xs → Next (get_or xs i z) (get_or xs (suc i) z) xs
next_at [] z i b = absurd (not-suc-le-zero b)
next_at (p ∷ []) z i b = absurd (not-suc-le-zero (le_of_suc-le-suc b))
next_at (p ∷ q ∷ qs) z zero b = here
next_at (p ∷ q ∷ qs) z (suc i) b = later (next_at (q ∷ qs) z i (le_of_suc-le-suc b))

pub level_between_points : LevelBetweenPoints
level_between_points s d i shaped a around =
    let h = sound s a in
    let n = s.point_count in
    let ps = listed_points s in
    let long = length-take-le n s.points (omega (arith, shaped.points, h.point_count.high)) in
    let same : (j : ℕ) → j < n → get_or ps j zero_point ≡ nth_point s j = λ j c. get_or-take n s.points j zero_point c in
    let further : (j : ℕ) → suc j < length ps → (get_or ps j zero_point).feet < (get_or ps (suc j) zero_point).feet =
    λ j b. rw (same j (omega (arith, long)), same (suc j) (omega (arith, long))) (rw (add-one j) at (h.further j (omega (arith, long)))) in
    let slower : (j : ℕ) → suc j < length ps → (get_or ps j zero_point).tenths ≤ (get_or ps (suc j) zero_point).tenths =
    λ j b. rw (same j (omega (arith, long)), same (suc j) (omega (arith, long))) (rw (add-one j) at (h.slower j (omega (arith, long)))) in
    let c : suc i < n = omega (arith, around.listed) in
    let from : (get_or ps i zero_point).feet ≤ d.0 = rw (same i (omega arith)) around.from in
    let to : d.0 ≤ (get_or ps (suc i) zero_point).feet = rw (same (suc i) c) (rw (add-one i) at around.to) in
    let on = level_line ps (get_or ps i zero_point) (get_or ps (suc i) zero_point) d (rising_list ps zero_point further slower) (next_at ps zero_point i (rw long c)) from to in
    rw (add-one i, ← same i (omega arith), ← same (suc i) c) on

-- a distance not past point n has two points around it: from n downwards
around_below : (s : Sheet) → Sound s → (d : Feet) (n : ℕ) → n < s.point_count → d.0 ≤ (nth_point s n).feet → (i : ℕ) × Around s d i
around_below s h d zero c b =
    (0, record { listed = omega (arith, h.point_count.low); from = omega (arith, h.start.0); to = omega (arith, h.further 0 (omega (arith, h.point_count.low))) })
around_below s h d (suc n) c b =
    split (leb (nth_point s n).feet d.0)
    (λ e. (n, record { listed = omega arith; from = leb-true (nth_point s n).feet d.0 e; to = rw (add-one n) b }))
    (λ e. around_below s h d n (omega arith) (omega (arith, leb-false (nth_point s n).feet d.0 e)))

-- a distance up to line 48: not past the last point, or the last point is 400
module _ (s : Sheet) (h : Sound s) (d : Feet) (within : d.0 ≤ line48 s) where
  last_inside : s.point_count - 1 < s.point_count
  last_inside = omega (arith, h.point_count.low)

  reached : d.0 ≤ 400 → d.0 ≤ last_point s
  reached le =
      split (ltb (last_point s) 400)
      (λ e. omega (arith, h.distance.1 (ltb-true (last_point s) 400 e)))
      (λ e. omega (arith, ltb-false (last_point s) 400 e))

  around_near : d.0 ≤ 400 → (i : ℕ) × Around s d i
  around_near le = around_below s h d (s.point_count - 1) last_inside (reached le)

  at_four_hundred : 400 < d.0 → 400 ≤ last_point s
  at_four_hundred gt =
      split (ltb (last_point s) 400)
      (λ e. absurd (omega (arith, ltb-true (last_point s) 400 e, h.distance.1 (ltb-true (last_point s) 400 e))))
      (λ e. ltb-false (last_point s) 400 e)

  has_times : HasTimes s d
  has_times =
      (around_near, λ gt. (around_below s h (feet 400) (s.point_count - 1) last_inside (at_four_hundred gt), at_four_hundred gt, omega (arith, h.distance.0)))

pub points_around : PointsAround
unfolding l23 l46 l48
points_around s a =
    let h = sound s a in
    (around_near s h (l20 s) (omega arith) (omega (arith, h.l20.high)), has_times s h (l23 s) (omega arith), has_times s h (l48 s) (omega arith))
