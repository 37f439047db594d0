-- The promises of the transfer hold: each by going along the list, from whatever phase is held so far. Assumes nothing.
use mathlib.Core.Path.{◌≡◌, refl, sym, ap, subst}
use mathlib.Core.Bool.{true, false}
use mathlib.Core.List.{List, [], ◌∷◌}
use mathlib.Core.Logic.{◌⊎◌, inl, inr, ⊎_elim}
use Prim.Native.Nat.{ℕ, zero, suc, ◌≤◌, ◌<◌}
use native.Mathlib.Nat.{le_refl, le_trans, not-suc-le-zero, le_of_suc-le-suc}
use native.Mathlib.Omega.{arith}
use lib.Dec.{ltb, leb, eqb}
use lib.ListN.{length}
use borrow.Author.Tests.{ltb-true, ltb-false, leb-true, leb-false}
use Rattle.units.specs.Lists.{All}
use Rattle.units.proofs.Steps.{steps, cases, split}
use Rattle.units.specs.Numbers.{pick, tenths}
use Rattle.units.specs.declared.Tenths.{Tenths}
use Rattle.sheet.specs.declared.Phase.{Phase}
use Rattle.sheet.specs.Zero.{zero_phase}
use Rattle.transfer.specs.declared.Users.{Users}
use Rattle.transfer.specs.declared.Users.TheVariants.{Vehicles, Pedestrians}
use Rattle.transfer.specs.Promises.{nth, Largest, Shown, Listed, LowestOnTie, NoPedestrians, Sixteen, Bounded, AtMost, AboveSixteen, WithinSixteen, TrackFits}
use Rattle.transfer.specs.Transfer.{pedestrian_time, time_of, worse_of, worst_from, worst_of, line16, track_fits}

module _ (of : Users) where
  abbrev time : Phase → ℕ
  time p = (time_of of p).0

  later : (p q : Phase) → time p < time q → q ≡ worse_of of p q
  unfolding worse_of
  later p q h = search steps

  -- also on a tie
  kept : (p q : Phase) → time q ≤ time p → p ≡ worse_of of p q
  unfolding worse_of
  kept p q h = search steps

  -- what holds of both phases holds of the worse
  of_both : (P : Phase → Type 0) (p q : Phase) → P p → P q → P (worse_of of p q)
  unfolding worse_of
  of_both P p q a b = cases P _ q p (λ e. b) (λ e. a)

  at_least : (p q : Phase) → (time p ≤ time (worse_of of p q)) × (time q ≤ time (worse_of of p q))
  unfolding worse_of
  at_least p q =
      cases (λ (r : Phase). (time p ≤ time r) × (time q ≤ time r)) (ltb (time p) (time q)) q p
      (λ e. (omega (arith, ltb-true (time p) (time q) e), le_refl _))
      (λ e. (le_refl _, ltb-false (time p) (time q) e))

  -- what holds of the first and of every other holds of the worst
  pub of_all : (P : Phase → Type 0) (p : Phase) (ps : List Phase) → P p → All P ps → P (worst_from of p ps)
  unfolding worst_from
  of_all P p [] h a = h
  of_all P p (q ∷ qs) h a = of_all P (worse_of of p q) qs (of_both P p q h a.0) a.1

  first_least : (p : Phase) (ps : List Phase) → time p ≤ time (worst_from of p ps)
  unfolding worst_from
  first_least p [] = le_refl _
  first_least p (q ∷ qs) = le_trans (at_least p q).0 (first_least (worse_of of p q) qs)

  largest_from : (p : Phase) (ps : List Phase) (k : ℕ) → k < length ps → time (nth ps k) ≤ time (worst_from of p ps)
  unfolding worst_from
  largest_from p [] k h = absurd (not-suc-le-zero h)
  largest_from p (q ∷ qs) zero h = le_trans (at_least p q).1 (first_least (worse_of of p q) qs)
  largest_from p (q ∷ qs) (suc k) h = largest_from (worse_of of p q) qs k (le_of_suc-le-suc h)

  -- the first stays where the worst is not larger
  stays : (p : Phase) (ps : List Phase) → time (worst_from of p ps) ≤ time p → worst_from of p ps ≡ p
  unfolding worst_from
  stays p [] h = refl
  stays p (q ∷ qs) h =
      let e = kept p q (le_trans (le_trans (at_least p q).1 (first_least (worse_of of p q) qs)) h) in
      rw (← e) (stays p qs (rw (← e) at h))

  first_of : (p : Phase) (ps : List Phase) (k : ℕ)
      → k < length ps → time (nth ps k) ≡ time (worst_from of p ps) → time p < time (nth ps k)
      → ((j : ℕ) → j < k → time (nth ps j) < time (nth ps k)) → worst_from of p ps ≡ nth ps k
  unfolding worst_from
  first_of p [] k h e l before = absurd (not-suc-le-zero h)
  first_of p (q ∷ qs) zero h e l before =
      let taken = later p q l in
      let same = rw (← taken) at e in
      rw (← taken) (stays q qs (omega arith))
  first_of p (q ∷ qs) (suc k) h e l before =
      first_of (worse_of of p q) qs k (le_of_suc-le-suc h) e
      (of_both (λ (m : Phase). time m < time (nth qs k)) p q l (before 0 (omega arith)))
      (λ j i. before (suc j) (omega arith))

  -- the first, or one of the list that is larger
  abbrev Among : Phase → List Phase → Phase → Type 0
  Among p ps r = (r ≡ p) ⊎ ((time p < time r) × Shown of ps r)

  none_before : (q : Phase) (qs : List Phase) (t k : ℕ) → time q < t → ((j : ℕ) → j < k → time (nth qs j) < t) → (j : ℕ) → j < suc k → time (nth (q ∷ qs) j) < t
  none_before q qs t k h f zero l = h
  none_before q qs t k h f (suc j) l = f j (le_of_suc-le-suc l)

  further : (q r : Phase) (qs : List Phase) → time q < time r → Shown of qs r → Shown of (q ∷ qs) r
  further q r qs h w =
      record { place = suc w.place; inside = omega (arith, w.inside); is = w.is; first = none_before q qs (time r) w.place h w.first }

  starts : (p q r : Phase) (qs : List Phase) → time p < time q → Among q qs r → Among p (q ∷ qs) r
  starts p q r qs h =
      ⊎_elim
      (λ e. inr (rw e h, record { place = 0; inside = omega arith; is = e; first = λ j l. absurd (not-suc-le-zero l) }))
      (λ w. inr (omega (arith, w.0), further q r qs w.0 w.1))

  goes_on : (p q r : Phase) (qs : List Phase) → time q ≤ time p → Among p qs r → Among p (q ∷ qs) r
  goes_on p q r qs h = ⊎_elim inl (λ w. inr (w.0, further q r qs (omega (arith, w.0)) w.1))

  among : (p : Phase) (ps : List Phase) → Among p ps (worst_from of p ps)
  unfolding worst_from
  among p [] = inl refl
  among p (q ∷ qs) =
      split (ltb (time p) (time q))
      (λ e.
      let h = ltb-true (time p) (time q) e in
      subst (λ (m : Phase). Among p (q ∷ qs) (worst_from of m qs)) (later p q h) (starts p q (worst_from of q qs) qs h (among q qs)))
      (λ e.
      let h = ltb-false (time p) (time q) e in
      subst (λ (m : Phase). Among p (q ∷ qs) (worst_from of m qs)) (kept p q h) (goes_on p q (worst_from of p qs) qs h (among p qs)))

zero_time : (of : Users) → (time_of of zero_phase).0 ≡ 0
unfolding time_of pedestrian_time pick
zero_time Vehicles = refl
zero_time Pedestrians = refl

pub largest : Largest
largest of ps = largest_from of zero_phase ps

pub shown_above : (of : Users) (ps : List Phase) → 0 < (time_of of (worst_of of ps)).0 → Shown of ps (worst_of of ps)
shown_above of ps h =
    ⊎_elim (λ e. absurd (omega (arith, zero_time of, ap (λ (p : Phase). (time_of of p).0) e))) (λ w. w.1) (among of zero_phase ps)

none_above : (of : Users) (ps : List Phase) → ((k : ℕ) → k < length ps → (time_of of (nth ps k)).0 ≡ 0) → worst_of of ps ≡ zero_phase
none_above of ps none =
    ⊎_elim (λ e. e)
    (λ w.
    let s = w.1 in
    absurd (omega (arith, w.0, none s.place s.inside, ap (λ (p : Phase). (time_of of p).0) s.is)))
    (among of zero_phase ps)

pub listed : Listed
listed of ps = (λ k h above. shown_above of ps (omega (arith, largest of ps k h)), none_above of ps)

pub lowest_on_tie : LowestOnTie
lowest_on_tie of ps k h e above before = first_of of zero_phase ps k h e (omega (arith, zero_time of)) before

pub no_time : (p : Phase) → p.mode ≡ 0 → (time_of Pedestrians p).0 ≡ 0
unfolding time_of pedestrian_time pick
no_time p e = rw e refl

pub no_pedestrians : NoPedestrians
no_pedestrians ps a =
    let none = no_time (worst_of Pedestrians ps) (of_all Pedestrians (λ (p : Phase). p.mode ≡ 0) zero_phase ps refl a) in
    stays Pedestrians zero_phase ps (omega arith)

module _ (ps : List Phase) where
  abbrev l09 : ℕ
  l09 = (time_of Vehicles (worst_of Vehicles ps)).0

  abbrev l15 : ℕ
  l15 = (time_of Pedestrians (worst_of Pedestrians ps)).0

  not_below : (of : Users) → (time_of of (worst_of of ps)).0 ≤ (line16 ps).0
  not_below Vehicles = omega arith
  not_below Pedestrians = omega arith

  one_of : (of : Users) × (line16 ps ≡ time_of of (worst_of of ps))
  one_of =
      split (leb l09 l15)
      (λ e. let m : (line16 ps).0 ≡ l15 = omega (arith, leb-true l09 l15 e) in (Pedestrians, ap tenths m))
      (λ e. let m : (line16 ps).0 ≡ l09 = omega (arith, leb-false l09 l15 e) in (Vehicles, ap tenths m))

pub sixteen : Sixteen
sixteen ps = (not_below ps, one_of ps, λ of k h. le_trans (largest of ps k h) (not_below ps of))

pub time_at_most : (of : Users) (p : Phase) → Bounded p → (time_of of p).0 ≤ 2118
unfolding time_of pedestrian_time
time_at_most Vehicles p b = omega arith
time_at_most Pedestrians p b =
    cases (λ (t : Tenths). t.0 ≤ 2118) (eqb p.mode 0) _ _
    (λ e. omega arith)
    (λ e. cases (λ (t : Tenths). t.0 ≤ 2118) (eqb p.mode 1) _ _ (λ d. omega arith) (λ d. omega arith))

zero_bounded : Bounded zero_phase
zero_bounded =
    record { green = omega arith; other = omega arith; yellow = omega arith; red = omega arith; walk = omega arith; clearance = omega arith }

worst_at_most : (of : Users) (ps : List Phase) → All Bounded ps → (time_of of (worst_of of ps)).0 ≤ 2118
worst_at_most of ps a = time_at_most of (worst_of of ps) (of_all of Bounded zero_phase ps zero_bounded a)

pub at_most : AtMost
at_most ps a = (λ of. worst_at_most of ps a, omega (arith, worst_at_most Vehicles ps a, worst_at_most Pedestrians ps a))

within : (ps : List Phase) (yellow red : ℕ) → WithinSixteen ps yellow red → true ≡ track_fits ps yellow red
within ps yellow red h = search steps

above : (ps : List Phase) (yellow red : ℕ) → AboveSixteen ps yellow red → false ≡ track_fits ps yellow red
above ps yellow red h = search steps

pub track_fits_lem : TrackFits
track_fits_lem ps yellow red = (λ h. sym (within ps yellow red h), λ h. sym (above ps yellow red h))
