-- Numbers that rise, and numbers of listed phases: from the test to what it says and back. Assumes nothing.
use mathlib.Core.Path.{◌≡◌, refl, sym, subst, ◌∙◌}
use mathlib.Core.Bool.{Bool, true, false}
use mathlib.Core.List.{List, [], ◌∷◌}
use Prim.Native.Nat.{ℕ, zero, suc, ◌+◌, ◌<◌, ◌≤◌}
use native.Mathlib.Nat.{not-suc-le-zero}
use native.Mathlib.Omega.{arith}
use lib.Dec.{eqb}
use lib.ListN.{length, get_or, drop, drop_of_length-le}
use borrow.Author.Tests.{ltb-true, eqb-true, lt-ltb, le-ltb, eq-eqb}
use Rattle.std.specs.List.{list_any, list_all}
use Rattle.units.specs.Numbers.{pick}
use Rattle.units.specs.Lists.{All}
use Rattle.units.proofs.Steps.{split, never, both_left, both_right}
use Rattle.units.proofs.Walk.{rest_at}
use Rattle.sheet.specs.declared.Phase.{Phase}
use Rattle.sheet.specs.Entries.{is_in}
use Rattle.faults.specs.Lines.{rises_after}
use Rattle.faults.specs.Whole.{listed_in, all_listed}

-- ---- 3

pub rise_steps : (x : ℕ) (ys : List ℕ) → rises_after x ys ≡ true → (i : ℕ) → suc i < length ys → get_or ys i 0 < get_or ys (suc i) 0
unfolding rises_after
rise_steps x [] e i h = absurd (not-suc-le-zero h)
rise_steps x (y ∷ []) e i h = absurd (omega arith)
rise_steps x (y ∷ z ∷ ys) e zero h = search (ltb-true, both_left, both_right)
rise_steps x (y ∷ z ∷ ys) e (suc i) h = rise_steps y (z ∷ ys) (search both_right) i (omega arith)

pub steps_rise : (x : ℕ) (ys : List ℕ) → (0 < length ys → x < get_or ys 0 0) → ((i : ℕ) → suc i < length ys → get_or ys i 0 < get_or ys (suc i) 0) → rises_after x ys ≡ true
unfolding rises_after pick
steps_rise x [] first steps = refl
steps_rise x (y ∷ ys) first steps =
    rw (lt-ltb x y (first (omega arith))) (steps_rise y ys (λ h. steps 0 (omega arith)) (λ i h. steps (suc i) (omega arith)))

-- ---- 12

-- what holds of each of the numbers holds of one that is among them
pub named_is : (P : ℕ → Type 0) (ns : List ℕ) → All P ns → (n : ℕ) → is_in ns n ≡ true → P n
unfolding is_in pick
named_is P [] a n t = never t
named_is P (m ∷ ms) a n t =
    split (eqb m n) (λ same. subst P (eqb-true m n same) a.0) (λ other. named_is P ms a.1 n (rw other at t))

pub listed_each : (ps : List Phase) (ns : List ℕ) → all_listed ps ns ≡ true → (n : ℕ) → is_in ns n ≡ true → listed_in ps n ≡ true
unfolding all_listed is_in pick
listed_each ps [] e n t = never t
listed_each ps (m ∷ ms) e n t =
    split (eqb m n)
    (λ same. subst (λ (k : ℕ). listed_in ps k ≡ true) (eqb-true m n same) (both_left (listed_in ps m) (all_listed ps ms) e))
    (λ other. listed_each ps ms (both_right (listed_in ps m) (all_listed ps ms) e) n (rw other at t))

pub each_listed : (ps : List Phase) (ns : List ℕ) → ((n : ℕ) → is_in ns n ≡ true → listed_in ps n ≡ true) → all_listed ps ns ≡ true
unfolding all_listed is_in pick
each_listed ps [] f = refl
each_listed ps (m ∷ ms) f =
    rw (f m (rw (eq-eqb m m refl) refl)) (each_listed ps ms (λ n t. f n (later n t (eqb m n))))
  where
    later : (n : ℕ) → is_in ms n ≡ true → (b : Bool) → pick b true (is_in ms n) ≡ true
    later n t true = refl
    later n t false = t

-- a number that is not
pub record Missing (ps : List Phase) (ns : List ℕ) : Type 0 where
  pub number : ℕ
  pub is_here : is_in ns number ≡ true
  pub missing : listed_in ps number ≡ false

pub one_missing : (ps : List Phase) (ns : List ℕ) → all_listed ps ns ≡ false → Missing ps ns
unfolding all_listed is_in pick
one_missing ps [] e = never (sym e)
one_missing ps (m ∷ ms) e =
    split (listed_in ps m)
    (λ t.
    let rest = one_missing ps ms (rw t at e) in
    record { number = rest.number; is_here = split (eqb m rest.number) (λ s. rw s refl) (λ s. rw s rest.is_here); missing = rest.missing })
    (λ t. record { number = m; is_here = rw (eq-eqb m m refl) refl; missing = t })

pub missing_fails : (ps : List Phase) (ns : List ℕ) → Missing ps ns → all_listed ps ns ≡ false
missing_fails ps ns m =
    split (all_listed ps ns) (λ t. never (sym m.missing ∙ listed_each ps ns t m.number m.is_here)) (λ t. t)

-- ---- a loop along the numbers: what is left at the i-th, and at the end

module _ (before : ℕ) (xs : List ℕ) (i : ℕ) where
  pub rise_next : i < length xs → before < get_or xs i 0 → rises_after before (drop i xs) ≡ rises_after (get_or xs i 0) (drop (i + 1) xs)
  unfolding rises_after pick
  rise_next h up = rw (rest_at 0 xs i h) (rw (lt-ltb before (get_or xs i 0) up) refl)

  pub rise_stop : i < length xs → get_or xs i 0 ≤ before → rises_after before (drop i xs) ≡ false
  unfolding rises_after pick
  rise_stop h down = rw (rest_at 0 xs i h) (rw (le-ltb before (get_or xs i 0) down) refl)

  pub rise_end : length xs ≤ i → rises_after before (drop i xs) ≡ true
  unfolding rises_after
  rise_end h = rw (drop_of_length-le xs {i = i} h) refl

-- ---- the definitions are the library's `any` and `all`, which the code runs

pub listed_any : (ps : List Phase) (n : ℕ) → list_any (λ (p : Phase). eqb p.number n) ps ≡ listed_in ps n
unfolding listed_in pick
listed_any [] n = refl
listed_any (p ∷ ps) n = split (eqb p.number n) (λ t. rw t refl) (λ t. rw t (listed_any ps n))

pub listed_all : (ps : List Phase) (ns : List ℕ) → list_all (listed_in ps) ns ≡ all_listed ps ns
unfolding all_listed pick
listed_all ps [] = refl
listed_all ps (n ∷ ns) = split (listed_in ps n) (λ t. rw t (listed_all ps ns)) (λ t. rw t refl)
