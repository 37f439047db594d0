-- The way through a test or a match, one law for each: `search steps` follows the code's branches along a definition's. Assumes nothing.
use Prim.Native.Nat.{ℕ}
use mathlib.Core.Bool.{Bool, true, false}
use mathlib.Core.Path.{◌≡◌, refl, sym, ◌∙◌}
use native.Mathlib.Omega.{arith}
use borrow.Author.Tests.{lt-ltb, le-ltb, le-leb, lt-leb, eq-eqb, ne_eqb}
use Rattle.units.specs.Numbers.{pick}

pub pick_yes : {A : Type 0} (b : Bool) (x y r : A) → b ≡ true → r ≡ x → r ≡ pick b x y
unfolding pick
pick_yes b x y r e h = rw e h

pub pick_not : {A : Type 0} (b : Bool) (x y r : A) → b ≡ false → r ≡ y → r ≡ pick b x y
unfolding pick
pick_not b x y r e h = rw e h

-- the test's outcome, where a function with a contract gave it
pub flag : (f b v : Bool) → f ≡ b → f ≡ v → b ≡ v
flag f b v p q = sym p ∙ q

pub ruleset steps = (pick_yes, pick_not, flag, eq-eqb, ne_eqb, lt-ltb, le-ltb, le-leb, lt-leb)

-- the arm of a match: what a definition gives at the constructor that was found
pub arm : {A B : Type 0} (f : A → B) (s v : A) (r : B) → s ≡ v → r ≡ f v → r ≡ f s
arm f s v r e h = rw e h

pub arm2 : {P A B : Type 0} (f : P → A → B) (p : P) (s v : A) (r : B) → s ≡ v → r ≡ f p v → r ≡ f p s
arm2 f p s v r e h = rw e h

pub arm3 : {P Q A B : Type 0} (f : P → Q → A → B) (p : P) (q : Q) (s v : A) (r : B) → s ≡ v → r ≡ f p q v → r ≡ f p q s
arm3 f p q s v r e h = rw e h

pub arm4 : {P Q R A B : Type 0} (f : P → Q → R → A → B) (p : P) (q : Q) (x : R) (s v : A) (r : B) → s ≡ v → r ≡ f p q x v → r ≡ f p q x s
arm4 f p q x s v r e h = rw e h

pub mid : {P Q A B : Type 0} (f : P → A → Q → B) (p : P) (q : Q) (s v : A) (r : B) → s ≡ v → r ≡ f p v q → r ≡ f p s q
mid f p q s v r e h = rw e h

-- the same where the value matched is the first of two, or the last of five
pub head2 : {A P B : Type 0} (f : A → P → B) (s v : A) (p : P) (r : B) → s ≡ v → r ≡ f v p → r ≡ f s p
head2 f s v p r e h = rw e h

pub arm5 : {P Q R S A B : Type 0} (f : P → Q → R → S → A → B) (p : P) (q : Q) (x : R) (y : S) (s v : A) (r : B) → s ≡ v → r ≡ f p q x y v → r ≡ f p q x y s
arm5 f p q x y s v r e h = rw e h

-- a definition taken apart at its test
pub cases : {A : Type 0} (P : A → Type 0) (b : Bool) (x y : A) → (b ≡ true → P x) → (b ≡ false → P y) → P (pick b x y)
unfolding pick
cases P true x y f g = f refl
cases P false x y f g = g refl

pub split : {X : Type 0} (b : Bool) → (b ≡ true → X) → (b ≡ false → X) → X
split true f g = f refl
split false f g = g refl

-- no test both holds and fails
pub never : {X : Type 0} → false ≡ true → X
never e = absurd (let z : ◌≡◌ {A = ℕ} 0 1 = cc in omega arith)

-- two tests that both hold, one by one
pub both_left : (a b : Bool) → pick a b false ≡ true → a ≡ true
unfolding pick
both_left true b e = refl
both_left false b e = e

pub both_right : (a b : Bool) → pick a b false ≡ true → b ≡ true
unfolding pick
both_right true b e = e
both_right false b e = never e
