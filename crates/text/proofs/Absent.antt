-- What the table says of a row that may be absent: which they are, and what they stand for. Assumes nothing.
use Prim.Native.Nat.{ℕ, ◌≤◌, ◌<◌}
use mathlib.Core.Path.{◌≡◌, refl}
use mathlib.Core.Bool.{Bool, true, false}
use lib.Dec.{T, eqb, leb, leb→le}
use borrow.Author.Tests.{eqb-true}
use Rattle.units.specs.Numbers.{pick}
use Rattle.units.proofs.Steps.{split, both_left, both_right}
use Rattle.units.proofs.Tested.{given, given_then, at}
use Rattle.rows.specs.Table.{as_before, must_stand, row_for, row_count, kind_of, absent_of, ranges_of, width_of, place_of}
use Rattle.text.specs.Read.{stands_for, may_lack}
use Rattle.text.specs.Promises.{AbsentIsFirstGrade, AbsentIsNone, OnlyTheseLack}

-- one that stands for the number before it has one before it
pub before_some : (row : ℕ) → row < row_count → as_before (absent_of row) ≡ true → 1 ≤ place_of row
unfolding absent_of place_of width_of ranges_of kind_of
before_some row h e =
    let t : T (as_before (absent_of row)) = rw e tt in
    leb→le 1 (place_of row)
    (given_then (as_before (absent_of row)) (leb 1 (place_of row)) (at (λ (r : ℕ). given (as_before (absent_of r)) (leb 1 (place_of r))) row_count tt row h) t)

pub absent_is_first_grade : AbsentIsFirstGrade
unfolding stands_for absent_of place_of width_of ranges_of kind_of pick
absent_is_first_grade v = refl

pub absent_is_none : AbsentIsNone
unfolding stands_for absent_of kind_of pick
absent_is_none v = refl

abbrev some : ℕ → Bool
some row = pick (must_stand (absent_of row)) false true

abbrev named : ℕ → Bool
named row = pick (eqb row (row_for "grade2")) true (eqb row (row_for "dwell"))

pub only_these_lack : OnlyTheseLack
unfolding may_lack absent_of kind_of pick
only_these_lack older row h m =
    let may : T (some row) = rw (both_right older (some row) m) tt in
    let t : T (named row) = given_then (some row) (named row) (at (λ (r : ℕ). given (some r) (named r)) row_count tt row h) may in (
      both_left older (some row) m,
      λ n. split (eqb row (row_for "grade2"))
          (λ a. absurd (n (eqb-true row (row_for "grade2") a)))
          (λ a. split (eqb row (row_for "dwell")) (λ b. eqb-true row (row_for "dwell") b) (λ b. absurd (rw (a, b) at t))),
    )
