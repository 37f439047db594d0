-- `writer::put_vehicle` meets its contract: the word of that place. Assumes nothing.
use native.Mathlib.Omega.{arith}
use mathlib.Core.Path.{sym}
use mathlib.Core.List.{[]}
use Prim.Native.Nat.{◌≤◌}
use lib.ListN.{get_or-eq_default}
use Rattle.rows.specs.Marks.{words}
use Rattle.text.proofs.Puts.{put_length, put_same, put_nil}
use Rattle.writer.proofs.put_vehicle.Goals as goal

pub shape_of-out-in-0 : goal.shape_of-out-in-0
shape_of-out-in-0 c =
    put_length c.put_word.ensures

pub returns-in-0 : goal.returns-in-0
unfolding words
returns-in-0 c =
    rw c.in-0.is c.put_word.ensures

pub shape_of-out-in-1 : goal.shape_of-out-in-1
shape_of-out-in-1 c =
    put_length c.put_word-in-1.ensures

pub returns-in-1 : goal.returns-in-1
unfolding words
returns-in-1 c =
    rw c.in-1.is c.put_word-in-1.ensures

pub shape_of-out-in-2 : goal.shape_of-out-in-2
shape_of-out-in-2 c =
    put_length c.put_word-in-2.ensures

pub returns-in-2 : goal.returns-in-2
unfolding words
returns-in-2 c =
    rw c.in-2.is c.put_word-in-2.ensures

pub shape_of-out-in-3 : goal.shape_of-out-in-3
shape_of-out-in-3 c =
    put_length c.put_word-in-3.ensures

pub returns-in-3 : goal.returns-in-3
unfolding words
returns-in-3 c =
    rw c.in-3.is c.put_word-in-3.ensures

pub returns-in_default : goal.returns-in_default
unfolding words
returns-in_default c =
    let none : 4 ≤ c.args.x = omega arith in put_same (sym (get_or-eq_default words [] {n = c.args.x} none)) (put_nil _ _)
