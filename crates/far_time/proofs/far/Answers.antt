-- `far_time::far` meets its contract: the code's sums for a row are the definition's place. The grade goes on as bits, and the number of the bits is the grade. Assumes nothing.
use mathlib.Core.Path.{◌∙◌}
use Prim.Native.Nat.{min}
use native.Mathlib.Omega.{arith}
use mir.Facts.{to_z-of_z}
use Rattle.far_table.specs.FarTable.{far_entry_of}
use Rattle.scale.specs.Scale.{read_of}
use Rattle.far.specs.Far.{far_column_of, far_table_of, far_of}
use Rattle.far.proofs.Rows.{row_every}
use Rattle.far_time.proofs.far.Goals as goal

pub returns : goal.returns
unfolding far_of far_table_of
returns c =
    let a = c.args in
    c.read.ensures ∙ (λ i. read_of far_entry_of (far_column_of a.vehicle (to_z-of_z c.ranges.grade i)) (row_every (min a.distance.0 1000) (omega arith) i))
