-- `scaled::read` meets its contract: four entries of the table, mixed. The grade goes on as bits, and the number of the bits is the grade. Assumes nothing.
use mathlib.Core.Path.{◌≡◌, ◌∙◌, ap, refl}
use mir.Facts.{to_z-of_z}
use Rattle.scale.specs.Scale.{line_of, spread_of}
use Rattle.scaled.proofs.read.Goals as goal

pub returns : goal.returns
unfolding spread_of line_of
returns g c =
    let column : c.column-column.result ≡ g.T.Printed.columns c.args.vehicle c.args.grade =
    c.column-column.ensures.value ∙ ap (g.T.Printed.columns c.args.vehicle) (to_z-of_z c.ranges.grade) in
    rw (c.from.ensures, c.from-2.ensures, c.spread-over.ensures, c.entry-4.ensures, c.entry-3.ensures, c.entry-2.ensures, c.entry.ensures, column, c.every_25-row.ensures, c.saturating_sub.ensures, c.min.ensures, c.FIRST.ensures, c.LAST.ensures) refl
