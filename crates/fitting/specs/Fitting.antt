-- Refusal 20: "a refused sheet", then "a count above line 3" and what the stage shows.
use Rattle.std.specs.Prelude.{Bool, leb}
use Rattle.units.specs.Numbers.{both}
use Rattle.sheet.specs.declared.Sheet.{Sheet}
use Rattle.sheet.specs.Refusals.{is_fine}
use Rattle.stage.specs.Fitness.{stage_fits}
use Rattle.flow.specs.declared.Now.{Now}
use Rattle.measured.specs.declared.Measured.{Measured}

unfoldable pub fits_by : Measured → Sheet → Now → Bool
fits_by m s x = both (is_fine m.answer) (both (leb x.count m.lengths.l03) (stage_fits m.lengths s x.stage))
