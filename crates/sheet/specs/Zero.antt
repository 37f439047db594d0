-- "gives only zeros beside its number (vehicle car)": the sheet of zeros.
use Rattle.std.specs.Prelude.{pos, replicate}
use Rattle.sheet.specs.declared.Phase.{Phase}
use Rattle.sheet.specs.declared.Point.{Point}
use Rattle.sheet.specs.declared.Sheet.{Sheet}
use Rattle.sheet.specs.declared.Vehicle.TheVariants.{Car}

abbrev pub zero_phase : Phase
zero_phase = record { number = 0; green = 0; other = 0; yellow = 0; red = 0; walk = 0; clearance = 0; mode = 0 }

abbrev pub zero_point : Point
zero_point = record { feet = 0; tenths = 0 }

abbrev pub zero_sheet : Sheet
zero_sheet =
    record {
      issue = 0;
      vehicle = Car;
      grade = pos 0;
      grade2 = pos 0;
      l01 = 0;
      l02 = 0;
      phase_count = 0;
      phases = replicate 8 zero_phase;
      track_yellow = 0;
      track_red = 0;
      dwell_count = 0;
      dwell = replicate 8 0;
      l18 = 0;
      l19 = 0;
      l20 = 0;
      l28 = 0;
      l30 = 0;
      l31 = 0;
      l33 = 0;
      l37 = 0;
      l39 = 0;
      l47 = 0;
      l56 = 0;
      l57 = 0;
      l58 = 0;
      point_count = 0;
      points = replicate 16 zero_point;
    }
