-- What the sheet held says to the sequence.
use Rattle.std.specs.Prelude.{Bool}
use Rattle.sheet.specs.declared.Sheet.{Sheet}
use Rattle.sheet.specs.Refusals.{is_fine}
use Rattle.rules.specs.Rules.{ticks}
use Rattle.lines.specs.Worksheet.{worksheet_of}
use Rattle.stage.specs.declared.Lengths.{Lengths}
use Rattle.measured.specs.declared.Measured.{Measured}

-- lines 3 and 51 in ticks, "A tick is one tenth", and the track's yellow and red
abbrev pub lengths_of : Sheet → Lengths
lengths_of s =
    record {
      l03 = ticks (worksheet_of s).lines.l03;
      l51 = ticks (worksheet_of s).lines.l51;
      track_yellow = s.track_yellow;
      track_red = s.track_red;
    }

-- the sheet is not refused
abbrev pub accepted : Sheet → Bool
accepted s = is_fine (worksheet_of s).answer

abbrev pub measure_of : Sheet → Measured
measure_of s = record { answer = (worksheet_of s).answer; lengths = lengths_of s }
