-- What the worksheet gives: the answer and the 61 lines, and the lines as plain numbers in order.
use Rattle.std.specs.Prelude.{ℕ, List, [], ◌∷◌}
use Rattle.units.specs.Numbers.{pick, feet, tenths, hundredths}
use Rattle.sheet.specs.declared.Sheet.{Sheet}
use Rattle.sheet.specs.Refusals.{is_fine}
use Rattle.faults.specs.Whole.{accept_of}
use Rattle.lines.specs.declared.Lines.{Lines}
use Rattle.lines.specs.declared.Worked.{Worked}
use Rattle.lines.specs.declared.Timed.{Timed}
use Rattle.lines.specs.Lines.{lines_of}

unfoldable pub zero_lines : Lines
zero_lines =
    record {
      l01 = tenths 0;
      l02 = tenths 0;
      l03 = tenths 0;
      l04 = 0;
      l05 = tenths 0;
      l06 = tenths 0;
      l07 = tenths 0;
      l08 = tenths 0;
      l09 = tenths 0;
      l10 = 0;
      l11 = tenths 0;
      l12 = tenths 0;
      l13 = tenths 0;
      l14 = tenths 0;
      l15 = tenths 0;
      l16 = tenths 0;
      l17 = tenths 0;
      l18 = feet 0;
      l19 = feet 0;
      l20 = feet 0;
      l21 = feet 0;
      l22 = tenths 0;
      l23 = feet 0;
      l24 = tenths 0;
      l25 = tenths 0;
      l26 = tenths 0;
      l27 = tenths 0;
      l28 = tenths 0;
      l29 = tenths 0;
      l30 = tenths 0;
      l31 = tenths 0;
      l32 = tenths 0;
      l33 = tenths 0;
      l34 = tenths 0;
      l35 = tenths 0;
      l36 = tenths 0;
      l37 = hundredths 0;
      l38 = tenths 0;
      l39 = tenths 0;
      l40 = tenths 0;
      l41 = tenths 0;
      l42 = tenths 0;
      l43 = tenths 0;
      l44 = tenths 0;
      l45 = tenths 0;
      l46 = feet 0;
      l47 = feet 0;
      l48 = feet 0;
      l49 = tenths 0;
      l50 = tenths 0;
      l51 = tenths 0;
      l52 = tenths 0;
      l53 = tenths 0;
      l54 = tenths 0;
      l55 = tenths 0;
      l56 = tenths 0;
      l57 = tenths 0;
      l58 = hundredths 0;
      l59 = tenths 0;
      l60 = tenths 0;
      l61 = tenths 0;
    }

-- "A refused .. worksheet .. gives only zeros beside its number"
unfoldable pub worksheet_of : Sheet → Worked
worksheet_of s = record { answer = accept_of s; lines = pick (is_fine (accept_of s)) (lines_of s) zero_lines }

-- of it, what the sequence goes by
abbrev pub timed_of : Sheet → Timed
timed_of s = record { answer = (worksheet_of s).answer; l03 = (worksheet_of s).lines.l03; l51 = (worksheet_of s).lines.l51 }

-- "then `L01=0` to `L61=297`, one line each"
unfoldable pub in_order : Lines → List ℕ
in_order l =
    l.l01.0
    ∷ l.l02.0
    ∷ l.l03.0
    ∷ l.l04
    ∷ l.l05.0
    ∷ l.l06.0
    ∷ l.l07.0
    ∷ l.l08.0
    ∷ l.l09.0
    ∷ l.l10
    ∷ l.l11.0
    ∷ l.l12.0
    ∷ l.l13.0
    ∷ l.l14.0
    ∷ l.l15.0
    ∷ l.l16.0
    ∷ l.l17.0
    ∷ l.l18.0
    ∷ l.l19.0
    ∷ l.l20.0
    ∷ l.l21.0
    ∷ l.l22.0
    ∷ l.l23.0
    ∷ l.l24.0
    ∷ l.l25.0
    ∷ l.l26.0
    ∷ l.l27.0
    ∷ l.l28.0
    ∷ l.l29.0
    ∷ l.l30.0
    ∷ l.l31.0
    ∷ l.l32.0
    ∷ l.l33.0
    ∷ l.l34.0
    ∷ l.l35.0
    ∷ l.l36.0
    ∷ l.l37.0
    ∷ l.l38.0
    ∷ l.l39.0
    ∷ l.l40.0
    ∷ l.l41.0
    ∷ l.l42.0
    ∷ l.l43.0
    ∷ l.l44.0
    ∷ l.l45.0
    ∷ l.l46.0
    ∷ l.l47.0
    ∷ l.l48.0
    ∷ l.l49.0
    ∷ l.l50.0
    ∷ l.l51.0
    ∷ l.l52.0
    ∷ l.l53.0
    ∷ l.l54.0
    ∷ l.l55.0
    ∷ l.l56.0
    ∷ l.l57.0
    ∷ l.l58.0
    ∷ l.l59.0
    ∷ l.l60.0
    ∷ l.l61.0
    ∷ []
