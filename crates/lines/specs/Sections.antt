-- The lines in the sections in which they are worked out, and the sections put together.
use Rattle.sheet.specs.declared.Sheet.{Sheet}
use Rattle.lines.specs.declared.Transfer.{Transfer}
use Rattle.lines.specs.declared.Vehicles.{Vehicles}
use Rattle.lines.specs.declared.Pedestrians.{Pedestrians}
use Rattle.lines.specs.declared.Clearance.{Clearance}
use Rattle.lines.specs.declared.Warning.{Warning}
use Rattle.lines.specs.declared.Gates.{Gates}
use Rattle.lines.specs.declared.Green.{Green}
use Rattle.lines.specs.declared.Street.{Street}
use Rattle.lines.specs.declared.Lines.{Lines}
use Rattle.lines.specs.Lines.{l01, l02, l03, l04, l05, l06, l07, l08, l09, l10, l11, l12, l13, l14, l15, l16, l17, l18, l19, l20, l21, l22, l23, l24, l25, l28, l29, l30, l31, l32, l33, l34, l35, l37, l38, l39, l40, l42, l43, l44, l47, l48, l49, l50, l51, l54, l55, l56, l57, l58, l59, l60, l61}

unfoldable pub transfer_lines : Sheet → Transfer
transfer_lines s = record { l01 = l01 s; l02 = l02 s; l03 = l03 s; l16 = l16 s; l17 = l17 s }

unfoldable pub vehicles_lines : Sheet → Vehicles
vehicles_lines s = record { l04 = l04 s; l05 = l05 s; l06 = l06 s; l07 = l07 s; l08 = l08 s; l09 = l09 s }

unfoldable pub pedestrians_lines : Sheet → Pedestrians
pedestrians_lines s = record { l10 = l10 s; l11 = l11 s; l12 = l12 s; l13 = l13 s; l14 = l14 s; l15 = l15 s }

unfoldable pub clearance_lines : Sheet → Clearance
clearance_lines s = record { l18 = l18 s; l19 = l19 s; l20 = l20 s; l21 = l21 s; l22 = l22 s; l23 = l23 s; l24 = l24 s; l25 = l25 s }

unfoldable pub warning_lines : Sheet → Warning
warning_lines s = record { l28 = l28 s; l29 = l29 s; l30 = l30 s; l31 = l31 s; l32 = l32 s; l33 = l33 s; l34 = l34 s; l35 = l35 s }

unfoldable pub gates_lines : Sheet → Gates
gates_lines s = record { l37 = l37 s; l38 = l38 s; l39 = l39 s; l40 = l40 s; l42 = l42 s; l43 = l43 s; l44 = l44 s }

unfoldable pub green_lines : Sheet → Green
green_lines s = record { l47 = l47 s; l48 = l48 s; l49 = l49 s; l50 = l50 s; l51 = l51 s }

unfoldable pub street_lines : Sheet → Street
street_lines s = record { l54 = l54 s; l55 = l55 s; l56 = l56 s; l57 = l57 s; l58 = l58 s; l59 = l59 s; l60 = l60 s; l61 = l61 s }

-- lines 26, 27, 36, 41, 45, 46, 52 and 53 repeat others
unfoldable pub assemble : Transfer → Vehicles → Pedestrians → Clearance → Warning → Gates → Green → Street → Lines
assemble t v p c w g e b =
    record {
      l01 = t.l01;
      l02 = t.l02;
      l03 = t.l03;
      l04 = v.l04;
      l05 = v.l05;
      l06 = v.l06;
      l07 = v.l07;
      l08 = v.l08;
      l09 = v.l09;
      l10 = p.l10;
      l11 = p.l11;
      l12 = p.l12;
      l13 = p.l13;
      l14 = p.l14;
      l15 = p.l15;
      l16 = t.l16;
      l17 = t.l17;
      l18 = c.l18;
      l19 = c.l19;
      l20 = c.l20;
      l21 = c.l21;
      l22 = c.l22;
      l23 = c.l23;
      l24 = c.l24;
      l25 = c.l25;
      l26 = t.l17;
      l27 = c.l25;
      l28 = w.l28;
      l29 = w.l29;
      l30 = w.l30;
      l31 = w.l31;
      l32 = w.l32;
      l33 = w.l33;
      l34 = w.l34;
      l35 = w.l35;
      l36 = w.l33;
      l37 = g.l37;
      l38 = g.l38;
      l39 = g.l39;
      l40 = g.l40;
      l41 = t.l03;
      l42 = g.l42;
      l43 = g.l43;
      l44 = g.l44;
      l45 = c.l22;
      l46 = c.l23;
      l47 = e.l47;
      l48 = e.l48;
      l49 = e.l49;
      l50 = e.l50;
      l51 = e.l51;
      l52 = t.l17;
      l53 = c.l22;
      l54 = b.l54;
      l55 = b.l55;
      l56 = b.l56;
      l57 = b.l57;
      l58 = b.l58;
      l59 = b.l59;
      l60 = b.l60;
      l61 = b.l61;
    }
