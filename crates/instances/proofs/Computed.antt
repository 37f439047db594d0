-- The lines of the instances' sheets, computed once, and the stages of their runs from what the sequence goes by, tick by tick. Assumes nothing.
use Prim.Native.Nat.{ℕ, ◌+◌}
use mathlib.Core.Bool.{true, false}
use mathlib.Core.List.{List, [], ◌∷◌, ◌++◌}
use mathlib.Core.Path.{◌≡◌, refl}
use Rattle.units.specs.Numbers.{up, pick}
use Rattle.std.specs.Prelude.{Ok}
use Rattle.sheet.specs.Refusals.{refused, or_else, unless}
use Rattle.sheet.specs.declared.Refusal.TheVariants.{ClearanceTooShort, TrackLongerThanTransfer}
use Rattle.sheet.specs.declared.Sheet.{Sheet}
use Rattle.sheet.specs.Entries.{is_in}
use Rattle.transfer.specs.Transfer.{pedestrian_time, time_of, worse_of, worst_from}
use Rattle.rows.specs.Table.{kind_of, form_of, ranges_of, width_of, place_of, used_ranges, in_range, in_ranges, present}
use Rattle.numbers.specs.Flat.{grade_number, numbers_from, flat_of}
use Rattle.faults.specs.Lines.{quiet_in_mode_zero, clears_yellow_and_red, phase_fault, starts_at_zero, point_rises, before_phase, point_fits, rises_after, rule_fault, row_fault, here_fault, line_after, fault_from}
use Rattle.faults.specs.Whole.{farthest, listed_in, all_listed, whole_fault, accept_of}
use Rattle.table.specs.Table.{table, entry_of}
use Rattle.scale.specs.Scale.{climb, place_on, column_of, mix_of, line_of, spread_of}
use Rattle.factor.specs.Factor.{row_of, table_of, factor_of}
use Rattle.curve.specs.Curve.{between_of, level_from, level_of, graded_of, curve_time_of, acceleration_of}
use Rattle.lines.specs.Cases.{sheet_with, paper_sheet}
use Rattle.lines.specs.Lines.{l03, l16, l17, l21, l22, l23, l24, l25, l29, l32, l34, l35, l36, l38, l40, l41, l43, l44, l45, l46, l48, l49, l50, l51, l52, l53, l54, l55, l59, l60, l61, lines_of}
use Rattle.lines.specs.Worksheet.{worksheet_of}
use Rattle.phase.specs.Times.{one_more, add_light, add_walker}
use Rattle.phase.specs.Ending.{after_walk, walk_over, clearance_over, green_over, after_green, after_yellow, phase_over, over_or_stays}
use Rattle.phase.specs.declared.Light.TheVariants.{Green, Red}
use Rattle.phase.specs.declared.Walker.TheVariants.{Walk, Clearance}
use Rattle.stage.specs.declared.Command.TheVariants.{None}
use Rattle.stage.specs.declared.Lengths.{Lengths}
use Rattle.stage.specs.declared.Place.TheVariants.{Normal, Train}
use Rattle.stage.specs.declared.Stage.{Stage}
use Rattle.stage.specs.declared.Stage.TheVariants.{TrackGreen, TrackYellow, TrackRed, Ending, ClearanceGreen, AllRed}
use Rattle.stage.specs.declared.Then.TheVariants.{ToTrack, ToClearance, ToDwell}
use Rattle.stage.specs.Commands.{may_start, allowed_in, allowed_at, allowed, home, next, ended, obeyed}
use Rattle.stage.specs.Listed.{find_in}
use Rattle.stage.specs.Shown.{in_normal, is_normal, normal_before, stays_normal}
use Rattle.stage.specs.Times.{add_one}
use Rattle.flow.specs.declared.Now.{Now}
use Rattle.flow.specs.Calls.{counting, count_to, count_after, answered, unless_owed, open_dropped, ending_dropped, dropped, becomes, begins, called, overdue}
use Rattle.flow.specs.Settling.{enter, settle_red, settle_yellow, settle_green, settled_as, settle}
use Rattle.flow.specs.Promises.{now}
use Rattle.flow.specs.Tick.{heard, ticked}
use Rattle.unit.specs.Runs.{Event, tick}
use Rattle.measured.specs.Measured.{lengths_of, accepted}
use Rattle.promises.specs.Demand.{up_to}
use Rattle.instances.specs.Instances.{calls, towards_four, naming, tight, advanced, levelled, side_streets, as_it_goes_off, ticks_back, stepped, own_lengths, clears_by, phases_of, as_yellow_starts}

-- what the sequence goes by on the paper's sheet, with line 51 left open
abbrev pub going : ℕ → Lengths
going l51 = record { l03 = 2; l51 = l51; track_yellow = 40; track_red = 20 }

abbrev pub paper : Lengths
paper = going 490

abbrev pub tightly : Lengths
tightly = going 480

-- of the two sheets of the gate and the trailer
abbrev pub longer : Lengths
longer = going 520

-- of the sheet that levels out past the rails
abbrev pub steeply : Lengths
steeply = going 300

-- a sheet that is accepted and goes by these
pub record Goes (s : Sheet) (t : Lengths) : Type 0 where
  pub fine : accepted s ≡ true
  pub lengths : lengths_of s ≡ t

pub record Worked : Type 0 where
  pub paper_goes : Goes paper_sheet paper
  pub paper_l17 : (worksheet_of paper_sheet).lines.l17.0 ≡ 227
  pub tight_goes : Goes tight tightly
  pub tight_l17 : (worksheet_of tight).lines.l17.0 ≡ 227
  pub tight_l25 : (worksheet_of tight).lines.l25.0 ≡ 206
  pub tight_l28 : (worksheet_of tight).lines.l28.0 ≡ 40
  pub tight_l34 : (worksheet_of tight).lines.l34.0 ≡ 473
  pub tight_l35 : (worksheet_of tight).lines.l35.0 ≡ 0
  pub tight_l40 : (worksheet_of tight).lines.l40.0 ≡ 482
  pub spared_goes : Goes (advanced 297) longer
  pub spared_l17 : (worksheet_of (advanced 297)).lines.l17.0 ≡ 227
  pub spared_l36 : (worksheet_of (advanced 297)).lines.l36.0 ≡ 297
  pub spared_l53 : (worksheet_of (advanced 297)).lines.l53.0 ≡ 71
  pub spared_l54 : (worksheet_of (advanced 297)).lines.l54.0 ≡ 77
  pub spared_l60 : (worksheet_of (advanced 297)).lines.l60.0 ≡ 78
  pub spared_l61 : (worksheet_of (advanced 297)).lines.l61.0 ≡ 297
  pub hit_goes : Goes (advanced 296) longer
  pub hit_l17 : (worksheet_of (advanced 296)).lines.l17.0 ≡ 227
  pub hit_l36 : (worksheet_of (advanced 296)).lines.l36.0 ≡ 296
  pub hit_l53 : (worksheet_of (advanced 296)).lines.l53.0 ≡ 71
  pub hit_l54 : (worksheet_of (advanced 296)).lines.l54.0 ≡ 77
  pub hit_l60 : (worksheet_of (advanced 296)).lines.l60.0 ≡ 78
  pub hit_l61 : (worksheet_of (advanced 296)).lines.l61.0 ≡ 297
  pub levelled_goes : Goes levelled steeply
  pub levelled_l25 : (worksheet_of levelled).lines.l25.0 ≡ 292
  pub side_goes : Goes side_streets paper
  pub side_l16 : (worksheet_of side_streets).lines.l16.0 ≡ ticks_back
  pub six_beside : accept_of (clears_by 55) ≡ Ok tt
  pub six_refused : accept_of (clears_by 54) ≡ refused ClearanceTooShort 9
  pub six_l17 : (l17 (clears_by 54)).0 ≡ 126
  pub six_lengths : own_lengths (clears_by 54) ≡ paper
  pub ten_beside : accept_of (phases_of 10) ≡ Ok tt
  pub ten_refused : accept_of (phases_of 9) ≡ refused TrackLongerThanTransfer 0
  pub ten_l17 : (l17 (phases_of 9)).0 ≡ 61
  pub ten_lengths : own_lengths (phases_of 9) ≡ paper

pub worked : Worked
unfolding up pick or_else unless pedestrian_time time_of worse_of worst_from kind_of form_of ranges_of width_of place_of used_ranges in_range in_ranges present grade_number numbers_from flat_of quiet_in_mode_zero clears_yellow_and_red phase_fault starts_at_zero point_rises before_phase point_fits rises_after rule_fault row_fault here_fault line_after fault_from farthest listed_in all_listed whole_fault accept_of table entry_of climb place_on row_of column_of mix_of line_of spread_of table_of factor_of between_of level_from level_of graded_of curve_time_of acceleration_of l03 l16 l17 l21 l22 l23 l24 l25 l29 l32 l34 l35 l36 l38 l40 l41 l43 l44 l45 l46 l48 l49 l50 l51 l52 l53 l54 l55 l59 l60 l61 lines_of worksheet_of sheet_with naming
worked =
    record {
      paper_goes = record { fine = refl; lengths = refl };
      paper_l17 = refl;
      tight_goes = record { fine = refl; lengths = refl };
      tight_l17 = refl;
      tight_l25 = refl;
      tight_l28 = refl;
      tight_l34 = refl;
      tight_l35 = refl;
      tight_l40 = refl;
      spared_goes = record { fine = refl; lengths = refl };
      spared_l17 = refl;
      spared_l36 = refl;
      spared_l53 = refl;
      spared_l54 = refl;
      spared_l60 = refl;
      spared_l61 = refl;
      hit_goes = record { fine = refl; lengths = refl };
      hit_l17 = refl;
      hit_l36 = refl;
      hit_l53 = refl;
      hit_l54 = refl;
      hit_l60 = refl;
      hit_l61 = refl;
      levelled_goes = record { fine = refl; lengths = refl };
      levelled_l25 = refl;
      side_goes = record { fine = refl; lengths = refl };
      side_l16 = refl;
      six_beside = refl;
      six_refused = refl;
      six_l17 = refl;
      six_lengths = refl;
      ten_beside = refl;
      ten_refused = refl;
      ten_l17 = refl;
      ten_lengths = refl;
    }

-- the stage after the events, past and present
abbrev pub before : Lengths → Sheet → List Event → Now
before t s past = stepped t s (now TrackGreen 0) past

abbrev pub shown : Lengths → Sheet → List Event → List Event → Stage
shown t s past es = (stepped t s (before t s past) es).stage

-- on a sheet with the paper's phase 4: met as it begins, whatever line 51 is
pub record Four (s : Sheet) (t : Lengths) : Type 0 where
  pub at_226 : shown t s towards_four (up_to 226 (calls 227)) ≡ Ending Normal 4 ToClearance (Red 19) (Clearance 100)
  pub at_227 : shown t s towards_four (up_to 227 (calls 227)) ≡ ClearanceGreen 0
  pub normal : in_normal (before t s towards_four).stage ≡ true

pub record Walked : Type 0 where
  pub paper_1 : shown paper paper_sheet [] (up_to 1 (calls 492)) ≡ TrackGreen
  pub paper_2 : shown paper paper_sheet [] (up_to 2 (calls 492)) ≡ ClearanceGreen 0
  pub paper_491 : shown paper paper_sheet [] (up_to 491 (calls 492)) ≡ ClearanceGreen 489
  pub paper_492 : shown paper paper_sheet [] (up_to 492 (calls 492)) ≡ TrackYellow Train ToDwell 0
  pub paper_four : Four paper_sheet paper
  pub counted_1 : shown paper paper_sheet (calls 1) (up_to 1 (calls 1)) ≡ ClearanceGreen 0
  pub transfer_1 : shown paper paper_sheet (towards_four ++ calls 226) (up_to 1 (calls 1)) ≡ ClearanceGreen 0
  pub off_again : before paper paper_sheet (tick None true ∷ (tick None false ∷ [])) ≡ now TrackGreen 0
  pub off_still : (ticked paper paper_sheet (now TrackGreen 0) None false).now ≡ now TrackGreen 0
  pub tight_1 : shown tightly tight [] (up_to 1 (calls 482)) ≡ TrackGreen
  pub tight_2 : shown tightly tight [] (up_to 2 (calls 482)) ≡ ClearanceGreen 0
  pub tight_four : Four tight tightly
  pub spared_four : Four (advanced 297) longer
  pub hit_four : Four (advanced 296) longer
  pub levelled_1 : shown steeply levelled [] (up_to 1 (calls 302)) ≡ TrackGreen
  pub levelled_2 : shown steeply levelled [] (up_to 2 (calls 302)) ≡ ClearanceGreen 0
  pub levelled_301 : shown steeply levelled [] (up_to 301 (calls 302)) ≡ ClearanceGreen 299
  pub levelled_302 : shown steeply levelled [] (up_to 302 (calls 302)) ≡ TrackYellow Train ToDwell 0
  pub side_552 : before paper side_streets (calls 552) ≡ now AllRed 2
  pub side_1 : (stepped paper side_streets (now AllRed 2) (up_to 1 as_it_goes_off)).stage ≡ Ending Train 4 ToTrack (Green 0) (Walk 0)
  pub side_last : (stepped paper side_streets (now AllRed 2) (up_to ticks_back as_it_goes_off)).stage ≡ Ending Train 4 ToTrack (Red 19) (Clearance 100)
  pub side_back : (stepped paper side_streets (now AllRed 2) (up_to (1 + ticks_back) as_it_goes_off)).stage ≡ TrackGreen
  pub six_126 : shown paper (clears_by 54) towards_four (calls 126) ≡ Ending Normal 4 ToClearance (Red 19) (Clearance 54)
  pub six_127 : shown paper (clears_by 54) towards_four (calls 127) ≡ ClearanceGreen 0
  pub ten_61 : shown paper (phases_of 9) [] (as_yellow_starts 59) ≡ TrackRed Normal ToClearance 19
  pub ten_62 : shown paper (phases_of 9) [] (as_yellow_starts 60) ≡ ClearanceGreen 0

pub walked : Walked
unfolding stepped pick one_more add_light add_walker after_walk walk_over clearance_over green_over after_green after_yellow phase_over over_or_stays find_in add_one is_in may_start allowed_in allowed_at allowed home next ended obeyed in_normal is_normal normal_before stays_normal counting count_to count_after answered unless_owed open_dropped ending_dropped dropped becomes begins called overdue enter settle_red settle_yellow settle_green settled_as settle heard sheet_with naming
walked =
    record {
      paper_1 = refl;
      paper_2 = refl;
      paper_491 = refl;
      paper_492 = refl;
      paper_four = record { at_226 = refl; at_227 = refl; normal = refl };
      counted_1 = refl;
      transfer_1 = refl;
      off_again = refl;
      off_still = refl;
      tight_1 = refl;
      tight_2 = refl;
      tight_four = record { at_226 = refl; at_227 = refl; normal = refl };
      spared_four = record { at_226 = refl; at_227 = refl; normal = refl };
      hit_four = record { at_226 = refl; at_227 = refl; normal = refl };
      levelled_1 = refl;
      levelled_2 = refl;
      levelled_301 = refl;
      levelled_302 = refl;
      side_552 = refl;
      side_1 = refl;
      side_last = refl;
      side_back = refl;
      six_126 = refl;
      six_127 = refl;
      ten_61 = refl;
      ten_62 = refl;
    }
