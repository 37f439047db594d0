-- The lines keep what specs/Promises.antt says: each rounding by the law of its rule. Assumes nothing.
use mathlib.Core.Path.{◌≡◌, refl}
use native.Mathlib.Omega.{arith}
use Rattle.units.specs.Numbers.{pick}
use Rattle.sheet.specs.declared.Sheet.{Sheet}
use Rattle.faults.proofs.Sound.{sound}
use Rattle.rules.proofs.Promised as rules
use Rattle.lines.specs.Lines.{pedestrian_phase, l03, l13, l14, l21, l22, l25, l29, l33, l35, l36, l37, l38, l41, l43, l44, l50, l51, l52, l55, l57, l58, l59, l61}
use Rattle.lines.specs.Worksheet.{zero_lines, worksheet_of}
use Rattle.lines.specs.Promises.{RefusedGivesZeros, NoneInModeTwo, TwentyTwoUp, ThirtyEightUp, FiftyOneUp, FiftyNineDown, WarningEnough, GatesBeforeEnd, AdvanceEnough, Lasting}

pub refused_zeros : RefusedGivesZeros
unfolding worksheet_of pick
refused_zeros s r line e = rw e refl

pub none_in_mode_two : NoneInModeTwo
unfolding l13 l14
none_in_mode_two s e = (rules.none_in_mode_two (pedestrian_phase s) _ e, rules.none_in_mode_two (pedestrian_phase s) _ e)

pub twenty_two : TwentyTwoUp
unfolding l22
twenty_two s = rules.line22_up (l21 s)

pub thirty_eight : ThirtyEightUp
unfolding l36 l38
thirty_eight s = rules.line38_up (l33 s) (l37 s)

pub fifty_one_lem : FiftyOneUp
unfolding l51
fifty_one_lem s = rules.line51_up (l44 s) (l50 s) (l25 s)

pub fifty_nine : FiftyNineDown
unfolding l59
fifty_nine s = rules.line59_down (l57 s) (l58 s)

pub warning_enough : WarningEnough
unfolding l29 l35
warning_enough s e = omega arith

pub gates_before_end : GatesBeforeEnd
unfolding l41 l43 l44
gates_before_end s = let f = (fifty_one_lem s).1 in omega arith

pub advance_enough : AdvanceEnough
unfolding l52 l55 l61
advance_enough s e = omega arith

pub lasting : Lasting
unfolding l03 l22 l25
lasting s e =
    let h = sound s e in
    let f = (fifty_one_lem s).3 in
    (omega (arith, h.l02), omega arith)
