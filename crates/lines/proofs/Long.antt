-- Lines 24, 49 and 54 by their distance, as the acceleration time is. Assumes nothing.
use native.Mathlib.Omega.{arith}
use lib.ListN.{take}
use Rattle.faults.proofs.Sound.{sound}
use Rattle.curve.proofs.Times.{as_before, far_from}
use Rattle.lines.specs.Lines.{l20, l23, l24, l48, l49, l54}
use Rattle.lines.specs.Long.{AsBeforeToFourHundred, FarFromFourTwentyFive}

pub lines_as_before : AsBeforeToFourHundred
unfolding l24 l49 l54
lines_as_before s =
    let ps = take s.point_count s.points in
    (λ h. as_before ps s.vehicle s.grade (l23 s) h, λ h. as_before ps s.vehicle s.grade2 (l48 s) h, λ a. as_before ps s.vehicle s.grade (l20 s) (omega (arith, (sound s a).l20.high)))

pub lines_far : FarFromFourTwentyFive
unfolding l24 l49
lines_far s =
    let ps = take s.point_count s.points in
    (λ h. far_from ps s.vehicle s.grade (l23 s) h, λ h. far_from ps s.vehicle s.grade2 (l48 s) h)
