-- The second grade is line 49's alone: every line is worked out on both sheets, and they agree as they stand. Assumes nothing.
use mathlib.Core.Path.{◌≡◌, refl, ap}
use lib.IntN.{ℤ}
use lib.ListN.{take}
use Rattle.units.specs.Numbers.{pick}
use Rattle.units.specs.declared.Feet.{Feet}
use Rattle.sheet.specs.declared.Sheet.{Sheet}
use Rattle.sheet.specs.declared.Vehicle.TheVariants.{Car}
use Rattle.std.specs.Prelude.{Ok}
use Rattle.sheet.specs.Entries.{Shaped}
use Rattle.numbers.specs.Flat.{grade_number}
use Rattle.faults.specs.Whole.{accept_of}
use Rattle.faults.specs.Ranges.{Between, Sound}
use Rattle.faults.proofs.Sound.{sound}
use Rattle.faults.proofs.Accepted.{sound_is_accepted}
use Rattle.curve.proofs.Times.{any_grade}
use Rattle.lines.specs.Lines.{l03, l04, l05, l06, l07, l08, l09, l10, l11, l12, l13, l14, l15, l16, l17, l21, l22, l23, l24, l25, l26, l27, l29, l32, l34, l35, l36, l38, l40, l41, l43, l44, l45, l46, l48, l49, l50, l51, l52, l53, l54, l55, l59, l60, l61, acceleration, lines_of}
use Rattle.lines.specs.Worksheet.{worksheet_of, in_order}
use Rattle.lines.specs.Grades.{with_grade2, SecondGradeForFortyNine, AnySecondGrade, OneGradeAsBefore, FirstGradeKept, CarCarriesIt}

pub second_grade : SecondGradeForFortyNine
unfolding l03 l04 l05 l06 l07 l08 l09 l10 l11 l12 l13 l14 l15 l16 l17 l21 l22 l23 l24 l25 l26 l27 l29 l32 l34 l35 l36 l38 l40 l41 l43 l44 l45 l46 l48 l52 l53 l54 l55 l59 l60 l61 lines_of in_order
second_grade s g = (refl, refl)

still_sound : (s : Sheet) (g : ℤ) → Sound s → Between 999920 (grade_number g) 1000080 → Sound (with_grade2 s g)
still_sound s g h range =
    record {
      issue = h.issue;
      grade = h.grade;
      grade2 = range;
      l01 = h.l01;
      l02 = h.l02;
      phase_count = h.phase_count;
      phases = h.phases;
      rising = h.rising;
      track_yellow = h.track_yellow;
      track_red = h.track_red;
      dwell_count = h.dwell_count;
      dwell = h.dwell;
      climbing = h.climbing;
      l18 = h.l18;
      l19 = h.l19;
      l20 = h.l20;
      l28 = h.l28;
      l30 = h.l30;
      l31 = h.l31;
      l33 = h.l33;
      l37 = h.l37;
      l39 = h.l39;
      l47 = h.l47;
      l56 = h.l56;
      l57 = h.l57;
      l58 = h.l58;
      point_count = h.point_count;
      points = h.points;
      start = h.start;
      further = h.further;
      slower = h.slower;
      storage = h.storage;
      warning = h.warning;
      distance = h.distance;
      track = h.track;
      dwell_listed = h.dwell_listed;
    }

still_accepted : (s : Sheet) (g : ℤ) → Shaped s → accept_of s ≡ Ok tt → Between 999920 (grade_number g) 1000080 → accept_of (with_grade2 s g) ≡ Ok tt
still_accepted s g shaped a range =
    sound_is_accepted (with_grade2 s g) (record { phases = shaped.phases; dwell = shaped.dwell; points = shaped.points }) (still_sound s g (sound s a) range)

pub any_second_grade : AnySecondGrade
unfolding worksheet_of pick
any_second_grade s g shaped a range =
    let b = still_accepted s g shaped a range in
    (b, rw (a, b) (second_grade s g).0, rw (a, b) (second_grade s g).1)

pub one_grade : OneGradeAsBefore
unfolding l03 l04 l05 l06 l07 l08 l09 l10 l11 l12 l13 l14 l15 l16 l17 l21 l22 l23 l24 l25 l26 l27 l29 l32 l34 l35 l36 l38 l40 l41 l43 l44 l45 l46 l48 l49 l50 l51 l52 l53 l54 l55 l59 l60 l61 lines_of in_order
one_grade s e = ap (λ (g : ℤ). in_order (lines_of (with_grade2 s g))) e

pub first_grade : FirstGradeKept
unfolding l24 l54
first_grade s = (refl, refl)

car_time : (s : Sheet) (g : ℤ) (d : Feet) → s.vehicle ≡ Car → acceleration s g d ≡ acceleration s s.grade2 d
car_time s g d e = rw e (any_grade (take s.point_count s.points) g s.grade2 d)

pub car_carries_it : CarCarriesIt
unfolding l03 l04 l05 l06 l07 l08 l09 l10 l11 l12 l13 l14 l15 l16 l17 l21 l22 l23 l24 l25 l26 l27 l29 l32 l34 l35 l36 l38 l40 l41 l43 l44 l45 l46 l48 l49 l50 l51 l52 l53 l54 l55 l59 l60 l61 lines_of in_order
car_carries_it s g e = rw (car_time s g (l48 s) e) refl
