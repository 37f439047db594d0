-- What an accepted sheet says of its lines and of each listed phase: a phase that is found has what every listed one has. Assumes nothing.
use Prim.Native.Nat.{ℕ, ◌+◌, ◌≤◌, ◌<◌}
use mathlib.Core.Bool.{true}
use mathlib.Core.List.{List, [], ◌∷◌}
use mathlib.Core.Path.{◌≡◌, refl}
use lib.Dec.{eqb}
use Rattle.units.specs.Numbers.{pick}
use Rattle.units.specs.Lists.{All}
use Rattle.units.proofs.All.{all_from}
use Rattle.units.proofs.Steps.{split, never}
use Rattle.std.specs.Prelude.{Ok, is_some, unwrap_or}
use Rattle.sheet.specs.declared.Phase.{Phase}
use Rattle.sheet.specs.declared.Sheet.{Sheet}
use Rattle.sheet.specs.Entries.{listed_phases}
use Rattle.sheet.specs.Zero.{zero_phase}
use Rattle.sheet.proofs.Answers.{is_fine_lem}
use Rattle.transfer.specs.declared.Users.{Users}
use Rattle.transfer.specs.declared.Users.TheVariants.{Vehicles, Pedestrians}
use Rattle.transfer.specs.Transfer.{time_of}
use Rattle.transfer.proofs.Promised.{sixteen}
use Rattle.faults.specs.Ranges.{SoundPhase, Sound}
use Rattle.faults.specs.Whole.{accept_of}
use Rattle.faults.proofs.Sound.{sound}
use Rattle.lines.specs.Lines.{l03, l16, l17, lines_of}
use Rattle.lines.specs.Worksheet.{worksheet_of}
use Rattle.lines.proofs.Promised.{warning_enough, gates_before_end, advance_enough, lasting}
use Rattle.phase.specs.Promises.{Fair}
use Rattle.phase.proofs.Left.{over_in_time}
use Rattle.stage.specs.Listed.{find_in, listed, phase_of}
use Rattle.measured.specs.Measured.{lengths_of, accepted}
use Rattle.promises.specs.Promises.{SixteenEnough}

-- what holds of every listed phase holds of the one that is found
found : (P : Phase → Type 0) (ps : List Phase) (n : ℕ) → All P ps → is_some (find_in ps n) ≡ true → P (unwrap_or (find_in ps n) zero_phase)
unfolding find_in
found P [] n a e = never e
found P (p ∷ ps) n a e =
    split (eqb p.number n) (λ b. rw b a.0) (λ b. rw b (found P ps n a.1 (rw b at e)))

fair : (p : Phase) → SoundPhase p → Fair p
fair p h = record { modes = h.mode; none = h.quiet; enough = h.late }

module _ (s : Sheet) (a : accepted s ≡ true) where
  is_accepted : accept_of s ≡ Ok tt
  unfolding worksheet_of
  is_accepted = is_fine_lem (accept_of s) a

  lines_are : (worksheet_of s).lines ≡ lines_of s
  unfolding worksheet_of pick
  lines_are = rw is_accepted refl

  pub is_sound : Sound s
  is_sound = sound s is_accepted

  pub listed_fair : (n : ℕ) → listed s n ≡ true → Fair (phase_of s n)
  listed_fair n h = fair (phase_of s n) (found SoundPhase (listed_phases s) n is_sound.phases h)

  pub listed_time : (of : Users) (n : ℕ) → listed s n ≡ true → (time_of of (phase_of s n)).0 ≤ (worksheet_of s).lines.l16.0
  unfolding lines_of l16
  listed_time of n h =
      rw lines_are
      (found (λ (p : Phase). (time_of of p).0 ≤ (l16 s).0) (listed_phases s) n
      (all_from (λ (p : Phase). (time_of of p).0 ≤ (l16 s).0) (listed_phases s) zero_phase (λ k b. (sixteen (listed_phases s)).2 of k b)) h)

  pub track_time : s.track_yellow + s.track_red ≤ (worksheet_of s).lines.l16.0
  unfolding lines_of l16
  track_time = rw lines_are is_sound.track

  pub counts : 0 < (lengths_of s).l03
  unfolding lines_of
  counts = let h : 0 < (worksheet_of s).lines.l03.0 = rw lines_are (lasting s is_accepted).0 in h

  pub lasts : 0 < (lengths_of s).l51
  unfolding lines_of
  lasts = let h : 0 < (worksheet_of s).lines.l51.0 = rw lines_are (lasting s is_accepted).1 in h

  pub seventeen : (worksheet_of s).lines.l17.0 ≡ (worksheet_of s).lines.l03.0 + (worksheet_of s).lines.l16.0
  unfolding lines_of l17
  seventeen = rw lines_are refl

  pub warning : (worksheet_of s).lines.l35.0 ≡ 0
      → (worksheet_of s).lines.l17.0 + (worksheet_of s).lines.l25.0 + (worksheet_of s).lines.l28.0 ≤ (worksheet_of s).lines.l34.0
  unfolding lines_of
  warning e = rw lines_are (warning_enough s (rw lines_are at e))

  pub gates_down : (worksheet_of s).lines.l40.0 ≤ (worksheet_of s).lines.l03.0 + (worksheet_of s).lines.l51.0
  unfolding lines_of
  gates_down = rw lines_are (gates_before_end s)

  -- line 61 is what line 55, the transfer and lines 53 and 54, has over line 60
  pub advance : (worksheet_of s).lines.l61.0 ≤ (worksheet_of s).lines.l36.0
      → (worksheet_of s).lines.l17.0 + (worksheet_of s).lines.l53.0 + (worksheet_of s).lines.l54.0
      ≤ (worksheet_of s).lines.l36.0 + (worksheet_of s).lines.l60.0
  unfolding lines_of
  advance e = rw lines_are (advance_enough s (rw lines_are at e))

pub sixteen_enough : SixteenEnough
sixteen_enough s a = (
  λ n l w h i j. over_in_time (phase_of s n) (listed_fair s a n h) _ (listed_time s a Vehicles n h) (listed_time s a Pedestrians n h) l w i j,
  track_time s a,
)
