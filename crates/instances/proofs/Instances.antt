-- The instances of specs/Instances.antt: a run of ticks goes by the lines of the sheet, and what these give is computed. Assumes nothing.
use Prim.Native.Nat.{ℕ, zero, suc, ◌+◌, ◌≤◌, ◌<◌}
use mathlib.Core.Bool.{Bool, true, false}
use mathlib.Core.List.{List, [], ◌∷◌, ◌++◌}
use mathlib.Core.Path.{◌≡◌, refl, sym, ap, subst, ◌∙◌}
use native.Mathlib.Nat.{le_refl}
use native.Mathlib.Omega.{arith}
use lib.Dec.{ltb}
use lib.ListN.{replicate}
use borrow.Author.Tests.{ltb-true, ltb-false}
use Rattle.units.specs.Numbers.{pick}
use Rattle.units.specs.declared.Tenths.{Tenths}
use Rattle.units.proofs.Steps.{split}
use Rattle.std.specs.Prelude.{Ok}
use Rattle.sheet.specs.declared.Sheet.{Sheet}
use Rattle.sheet.proofs.Answers.{is_fine_lem}
use Rattle.lines.specs.declared.Lines.{Lines}
use Rattle.lines.specs.Cases.{paper_sheet}
use Rattle.lines.specs.Worksheet.{worksheet_of}
use Rattle.phase.specs.declared.Light.TheVariants.{Red}
use Rattle.phase.specs.declared.Walker.TheVariants.{Clearance}
use Rattle.stage.specs.declared.Command.TheVariants.{None}
use Rattle.stage.specs.declared.Lengths.{Lengths}
use Rattle.stage.specs.declared.Place.TheVariants.{Normal, Train}
use Rattle.stage.specs.declared.Stage.{Stage}
use Rattle.stage.specs.declared.Stage.TheVariants.{TrackGreen, TrackYellow, Ending, ClearanceGreen, AllRed}
use Rattle.stage.specs.declared.Then.TheVariants.{ToClearance, ToDwell}
use Rattle.stage.specs.Shown.{in_normal}
use Rattle.flow.specs.declared.Now.{Now}
use Rattle.flow.specs.Promises.{now}
use Rattle.flow.specs.Tick.{ticked}
use Rattle.unit.specs.declared.Unit.{Unit}
use Rattle.unit.specs.Runs.{Event, tick, load, answer_to, run}
use Rattle.measured.specs.Measured.{lengths_of, accepted}
use Rattle.unit.specs.Unit.{now_of, holding, fits, fresh, restarted, start_of}
use Rattle.unit.proofs.Fit.{fresh_fits, onward, tick_is, onward_fits}
use Rattle.unit.proofs.Kept.{fits_kept}
use Rattle.promises.specs.Demand.{line, line17, line51, line53, seen_on, MayBegin, CallOn, ticks_in, up_to, at_end, Demanded}
use Rattle.instances.specs.Instances.{calls, towards_four, at_track, before_four, MayBeginAt, StartsWith, MetInTrackGreen, MetInPhaseFour, tight, EndsAtForty, StartsAtSeventeen, advanced, JustSpared, JustHit, levelled, DecidedByTwentyFive, side_streets, as_it_goes_off, ticks_back, LeftAtSixteen, goes_off, MustStayOn, MustBegin, NotInTransfer, stepped, own_lengths, stepped_at, clears_by, WithoutSix, phases_of, as_yellow_starts, WithoutTen}
use Rattle.promises.proofs.Between.{Dark, dark}
use Rattle.instances.proofs.Computed.{paper, tightly, longer, steeply, Goes, worked, before, shown, Four, walked}
use Rattle.promises.proofs.Demand.{demand_3}

-- ---- a run of ticks alone goes by what the sheet gives
abbrev TicksOnly : List Event → Type 0
TicksOnly [] = Prim.Unit {0}
TicksOnly (tick c call ∷ es) = TicksOnly es
TicksOnly (load s ∷ es) = ⊥

steps : (s : Sheet) (es : List Event) → TicksOnly es → (x : Now) → fits (holding s x) ≡ true → run (holding s x) es ≡ holding s (stepped (lengths_of s) s x es)
unfolding run answer_to stepped
steps s [] o x f = refl
steps s (tick c call ∷ es) o x f =
    ap (λ (v : Unit). run v es) (tick_is (holding s x) c call f)
    ∙ steps s es o (ticked (lengths_of s) s x c call).now (onward_fits (holding s x) c call f)
steps s (load y ∷ es) o x f = absurd o

module _ (s : Sheet) (t : Lengths) (w : Goes s t) (past : List Event) (o : TicksOnly past) where
  start_is : (start_of s).unit ≡ fresh s
  unfolding restarted pick
  start_is = rw w.fine refl

  past_is : run (start_of s).unit past ≡ holding s (before t s past)
  past_is =
      ap (λ (u : Unit). run u past) start_is ∙ steps s past o (now TrackGreen 0) (fresh_fits s w.fine)
      ∙ ap (λ (x : Lengths). holding s (before x s past)) w.lengths

  -- a line of the sheet that the unit holds
  line_is : (l : Lines → Tenths) (n : ℕ) → (l (worksheet_of s).lines).0 ≡ n → line l (run (start_of s).unit past) ≡ n
  line_is l n h = ap (λ (u : Unit). line l u) past_is ∙ h

  may_begin : seen_on false (start_of s).unit past ≡ false → in_normal (before t s past).stage ≡ true → MayBeginAt s past
  may_begin e n = record { off = e; normal = ap (λ (u : Unit). in_normal u.stage) past_is ∙ n }

  met_stage : (es : List Event) (n : ℕ) (st : Stage) → TicksOnly (up_to n es) → shown t s past (up_to n es) ≡ st
      → (at_end (run (start_of s).unit past) es n).stage ≡ st
  met_stage es n st p h =
      let f : fits (holding s (before t s past)) ≡ true =
      subst (λ (u : Unit). fits u ≡ true) (ap (λ (u : Unit). run u past) (sym start_is) ∙ past_is) (fits_kept (fresh s) past (fresh_fits s w.fine)) in
      ap (λ (u : Unit). (run u (up_to n es)).stage) past_is
      ∙ ap (λ (u : Unit). u.stage) (steps s (up_to n es) p (before t s past) f)
      ∙ ap (λ (x : Lengths). (stepped x s (before t s past) (up_to n es)).stage) w.lengths ∙ h

-- ---- the tick with which the green starts is that one
only : (u : Unit) (es : List Event) (n g : ℕ) → Demanded u es g → suc n ≤ ticks_in es → n < line51 u
    → (at_end u es (suc n)).stage ≡ ClearanceGreen 0 → Dark (at_end u es n).stage → g ≡ suc n
only u es n g h m l s d =
    split (ltb (suc n) g)
    (λ e. absurd (h.no_sooner.first (suc n) m (ltb-true (suc n) g e) (0, s)))
    (λ e.
    split (ltb n g)
    (λ k. omega (arith, ltb-false (suc n) g e, ltb-true n g k))
    (λ k. absurd (dark (at_end u es n) d (h.answered.green n (omega arith) (ltb-false n g k) (omega arith)))))

-- and demand 3 gives it
calls_on : (n : ℕ) → CallOn (calls n)
calls_on zero = tt
calls_on (suc n) = (refl, calls_on n)

start_fine : (s : Sheet) → accepted s ≡ true → (start_of s).answer ≡ Ok tt
unfolding restarted pick
start_fine s a = rw a (is_fine_lem (worksheet_of s).answer a)

starts_with : (s : Sheet) → accepted s ≡ true → (past : List Event) → MayBeginAt s past → (m n : ℕ)
    → ((g : ℕ) → Demanded (run (start_of s).unit past) (calls (suc m)) g → g ≡ n) → StartsWith (run (start_of s).unit past) (calls (suc m)) n
starts_with s a past y m n q =
    let h = demand_3 s (start_fine s a) past y None (calls m) (calls_on m) in
    (subst (Demanded (run (start_of s).unit past) (calls (suc m))) (q h.0 h.1) h.1, q)

-- ---- in track green
green_first : in_normal TrackGreen ≡ true
unfolding in_normal
green_first = refl

module _ (s : Sheet) (t : Lengths) (w : Goes s t) where
  begins_at_track : MayBeginAt s []
  unfolding seen_on stepped
  begins_at_track = may_begin s t w [] tt refl green_first

  at_two : (m : ℕ) → 2 ≤ ticks_in (calls (suc m)) → 1 < t.l51 → TicksOnly (up_to 1 (calls (suc m))) → TicksOnly (up_to 2 (calls (suc m)))
      → shown t s [] (up_to 1 (calls (suc m))) ≡ TrackGreen → shown t s [] (up_to 2 (calls (suc m))) ≡ ClearanceGreen 0
      → StartsWith (at_track s) (calls (suc m)) 2
  at_two m h l o p a b =
      let one = met_stage s t w [] tt (calls (suc m)) 1 TrackGreen o a in
      let two = met_stage s t w [] tt (calls (suc m)) 2 (ClearanceGreen 0) p b in
      let l51 = line_is s t w [] tt (λ x. x.l51) t.l51 (ap (λ (x : Lengths). x.l51) w.lengths) in
      starts_with s w.fine [] begins_at_track m 2 (λ g d. only (at_track s) (calls (suc m)) 1 g d h (omega arith) two (rw one tt))

pub met_in_track_green : MetInTrackGreen
met_in_track_green =
    let w = worked.paper_goes in
    let at = met_stage paper_sheet paper w [] tt (calls 492) in (
      begins_at_track paper_sheet paper w,
      at 1 TrackGreen tt walked.paper_1,
      at 2 (ClearanceGreen 0) tt walked.paper_2,
      at 491 (ClearanceGreen 489) tt walked.paper_491,
      at 492 (TrackYellow Train ToDwell 0) tt walked.paper_492,
      at_two paper_sheet paper w 491 (omega arith) (omega arith) tt tt walked.paper_1 walked.paper_2,
    )

-- ---- as phase 4 begins
module _ (s : Sheet) (t : Lengths) (w : Goes s t) (f : Four s t) (l : 226 < t.l51) where
  begins_before_four : MayBeginAt s towards_four
  unfolding seen_on
  begins_before_four = may_begin s t w towards_four tt refl f.normal

  met_226 : (at_end (before_four s) (calls 227) 226).stage ≡ Ending Normal 4 ToClearance (Red 19) (Clearance 100)
  met_226 = met_stage s t w towards_four tt (calls 227) 226 (Ending Normal 4 ToClearance (Red 19) (Clearance 100)) tt f.at_226

  met_227 : (at_end (before_four s) (calls 227) 227).stage ≡ ClearanceGreen 0
  met_227 = met_stage s t w towards_four tt (calls 227) 227 (ClearanceGreen 0) tt f.at_227

  at_227 : (n : ℕ) → n ≡ 227 → StartsWith (before_four s) (calls 227) n
  at_227 n e =
      let l51 = line_is s t w towards_four tt (λ x. x.l51) t.l51 (ap (λ (x : Lengths). x.l51) w.lengths) in
      starts_with s w.fine towards_four begins_before_four 226 n
      (λ g d. only (before_four s) (calls 227) 226 g d (omega arith) (omega arith) met_227 (rw met_226 tt) ∙ sym e)

pub met_in_phase_four : MetInPhaseFour
met_in_phase_four =
    let w = worked.paper_goes in
    let f = walked.paper_four in (
      begins_before_four paper_sheet paper w f (omega arith),
      met_226 paper_sheet paper w f (omega arith),
      met_227 paper_sheet paper w f (omega arith),
      at_227 paper_sheet paper w f (omega arith) _ refl,
    )

-- ---- the tight sheet
pub ends_at_forty : EndsAtForty
ends_at_forty =
    let w = worked.tight_goes in
    let line = line_is tight tightly w [] tt in
    let l03 = line (λ l. l.l03) 2 (ap (λ (t : Lengths). t.l03) w.lengths) in
    let l51 = line (λ l. l.l51) 480 (ap (λ (t : Lengths). t.l51) w.lengths) in
    let l40 = line (λ l. l.l40) 482 worked.tight_l40 in (
      begins_at_track tight tightly w,
      subst (StartsWith (at_track tight) (calls 482)) (sym l03)
          (at_two tight tightly w 481 (omega arith) (omega arith) tt tt walked.tight_1 walked.tight_2),
      omega arith,
    )

pub starts_at_seventeen : StartsAtSeventeen
starts_at_seventeen =
    let w = worked.tight_goes in
    let f = walked.tight_four in
    let line = line_is tight tightly w towards_four tt in
    let l17 = line (λ l. l.l17) 227 worked.tight_l17 in
    let l25 = line (λ l. l.l25) 206 worked.tight_l25 in
    let l28 = line (λ l. l.l28) 40 worked.tight_l28 in
    let l34 = line (λ l. l.l34) 473 worked.tight_l34 in (
      begins_before_four tight tightly w f (omega arith),
      at_227 tight tightly w f (omega arith) _ l17,
      line (λ l. l.l35) 0 worked.tight_l35,
      omega arith,
    )

-- ---- the gate and the trailer
pub just_spared : JustSpared
just_spared =
    let w = worked.spared_goes in
    let f = walked.spared_four in
    let line = line_is (advanced 297) longer w towards_four tt in
    let l17 = line (λ l. l.l17) 227 worked.spared_l17 in
    let l36 = line (λ l. l.l36) 297 worked.spared_l36 in
    let l53 = line (λ l. l.l53) 71 worked.spared_l53 in
    let l54 = line (λ l. l.l54) 77 worked.spared_l54 in
    let l60 = line (λ l. l.l60) 78 worked.spared_l60 in
    let l61 = line (λ l. l.l61) 297 worked.spared_l61 in (
      begins_before_four (advanced 297) longer w f (omega arith),
      at_227 (advanced 297) longer w f (omega arith) _ l17,
      omega arith,
      omega arith,
    )

pub just_hit : JustHit
just_hit =
    let w = worked.hit_goes in
    let f = walked.hit_four in
    let u = before_four (advanced 296) in
    let line = line_is (advanced 296) longer w towards_four tt in
    let l17 = line (λ l. l.l17) 227 worked.hit_l17 in
    let l36 = line (λ l. l.l36) 296 worked.hit_l36 in
    let l53 = line (λ l. l.l53) 71 worked.hit_l53 in
    let l54 = line (λ l. l.l54) 77 worked.hit_l54 in
    let l60 = line (λ l. l.l60) 78 worked.hit_l60 in
    let l61 = line (λ l. l.l61) 297 worked.hit_l61 in (
      begins_before_four (advanced 296) longer w f (omega arith),
      at_227 (advanced 296) longer w f (omega arith) _ l17,
      omega arith,
      λ spared. omega (arith, spared 296 374 375 (omega arith) (omega arith) (omega arith)),
    )

-- ---- line 25 decides line 51
pub decided_by_twenty_five : DecidedByTwentyFive
decided_by_twenty_five =
    let w = worked.levelled_goes in
    let line = line_is levelled steeply w [] tt in
    let at = met_stage levelled steeply w [] tt (calls 302) in (
      begins_at_track levelled steeply w,
      line (λ l. l.l25) 292 worked.levelled_l25,
      line (λ l. l.l51) 300 (ap (λ (t : Lengths). t.l51) w.lengths),
      at 301 (ClearanceGreen 299) tt walked.levelled_301,
      at 302 (TrackYellow Train ToDwell 0) tt walked.levelled_302,
      at_two levelled steeply w 301 (omega arith) (omega arith) tt tt walked.levelled_1 walked.levelled_2,
    )

-- ---- what the words keep out
-- a green at tick 1 is before line 3
too_soon : (past : List Event) → TicksOnly past → shown paper paper_sheet past (up_to 1 (calls 1)) ≡ ClearanceGreen 0
    → (g : ℕ) → Demanded (run (start_of paper_sheet).unit past) (calls 1) g → ⊥
too_soon past o e g h =
    let w = worked.paper_goes in
    let l03 = line_is paper_sheet paper w past o (λ l. l.l03) 2 (ap (λ (t : Lengths). t.l03) w.lengths) in
    let green = met_stage paper_sheet paper w past o (calls 1) 1 (ClearanceGreen 0) tt e in
    h.no_sooner.first 1 (omega arith) (omega (arith, h.no_sooner.not_before)) (0, green)

pub must_begin : MustBegin
must_begin = too_soon (calls 1) tt walked.counted_1

pub not_in_transfer : NotInTransfer
not_in_transfer = too_soon (towards_four ++ calls 226) tt walked.transfer_1

-- with no call and no command a unit in track green stays as it is
stays_off : (n k : ℕ) → before paper paper_sheet (up_to n (replicate k (tick None false))) ≡ now TrackGreen 0
unfolding stepped
stays_off zero k = refl
stays_off (suc n) zero = refl
stays_off (suc n) (suc k) =
    ap (λ (x : Now). stepped paper paper_sheet x (up_to n (replicate k (tick None false)))) walked.off_still ∙ stays_off n k

ticks_off : (n k : ℕ) → TicksOnly (up_to n (replicate k (tick None false)))
ticks_off zero k = tt
ticks_off (suc n) zero = tt
ticks_off (suc n) (suc k) = ticks_off n k

went_off : (n : ℕ) → shown paper paper_sheet [] (up_to (suc (suc n)) goes_off) ≡ TrackGreen
unfolding stepped
went_off n =
    ap (λ (x : Now). (stepped paper paper_sheet x (up_to n (replicate 226 (tick None false)))).stage) walked.off_again
    ∙ ap (λ (x : Now). x.stage) (stays_off n 226)

no_green : (g : ℕ) → 2 ≤ g → g ≤ 227 → Demanded (at_track paper_sheet) goes_off g → ⊥
no_green zero a b h = omega arith
no_green (suc zero) a b h = omega arith
no_green (suc (suc n)) a b h =
    let w = worked.paper_goes in
    let l51 = line_is paper_sheet paper w [] tt (λ l. l.l51) 490 (ap (λ (t : Lengths). t.l51) w.lengths) in
    let green = met_stage paper_sheet paper w [] tt goes_off (suc (suc n)) TrackGreen (ticks_off n 226) (went_off n) in
    dark (at_end (at_track paper_sheet) goes_off (suc (suc n))) (rw green tt) (h.answered.green (suc (suc n)) (omega arith) (omega arith) (omega arith))

pub must_stay_on : MustStayOn
must_stay_on g h =
    let w = worked.paper_goes in
    let l03 = line_is paper_sheet paper w [] tt (λ l. l.l03) 2 (ap (λ (t : Lengths). t.l03) w.lengths) in
    let l17 = line_is paper_sheet paper w [] tt (λ l. l.l17) 227 worked.paper_l17 in
    no_green g (omega (arith, h.no_sooner.not_before)) (omega (arith, h.answered.by_line17)) h

-- ---- what refusals 6 and 10 keep out
pub without_six : WithoutSix
without_six =
    let on : (es : List Event) → stepped_at (clears_by 54) towards_four es ≡ shown paper (clears_by 54) towards_four es =
    λ es. ap (λ (t : Lengths). shown t (clears_by 54) towards_four es) worked.six_lengths in
    (worked.six_beside, worked.six_refused, worked.six_l17, on (calls 126) ∙ walked.six_126, on (calls 127) ∙ walked.six_127)

pub without_ten : WithoutTen
without_ten =
    let on : (es : List Event) → stepped_at (phases_of 9) [] es ≡ shown paper (phases_of 9) [] es =
    λ es. ap (λ (t : Lengths). shown t (phases_of 9) [] es) worked.ten_lengths in
    (worked.ten_beside, worked.ten_refused, worked.ten_l17, on (as_yellow_starts 59) ∙ walked.ten_61, on (as_yellow_starts 60) ∙ walked.ten_62)

-- ---- side streets
module _ (n : ℕ) (st : Stage) (o : TicksOnly (up_to n as_it_goes_off)) (h : (stepped paper side_streets (now AllRed 2) (up_to n as_it_goes_off)).stage ≡ st) where
  from_dwell : (at_end (run (start_of side_streets).unit (calls 552)) as_it_goes_off n).stage ≡ st
  from_dwell =
      met_stage side_streets paper worked.side_goes (calls 552) tt as_it_goes_off n st o
      (ap (λ (x : Now). (stepped paper side_streets x (up_to n as_it_goes_off)).stage) walked.side_552 ∙ h)

pub left_at_sixteen : LeftAtSixteen
left_at_sixteen = (
  ap (λ (u : Unit). u.stage) (past_is side_streets paper worked.side_goes (calls 552) tt) ∙ ap (λ (x : Now). x.stage) walked.side_552,
  line_is side_streets paper worked.side_goes (calls 552) tt (λ l. l.l16) ticks_back worked.side_l16,
  from_dwell 1 _ tt walked.side_1,
  from_dwell ticks_back _ tt walked.side_last,
  from_dwell (1 + ticks_back) _ tt walked.side_back,
)
