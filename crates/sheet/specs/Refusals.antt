-- "Refusal numbers": the paper's number of each refusal, and what an answer says.
use Rattle.std.specs.Prelude.{ℕ, ◌+◌, ◌*◌, Bool, true, false, Result, Ok, Err}
use Rattle.sheet.specs.declared.Refusal.{Refusal}
use Rattle.sheet.specs.declared.Refusal.TheVariants.{Malformed, OutOfRange, PhasesDontRise, PointsDontRise, PedestriansInModeZero, ClearanceTooShort, RelocationBeyondStorage, WarningTooShort, RelocationTooFar, TrackLongerThanTransfer, NoRoom, DwellPhaseNotListed, UnitUnfit, LoadNotNow, IssueNotNewer, CommandNotAllowed}
use Rattle.sheet.specs.declared.Refused.{Refused}

abbrev pub number_of : Refusal → ℕ
-- "a line is missing, extra, misspelt, out of place or malformed, or a number has over 6 digits"
number_of Malformed = 1
-- "a value is out of range"
number_of OutOfRange = 2
-- "phase numbers don't rise"; of dwell: "3 when the numbers don't rise"
number_of PhasesDontRise = 3
-- "first point isn't 0,0, distances don't rise, or times fall"
number_of PointsDontRise = 4
-- "mode 0 with walk or clearance above 0"
number_of PedestriansInModeZero = 5
-- "mode 2 with clearance below yellow + red"
number_of ClearanceTooShort = 6
-- "l47 above l18"
number_of RelocationBeyondStorage = 7
-- "l31 below one second for each 10 ft, or part, of l19 beyond 35 ft"
number_of WarningTooShort = 8
-- "9 is now given when line 48 is beyond 1000, or beyond the last point where that point is below 400"
number_of RelocationTooFar = 9
-- "track yellow + red above line 16"
number_of TrackLongerThanTransfer = 10
-- "the lent output is shorter than the text"
number_of NoRoom = 11
-- "12, a dwell phase not listed on the sheet, after 10, line 0"
number_of DwellPhaseNotListed = 12
-- "a tick or load whose unit has a refused sheet, a phase not listed, a next phase neither listed nor 0, a time above its length or a count above line 3"
number_of UnitUnfit = 20
-- "load outside the place named above"
number_of LoadNotNow = 21
-- "issue not above the one held"
number_of IssueNotNewer = 22
-- "command not allowed now"
number_of CommandNotAllowed = 23

-- fine, or refused
abbrev pub Answer : Type 0
Answer = Result (Unit {0}) Refused

abbrev pub refused : Refusal → ℕ → Answer
refused r l = Err (record { refusal = r; line = l })

abbrev pub is_fine : Answer → Bool
is_fine (Ok _) = true
is_fine (Err e) = false

abbrev pub answer_number : Answer → ℕ
answer_number (Ok _) = 0
answer_number (Err e) = number_of e.refusal

abbrev pub answer_line : Answer → ℕ
answer_line (Ok _) = 0
answer_line (Err e) = e.line

-- both as one number, for other languages: 2^32 times the number, and the line; 0 where it is fine
abbrev pub code_of : Answer → ℕ
code_of a = 4294967296 * answer_number a + answer_line a

-- "The first faulty line in file order decides": the first of two answers that is a refusal
unfoldable pub or_else : Answer → Answer → Answer
or_else (Ok _) b = b
or_else (Err e) b = Err e

-- refused unless the test holds
unfoldable pub unless : Bool → Refusal → ℕ → Answer
unless true r l = Ok tt
unless false r l = refused r l
