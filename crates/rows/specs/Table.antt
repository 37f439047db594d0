-- "The site sheet": the table of lines, in the paper's order, and the rows that a sheet's text is made of.
use Rattle.std.specs.Prelude.{ℕ, zero, suc, ◌+◌, ◌-◌, ◌*◌, Bool, true, false, ◌&&◌, List, [], ◌∷◌, ◌++◌, leb, ltb, eqb, length, get_or, take, replicate}
use Prim.Native.String as S
use Prim.Native.Char.{code}
use Rattle.units.specs.Numbers.{pick}
use Rattle.rows.specs.declared.table.Form.{Form}
use Rattle.rows.specs.declared.table.Form.TheVariants.{Plain, Worded, Signed, Listed}
use Rattle.rows.specs.declared.table.Absent.{Absent}
use Rattle.rows.specs.declared.table.Absent.TheVariants.{MustStand, AsBefore, AsNone}

-- a text's bytes
abbrev pub bytes : S.String → List ℕ
bytes S.[] = []
bytes (S.◌∷◌ c s) = code c ∷ bytes s

pub record Range : Type 0 where
  pub least : ℕ
  pub most : ℕ

infix 20 ◌to◌
abbrev pub ◌to◌ : ℕ → ℕ → Range
least to most = record { least = least; most = most }

-- how the numbers of a line are written
abbrev pub plain : Form
plain = Plain

abbrev pub worded : Form
worded = Worded

abbrev pub signed : Form
signed = Signed

abbrev pub list : Form
list = Listed

abbrev pub is_plain : Form → Bool
is_plain Plain = true
is_plain Worded = false
is_plain Signed = false
is_plain Listed = false

abbrev pub is_worded : Form → Bool
is_worded Plain = false
is_worded Worded = true
is_worded Signed = false
is_worded Listed = false

abbrev pub is_signed : Form → Bool
is_signed Plain = false
is_signed Worded = false
is_signed Signed = true
is_signed Listed = false

abbrev pub is_list : Form → Bool
is_list Plain = false
is_list Worded = false
is_list Signed = false
is_list Listed = true

-- a form by its number: 1 a word, 2 a number with a sign, 3 a list, and any other a plain number
unfoldable pub form_by : ℕ → Form
form_by n = pick (eqb n 1) worded (pick (eqb n 2) signed (pick (eqb n 3) list plain))

-- what a line stands for where an older form of the sheet has not got it: a line must stand, or it stands for the number of the line before it, or for none
abbrev pub must_stand : Absent → Bool
must_stand MustStand = true
must_stand AsBefore = false
must_stand AsNone = false

abbrev pub as_before : Absent → Bool
as_before MustStand = false
as_before AsBefore = true
as_before AsNone = false

-- a kind of line: its key, how its numbers are written, the range of each, how many lines of it a sheet can have, and what it stands for where it may be
-- absent
pub record Kind : Type 0 where
  pub key : List ℕ
  pub form : Form
  pub ranges : List Range
  pub lines : ℕ
  pub absent : Absent

abbrev pub kind : Form → S.String → List Range → Kind
kind form key ranges = record { key = bytes key; form = form; ranges = ranges; lines = 1; absent = MustStand }

-- "then that many `phase=` lines", "then that many `point=FEET,TENTHS` lines"
abbrev pub up_to : ℕ → S.String → List Range → Kind
up_to most key ranges = record { key = bytes key; form = plain; ranges = ranges; lines = most; absent = MustStand }

-- a list of at most `most` numbers: first how many they are, then they
abbrev pub list_of : ℕ → S.String → Range → Kind
list_of most key range = record { key = bytes key; form = list; ranges = (0 to most) ∷ replicate most range; lines = 1; absent = MustStand }

abbrev pub if_absent : Absent → Kind → Kind
if_absent absent k = record { key = k.key; form = k.form; ranges = k.ranges; lines = k.lines; absent = absent }

abbrev pub most_phases : ℕ
most_phases = 8

abbrev pub most_points : ℕ
most_points = 16

-- A vehicle is kept as its place in "car, su, bus, wb50", and a grade as 1,000,000 more than it is ("-80 to 80"), so that every kind has plain ranges.
abbrev pub kinds : List Kind
kinds =
    kind plain "issue" ((1 to 65535) ∷ [])
    ∷ kind worded "vehicle" ((0 to 3) ∷ [])
    ∷ kind signed "grade" ((999920 to 1000080) ∷ [])
    -- "Add `grade2` after `grade`, with the same range"; "a converter writes both grades equal"
    ∷ if_absent AsBefore (kind signed "grade2" ((999920 to 1000080) ∷ []))
    ∷ kind plain "l01" ((0 to 999) ∷ [])
    ∷ kind plain "l02" ((1 to 999) ∷ [])
    ∷ kind plain "phases" ((1 to most_phases) ∷ [])
    -- number, green, other, yellow, red, walk, clearance, mode: "Yellows are 30 to 60, reds 0 to 60, other phase times 0 to 999"
    ∷ up_to most_phases "phase" ((1 to 8) ∷ (0 to 999) ∷ (0 to 999) ∷ (30 to 60) ∷ (0 to 60) ∷ (0 to 999) ∷ (0 to 999) ∷ (0 to 2) ∷ [])
    -- yellow, red
    ∷ kind plain "track" ((30 to 60) ∷ (0 to 60) ∷ [])
    -- "after `track`, `dwell=` with rising phase numbers and commas between, or 0 for none"
    ∷ if_absent AsNone (list_of most_phases "dwell" (1 to 8))
    ∷ kind plain "l18" ((0 to 1000) ∷ [])
    ∷ kind plain "l19" ((1 to 400) ∷ [])
    ∷ kind plain "l20" ((1 to 150) ∷ [])
    ∷ kind plain "l28" ((0 to 999) ∷ [])
    ∷ kind plain "l30" ((200 to 999) ∷ [])
    ∷ kind plain "l31" ((0 to 999) ∷ [])
    ∷ kind plain "l33" ((0 to 999) ∷ [])
    ∷ kind plain "l37" ((100 to 999) ∷ [])
    ∷ kind plain "l39" ((0 to 999) ∷ [])
    ∷ kind plain "l47" ((0 to 1000) ∷ [])
    ∷ kind plain "l56" ((30 to 999) ∷ [])
    ∷ kind plain "l57" ((1 to 999) ∷ [])
    ∷ kind plain "l58" ((0 to 100) ∷ [])
    ∷ kind plain "points" ((2 to most_points) ∷ [])
    -- feet, tenths
    ∷ up_to most_points "point" ((0 to 400) ∷ (0 to 9999) ∷ [])
    ∷ []

-- ---- how many kinds, rows and numbers there are, and which and where those of a key are: counted in the table

-- The rows of a sheet: each kind in that order, as often as a sheet can have it. A text has the rows that its counts name.
abbrev pub rows_from : ℕ → List Kind → List ℕ
rows_from k [] = []
rows_from k (x ∷ xs) = replicate x.lines k ++ rows_from (k + 1) xs

abbrev pub rows : List ℕ
rows = rows_from 0 kinds

abbrev pub rows_in : List Kind → ℕ
rows_in [] = 0
rows_in (x ∷ xs) = x.lines + rows_in xs

abbrev pub numbers_in : List Kind → ℕ
numbers_in [] = 0
numbers_in (x ∷ xs) = x.lines * length x.ranges + numbers_in xs

abbrev pub kind_count : ℕ
kind_count = length kinds

abbrev pub row_count : ℕ
row_count = rows_in kinds

abbrev pub number_count : ℕ
number_count = numbers_in kinds

abbrev pub same : List ℕ → List ℕ → Bool
same [] [] = true
same [] (y ∷ ys) = false
same (x ∷ xs) [] = false
same (x ∷ xs) (y ∷ ys) = eqb x y && same xs ys

abbrev pub unless_found : Bool → List Kind → List Kind
unless_found true ks = []
unless_found false ks = ks

-- the kinds before that of a key
abbrev pub before : List ℕ → List Kind → List Kind
before key [] = []
before key (x ∷ xs) = unless_found (same x.key key) (x ∷ before key xs)

abbrev pub kind_for : S.String → ℕ
kind_for key = length (before (bytes key) kinds)

-- the first row with the key, and the place of its first number
abbrev pub row_for : S.String → ℕ
row_for key = rows_in (before (bytes key) kinds)

abbrev pub place_for : S.String → ℕ
place_for key = numbers_in (before (bytes key) kinds)

abbrev pub phase_kind : ℕ
phase_kind = kind_for "phase"

abbrev pub point_kind : ℕ
point_kind = kind_for "point"

abbrev pub first_phase : ℕ
first_phase = row_for "phase"

abbrev pub first_point : ℕ
first_point = row_for "point"

-- no kind and no range, for what stands past the table
abbrev pub none : Kind
none = record { key = []; form = plain; ranges = []; lines = 0; absent = MustStand }

unfoldable pub kind_of : ℕ → ℕ
kind_of row = get_or rows row kind_count

unfoldable pub key_of : ℕ → List ℕ
key_of row = (get_or kinds (kind_of row) none).key

unfoldable pub form_of : ℕ → Form
form_of row = (get_or kinds (kind_of row) none).form

unfoldable pub ranges_of : ℕ → List Range
ranges_of row = (get_or kinds (kind_of row) none).ranges

unfoldable pub absent_of : ℕ → Absent
absent_of row = (get_or kinds (kind_of row) none).absent

abbrev pub range_of : ℕ → ℕ → Range
range_of row j = get_or (ranges_of row) j (0 to 0)

unfoldable pub width_of : ℕ → ℕ
width_of row = length (ranges_of row)

-- where a row's numbers stand among all numbers of a sheet, in the rows' order
unfoldable pub place_of : ℕ → ℕ
place_of zero = 0
place_of (suc row) = place_of row + width_of row

-- the numbers that a sheet has of a row: of a list its count and as many as it counts, else all
unfoldable pub used_ranges : List ℕ → ℕ → List Range
used_ranges v row = pick (is_list (form_of row)) (take (1 + get_or v (place_of row) 0) (ranges_of row)) (ranges_of row)

unfoldable pub in_range : Range → ℕ → Bool
in_range r x = pick (leb r.least x) (leb x r.most) false

-- each number of a row in its range, from the place `at` on
unfoldable pub in_ranges : List ℕ → ℕ → List Range → Bool
in_ranges v at [] = true
in_ranges v at (r ∷ rs) = pick (in_range r (get_or v at 0)) (in_ranges v (at + 1) rs) false

-- phases: "1 to 8, then that many `phase=` lines"; points: "2 to 16, then that many `point=FEET,TENTHS` lines"
unfoldable pub present : List ℕ → ℕ → Bool
present v row =
    pick (ltb row first_phase) true
    (pick (ltb row (first_phase + most_phases)) (ltb (row - first_phase) (get_or v (place_for "phases") 0))
    (pick (ltb row first_point) true (ltb (row - first_point) (get_or v (place_for "points") 0))))
