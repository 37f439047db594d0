-- A line of the text: its key, its numbers in the form that the table has for it, and a line feed.
use Rattle.std.specs.Prelude.{ℕ, zero, suc, ◌+◌, ◌-◌, List, Bool, true, false, get_or, set, eqb, Option, Some, None}
use Rattle.units.specs.Numbers.{pick}
use Rattle.rows.specs.declared.table.Form.{Form}
use Rattle.rows.specs.Table.{is_signed, is_worded, is_list, key_of, form_of, place_of, width_of}
use Rattle.rows.specs.Marks.{mark_of, line_feed, word_of}
use Rattle.figures.specs.declared.Figure.{Figure}
use Rattle.figures.specs.Figures.{is, on_place, on_figure, number_at, after_at, signed_at}

-- the number x where its word stands, else what the other words give
abbrev pub named_at : List ℕ → ℕ → ℕ → Option Figure → Option Figure
named_at s at x other = on_place (after_at s at (word_of x)) (λ p. is x p) other

-- "car, su, bus, wb50"; "Another vehicle word is refused 1"
unfoldable pub word_at : List ℕ → ℕ → Option Figure
word_at s at = named_at s at 0 (named_at s at 1 (named_at s at 2 (named_at s at 3 None)))

unfoldable pub field_at : List ℕ → ℕ → Form → Option Figure
field_at s at form = pick (is_worded form) (word_at s at) (pick (is_signed form) (signed_at s at) (number_at s at))

-- what was read of a line: whether it is well made, the place past it, and the numbers with its own stored
pub record Taken : Type 0 where
  pub good : Bool
  pub next : ℕ
  pub numbers : List ℕ

abbrev pub so_far : Bool → ℕ → List ℕ → Taken
so_far good next v = record { good = good; next = next; numbers = v }

abbrev pub bad : List ℕ → Taken
bad v = so_far false 0 v

abbrev pub good : ℕ → List ℕ → Taken
good p v = so_far true p v

-- the same by the place past it, which there is where it is well made
abbrev pub taken : Option ℕ → List ℕ → Taken
taken (Some p) v = good p v
taken None v = bad v

-- n numbers of that form from number j of a line on, each after its mark, stored in v from `place` on
unfoldable pub fields : List ℕ → Form → ℕ → ℕ → ℕ → ℕ → List ℕ → Taken
fields s form place zero j p v = good p v
fields s form place (suc n) j p v =
    on_place (after_at s p (mark_of j))
    (λ q. on_figure (field_at s q form) (λ x t. fields s form place n (j + 1) t (set v (place + j) x)) (bad v))
    (bad v)

-- "or 0 for none": 0 stands for none only when it is alone. k numbers were read, the first of them x
abbrev pub list_count : ℕ → ℕ → ℕ
list_count k x = pick (eqb k 1) (pick (eqb x 0) 0 1) k

-- a list that is over after k numbers: how many they are is stored before them
abbrev pub list_end : ℕ → ℕ → ℕ → List ℕ → Taken
list_end place k p v = good p (set v place (list_count k (get_or v (place + 1) 0)))

-- at most n numbers of a list from number k on, each after its mark. One must stand; where no comma follows the list is over
unfoldable pub list_fields : List ℕ → ℕ → ℕ → ℕ → ℕ → List ℕ → Taken
list_fields s place zero k p v = list_end place k p v
list_fields s place (suc n) k p v =
    on_place (after_at s p (mark_of k))
    (λ q. on_figure (number_at s q) (λ x t. list_fields s place n (k + 1) t (set v (place + 1 + k) x)) (bad v))
    (pick (eqb k 0) (bad v) (list_end place k p v))

-- the numbers of a line by its form, with room for n from `place` on: of a list the first is how many they are, which the text does not say
unfoldable pub values_at : List ℕ → Form → ℕ → ℕ → ℕ → List ℕ → Taken
values_at s form place n p v = pick (is_list form) (list_fields s place (n - 1) 0 p v) (fields s form place n 0 p v)

-- "each ended by a line feed"
abbrev pub ended : List ℕ → Taken → Taken
ended s t = pick t.good (on_place (after_at s t.next line_feed) (λ q. good q t.numbers) (bad t.numbers)) t

unfoldable pub line_at : List ℕ → ℕ → ℕ → List ℕ → Taken
line_at s at row v =
    on_place (after_at s at (key_of row)) (λ p. ended s (values_at s (form_of row) (place_of row) (width_of row) p v)) (bad v)
