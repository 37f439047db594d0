-- A row past the table: what is read there. Assumes nothing.
use Prim.Native.Nat.{ℕ, ◌≤◌}
use mathlib.Core.Path.{◌≡◌, refl, ap}
use mathlib.Core.List.{List, []}
use lib.ListN.{get_or}
use Rattle.units.specs.Numbers.{pick}
use Rattle.std.specs.Prelude.{Ok}
use Rattle.sheet.specs.Refusals.{or_else, unless}
use Rattle.rows.specs.Table.{plain, kinds, none, row_count, key_of, form_of, used_ranges, in_ranges}
use Rattle.rows.specs.Marks.{line_feed}
use Rattle.rows.proofs.Tables.{kind_past, ranges_past, width_past}
use Rattle.faults.specs.Lines.{rule_fault, row_fault}
use Rattle.figures.specs.Figures.{on_place, after, after_at}
use Rattle.text.specs.Line.{fields, values_at, line_at}
use Rattle.text.specs.Read.{Step, step, malformed, judged_at}
use Rattle.text.proofs.Cases.{by_place}

-- a row past the table has no key, no number and no fault: its line is a line feed
abbrev pub past_at : List ℕ → ℕ → ℕ → List ℕ → Step
past_at s at line v = on_place (after_at s at line_feed) (λ q. step (Ok tt) q v) (malformed line v)

module _ (row : ℕ) (h : row_count ≤ row) where
  key_past : key_of row ≡ []
  unfolding key_of
  key_past = ap (λ (k : ℕ). (get_or kinds k none).key) (kind_past row h)

  form_past : form_of row ≡ plain
  unfolding form_of
  form_past = ap (λ (k : ℕ). (get_or kinds k none).form) (kind_past row h)

  no_fault : (v : List ℕ) (line : ℕ) → row_fault v row line ≡ Ok tt
  unfolding row_fault rule_fault used_ranges in_ranges pick or_else unless
  no_fault v line = rw (kind_past row h, form_past, ranges_past row h) refl

  pub past_table : (s : List ℕ) (at line : ℕ) (v : List ℕ) → past_at s at line v ≡ judged_at s at row line v
  unfolding judged_at line_at values_at fields after pick
  past_table s at line v =
      by_place (after_at s at line_feed)
      (λ a. rw (key_past, form_past, width_past row h, a) refl)
      (λ q a. rw (key_past, form_past, width_past row h, a, no_fault v line) refl)
