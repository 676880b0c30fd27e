-- The size of the tree at a row, and whole rows. A size does not depend on spellings. Nobody needs this to believe `expand`.
use Rattle.std.specs.Prelude.{ℕ, ◌+◌, ◌*◌, ◌/◌, ◌<◌, ◌≤◌, min, ◌≡◌, List, [], length, get_or}
use Rattle.terms.specs.Cells.{columns, most_cells}
use Rattle.terms.specs.Term.{size, size_fields, largest_term}
use Rattle.terms.specs.Rows.{term_at, field_list_at}

-- the rows that cells hold
abbrev pub rows_held : List ℕ → ℕ
rows_held cells = length cells / columns

-- rows for which shorter rooms are lent
abbrev pub few_rows : ℕ
few_rows = 256

-- rows for which all constructors that a term may have are counted at once
abbrev pub many_rows : ℕ
many_rows = 8000

-- one constructor more than a term may have, up to which constructors are counted
abbrev pub most_bound : ℕ
most_bound = largest_term + 1

abbrev pub no_spell : ℕ → List ℕ
no_spell n = []

-- the constructors of the term, and of the field list, at a row; `bound` bounds the depth
abbrev pub size_at : List ℕ → ℕ → ℕ → ℕ
size_at cells bound row = size (term_at bound no_spell cells row)

abbrev pub size_fields_at : List ℕ → ℕ → ℕ → ℕ
size_fields_at cells bound row = size_fields (field_list_at bound no_spell cells row)

-- a size, cut off behind the largest term
abbrev pub cut_size : List ℕ → ℕ → ℕ → ℕ
cut_size cells bound row = min most_bound (size_at cells bound row)

-- whole rows, 16,384 at most
pub record WholeRows (cells : List ℕ) : Type 0 where
  pub few : length cells ≤ most_cells * columns
  pub whole : rows_held cells * columns ≡ length cells

-- how many constructors are counted before the rows are looked at
pub record FirstCount (made count : ℕ) : Type 0 where
  pub most : count ≤ most_bound
  pub all : many_rows ≤ made → count ≡ most_bound

-- a weight of 1 for each of some rows
pub record Ones (weights : List ℕ) : Type 0 where
  pub few : length weights ≤ most_cells
  pub each : (row : ℕ) → row < length weights → get_or weights row 0 ≡ 1
