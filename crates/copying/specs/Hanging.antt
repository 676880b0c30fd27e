-- Rows that hang together, as those of a text do: what their evaluation asks. Nobody needs this to believe `expand`.
use Rattle.std.specs.Prelude.{ℕ, ◌+◌, ◌/◌, ◌%◌, ◌<◌, ◌≡◌, Bool, true, ◌&&◌, not, List, get_or}
use Rattle.grammar.specs.Sorts.{unit, constructor, arity}
use Rattle.terms.specs.Cells.{column, name_base}
use Rattle.copying.specs.RowTemplates.{is_variable_name, is_row_sort}

-- a number at a place of a sort is a row
abbrev pub is_row_at : ℕ → ℕ → Bool
is_row_at sort x = is_row_sort sort && not (is_variable_name x)

-- the sort of a row's argument i, and its number
abbrev pub sort_at : List ℕ → ℕ → ℕ → ℕ
sort_at text row i = get_or (constructor (column text row 0)).params i unit

abbrev pub argument_at : List ℕ → ℕ → ℕ → ℕ
argument_at text row i = column text row (i + 1)

-- a row's argument i is a row
abbrev pub IsPart : List ℕ → ℕ → ℕ → Type 0
IsPart text row i = is_row_at (sort_at text row i) (argument_at text row i) ≡ true

-- a number that is a variable is one of the first `count`
abbrev pub VariableBelow : ℕ → ℕ → Type 0
VariableBelow count x = x / name_base ≡ 4 → x % name_base < count

-- The rows of the tree at a row: each has a byte for its code and variables among the first `count`, and its parts stand before it.
pub data Hangs (text : List ℕ) (count : ℕ) : ℕ → Type 0 where
  hangs : {row : ℕ}
      → column text row 0 < 256
      → ((i : ℕ) → i < arity (column text row 0) → VariableBelow count (argument_at text row i))
      → ((i : ℕ) → IsPart text row i → argument_at text row i < row)
      → ((i : ℕ) → IsPart text row i → Hangs text count (argument_at text row i))
      → Hangs text count row

-- the same of a value of a sort
pub record HangsAt (text : List ℕ) (count sort x : ℕ) : Type 0 where
  -- a variable is one of the first
  pub variable : VariableBelow count x
  -- a row hangs together
  pub row : is_row_at sort x ≡ true → Hangs text count x
