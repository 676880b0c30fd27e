-- How a text that was read is stored behind those before it. These definitions mirror code: nobody needs them to believe `expand`.
use Rattle.std.specs.Prelude.{ℕ, ◌+◌, ◌*◌, ◌^◌, ◌<◌, ◌≤◌, ◌≡◌, true, List, length, get_or}
use Rattle.grammar.specs.Variables.{most_variables}
use Rattle.terms.specs.Cells.{columns, most_cells}
use Rattle.copying.specs.Hanging.{is_row_at, HangsAt}
use Rattle.steps.specs.HeldTexts.{pair_of, held_value, held_sort, held_start, held_rows}

-- the pair stands before the rows, which are inside; sort and index share a number
pub record StorablePair (texts cells : List ℕ) (at sort start made : ℕ) : Type 0 where
  pub before : pair_of at + 1 < start
  pub inside : start + made * columns ≤ length texts
  pub short : length texts < 2 ^ 28
  pub sort_small : sort < 8
  pub rows_there : made * columns ≤ length cells
  pub few_rows : made ≤ most_cells

-- numbers are moved from the front of the cells to an index, and zeroed; all others stay
pub record MovesRows (texts : List ℕ) (start : ℕ) (cells : List ℕ) (numbers : ℕ) (texts' cells' : List ℕ) : Type 0 where
  pub long : length texts' ≡ length texts
  pub wide : length cells' ≡ length cells
  pub moved : (i : ℕ) → i < numbers → get_or texts' (start + i) 0 ≡ get_or cells i 0
  pub kept : (j : ℕ) → j < start → get_or texts' j 0 ≡ get_or texts j 0
  pub zero : (i : ℕ) → i < numbers → get_or cells' i 0 ≡ 0
  pub left : (j : ℕ) → numbers ≤ j → get_or cells' j 0 ≡ get_or cells j 0

-- the pair and the rows are stored; what stands before the rows stays but for the pair
pub record StoresText (texts cells : List ℕ) (at sort start x made : ℕ) (texts' cells' : List ℕ) : Type 0 where
  pub long : length texts' ≡ length texts
  pub wide : length cells' ≡ length cells
  pub value : get_or texts' (pair_of at) 0 ≡ x
  pub word : get_or texts' (pair_of at + 1) 0 ≡ start * 8 + sort
  pub rows : (i : ℕ) → i < made * columns → get_or texts' (start + i) 0 ≡ get_or cells i 0
  pub kept : (j : ℕ) → j < start → (j ≡ pair_of at → ⊥) → (j ≡ pair_of at + 1 → ⊥) → get_or texts' j 0 ≡ get_or texts j 0
  pub zero : (i : ℕ) → i < made * columns → get_or cells' i 0 ≡ 0
  pub left : (j : ℕ) → made * columns ≤ j → get_or cells' j 0 ≡ get_or cells j 0

-- The text of the field at an offset is held: its pair before an index behind all pairs, its rows from there on and before an end, and they hang together.
pub record HeldBefore (texts : List ℕ) (base end at : ℕ) : Type 0 where
  pub pair_before : pair_of at + 1 < base
  pub rows_behind : base ≤ held_start texts at
  pub begins_inside : held_start texts at ≤ end
  pub rows_inside : is_row_at (held_sort texts at) (held_value texts at) ≡ true → held_start texts at + (held_value texts at + 1) * columns ≤ end
  pub row_small : is_row_at (held_sort texts at) (held_value texts at) ≡ true → held_value texts at < most_cells
  pub end_inside : end ≤ length texts
  pub hangs : HangsAt (held_rows texts at) most_variables (held_sort texts at) (held_value texts at)
