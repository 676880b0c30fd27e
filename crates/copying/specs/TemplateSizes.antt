-- The constructors of templates held as rows, by one pass over the rows: a part stands before its row. Nobody needs this to believe `expand`.
use Rattle.std.specs.Prelude.{ℕ, ◌+◌, ◌<◌, ◌≤◌, min, ◌≡◌, Bool, true, false, ◌&&◌, ◌||◌, List, leb, ltb, length, get_or}
use Rattle.terms.specs.Cells.{most_cells}
use Rattle.terms.specs.Term.{largest_term}
use Rattle.expansion.specs.Costs.{rows_of}
use Rattle.rows.specs.declared.sums.Parts.{Parts}
use Rattle.rows.specs.declared.sums.Parts.TheVariants.{NoPart, OneTerm, TwoTerms, OneList, TermAndList}
use Rattle.copying.specs.RowTemplates.{is_variable_name, row_template, text_template}

-- the constructors of what stands at a place of rows: a variable has none
abbrev pub part_size : ℕ → List ℕ → ℕ → ℕ
part_size depth text x = elim (is_variable_name x) [ true ↦ 0 | false ↦ rows_of (row_template depth text x) ]

-- one constructor more than a template may have, up to which constructors are counted
abbrev pub size_cap : ℕ
size_cap = largest_term + 1

-- a variable, or a row before a row
abbrev pub is_before : ℕ → ℕ → Bool
is_before row x = is_variable_name x || ltb x row

-- so it is with each part
abbrev pub are_parts : ℕ → Parts → Bool
are_parts row NoPart = true
are_parts row (OneTerm t) = is_before row t
are_parts row (TwoTerms t u) = is_before row t && is_before row u
are_parts row (OneList f) = is_before row f
are_parts row (TermAndList t f) = is_before row t && is_before row f

-- a room has the sizes of the first rows, each cut off, for any bound of the depth that reaches the row
pub record SizedBelow (text sizes : List ℕ) (row : ℕ) : Type 0 where
  -- it is no longer than an expansion's rows
  pub few : length sizes ≤ most_cells
  -- it has a place for each of them
  pub within : row ≤ length sizes
  -- each has its size
  pub each : (q depth : ℕ) → q < row → q < depth → get_or sizes q 0 ≡ min size_cap (rows_of (row_template depth text q))

-- the answer of a pass: if the rows are in order, the room has all sizes
pub record SizesRows (text sizes₀ sizes : List ℕ) (r : Bool) : Type 0 where
  -- the room is as long as it was
  pub long : length sizes ≡ length sizes₀
  -- it has the size of each row
  pub sized : r ≡ true → SizedBelow text sizes (length sizes)

-- whether a text that reads x at a sort has no more constructors than a term may have, where so many rows are made
abbrev pub is_small_text : List ℕ → ℕ → ℕ → ℕ → Bool
is_small_text text made sort x = leb (rows_of (text_template made text sort x)) largest_term
