-- Where a slice of numbers holds results that are texts (document 02, C-14). The field at an offset has a pair of numbers there: the value that the reading
-- of its text gave, and eight times the index at which its rows begin, plus the sort of its nonterminal. Its rows stand from that index on, numbered from 0.
-- These definitions mirror code: nobody needs them to believe `expand`.
use Rattle.std.specs.Prelude.{ℕ, ◌+◌, ◌*◌, ◌/◌, ◌%◌, ◌<◌, ◌≤◌, ◌≡◌, true, List, length, get_or, drop}
use Rattle.grammar.specs.Table.{Template}
use Rattle.grammar.specs.Variables.{most_variables}
use Rattle.terms.specs.Cells.{rows_lent}
use Rattle.copying.specs.RowTemplates.{text_template}
use Rattle.copying.specs.Hanging.{is_row_at, HangsAt}

-- where the pair of the field at an offset stands: such a field has four bytes at least, so that no two have the same
abbrev pub pair_of : ℕ → ℕ
pair_of at = at / 4 * 2

-- the value of its text, and the word of rows and sort
abbrev pub held_value : List ℕ → ℕ → ℕ
held_value texts at = get_or texts (pair_of at) 0

abbrev pub held_word : List ℕ → ℕ → ℕ
held_word texts at = get_or texts (pair_of at + 1) 0

-- the sort of its nonterminal, the index of its rows, and they and all behind them
abbrev pub held_sort : List ℕ → ℕ → ℕ
held_sort texts at = held_word texts at % 8

abbrev pub held_start : List ℕ → ℕ → ℕ
held_start texts at = held_word texts at / 8

abbrev pub held_rows : List ℕ → ℕ → List ℕ
held_rows texts at = drop (held_start texts at) texts

-- the template that stands there, whatever the numbers are
unfoldable pub text_at : List ℕ → ℕ → Template
text_at texts at = text_template (rows_lent (length (held_rows texts at))) (held_rows texts at) (held_sort texts at) (held_value texts at)

-- the pair is there, the rows begin inside, a value that is a row is one of them, and they hang together
pub record TextHangs (texts : List ℕ) (at : ℕ) : Type 0 where
  pub pair_inside : pair_of at + 1 < length texts
  pub rows_inside : held_start texts at ≤ length texts
  pub row_inside : is_row_at (held_sort texts at) (held_value texts at) ≡ true → held_value texts at < rows_lent (length (held_rows texts at))
  pub hangs : HangsAt (held_rows texts at) most_variables (held_sort texts at) (held_value texts at)
