-- What the code that evaluates a text's rows answers. These definitions mirror code: nobody needs them to believe `expand`.
use Rattle.std.specs.Prelude.{ℕ, zero, suc, ◌<◌, ◌≤◌, ◌≡◌, true, false, List, length, Some, None}
use Rattle.answers.specs.Refusals.{refusal}
use Rattle.grammar.specs.Table.{Template}
use Rattle.terms.specs.Cells.{rows_lent}
use Rattle.expansion.specs.declared.State.{State}
use Rattle.expansion.specs.Run.{Result, done, halt}
use Rattle.expansion.specs.Expansion.{Input, build}
use Rattle.templates.specs.Built.{Holds, with_made}
use Rattle.copying.specs.RowTemplates.{value_template, row_template, text_template}
use Rattle.copying.specs.Hanging.{is_row_at, VariableBelow, Hangs, HangsAt}
use Rattle.copying.specs.Copied.{Copied}

-- a number that is no row has a value, and makes no cell
pub record HasValue (sort x : ℕ) (env : List ℕ) (v : ℕ) : Type 0 where
  -- its template gives the value, whatever the templates of rows are
  pub gives :
      (M : List ℕ) (count : ℕ) → Holds env count M → VariableBelow count x → is_row_at sort x ≡ false
      → (rows : ℕ → Template) (I : Input) (s : State) (cells : List ℕ) → build (value_template sort rows x) I M s cells ≡ done v s cells

-- refusal 21: no row is left
abbrev pub no_row : State → List ℕ → Result ℕ
no_row s cells = halt (refusal 21 s.at 0 0) cells

-- an answer in one number: how many cells are then made, the last of them being the value; 0 if no row is left
abbrev pub row_made : State → ℕ → List ℕ → Result ℕ
row_made s zero cells = no_row s cells
row_made s (suc row) cells = done row (with_made s (suc row)) cells

-- it is what the template of a row gives, to any depth that reaches the row
pub record CopiesRow (text : List ℕ) (row : ℕ) (env : List ℕ) (made : ℕ) (cells : List ℕ) (r : ℕ) (cells' : List ℕ) : Type 0 where
  -- no more cells are made than there are rows
  pub few : r ≤ rows_lent (length cells)
  -- the answer is what the template gives under the values of the variables
  pub evaluates :
      (I : Input) (s : State) (M : List ℕ) (count depth : ℕ) → I.rows ≡ rows_lent (length cells) → Holds env count M → Hangs text count row → row < depth
      → row_made s r cells' ≡ build (row_template depth text row) I M (with_made s made) cells

-- an answer: the value and the cells then made, or no row is left
abbrev pub copied : State → Copied → List ℕ → Result ℕ
copied s (Some (v, made)) cells = done v (with_made s made) cells
copied s None cells = no_row s cells

-- it is what the template of a text gives that reads x at a sort, to any depth that reaches a row
pub record CopiesText (text : List ℕ) (sort x : ℕ) (env : List ℕ) (made : ℕ) (cells : List ℕ) (r : Copied) (cells' : List ℕ) : Type 0 where
  -- the answer is what the template gives under the values of the variables
  pub evaluates :
      (I : Input) (s : State) (M : List ℕ) (count depth : ℕ) → I.rows ≡ rows_lent (length cells) → Holds env count M → HangsAt text count sort x
      → (is_row_at sort x ≡ true → x < depth)
      → copied s r cells' ≡ build (text_template depth text sort x) I M (with_made s made) cells
