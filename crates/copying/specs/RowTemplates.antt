-- The template that a row of cells stands for. Document 02, C-14: a text is read into cells as a formula is; what they then hold is the template that it stands
-- for. A value is a `$` variable, an outside name, a label's number, a row, or a Unit, told apart by its sort as in `term_at`.
use Rattle.std.specs.Prelude.{ℕ, zero, suc, ◌+◌, ◌/◌, ◌%◌, Bool, true, false, ◌||◌, List, [], ◌∷◌, eqb}
use Rattle.grammar.specs.Sorts.{unit, var, binder, term, fields, constructor}
use Rattle.grammar.specs.Table.{Template, Templates, variable, outside_var, outside_label, make, none, more}
use Rattle.grammar.specs.Table as Table
use Rattle.terms.specs.Cells.{column, name_base}

-- a `$` variable as a value, whatever its sort, is a `variable_name` (tokens/specs/Variables)
abbrev pub is_variable_name : ℕ → Bool
is_variable_name x = eqb (x / name_base) 4

-- a sort whose values are rows
abbrev pub is_row_sort : ℕ → Bool
is_row_sort sort = eqb sort term || eqb sort fields

-- a value that is no variable, by its sort, where `rows` gives the templates of rows; a text that passes gives no Binder and no Num of its own
unfoldable pub value_by : ℕ → (ℕ → Template) → ℕ → Template
value_by sort rows x =
    elim (is_row_sort sort) [
      | true ↦ rows x
      | false ↦
          elim (eqb sort var || eqb sort binder) [
            | true ↦ outside_var (x % name_base)
            | false ↦ elim (eqb sort unit) [ true ↦ Table.unit | false ↦ outside_label x ]
          ]
    ]

-- a value of a sort
abbrev pub value_template : ℕ → (ℕ → Template) → ℕ → Template
value_template sort rows x = elim (is_variable_name x) [ true ↦ variable (x % name_base) | false ↦ value_by sort rows x ]

-- the values in the columns of row r from column k on, by the sorts of a constructor's places
unfoldable pub column_templates : List ℕ → (ℕ → Template) → List ℕ → ℕ → ℕ → Templates
column_templates [] rows cells r k = none
column_templates (sort ∷ sorts) rows cells r k = more (value_template sort rows (column cells r k)) (column_templates sorts rows cells r (k + 1))

-- the template of row r; k bounds the depth, as a row refers to rows before it. A part used twice stands at both places
unfoldable pub row_template : ℕ → List ℕ → ℕ → Template
row_template zero cells r = Table.unit
row_template (suc k) cells r =
    make (column cells r 0) (column_templates (constructor (column cells r 0)).params (λ q. row_template k cells q) cells r 1)

-- the template of a text whose reading makes so many rows, and gives the value x of a sort
abbrev pub text_template : ℕ → List ℕ → ℕ → ℕ → Template
text_template made cells sort x = value_template sort (λ q. row_template made cells q) x
