-- The template of a value, by whether it is a variable and by its sort.
use Prim.Native.Nat.{ℕ, ◌%◌}
use mathlib.Core.Path.{◌≡◌, refl}
use mathlib.Core.Bool.{true, false, ◌||◌}
use lib.Dec.{eqb}
use Rattle.grammar.specs.Sorts.{unit, var, binder}
use Rattle.grammar.specs.Table.{Template, variable, outside_var, outside_label}
use Rattle.grammar.specs.Table as Table
use Rattle.terms.specs.Cells.{name_base}
use Rattle.copying.specs.RowTemplates.{is_variable_name, is_row_sort, value_by, value_template}

module _ (rows : ℕ → Template) (sort x : ℕ) where
  -- a variable, whatever the sort
  pub at_variable : is_variable_name x ≡ true → value_template sort rows x ≡ variable (x % name_base)
  at_variable e = rw (e, value_template) refl

  module _ (other : is_variable_name x ≡ false) where
    -- a row
    pub at_row : is_row_sort sort ≡ true → value_template sort rows x ≡ rows x
    unfolding value_by
    at_row e = rw (other, e, value_template, value_by) refl

    module _ (no_row : is_row_sort sort ≡ false) where
      -- an outside name
      pub at_name : (eqb sort var || eqb sort binder) ≡ true → value_template sort rows x ≡ outside_var (x % name_base)
      unfolding value_by
      at_name e = rw (other, no_row, e, value_template, value_by) refl

      module _ (no_name : (eqb sort var || eqb sort binder) ≡ false) where
        -- a Unit
        pub at_unit : eqb sort unit ≡ true → value_template sort rows x ≡ Table.unit
        unfolding value_by
        at_unit e = rw (other, no_row, no_name, e, value_template, value_by) refl

        -- a label or a number
        pub at_plain : eqb sort unit ≡ false → value_template sort rows x ≡ outside_label x
        unfolding value_by
        at_plain e = rw (other, no_row, no_name, e, value_template, value_by) refl
