-- Rows that are the same in two slices hang together in both and stand for the same template, to any depth that reaches them.
use Prim.Native.Nat.{ℕ, zero, suc, ◌+◌, ◌*◌, ◌%◌, ◌<◌}
use mathlib.Core.Path.{◌≡◌, refl, sym, ap, ap₂, ◌∙◌}
use mathlib.Core.Bool.{Bool, true, false, not, ◌&&◌, ◌||◌, true≢false}
use mathlib.Core.List.{List, [], ◌∷◌}
use native.Mathlib.Decide.{dec_lt}
use native.Mathlib.Omega.{arith}
use lib.Dec.{eqb}
use lib.ListN.{length, get_or}
use Rattle.grammar.specs.Sorts.{unit, var, binder, constructor, arity}
use Rattle.grammar.specs.Table.{Template, variable, outside_var, outside_label, make, more}
use Rattle.grammar.specs.Table as Table
use Rattle.grammar.proofs.ReaderLaws.{get_d_past, arity_few}
use Rattle.terms.specs.Cells.{columns, column, name_base}
use Rattle.copying.specs.RowTemplates.{is_variable_name, is_row_sort, value_by, value_template, column_templates, row_template, text_template}
use Rattle.copying.specs.Hanging.{is_row_at, argument_at, IsPart, Hangs, hangs, HangsAt}

-- a value by whether it is a variable, and whether its sort is that of rows
abbrev value_of : ℕ → ℕ → (ℕ → Template) → Bool → Bool → Template
value_of sort x rows named rowed =
    elim named [
      | true ↦ variable (x % name_base)
      | false ↦
          elim rowed [
            | true ↦ rows x
            | false ↦
                elim (eqb sort var || eqb sort binder) [
                  | true ↦ outside_var (x % name_base)
                  | false ↦ elim (eqb sort unit) [ true ↦ Table.unit | false ↦ outside_label x ]
                ]
          ]
    ]

-- it is the same where a row that it is stands for the same
value_same : (sort : ℕ) (rows rows' : ℕ → Template) (x : ℕ) → (is_row_at sort x ≡ true → rows' x ≡ rows x)
    → value_template sort rows' x ≡ value_template sort rows x
unfolding value_by
value_same sort rows rows' x h = by (is_variable_name x) (is_row_sort sort) h
  where
    by : (named rowed : Bool) → ((rowed && not named) ≡ true → rows' x ≡ rows x) → value_of sort x rows' named rowed ≡ value_of sort x rows named rowed
    by true rowed f = refl
    by false true f = f refl
    by false false f = refl

module _ (text text' : List ℕ) where
  -- so it is with the values in columns
  columns_same : (sorts : List ℕ) (rows rows' : ℕ → Template) (row k : ℕ)
      → ((i : ℕ) → i < length sorts → column text' row (i + k) ≡ column text row (i + k))
      → ((i : ℕ) → i < length sorts → is_row_at (get_or sorts i unit) (column text row (i + k)) ≡ true
      → rows' (column text row (i + k)) ≡ rows (column text row (i + k)))
      → column_templates sorts rows' text' row k ≡ column_templates sorts rows text row k
  unfolding column_templates
  columns_same [] rows rows' row k same part = refl
  columns_same (sort ∷ sorts) rows rows' row k same part =
      let first : 0 + k ≡ k = omega arith in
      ap₂ more
      (ap (value_template sort rows') (rw first at (same 0 (omega arith)))
      ∙ value_same sort rows rows' (column text row k) (rw first at (part 0 (omega arith))))
      (columns_same sorts rows rows' row (k + 1) (λ i h. let e : i + (k + 1) ≡ suc i + k = omega arith in rw e (same (suc i) (omega arith)))
      (λ i h. let e : i + (k + 1) ≡ suc i + k = omega arith in rw e (part (suc i) (omega arith))))

  -- the numbers of the rows up to one are the same
  abbrev SameTo : ℕ → Type 0
  SameTo row = (spot : ℕ) → spot < (row + 1) * columns → get_or text' spot 0 ≡ get_or text spot 0

  module _ {count : ℕ} where
    -- Rows up to one that are the same stand for the same template, to any depths that reach it.
    pub template_same : {row : ℕ} (depth depth' : ℕ) → Hangs text count row → SameTo row → row < depth → row < depth'
        → row_template depth' text' row ≡ row_template depth text row
    unfolding row_template
    template_same zero depth' h same l m = absurd (omega arith)
    template_same (suc depth) zero h same l m = absurd (omega arith)
    template_same {row} (suc depth) (suc depth') (hangs byte variables before parts) same l m =
        let code : column text' row 0 ≡ column text row 0 = same (row * columns + 0) (omega arith) in
        ap (λ c. make c (column_templates (constructor c).params (λ q. row_template depth' text' q) text' row 1)) code
        ∙ ap (make (column text row 0))
        (columns_same (constructor (column text row 0)).params (λ q. row_template depth text q) (λ q. row_template depth' text' q) row 1
        (λ i h. same (row * columns + (i + 1)) (omega (arith, arity_few (column text row 0))))
        (λ i h part.
        template_same {row = argument_at text row i} depth depth' (parts i part) (λ spot b. same spot (omega (arith, before i part)))
        (omega (arith, before i part)) (omega (arith, before i part))))

    -- They hang together too.
    pub hangs_same : {row : ℕ} → Hangs text count row → SameTo row → Hangs text' count row
    hangs_same {row} (hangs byte variables before parts) same =
        hangs {row = row} (rw code byte) (λ i h. rw (argument i (rw code at h)) (variables i (rw code at h)))
        (λ i part. by_before i part (dec_lt i (arity (column text row 0)))) (λ i part.
        by_part i part (dec_lt i (arity (column text row 0)))
        (λ inner. hangs_same (parts i inner) (λ spot b. same spot (omega (arith, before i inner)))))
      where
        code : column text' row 0 ≡ column text row 0
        code = same (row * columns + 0) (omega arith)

        argument : (i : ℕ) → i < arity (column text row 0) → argument_at text' row i ≡ argument_at text row i
        argument i h = same (row * columns + (i + 1)) (omega (arith, arity_few (column text row 0)))

        is_part : (i : ℕ) → IsPart text' row i → i < arity (column text row 0) → IsPart text row i
        is_part i part h = rw (code, argument i h) at part

        no_part : (i : ℕ) → IsPart text' row i → (i < arity (column text row 0) → ⊥) → ⊥
        no_part i part h =
            let past : get_or (constructor (column text row 0)).params i unit ≡ unit
            = get_d_past (constructor (column text row 0)).params i unit (omega arith) in
            true≢false (sym (rw (code, past) at part))

        by_before : (i : ℕ) → IsPart text' row i → Dec (i < arity (column text row 0)) → argument_at text' row i < row
        by_before i part (yes h) = rw (argument i h) (before i (is_part i part h))
        by_before i part (no h) = absurd (no_part i part h)

        by_part : (i : ℕ) → IsPart text' row i → Dec (i < arity (column text row 0)) → (IsPart text row i → Hangs text' count (argument_at text row i))
            → Hangs text' count (argument_at text' row i)
        by_part i part (yes h) again = rw (argument i h) (again (is_part i part h))
        by_part i part (no h) again = absurd (no_part i part h)

    module _ {sort x : ℕ} (at : HangsAt text count sort x) (same : is_row_at sort x ≡ true → SameTo x) where
      -- A value whose rows are the same hangs together,
      pub value_hangs : HangsAt text' count sort x
      value_hangs = record { variable = at.variable; row = λ e. hangs_same (at.row e) (same e) }

      -- and stands for the same template.
      pub text_same : (depth depth' : ℕ) → (is_row_at sort x ≡ true → x < depth) → (is_row_at sort x ≡ true → x < depth')
          → text_template depth' text' sort x ≡ text_template depth text sort x
      text_same depth depth' l m =
          value_same sort (λ q. row_template depth text q) (λ q. row_template depth' text' q) x
          (λ e. template_same depth depth' (at.row e) (same e) (l e) (m e))
