-- The size of what a number of a text's reading stands for: a row at a sort of rows shows the constructors of its tree, any other number none. A template built
-- under numbers that show the sizes of templates shows the size of the template with these put in.
use Prim.Native.Nat.{ℕ, zero, suc, ◌+◌, ◌*◌, ◌≤◌, ◌<◌}
use mathlib.Core.Path.{◌≡◌, refl, sym, ap, ap₂, ◌∙◌}
use mathlib.Core.Bool.{true, false, true≢false, ◌||◌}
use mathlib.Core.List.{List, [], ◌∷◌, ◌++◌, append_assoc}
use native.Mathlib.Omega.{arith}
use lib.Dec.{eqb}
use lib.ListN.{length, get_or, length-append}
use lib.Seq.{get_or_at}
use Rattle.spellings.proofs.BytesLaws.{by_test}
use Rattle.grammar.specs.Sorts.{unit, var, binder, constructor}
use Rattle.grammar.specs.Table.{Template, Templates, variable, outside_var, outside_label, make, none, more}
use Rattle.grammar.specs.Table as Table
use Rattle.grammar.proofs.ReaderLaws.{arity_few}
use Rattle.terms.specs.Cells.{columns, column, name_base}
use Rattle.judgements.specs.Judgements.{Has, has_first, has_later, Fits, fits_equal, fits_binder, Sorted, Fill, fill_none, fill_more}
use Rattle.judgements.specs.Judgements as Judgements
use Rattle.expansion.specs.declared.State.{State}
use Rattle.expansion.specs.Expansion.{Input, cell, build, build_all}
use Rattle.expansion.specs.Costs.{rows_of, rows_of_all}
use Rattle.expansion.proofs.CellLaws.{with_row, filled, Row, cell_by}
use Rattle.expansion.proofs.Endings.{Ends, ends_after, ends_map, Made, Full, nothing_made, made_trans, full_more}
use Rattle.expansion.proofs.Shows.{Agree, IsCode, Grown, row_grown}
use Rattle.copying.specs.RowTemplates.{is_variable_name, is_row_sort, value_template, column_templates, row_template, text_template}
use Rattle.copying.specs.Hanging.{is_row_at}
use Rattle.copying.proofs.ValueLaws.{at_variable, at_row, at_name, at_unit, at_plain}
use Rattle.copying.proofs.CopyLaws.{no_row_sort}
use Rattle.texts.specs.Substitution.{substitute, substitute_all, template_list}
use Rattle.texts.proofs.Showing.{fewer, in_row}
use Rattle.texts.proofs.ReadBack.{result_sort, no_variable}
use Rattle.texts.proofs.TextValues.{ShowAll, show_none, show_more, show_map}

-- ------------------------------------------------------------------ what a number shows

mutual
  -- a number shows a size at a sort, where `made` rows are made
  pub data ShowsSize (cells : List ℕ) : ℕ → ℕ → ℕ → ℕ → Type 0 where
    size_leaf : {made sort x : ℕ} → is_row_at sort x ≡ false → ShowsSize cells made sort x 0
    size_row : {made sort row c m n : ℕ} → is_row_sort sort ≡ true → row < made → column cells row 0 ≡ c
        → ColumnsSize cells row 1 (constructor c).params m → n ≡ m + 1
        → ShowsSize cells made sort row n

  -- the columns of a row from column k on show a size together, at sorts and by rows before it
  pub data ColumnsSize (cells : List ℕ) : ℕ → ℕ → List ℕ → ℕ → Type 0 where
    no_column : {row k : ℕ} → ColumnsSize cells row k [] 0
    one_column : {row k x B m n all : ℕ} {Bs : List ℕ} → k < columns → column cells row k ≡ x → ShowsSize cells row B x m
        → ColumnsSize cells row (k + 1) Bs n → all ≡ m + n
        → ColumnsSize cells row k (B ∷ Bs) all

-- a number shows the size of a template
abbrev pub SizeShown : List ℕ → ℕ → ℕ → ℕ → Template → Type 0
SizeShown cells made B x t = ShowsSize cells made B x (rows_of t)

-- where more rows are made
size_more : {made made' : ℕ} {cells : List ℕ} {B x n : ℕ} → made ≤ made' → ShowsSize cells made B x n → ShowsSize cells made' B x n
size_more l (size_leaf e) = size_leaf e
size_more {made' = made'} l (size_row {row = row} r h e cs q) = size_row {made = made'} {row = row} r (omega arith) e cs q

mutual
  -- other cells with the same rows show the same
  size_agree : {made : ℕ} {cells cells' : List ℕ} {B x n : ℕ} → Agree made cells cells' → ShowsSize cells made B x n → ShowsSize cells' made B x n
  size_agree a (size_leaf e) = size_leaf e
  size_agree a (size_row {row = row} r h e cs q) = size_row r h (a.same (row * columns + 0) (omega arith) ∙ e) (columns_agree h a cs) q

  columns_agree : {made row k n : ℕ} {cells cells' : List ℕ} {Bs : List ℕ} → row < made → Agree made cells cells' → ColumnsSize cells row k Bs n
      → ColumnsSize cells' row k Bs n
  columns_agree l a no_column = no_column
  columns_agree {row = row} {k = k} l a (one_column h e s cs q) =
      one_column h (a.same (row * columns + k) (omega arith) ∙ e) (size_agree (fewer (omega arith) a) s) (columns_agree l a cs) q

-- What is shown stays shown as rows are made.
pub size_later : {made made' : ℕ} {cells cells' : List ℕ} {B x n : ℕ} → Grown made cells made' cells' → ShowsSize cells made B x n
    → ShowsSize cells' made' B x n
size_later g s = size_more g.more (size_agree g.agree s)

-- What fits a sort shows the same size there.
pub size_fits : {made : ℕ} {cells : List ℕ} {A B x n : ℕ} → Fits A B → ShowsSize cells made A x n → ShowsSize cells made B x n
size_fits fits_equal s = s
size_fits fits_binder (size_leaf e) = size_leaf refl
size_fits fits_binder (size_row r h e cs q) = absurd (true≢false (sym r))

-- a variable's size is shown at its place
size_bound : {made : ℕ} {cells : List ℕ} {L xs : List ℕ} {M : List Template} {i B : ℕ} → ShowAll (SizeShown cells made) L xs M → Has L i B
    → SizeShown cells made B (get_or xs i 0) (get_or M i Table.unit)
size_bound (show_more h hs) has_first = h
size_bound (show_more h hs) (has_later k) = size_bound hs k
size_bound show_none x = elim x [ ]

-- ------------------------------------------------------------------ read off the rows

-- what is no row has no constructor
leaf_size : (rows : ℕ → Template) (sort x : ℕ) → is_row_at sort x ≡ false → rows_of (value_template sort rows x) ≡ 0
unfolding rows_of
leaf_size rows sort x e =
    by_test (is_variable_name x) (λ v. ap rows_of (at_variable rows sort x v))
    (λ v.
    let r = no_row_sort sort x e v in
    by_test (eqb sort var || eqb sort binder) (λ n. ap rows_of (at_name rows sort x v r n))
    (λ n. by_test (eqb sort unit) (λ u. ap rows_of (at_unit rows sort x v r n u)) (λ u. ap rows_of (at_plain rows sort x v r n u))))

module _ (cells : List ℕ) where
  mutual
    unfolding row_template column_templates rows_of

    -- The size that a number shows is that of the template read off the rows, to any depth that is not below the rows made.
    pub size_back : {made depth B x n : ℕ} → made ≤ depth → depth ≤ name_base → ShowsSize cells made B x n → rows_of (text_template depth cells B x) ≡ n
    size_back {depth = depth} {B = B} {x = x} l d (size_leaf e) = leaf_size (λ q. row_template depth cells q) B x e
    size_back {depth = zero} l d (size_row r h e cs q) = absurd (omega arith)
    size_back {depth = suc k} {B = B} l d (size_row {row = row} {c = c} r h e cs q) =
        ap rows_of (at_row (λ p. row_template (suc k) cells p) B row (no_variable row (omega arith)) r)
        ∙ ap (λ code. rows_of_all (column_templates (constructor code).params (λ p. row_template k cells p) cells row 1) + 1) e
        ∙ ap (λ m. m + 1) (columns_back {row = row} {depth = k} (omega arith) (omega arith) cs)
        ∙ sym q

    columns_back : {row depth k n : ℕ} {Bs : List ℕ} → row ≤ depth → depth ≤ name_base → ColumnsSize cells row k Bs n
        → rows_of_all (column_templates Bs (λ q. row_template depth cells q) cells row k) ≡ n
    columns_back l d no_column = refl
    columns_back {row = row} {depth = depth} {k = k} l d (one_column {B = B} h e s cs q) =
        ap₂ ◌+◌ (ap (λ y. rows_of (value_template B (λ p. row_template depth cells p) y)) e ∙ size_back l d s) (columns_back l d cs) ∙ sym q

-- ------------------------------------------------------------------ a new row

module _ (made : ℕ) (cells : List ℕ) {code : ℕ} {xs numbers : List ℕ} (row : Row code xs numbers) (room : made * columns + columns ≤ length cells)
    (is_code : IsCode code) where
  -- its columns show what was shown
  columns_new : (k : ℕ) (before left : List ℕ) {Bs : List ℕ} (ts : Templates) → xs ≡ before ++ left → k ≡ suc (length before)
      → ShowAll (SizeShown cells made) Bs left (template_list ts) → k + length Bs ≤ columns → ColumnsSize (with_row cells made numbers) made k Bs (rows_of_all ts)
  unfolding template_list rows_of
  columns_new k before left none e f show_none l = no_column
  columns_new k before _ (more t ts) e f (show_more {x = x} {L = Bs} {xs = left} h hs) l =
      let here : get_or (filled code xs) k 0 ≡ x =
      ap (λ j. get_or (filled code xs) j 0) f
      ∙ ap (λ l. get_or (l ++ 0 ∷ 0 ∷ 0 ∷ []) (length before) 0) e
      ∙ ap (λ l. get_or l (length before) 0) (append_assoc before (x ∷ left) (0 ∷ 0 ∷ 0 ∷ []))
      ∙ get_or_at before x (left ++ 0 ∷ 0 ∷ 0 ∷ []) 0 (length before) refl in
      one_column {k = k} (omega arith) (in_row made cells row room is_code k (omega arith) ∙ here)
      (size_agree (row_grown made cells row room is_code).agree h)
      (columns_new (k + 1) (before ++ (x ∷ [])) left ts (e ∙ sym (append_assoc before (x ∷ []) left))
      (omega (arith, f, length-append before (x ∷ []))) hs (omega arith)) refl

  row_shows : (sort : ℕ) (ts : Templates) → is_row_sort sort ≡ true → ShowAll (SizeShown cells made) (constructor code).params xs (template_list ts)
      → SizeShown (with_row cells made numbers) (made + 1) sort made (make code ts)
  unfolding rows_of
  row_shows sort ts r a =
      size_row {made = made + 1} {row = made} r (omega arith) (in_row made cells row room is_code 0 (omega arith))
      (columns_new 1 [] xs ts refl refl a (omega (arith, arity_few code))) refl

-- ------------------------------------------------------------------ templates

module _ (input : Input) where
  -- a template is built so
  abbrev Built : ℕ → State → List ℕ → ℕ → Template → ℕ → State → List ℕ → Type 0
  Built n s cells B t x s' cells' = Made input.rows n s cells s' cells' × SizeShown cells' s'.made B x t

  -- and templates so
  abbrev BuiltAll : ℕ → State → List ℕ → List ℕ → List Template → List ℕ → State → List ℕ → Type 0
  BuiltAll n s cells Bs M xs s' cells' = Made input.rows n s cells s' cells' × ShowAll (SizeShown cells' s'.made) Bs xs M

  cell_ends : {code : ℕ} {xs : List ℕ} (sort : ℕ) (ts : Templates) (state : State) (cells : List ℕ) → input.rows * columns ≤ length cells
      → IsCode code → is_row_sort sort ≡ true → ShowAll (SizeShown cells state.made) (constructor code).params xs (template_list ts)
      → Ends (Built 1 state cells sort (make code ts)) (Full input.rows (state.made + 1)) (cell input code xs state cells)
  cell_ends {code} {xs} sort ts state cells room is_code r a =
      cell_by input code xs state cells (Ends (Built 1 state cells sort (make code ts)) (Full input.rows (state.made + 1)))
      (λ numbers row h. (
        record {
          grown = row_grown state.made cells row (omega arith) is_code;
          at_kept = refl;
          fresh_kept = refl;
          calls_kept = refl;
          made_is = refl;
          fits = omega arith;
        },
        row_shows state.made cells row (omega arith) is_code sort ts r a,
      ))
      (λ h. record { is_21 = refl; beyond = omega arith })

  mutual
    unfolding build build_all rows_of rows_of_all substitute template_list

    -- A sorted template, built under numbers that show the sizes of M, shows its size with M put in; or no row is left.
    pub size_built : {N : ℕ} {L : List ℕ} {A B : ℕ} {M : List Template} (t : Template) {xs : List ℕ} (state : State) (cells : List ℕ)
        → Sorted N L t A → Fits A B → input.rows * columns ≤ length cells → state.made ≤ input.rows → ShowAll (SizeShown cells state.made) L xs M
        → Ends (Built (rows_of t) state cells B (substitute M t)) (Full input.rows (state.made + rows_of t)) (build t input xs state cells)
    size_built (variable i) state cells (Judgements.by_variable h) f room fit a = (nothing_made state cells fit, size_fits f (size_bound a h))
    size_built (outside_var n) state cells (Judgements.by_global h) f room fit a = (nothing_made state cells fit, size_fits f (size_leaf refl))
    size_built (outside_label n) state cells (Judgements.by_label h) f room fit a = (nothing_made state cells fit, size_fits f (size_leaf refl))
    size_built Table.unit state cells Judgements.by_unit f room fit a = (nothing_made state cells fit, size_fits f (size_leaf refl))
    size_built {B = B} {M = M} (make c ts) {xs = xs} state cells (Judgements.by_constructor lo hi w) f room fit a =
        let n : ℕ = rows_of_all ts in
        let u : Templates = substitute_all M ts in
        ends_after (BuiltAll n state cells (constructor c).params (template_list u)) (Full input.rows (state.made + n))
        (Built (n + 1) state cells B (make c u))
        (Full input.rows (state.made + (n + 1)))
        (build_all ts input xs state cells) (λ ys. cell input c ys)
        (sizes_built ts state cells w room fit a)
        (λ ys s₁ c₁ b.
        ends_map (Built 1 s₁ c₁ (constructor c).result (make c u)) (Full input.rows (s₁.made + 1)) (Built (n + 1) state cells B (make c u))
        (Full input.rows (state.made + (n + 1)))
        (cell input c ys s₁ c₁)
        (cell_ends (constructor c).result u s₁ c₁ (rw b.0.grown.as_many room) (lo, hi) (result_sort c hi) b.1)
        (λ x s₂ c₂ d. (made_trans b.0 d.0, size_fits f d.1))
        (full_more (omega (arith, b.0.made_is))))
        (full_more (omega arith))

    -- So do templates.
    pub sizes_built : {N : ℕ} {L : List ℕ} {Bs : List ℕ} {M : List Template} (ts : Templates) {xs : List ℕ} (state : State) (cells : List ℕ)
        → Fill N L ts Bs → input.rows * columns ≤ length cells → state.made ≤ input.rows → ShowAll (SizeShown cells state.made) L xs M
        → Ends (BuiltAll (rows_of_all ts) state cells Bs (template_list (substitute_all M ts))) (Full input.rows (state.made + rows_of_all ts))
        (build_all ts input xs state cells)
    sizes_built none state cells fill_none room fit a = (nothing_made state cells fit, show_none)
    sizes_built {M = M} (more t ts) {xs = xs} state cells (fill_more {B = B} {Bs = Bs} w f ws) room fit a =
        let m : ℕ = rows_of t in
        let n : ℕ = rows_of_all ts in
        ends_after (Built m state cells B (substitute M t)) (Full input.rows (state.made + m))
        (BuiltAll (m + n) state cells (B ∷ Bs) (substitute M t ∷ template_list (substitute_all M ts)))
        (Full input.rows (state.made + (m + n)))
        (build t input xs state cells) _
        (size_built t state cells w f room fit a)
        (λ x s₁ c₁ b.
        ends_after (BuiltAll n s₁ c₁ Bs (template_list (substitute_all M ts))) (Full input.rows (s₁.made + n))
        (BuiltAll (m + n) state cells (B ∷ Bs) (substitute M t ∷ template_list (substitute_all M ts)))
        (Full input.rows (state.made + (m + n)))
        (build_all ts input xs s₁ c₁) _
        (sizes_built ts s₁ c₁ ws (rw b.0.grown.as_many room) b.0.fits (show_map (λ B x v h. size_later b.0.grown h) a))
        (λ ys s₂ c₂ d. (made_trans b.0 d.0, show_more (size_later d.0.grown b.1) d.1))
        (full_more (omega (arith, b.0.made_is))))
        (full_more (omega arith))
