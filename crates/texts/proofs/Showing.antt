-- What a number of a text's reading stands for: a row shows a template of the cells, a name's code an outside name or a `$` variable. A template built under
-- numbers that show templates M shows the template with M put in for its variables: reading a text is substitution.
use Prim.Native.Nat.{ℕ, zero, suc, ◌+◌, ◌*◌, ◌≤◌, ◌<◌}
use mathlib.Core.Path.{◌≡◌, refl, sym, ap, ◌∙◌}
use mathlib.Core.List.{List, [], ◌∷◌, ◌++◌, append_assoc}
use native.Mathlib.Omega.{arith}
use lib.ListN.{length, get_or, take, drop, length-append, get_or-append}
use lib.Seq.{sets-eq, length-take-le, get_or-append-add, get_or_at}
use Rattle.grammar.specs.Table.{Template, Templates, variable, outside_var, outside_label, make, unit, none, more}
use Rattle.grammar.proofs.ReaderLaws.{arity_few}
use Rattle.terms.specs.Cells.{columns, column, outside_name}
use Rattle.judgements.specs.Judgements.{Sorted, Fill, fill_none, fill_more}
use Rattle.judgements.specs.Judgements as Judgements
use Rattle.expansion.specs.declared.State.{State}
use Rattle.expansion.specs.Expansion.{Input, cell, build, build_all}
use Rattle.expansion.specs.Costs.{rows_of, rows_of_all}
use Rattle.expansion.proofs.CellLaws.{with_row, filled, Row, cell_by}
use Rattle.expansion.proofs.Endings.{Ends, ends_after, ends_map, Made, Full, nothing_made, made_trans, full_more}
use Rattle.expansion.proofs.Shows.{Agree, IsCode, Grown, row_grown}
use Rattle.tokens.specs.Variables.{variable_name}
use Rattle.texts.specs.Substitution.{substitute, substitute_all, template_list}

-- ------------------------------------------------------------------ what a number shows

mutual
  -- a number shows a template, where `made` rows are made
  pub data ShowsTemplate (cells : List ℕ) : ℕ → ℕ → Template → Type 0 where
    shows_variable : {made n : ℕ} → ShowsTemplate cells made (variable_name n) (variable n)
    shows_var : {made n : ℕ} → ShowsTemplate cells made (outside_name n) (outside_var n)
    shows_label : {made n : ℕ} → ShowsTemplate cells made n (outside_label n)
    shows_unit : {made : ℕ} → ShowsTemplate cells made 0 unit
    shows_make : {made row c : ℕ} {ts : Templates} → row < made → column cells row 0 ≡ c → ColumnsShow cells row 1 ts
        → ShowsTemplate cells made row (make c ts)

  -- the columns of a row from column k on show templates, by rows before it
  pub data ColumnsShow (cells : List ℕ) : ℕ → ℕ → Templates → Type 0 where
    no_column : {row k : ℕ} → ColumnsShow cells row k none
    one_column : {row k x : ℕ} {t : Template} {ts : Templates} → k < columns → column cells row k ≡ x → ShowsTemplate cells row x t
        → ColumnsShow cells row (k + 1) ts
        → ColumnsShow cells row k (more t ts)

-- where more rows are made
shows_more : {made made' : ℕ} {cells : List ℕ} {x : ℕ} (t : Template) → made ≤ made' → ShowsTemplate cells made x t → ShowsTemplate cells made' x t
shows_more (variable n) l shows_variable = shows_variable
shows_more (outside_var n) l shows_var = shows_var
shows_more (outside_label n) l shows_label = shows_label
shows_more unit l shows_unit = shows_unit
shows_more {made' = made'} (make c ts) l (shows_make {row = row} h e cs) = shows_make {made = made'} {row = row} (omega arith) e cs

-- Cells that have the same rows have the same of fewer.
pub fewer : {made made' : ℕ} {cells cells' : List ℕ} → made ≤ made' → Agree made' cells cells' → Agree made cells cells'
fewer l a = record { same = λ place h. a.same place (omega arith) }

mutual
  -- other cells with the same rows show the same
  pub shows_agree : {made : ℕ} {cells cells' : List ℕ} {x : ℕ} (t : Template) → Agree made cells cells' → ShowsTemplate cells made x t
      → ShowsTemplate cells' made x t
  shows_agree (variable n) a shows_variable = shows_variable
  shows_agree (outside_var n) a shows_var = shows_var
  shows_agree (outside_label n) a shows_label = shows_label
  shows_agree unit a shows_unit = shows_unit
  shows_agree {made = made} (make c ts) a (shows_make {row = row} h e cs) =
      shows_make {made = made} h (a.same (row * columns + 0) (omega arith) ∙ e) (columns_agree ts h a cs)

  columns_agree : {made row k : ℕ} {cells cells' : List ℕ} (ts : Templates) → row < made → Agree made cells cells' → ColumnsShow cells row k ts
      → ColumnsShow cells' row k ts
  columns_agree none l a no_column = no_column
  columns_agree {row = row} {k = k} (more t ts) l a (one_column h e s cs) =
      one_column h (a.same (row * columns + k) (omega arith) ∙ e) (shows_agree t (fewer (omega arith) a) s) (columns_agree ts l a cs)

-- what is shown stays shown as rows are made
pub shows_later : {made made' : ℕ} {cells cells' : List ℕ} {x : ℕ} {t : Template} → Grown made cells made' cells' → ShowsTemplate cells made x t
    → ShowsTemplate cells' made' x t
shows_later {t = t} g s = shows_more t g.more (shows_agree t g.agree s)

-- numbers that show templates, one each
pub data ShowTemplates (made : ℕ) (cells : List ℕ) : List ℕ → List Template → Type 0 where
  show_none : ShowTemplates made cells [] []
  show_more : {x : ℕ} {t : Template} {xs : List ℕ} {M : List Template} → ShowsTemplate cells made x t → ShowTemplates made cells xs M
      → ShowTemplates made cells (x ∷ xs) (t ∷ M)

-- they stay shown
pub all_later : {made made' : ℕ} {cells cells' : List ℕ} {xs : List ℕ} {M : List Template} → Grown made cells made' cells' → ShowTemplates made cells xs M
    → ShowTemplates made' cells' xs M
all_later g show_none = show_none
all_later g (show_more h hs) = show_more (shows_later g h) (all_later g hs)

-- a variable's value is shown at its place; past the last it is a Unit
shows_bound : {made : ℕ} {cells : List ℕ} {xs : List ℕ} {M : List Template} (i : ℕ) → ShowTemplates made cells xs M
    → ShowsTemplate cells made (get_or xs i 0) (get_or M i unit)
shows_bound i show_none = shows_unit
shows_bound zero (show_more h hs) = h
shows_bound (suc i) (show_more h hs) = shows_bound i hs

-- ------------------------------------------------------------------ a new row

module _ (made : ℕ) (cells : List ℕ) {code : ℕ} {xs numbers : List ℕ} (row : Row code xs numbers) (room : made * columns + columns ≤ length cells)
    (is_code : IsCode code) where
  -- Its numbers, by column.
  pub in_row : (k : ℕ) → k < columns → column (with_row cells made numbers) made k ≡ get_or (filled code xs) k 0
  in_row k h =
      let front : length (take (made * columns) cells) ≡ made * columns = length-take-le (made * columns) cells (omega arith) in
      let both : length (take (made * columns) cells ++ numbers) ≡ made * columns + columns = rw (length-append, row.as_many, front) refl in
      cc (
        sets-eq numbers cells (made * columns) (rw row.as_many room),
        get_or-append (take (made * columns) cells ++ numbers) (drop (made * columns + length numbers) cells) 0 (made * columns + k) (omega arith),
        front,
        get_or-append-add (take (made * columns) cells) numbers k 0,
        row.holds k h,
      )

  -- its columns show what was shown
  columns_new : (k : ℕ) (before left : List ℕ) (ts : Templates) → xs ≡ before ++ left → k ≡ suc (length before)
      → ShowTemplates made cells left (template_list ts) → k + length (template_list ts) ≤ columns → ColumnsShow (with_row cells made numbers) made k ts
  unfolding template_list
  columns_new k before left none e f a l = no_column
  columns_new k before (x ∷ left) (more t ts) e f (show_more h hs) l =
      let here : get_or (filled code xs) k 0 ≡ x =
      ap (λ j. get_or (filled code xs) j 0) f
      ∙ ap (λ l. get_or (l ++ 0 ∷ 0 ∷ 0 ∷ []) (length before) 0) e
      ∙ ap (λ l. get_or l (length before) 0) (append_assoc before (x ∷ left) (0 ∷ 0 ∷ 0 ∷ []))
      ∙ get_or_at before x (left ++ 0 ∷ 0 ∷ 0 ∷ []) 0 (length before) refl in
      one_column {k = k} (omega arith) (in_row k (omega arith) ∙ here) (shows_agree t (row_grown made cells row room is_code).agree h)
      (columns_new (k + 1) (before ++ (x ∷ [])) left ts (e ∙ sym (append_assoc before (x ∷ []) left))
      (omega (arith, f, length-append before (x ∷ []))) hs (omega arith))
  columns_new k before [] (more t ts) e f a l = elim a [ ]

  row_shows : (ts : Templates) → ShowTemplates made cells xs (template_list ts) → length (template_list ts) ≤ 3
      → ShowsTemplate (with_row cells made numbers) (made + 1) made (make code ts)
  row_shows ts a l = shows_make {made = made + 1} {row = made} (omega arith) (in_row 0 (omega arith)) (columns_new 1 [] xs ts refl refl a (omega arith))

-- ------------------------------------------------------------------ templates

fill_length : {N : ℕ} {L Bs : List ℕ} (ts : Templates) → Fill N L ts Bs → (M : List Template) → length (template_list (substitute_all M ts)) ≡ length Bs
unfolding template_list substitute
fill_length none fill_none M = refl
fill_length (more t ts) (fill_more h f fs) M = ap suc (fill_length ts fs M)

module _ (input : Input) where
  -- a template is built so
  abbrev pub Built : ℕ → State → List ℕ → Template → ℕ → State → List ℕ → Type 0
  Built n s cells t x s' cells' = Made input.rows n s cells s' cells' × ShowsTemplate cells' s'.made x t

  -- and templates so
  abbrev pub BuiltAll : ℕ → State → List ℕ → List Template → List ℕ → State → List ℕ → Type 0
  BuiltAll n s cells M xs s' cells' = Made input.rows n s cells s' cells' × ShowTemplates s'.made cells' xs M

  cell_ends : {code : ℕ} {xs : List ℕ} (ts : Templates) (state : State) (cells : List ℕ) → input.rows * columns ≤ length cells
      → IsCode code → length (template_list ts) ≤ 3 → ShowTemplates state.made cells xs (template_list ts)
      → Ends (Built 1 state cells (make code ts)) (Full input.rows (state.made + 1)) (cell input code xs state cells)
  cell_ends {code} {xs} ts state cells room is_code l a =
      cell_by input code xs state cells (Ends (Built 1 state cells (make code ts)) (Full input.rows (state.made + 1)))
      (λ numbers row h. (
        record {
          grown = row_grown state.made cells row (omega arith) is_code;
          at_kept = refl;
          fresh_kept = refl;
          calls_kept = refl;
          made_is = refl;
          fits = omega arith;
        },
        row_shows state.made cells row (omega arith) is_code ts a l,
      ))
      (λ h. record { is_21 = refl; beyond = omega arith })

  mutual
    unfolding build build_all rows_of rows_of_all substitute template_list

    -- A sorted template, built under numbers that show M, shows the template with M put in; or no row is left.
    pub build_ends : {N : ℕ} {L : List ℕ} {A : ℕ} {M : List Template} (t : Template) {xs : List ℕ} (state : State) (cells : List ℕ)
        → Sorted N L t A → input.rows * columns ≤ length cells → state.made ≤ input.rows → ShowTemplates state.made cells xs M
        → Ends (Built (rows_of t) state cells (substitute M t)) (Full input.rows (state.made + rows_of t)) (build t input xs state cells)
    build_ends (variable i) state cells w room fit a = (nothing_made state cells fit, shows_bound i a)
    build_ends (outside_var n) state cells w room fit a = (nothing_made state cells fit, shows_var)
    build_ends (outside_label n) state cells w room fit a = (nothing_made state cells fit, shows_label)
    build_ends unit state cells w room fit a = (nothing_made state cells fit, shows_unit)
    build_ends {M = M} (make c ts) {xs = xs} state cells (Judgements.by_constructor lo hi w) room fit a =
        let n : ℕ = rows_of_all ts in
        let u : Templates = substitute_all M ts in
        ends_after (BuiltAll n state cells (template_list u)) (Full input.rows (state.made + n)) (Built (n + 1) state cells (make c u))
        (Full input.rows (state.made + (n + 1)))
        (build_all ts input xs state cells) (λ ys. cell input c ys)
        (build_all_ends ts state cells w room fit a)
        (λ ys s₁ c₁ b.
        ends_map (Built 1 s₁ c₁ (make c u)) (Full input.rows (s₁.made + 1)) (Built (n + 1) state cells (make c u))
        (Full input.rows (state.made + (n + 1)))
        (cell input c ys s₁ c₁)
        (cell_ends u s₁ c₁ (rw b.0.grown.as_many room) (lo, hi) (omega (arith, fill_length ts w M, arity_few c)) b.1)
        (λ x s₂ c₂ d. (made_trans b.0 d.0, d.1))
        (full_more (omega (arith, b.0.made_is))))
        (full_more (omega arith))

    -- so do templates
    pub build_all_ends : {N : ℕ} {L : List ℕ} {Bs : List ℕ} {M : List Template} (ts : Templates) {xs : List ℕ} (state : State) (cells : List ℕ)
        → Fill N L ts Bs → input.rows * columns ≤ length cells → state.made ≤ input.rows → ShowTemplates state.made cells xs M
        → Ends (BuiltAll (rows_of_all ts) state cells (template_list (substitute_all M ts))) (Full input.rows (state.made + rows_of_all ts))
        (build_all ts input xs state cells)
    build_all_ends none state cells w room fit a = (nothing_made state cells fit, show_none)
    build_all_ends {M = M} (more t ts) {xs = xs} state cells (fill_more w f ws) room fit a =
        let m : ℕ = rows_of t in
        let n : ℕ = rows_of_all ts in
        ends_after (Built m state cells (substitute M t)) (Full input.rows (state.made + m))
        (BuiltAll (m + n) state cells (substitute M t ∷ template_list (substitute_all M ts)))
        (Full input.rows (state.made + (m + n)))
        (build t input xs state cells) _
        (build_ends t state cells w room fit a)
        (λ x s₁ c₁ b.
        ends_after (BuiltAll n s₁ c₁ (template_list (substitute_all M ts))) (Full input.rows (s₁.made + n))
        (BuiltAll (m + n) state cells (substitute M t ∷ template_list (substitute_all M ts)))
        (Full input.rows (state.made + (m + n)))
        (build_all ts input xs s₁ c₁) _
        (build_all_ends ts s₁ c₁ ws (rw b.0.grown.as_many room) b.0.fits (all_later b.0.grown a))
        (λ ys s₂ c₂ d. (made_trans b.0 d.0, show_more (shows_later d.0.grown b.1) d.1))
        (full_more (omega (arith, b.0.made_is))))
        (full_more (omega arith))
