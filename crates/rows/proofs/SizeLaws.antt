-- What is left of a number of constructors without those of a term, part by part.
use Prim.Native.Nat.{ℕ, zero, suc, ◌+◌, ◌-◌, ◌<◌, min}
use mathlib.Core.Path.{◌≡◌, refl, sym, ap, ◌∙◌}
use mathlib.Core.Bool.{Bool, true, false, true≢false}
use mathlib.Core.List.{List}
use native.Mathlib.Omega.{arith}
use lib.ListN.{length, get_or}
use Rattle.std.specs.Prelude.{Option, Some}
use Rattle.terms.specs.Cells.{column}
use Rattle.terms.specs.Term.{Name, Term, Fields, variable, function, apply, rcd, dot, number, nil, cons, size, size_fields}
use Rattle.terms.specs.Rows.{Constructor, var_row, fun_row, app_row, rcd_row, dot_row, nil_row, cons_row, num_row, constructor_of}
use Rattle.terms.specs.Rows.{term_by, is_cons, fields_by, term_at, field_list_at}
use Rattle.rows.specs.Sizes.{rows_held, no_spell, size_at, size_fields_at, cut_size, most_bound, Ones}
use Rattle.rows.specs.Sums.{row_is, parts_of, sum_of, is_fields, total_of}
use Rattle.rows.proofs.RowLaws as rows
use Rattle.rows.proofs.SumLaws.{Adds, total_adds, adds_by}

-- r of `left` constructors are left behind the term, or the field list, at a row
abbrev pub Left : List ℕ → ℕ → ℕ → ℕ → ℕ → Type 0
Left cells k row left r = r ≡ left - size_at cells k row

-- the same of the fields at a row
abbrev pub LeftFields : List ℕ → ℕ → ℕ → ℕ → ℕ → Type 0
LeftFields cells k row left r = r ≡ left - size_fields_at cells k row

-- where no depth is left, a term counts as one constructor
pub shallow : (cells : List ℕ) (depth row left : ℕ) → depth ≡ 0 → Left cells depth row left (left - 1)
unfolding size term_at
shallow cells depth row left e = rw e refl

-- and so does a list of fields
pub shallow_fields : (cells : List ℕ) (depth row left : ℕ) → depth ≡ 0 → LeftFields cells depth row left (left - 1)
unfolding size_fields field_list_at
shallow_fields cells depth row left e = rw e refl

module _ (cells : List ℕ) (depth row left : ℕ) (some : depth ≡ 0 → ⊥) {code : ℕ} (at : code ≡ column cells row 0) where
  -- a function counts one, and its body
  pub fun_left : code ≡ 0x21 → {part rest : ℕ} → part ≡ column cells row 2 → Left cells (depth - 1) part (left - 1) rest → Left cells depth row left rest
  unfolding size
  fun_left e eq h = rw (rows.fun_row_lem no_spell cells depth row some at e, ← eq) (omega arith)

  -- an application counts one, and its two terms
  pub app_left : code ≡ 0x22 → {part part' rest rest' : ℕ} → part ≡ column cells row 1 → part' ≡ column cells row 2
      → Left cells (depth - 1) part (left - 1) rest → Left cells (depth - 1) part' rest rest' → Left cells depth row left rest'
  unfolding size
  app_left e eq eq' h h' = rw (rows.app_row_lem no_spell cells depth row some at e, ← eq, ← eq') (omega arith)

  -- a record counts one, and its fields
  pub rcd_left : code ≡ 0x23 → {part rest : ℕ} → part ≡ column cells row 1 → LeftFields cells (depth - 1) part (left - 1) rest → Left cells depth row left rest
  unfolding size
  rcd_left e eq h = rw (rows.rcd_row_lem no_spell cells depth row some at e, ← eq) (omega arith)

  -- a selection counts one, and its term
  pub dot_left : code ≡ 0x24 → {part rest : ℕ} → part ≡ column cells row 1 → Left cells (depth - 1) part (left - 1) rest → Left cells depth row left rest
  unfolding size
  dot_left e eq h = rw (rows.dot_row_lem no_spell cells depth row some at e, ← eq) (omega arith)

  -- any other term counts one
  pub bare_left : (code ≡ 0x21 → ⊥) → (code ≡ 0x22 → ⊥) → (code ≡ 0x23 → ⊥) → (code ≡ 0x24 → ⊥) → Left cells depth row left (left - 1)
  unfolding size
  bare_left a b c d = rows.bare_row no_spell cells depth row some at (λ t. left - 1 ≡ left - size t) (λ v. refl) (λ n. refl) a b c d

  -- a field counts one, its term, and the other fields
  pub cons_left : code ≡ 0x26 → {part part' rest rest' : ℕ} → part ≡ column cells row 2 → part' ≡ column cells row 3
      → Left cells (depth - 1) part (left - 1) rest → LeftFields cells (depth - 1) part' rest rest' → LeftFields cells depth row left rest'
  unfolding size_fields
  cons_left e eq eq' h h' = rw (rows.cons_row_lem no_spell cells depth row some at e, ← eq, ← eq') (omega arith)

  -- no fields count one
  pub nil-left : (code ≡ 0x26 → ⊥) → LeftFields cells depth row left (left - 1)
  unfolding size_fields
  nil-left e = rw (rows.nil_row_lem no_spell cells depth row some at e) refl

-- ------------------------------------------------------------------ sizes do not depend on spellings

size_by : (constructed : Constructor) (depth : ℕ) (spell spell' : ℕ → List ℕ) (cells : List ℕ) (row : ℕ)
    → ((part : ℕ) → size (term_at depth spell cells part) ≡ size (term_at depth spell' cells part))
    → ((part : ℕ) → size_fields (field_list_at depth spell cells part) ≡ size_fields (field_list_at depth spell' cells part))
    → size (term_by constructed spell cells row (λ q. term_at depth spell cells q) (λ q. field_list_at depth spell cells q))
    ≡ size (term_by constructed spell' cells row (λ q. term_at depth spell' cells q) (λ q. field_list_at depth spell' cells q))
unfolding size size_fields term_by
size_by var_row depth spell spell' cells row t f = refl
size_by fun_row depth spell spell' cells row t f = ap suc (t (column cells row 2))
size_by app_row depth spell spell' cells row t f = cc (t (column cells row 1), t (column cells row 2))
size_by rcd_row depth spell spell' cells row t f = ap suc (f (column cells row 1))
size_by dot_row depth spell spell' cells row t f = ap suc (t (column cells row 1))
size_by nil_row depth spell spell' cells row t f = refl
size_by cons_row depth spell spell' cells row t f = refl
size_by num_row depth spell spell' cells row t f = refl

size_by_fields : (last : Bool) (depth : ℕ) (spell spell' : ℕ → List ℕ) (cells : List ℕ) (row : ℕ)
    → ((part : ℕ) → size (term_at depth spell cells part) ≡ size (term_at depth spell' cells part))
    → ((part : ℕ) → size_fields (field_list_at depth spell cells part) ≡ size_fields (field_list_at depth spell' cells part))
    → size_fields (fields_by last spell cells row (λ q. term_at depth spell cells q) (λ q. field_list_at depth spell cells q))
    ≡ size_fields (fields_by last spell' cells row (λ q. term_at depth spell' cells q) (λ q. field_list_at depth spell' cells q))
unfolding size_fields fields_by
size_by_fields true depth spell spell' cells row t f = cc (t (column cells row 2), f (column cells row 3))
size_by_fields false depth spell spell' cells row t f = refl

mutual
  unfolding term_at field_list_at

  -- how names are spelled does not matter to the size
  pub size_spell : (depth : ℕ) (spell spell' : ℕ → List ℕ) (cells : List ℕ) (row : ℕ)
      → size (term_at depth spell cells row) ≡ size (term_at depth spell' cells row)
  size_spell zero spell spell' cells row = refl
  size_spell (suc depth) spell spell' cells row =
      size_by (constructor_of (column cells row 0)) depth spell spell' cells row (λ q. size_spell depth spell spell' cells q)
      (λ q. size_spell_fields depth spell spell' cells q)

  size_spell_fields : (depth : ℕ) (spell spell' : ℕ → List ℕ) (cells : List ℕ) (row : ℕ)
      → size_fields (field_list_at depth spell cells row) ≡ size_fields (field_list_at depth spell' cells row)
  size_spell_fields zero spell spell' cells row = refl
  size_spell_fields (suc depth) spell spell' cells row =
      size_by_fields (is_cons (constructor_of (column cells row 0))) depth spell spell' cells row (λ q. size_spell depth spell spell' cells q)
      (λ q. size_spell_fields depth spell spell' cells q)

-- ------------------------------------------------------------------ every term has a constructor

-- a term has a constructor
pub size-some : (t : Term Name) → 0 < size t
unfolding size
size-some (variable v) = omega arith
size-some (function b t) = omega arith
size-some (apply t u) = omega arith
size-some (rcd f) = omega arith
size-some (dot t l) = omega arith
size-some (number n) = omega arith

-- and so has a list of fields
pub size_some_fields : (fields : Fields Name) → 0 < size_fields fields
unfolding size_fields
size_some_fields nil = omega arith
size_some_fields (cons l t fields) = omega arith

-- a term of more than one constructor has a row
pub some_cells : (cells : List ℕ) (root : ℕ) {count : ℕ} → count ≡ cut_size cells (rows_held cells) root → 1 < count → 0 < length cells
unfolding size term_at
some_cells cells root {count} e l = by (rows_held cells) refl
  where
    by : (rows : ℕ) → rows_held cells ≡ rows → 0 < length cells
    by zero z = let one : count ≡ min most_bound 1 = rw z at e in absurd (omega arith)
    by (suc rows) z = omega arith

-- ------------------------------------------------------------------ sizes by a pass over the rows

-- where each row weighs 1, a size is a sum of weights
pub size_adds : {weights : List ℕ} (cells : List ℕ) → Ones weights
    → Adds weights cells (length weights) (λ depth row. size_at cells depth row) (λ depth row. size_fields_at cells depth row)
unfolding size size_fields term_by fields_by parts_of
size_adds {weights} cells ones = adds_by no_spell size size_fields by_term by_list
  where
    by_term : (row : ℕ) → row < length weights → (c : Constructor) → row_is cells row ≡ c → is_fields c ≡ false
        → (terms : ℕ → Term Name) (fields : ℕ → Fields Name)
        → size (term_by c no_spell cells row terms fields)
        ≡ get_or weights row 0 + sum_of (parts_of c cells row) (λ q. size (terms q)) (λ q. size_fields (fields q))
    by_term row l var_row e k terms fields = omega (arith, ones.each row l)
    by_term row l fun_row e k terms fields = omega (arith, ones.each row l)
    by_term row l app_row e k terms fields = omega (arith, ones.each row l)
    by_term row l rcd_row e k terms fields = omega (arith, ones.each row l)
    by_term row l dot_row e k terms fields = omega (arith, ones.each row l)
    by_term row l nil_row e k terms fields = absurd (true≢false k)
    by_term row l cons_row e k terms fields = absurd (true≢false k)
    by_term row l num_row e k terms fields = omega (arith, ones.each row l)

    by_list : (row : ℕ) → row < length weights → (c : Constructor) → row_is cells row ≡ c → is_fields c ≡ true
        → (terms : ℕ → Term Name) (fields : ℕ → Fields Name)
        → size_fields (fields_by (is_cons c) no_spell cells row terms fields)
        ≡ get_or weights row 0 + sum_of (parts_of c cells row) (λ q. size (terms q)) (λ q. size_fields (fields q))
    by_list row l var_row e k terms fields = absurd (true≢false (sym k))
    by_list row l fun_row e k terms fields = absurd (true≢false (sym k))
    by_list row l app_row e k terms fields = absurd (true≢false (sym k))
    by_list row l rcd_row e k terms fields = absurd (true≢false (sym k))
    by_list row l dot_row e k terms fields = absurd (true≢false (sym k))
    by_list row l nil_row e k terms fields = omega (arith, ones.each row l)
    by_list row l cons_row e k terms fields = omega (arith, ones.each row l)
    by_list row l num_row e k terms fields = absurd (true≢false (sym k))

-- the size that a pass tells
pub size_told : {weights : List ℕ} (cells : List ℕ) (root : ℕ) {total : Option ℕ} {size : ℕ} → Ones weights → total ≡ total_of cells most_bound weights root
    → total ≡ Some size → size ≡ cut_size cells (length weights) root
size_told cells root ones is-total is-size = total_adds most_bound root (size_adds cells ones) (sym is-size ∙ is-total)
