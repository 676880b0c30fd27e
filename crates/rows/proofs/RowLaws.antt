-- The term and the field list of a row, by the code that stands in it.
use Prim.Native.Nat.{ℕ, zero, suc, ◌+◌, ◌-◌, ◌/◌, ◌%◌, ◌<◌, ◌≤◌}
use mathlib.Core.Path.{◌≡◌, refl}
use mathlib.Core.Logic.{◌⊎◌, inl, inr}
use mathlib.Core.Bool.{Bool, true, false}
use mathlib.Core.List.{List, [], ◌∷◌}
use native.Mathlib.Omega.{arith}
use native.Mathlib.Decide.{dec_lt}
use lib.ListN.{get_or}
use borrow.Author.Tests.{lt-ltb, le-ltb, eq-eqb, ne_eqb}
use Rattle.terms.specs.Cells.{column, name_base}
use Rattle.terms.specs.Term.{Name, word, fresh, outside, Term, Fields, variable, function, apply, rcd, dot, number, nil, cons}
use Rattle.terms.specs.Rows.{name_of, Constructor, var_row, fun_row, app_row, rcd_row, dot_row, nil_row, cons_row, num_row}
use Rattle.terms.specs.Rows.{constructor_of, term_by, is_cons, fields_by, term_at, field_list_at}

-- ------------------------------------------------------------------ codes

-- A fact of each code and its constructor: of those of hex 20 to 26, and of all others, which are read as mkTermNum's.
module _ (P : ℕ → Constructor → Type 0) (var : P 0x20 var_row) (fun : P 0x21 fun_row) (app : P 0x22 app_row) (rcds : P 0x23 rcd_row) (dots : P 0x24 dot_row)
    (nils : P 0x25 nil_row) (conses : P 0x26 cons_row)
    (others : (code : ℕ) → (code ≡ 0x20 → ⊥) → (code ≡ 0x21 → ⊥) → (code ≡ 0x22 → ⊥) → (code ≡ 0x23 → ⊥) → (code ≡ 0x24 → ⊥) → (code ≡ 0x25 → ⊥)
    → (code ≡ 0x26 → ⊥) → P code num_row)
  where
    nth : (place : ℕ) → P (0x20 + place) (get_or (var_row ∷ fun_row ∷ app_row ∷ rcd_row ∷ dot_row ∷ nil_row ∷ cons_row ∷ num_row ∷ []) place num_row)
    nth zero = var
    nth (suc zero) = fun
    nth (suc (suc zero)) = app
    nth (suc (suc (suc zero))) = rcds
    nth (suc (suc (suc (suc zero)))) = dots
    nth (suc (suc (suc (suc (suc zero))))) = nils
    nth (suc (suc (suc (suc (suc (suc zero)))))) = conses
    nth (suc (suc (suc (suc (suc (suc (suc zero))))))) =
        others 0x27 (λ e. omega arith) (λ e. omega arith) (λ e. omega arith) (λ e. omega arith) (λ e. omega arith) (λ e. omega arith) (λ e. omega arith)
    nth (suc (suc (suc (suc (suc (suc (suc (suc place)))))))) =
        others _ (λ e. omega arith) (λ e. omega arith) (λ e. omega arith) (λ e. omega arith) (λ e. omega arith) (λ e. omega arith) (λ e. omega arith)

    -- it is one of each code
    pub each-code : (code : ℕ) → P code (constructor_of code)
    unfolding constructor_of
    each-code code = by (dec_lt code 0x20)
      where
        by : Dec (code < 0x20) → P code (constructor_of code)
        by (yes h) =
            rw (lt-ltb code 0x20 h, constructor_of)
            (others code (λ e. omega arith) (λ e. omega arith) (λ e. omega arith) (λ e. omega arith) (λ e. omega arith) (λ e. omega arith) (λ e. omega arith))
        by (no h) =
            let l : 0x20 ≤ code = omega arith in
            let e : 0x20 + (code - 0x20) ≡ code = omega arith in
            rw (le-ltb code 0x20 l, constructor_of) (rw e at (nth (code - 0x20)))

-- the constructors with no part
pub data Bare : Constructor → Type 0 where
  bare_var : Bare var_row
  bare_nil : Bare nil_row
  bare_cons : Bare cons_row
  bare_num : Bare num_row

-- a code that is none of the four whose terms have parts
bare_code : (code : ℕ) → (code ≡ 0x21 → ⊥) → (code ≡ 0x22 → ⊥) → (code ≡ 0x23 → ⊥) → (code ≡ 0x24 → ⊥) → Bare (constructor_of code)
bare_code =
    each-code (λ code k. (code ≡ 0x21 → ⊥) → (code ≡ 0x22 → ⊥) → (code ≡ 0x23 → ⊥) → (code ≡ 0x24 → ⊥) → Bare k)
    (λ a b c d. bare_var)
    (λ a b c d. absurd (a refl))
    (λ a b c d. absurd (b refl))
    (λ a b c d. absurd (c refl))
    (λ a b c d. absurd (d refl))
    (λ a b c d. bare_nil)
    (λ a b c d. bare_cons)
    (λ code v f p r t n o a b c d. bare_num)

-- the constructors of a Term place that are read as a number
pub data Numeral : Constructor → Type 0 where
  numeral_nil : Numeral nil_row
  numeral_cons : Numeral cons_row
  numeral_num : Numeral num_row

-- a code that is none of these and no variable's
numeral_code : (code : ℕ) → (code ≡ 0x20 → ⊥) → (code ≡ 0x21 → ⊥) → (code ≡ 0x22 → ⊥) → (code ≡ 0x23 → ⊥) → (code ≡ 0x24 → ⊥) → Numeral (constructor_of code)
numeral_code =
    each-code (λ code k. (code ≡ 0x20 → ⊥) → (code ≡ 0x21 → ⊥) → (code ≡ 0x22 → ⊥) → (code ≡ 0x23 → ⊥) → (code ≡ 0x24 → ⊥) → Numeral k)
    (λ v a b c d. absurd (v refl))
    (λ v a b c d. absurd (a refl))
    (λ v a b c d. absurd (b refl))
    (λ v a b c d. absurd (c refl))
    (λ v a b c d. absurd (d refl))
    (λ v a b c d. numeral_nil)
    (λ v a b c d. numeral_cons)
    (λ code u f p r t n o v a b c d. numeral_num)

-- a code of none but mkTermNum
pub num_code : (code : ℕ) → (code ≡ 0x20 → ⊥) → (code ≡ 0x21 → ⊥) → (code ≡ 0x22 → ⊥) → (code ≡ 0x23 → ⊥) → (code ≡ 0x24 → ⊥) → (code ≡ 0x25 → ⊥)
    → (code ≡ 0x26 → ⊥)
    → constructor_of code ≡ num_row
num_code =
    each-code
    (λ code k.
    (code ≡ 0x20 → ⊥) → (code ≡ 0x21 → ⊥) → (code ≡ 0x22 → ⊥) → (code ≡ 0x23 → ⊥) → (code ≡ 0x24 → ⊥) → (code ≡ 0x25 → ⊥) → (code ≡ 0x26 → ⊥)
    → k ≡ num_row)
    (λ v a b c d e f. absurd (v refl))
    (λ v a b c d e f. absurd (a refl))
    (λ v a b c d e f. absurd (b refl))
    (λ v a b c d e f. absurd (c refl))
    (λ v a b c d e f. absurd (d refl))
    (λ v a b c d e f. absurd (e refl))
    (λ v a b c d e f. absurd (f refl))
    (λ code u g p r t n o v a b c d e f. refl)

-- a code that is not that of mkFieldCons
no_cons : (code : ℕ) → (code ≡ 0x26 → ⊥) → is_cons (constructor_of code) ≡ false
no_cons =
    each-code (λ code k. (code ≡ 0x26 → ⊥) → is_cons k ≡ false) (λ h. refl) (λ h. refl) (λ h. refl) (λ h. refl) (λ h. refl) (λ h. refl)
    (λ h. absurd (h refl))
    (λ code u g p r t n o h. refl)

-- ------------------------------------------------------------------ terms

module _ (spell : ℕ → List ℕ) (cells : List ℕ) (depth row : ℕ) where
  abbrev Below : ℕ → Term Name
  Below q = term_at (depth - 1) spell cells q

  abbrev BelowFields : ℕ → Fields Name
  BelowFields q = field_list_at (depth - 1) spell cells q

  module _ (some : depth ≡ 0 → ⊥) {code : ℕ} (at : code ≡ column cells row 0) where
    deeper : depth ≡ suc (depth - 1)
    deeper = omega arith

    by_code : {constructed : Constructor} → constructor_of code ≡ constructed
        → term_at depth spell cells row ≡ term_by constructed spell cells row Below BelowFields
    unfolding term_at
    by_code e =
        cc deeper

    -- a function's row has its name and its body
    pub fun_row_lem : code ≡ 0x21 → term_at depth spell cells row ≡ function (name_of spell (column cells row 1)) (Below (column cells row 2))
    unfolding constructor_of term_by
    fun_row_lem e = by_code {constructed = fun_row} (rw e refl)

    -- an application's row has its two terms
    pub app_row_lem : code ≡ 0x22 → term_at depth spell cells row ≡ apply (Below (column cells row 1)) (Below (column cells row 2))
    unfolding constructor_of term_by
    app_row_lem e = by_code {constructed = app_row} (rw e refl)

    -- a record's row has its fields
    pub rcd_row_lem : code ≡ 0x23 → term_at depth spell cells row ≡ rcd (BelowFields (column cells row 1))
    unfolding constructor_of term_by
    rcd_row_lem e = by_code {constructed = rcd_row} (rw e refl)

    -- a selection's row has its term and its label
    pub dot_row_lem : code ≡ 0x24 → term_at depth spell cells row ≡ dot (Below (column cells row 1)) (spell (column cells row 2))
    unfolding constructor_of term_by
    dot_row_lem e = by_code {constructed = dot_row} (rw e refl)

    -- a variable's row has its name
    pub var_row_lem : code ≡ 0x20 → term_at depth spell cells row ≡ variable (name_of spell (column cells row 1))
    unfolding constructor_of term_by
    var_row_lem e = by_code {constructed = var_row} (rw e refl)

    -- a row of fields, read as a term, is the number 0
    pub zero_row : (code ≡ 0x25) ⊎ (code ≡ 0x26) → term_at depth spell cells row ≡ number 0
    unfolding constructor_of term_by
    zero_row (inl e) = by_code {constructed = nil_row} (rw e refl)
    zero_row (inr e) = by_code {constructed = cons_row} (rw e refl)

    -- any other code is read as that of a number
    pub num_row_lem : (code ≡ 0x20 → ⊥) → (code ≡ 0x21 → ⊥) → (code ≡ 0x22 → ⊥) → (code ≡ 0x23 → ⊥) → (code ≡ 0x24 → ⊥) → (code ≡ 0x25 → ⊥) → (code ≡ 0x26 → ⊥)
        → term_at depth spell cells row ≡ number (column cells row 1)
    unfolding term_by
    num_row_lem v a b c d e f = by_code {constructed = num_row} (num_code code v a b c d e f)

    -- a fact of the numbers holds of a row of any other code
    pub number_row : (P : Term Name → Type 0) → ((place : ℕ) → P (number place))
        → (code ≡ 0x20 → ⊥) → (code ≡ 0x21 → ⊥) → (code ≡ 0x22 → ⊥) → (code ≡ 0x23 → ⊥) → (code ≡ 0x24 → ⊥) → P (term_at depth spell cells row)
    unfolding term_by
    number_row P n v a b c d = by (constructor_of code) refl (numeral_code code v a b c d)
      where
        by : (constructor : Constructor) → constructor_of code ≡ constructor → Numeral constructor → P (term_at depth spell cells row)
        by nil_row e numeral_nil = rw (by_code e) (n _)
        by cons_row e numeral_cons = rw (by_code e) (n _)
        by num_row e numeral_num = rw (by_code e) (n _)
        by var_row e x = elim x [ ]
        by fun_row e x = elim x [ ]
        by app_row e x = elim x [ ]
        by rcd_row e x = elim x [ ]
        by dot_row e x = elim x [ ]

    -- a fact of the variables and numbers holds of any other row
    pub bare_row : (P : Term Name → Type 0) → ((name : Name) → P (variable name)) → ((place : ℕ) → P (number place))
        → (code ≡ 0x21 → ⊥) → (code ≡ 0x22 → ⊥) → (code ≡ 0x23 → ⊥) → (code ≡ 0x24 → ⊥) → P (term_at depth spell cells row)
    unfolding term_by
    bare_row P v n a b c d = by (constructor_of code) refl (bare_code code a b c d)
      where
        by : (constructor : Constructor) → constructor_of code ≡ constructor → Bare constructor → P (term_at depth spell cells row)
        by var_row e bare_var = rw (by_code e) (v _)
        by nil_row e bare_nil = rw (by_code e) (n _)
        by cons_row e bare_cons = rw (by_code e) (n _)
        by num_row e bare_num = rw (by_code e) (n _)
        by fun_row e x = elim x [ ]
        by app_row e x = elim x [ ]
        by rcd_row e x = elim x [ ]
        by dot_row e x = elim x [ ]

    fields_by_lem : (test : Bool) → is_cons (constructor_of code) ≡ test → field_list_at depth spell cells row ≡ fields_by test spell cells row Below BelowFields
    unfolding field_list_at
    fields_by_lem test e =
        cc deeper

    -- a row of fields has a label, its term and the other fields
    pub cons_row_lem : code ≡ 0x26 → field_list_at depth spell cells row ≡ cons (spell (column cells row 1)) (Below (column cells row 2))
        (BelowFields (column cells row 3))
    unfolding constructor_of fields_by
    cons_row_lem e = fields_by_lem true (rw e refl)

    -- any other row, read as fields, has none
    pub nil_row_lem : (code ≡ 0x26 → ⊥) → field_list_at depth spell cells row ≡ nil
    unfolding fields_by
    nil_row_lem e = fields_by_lem false (no_cons code e)

-- ------------------------------------------------------------------ names

module _ (spell : ℕ → List ℕ) (value : ℕ) where
  -- a name of class 1 is a word
  pub as_word : value / name_base ≡ 1 → name_of spell value ≡ word (spell (value % name_base))
  unfolding name_of
  as_word e = rw (eq-eqb (value / name_base) 1 e, name_of) refl

  -- one of class 2 is a new name
  pub as_fresh : value / name_base ≡ 2 → name_of spell value ≡ fresh (value % name_base)
  unfolding name_of
  as_fresh e = rw (ne_eqb (value / name_base) 1 (λ d. omega arith), name_of) (rw (eq-eqb (value / name_base) 2 e) refl)

  -- any other is an outside name
  pub as_outside : (value / name_base ≡ 1 → ⊥) → (value / name_base ≡ 2 → ⊥) → name_of spell value ≡ outside (spell (value % name_base))
  unfolding name_of
  as_outside a b = rw (ne_eqb (value / name_base) 1 a, name_of) (rw (ne_eqb (value / name_base) 2 b) refl)
