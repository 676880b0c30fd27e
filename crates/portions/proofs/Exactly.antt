-- The list of portions is the one that the rules give, and has three numbers for each of the term's.
use Prim.Native.Nat.{ℕ, zero, suc, ◌+◌, ◌*◌, ◌/◌, ◌%◌, ◌<◌, ◌≤◌}
use mathlib.Core.Path.{◌≡◌, refl, sym, ap, ◌∙◌}
use mathlib.Core.Bool.{Bool, true, false}
use mathlib.Core.Logic.{◌↔◌}
use mathlib.Core.List.{List, [], ◌∷◌, ◌++◌}
use native.Mathlib.Nat.{div-add-mod', mod-lt, mul-add-div_right, mul-add-mod_self_right, mod-eq_of_lt, div-eq_of_lt, add-zero}
use native.Mathlib.Omega.{arith}
use lib.ListN.{length, length-append}
use Rattle.terms.specs.Cells.{column}
use Rattle.terms.specs.Term.{Name, Term, Fields, variable, function, apply, rcd, dot, number, nil, cons, size, size_fields}
use Rattle.terms.specs.Rows.{Constructor, var_row, fun_row, app_row, rcd_row, dot_row, nil_row, cons_row, num_row, constructor_of}
use Rattle.terms.specs.Rows.{term_by, is_cons, fields_by, term_at, field_list_at}
use Rattle.portions.specs.Portions.{numbers, numbers_fields, entries_for, portions_of}
use Rattle.portions.specs.Portioned.{Portioned, a_number, a_variable, a_function, an_application, a_record, a_selection}
use Rattle.portions.specs.Portioned.{PortionedFields, no_field, a_field}

-- ------------------------------------------------------------------ lengths

-- The entries of two runs of numbers stand one behind the other.
pub entries_append : (written wanted : ℕ) (ms ns : List ℕ) → entries_for written wanted (ms ++ ns) ≡ entries_for written wanted ms ++ entries_for written wanted ns
unfolding entries_for
entries_append written wanted [] ns = refl
entries_append written wanted (m ∷ ms) ns = ap (λ z. m ∷ m * wanted / written ∷ m * wanted % written ∷ z) (entries_append written wanted ms ns)

-- An entry has three numbers.
pub entries_length : (written wanted : ℕ) (ns : List ℕ) → length (entries_for written wanted ns) ≡ 3 * length ns
unfolding entries_for
entries_length written wanted [] = refl
entries_length written wanted (n ∷ ns) = omega (arith, entries_length written wanted ns)

mutual
  unfolding numbers numbers_fields size size_fields

  -- A term has no more numbers than constructors.
  pub numbers_few : {N : Type 0} (t : Term N) → length (numbers t) ≤ size t
  numbers_few (variable x) = omega arith
  numbers_few (function x t) = omega (arith, numbers_few t)
  numbers_few (apply t u) = omega (arith, length-append (numbers t) (numbers u), numbers_few t, numbers_few u)
  numbers_few (rcd f) = omega (arith, numbers_fields_few f)
  numbers_few (dot t l) = omega (arith, numbers_few t)
  numbers_few (number n) = omega arith

  numbers_fields_few : {N : Type 0} (f : Fields N) → length (numbers_fields f) ≤ size_fields f
  numbers_fields_few nil = omega arith
  numbers_fields_few (cons l t f) = omega (arith, length-append (numbers t) (numbers_fields f), numbers_few t, numbers_fields_few f)

-- ------------------------------------------------------------------ numbers do not depend on spellings

module _ (spell spell' : ℕ → List ℕ) (cells : List ℕ) where
  abbrev Same : ℕ → ℕ → Type 0
  Same depth row = numbers (term_at depth spell cells row) ≡ numbers (term_at depth spell' cells row)

  abbrev SameFields : ℕ → ℕ → Type 0
  SameFields depth row = numbers_fields (field_list_at depth spell cells row) ≡ numbers_fields (field_list_at depth spell' cells row)

  same_by : (constructed : Constructor) (depth row : ℕ) → ((part : ℕ) → Same depth part) → ((part : ℕ) → SameFields depth part)
      → numbers (term_by constructed spell cells row (λ q. term_at depth spell cells q) (λ q. field_list_at depth spell cells q))
      ≡ numbers (term_by constructed spell' cells row (λ q. term_at depth spell' cells q) (λ q. field_list_at depth spell' cells q))
  unfolding numbers term_by
  same_by var_row depth row t f = refl
  same_by fun_row depth row t f = t (column cells row 2)
  same_by app_row depth row t f = cc (t (column cells row 1), t (column cells row 2))
  same_by rcd_row depth row t f = f (column cells row 1)
  same_by dot_row depth row t f = t (column cells row 1)
  same_by nil_row depth row t f = refl
  same_by cons_row depth row t f = refl
  same_by num_row depth row t f = refl

  same_by_fields : (more : Bool) (depth row : ℕ) → ((part : ℕ) → Same depth part) → ((part : ℕ) → SameFields depth part)
      → numbers_fields (fields_by more spell cells row (λ q. term_at depth spell cells q) (λ q. field_list_at depth spell cells q))
      ≡ numbers_fields (fields_by more spell' cells row (λ q. term_at depth spell' cells q) (λ q. field_list_at depth spell' cells q))
  unfolding numbers_fields fields_by
  same_by_fields true depth row t f = cc (t (column cells row 2), f (column cells row 3))
  same_by_fields false depth row t f = refl

  mutual
    unfolding term_at field_list_at

    -- How names are spelled does not matter to the numbers.
    pub numbers_spell : (depth row : ℕ) → Same depth row
    numbers_spell zero row = refl
    numbers_spell (suc depth) row =
        same_by (constructor_of (column cells row 0)) depth row (λ q. numbers_spell depth q) (λ q. numbers_spell_fields depth q)

    numbers_spell_fields : (depth row : ℕ) → SameFields depth row
    numbers_spell_fields zero row = refl
    numbers_spell_fields (suc depth) row =
        same_by_fields (is_cons (constructor_of (column cells row 0))) depth row (λ q. numbers_spell depth q) (λ q. numbers_spell_fields depth q)

-- ------------------------------------------------------------------ by rules

module _ (written wanted : ℕ) (some : 0 < written) where
  mutual
    unfolding numbers numbers_fields entries_for

    -- the list meets the rules
    meets : (t : Term Name) → Portioned written wanted t (portions_of written wanted t)
    meets (number n) = a_number (div-add-mod' (n * wanted) written) (mod-lt (n * wanted) some)
    meets (variable x) = a_variable
    meets (function x t) = a_function (meets t)
    meets (apply t u) = rw (entries_append written wanted (numbers t) (numbers u)) (an_application (meets t) (meets u))
    meets (rcd f) = a_record (meets_fields f)
    meets (dot t l) = a_selection (meets t)

    meets_fields : (f : Fields Name) → PortionedFields written wanted f (entries_for written wanted (numbers_fields f))
    meets_fields nil = no_field
    meets_fields (cons l t f) = rw (entries_append written wanted (numbers t) (numbers_fields f)) (a_field (meets t) (meets_fields f))

  -- a quotient and its remainder are determined
  quotient : (grams remainder whole : ℕ) → grams * written + remainder ≡ whole → remainder < written → grams ≡ whole / written
  quotient grams remainder whole e l =
      sym (ap (λ x. x / written) (sym e) ∙ mul-add-div_right some grams remainder ∙ ap (λ x. grams + x) (div-eq_of_lt l) ∙ add-zero grams)

  remaining : (grams remainder whole : ℕ) → grams * written + remainder ≡ whole → remainder < written → remainder ≡ whole % written
  remaining grams remainder whole e l = sym (ap (λ x. x % written) (sym e) ∙ mul-add-mod_self_right grams written remainder ∙ mod-eq_of_lt l)

  mutual
    unfolding numbers numbers_fields entries_for

    -- no other list does
    only : (t : Term Name) {out : List ℕ} → Portioned written wanted t out → out ≡ portions_of written wanted t
    only (number n) (a_number {grams = g} {remainder = r} e l) = cc (quotient g r (n * wanted) e l, remaining g r (n * wanted) e l)
    only (variable x) a_variable = refl
    only (function x t) (a_function p) = only t p
    only (apply t u) (an_application p q) = cc (only t p, only u q, entries_append written wanted (numbers t) (numbers u))
    only (rcd f) (a_record p) = only_fields f p
    only (dot t l) (a_selection p) = only t p

    only_fields : (f : Fields Name) {out : List ℕ} → PortionedFields written wanted f out → out ≡ entries_for written wanted (numbers_fields f)
    only_fields nil no_field = refl
    only_fields (cons l t f) (a_field p q) = cc (only t p, only_fields f q, entries_append written wanted (numbers t) (numbers_fields f))

  -- Exactly this list has, for each number from the left, the number, grams and a remainder below the portions written with
  -- grams × written + remainder = number × wanted.
  pub portions_exactly : (t : Term Name) (out : List ℕ) → Portioned written wanted t out ↔ (out ≡ portions_of written wanted t)
  portions_exactly t out = (only t, λ e. rw e (meets t))
