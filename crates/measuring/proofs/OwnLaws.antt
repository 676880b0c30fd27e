-- The own bytes of rows, and the length of a text as their sum where no name is new.
use Prim.Native.Nat.{ℕ, zero, suc, ◌+◌, ◌*◌, ◌/◌, ◌%◌, ◌<◌, ◌≤◌, min}
use mathlib.Core.Path.{◌≡◌, refl, sym, ap, ap₂, ◌∙◌}
use mathlib.Core.Bool.{true, false, true≢false}
use mathlib.Core.List.{List, [], ◌∷◌, foldr}
use native.Mathlib.Omega.{arith}
use lib.Dec.{eqb}
use lib.ListN.{length, get_or, drop, length-take}
use borrow.Author.Tests.{eqb-true, eqb-false}
use mir.Syntax.{w32, w64}
use mir.Val as val
use Rattle.spellings.specs.Bytes.{decimal, longest_word}
use Rattle.spellings.proofs.BytesLaws.{by_test}
use Rattle.spellings.proofs.DecimalLaws.{decimal_bound}
use Rattle.terms.specs.Cells.{column, columns, name_base}
use Rattle.terms.specs.Term.{Name, Term, Fields, variable, function, apply, rcd, dot, number, nil, cons, size}
use Rattle.terms.specs.Rows.{name_of, Constructor, var_row, fun_row, app_row, rcd_row, dot_row, nil_row, cons_row, num_row, constructor_of}
use Rattle.terms.specs.Rows.{term_by, is_cons, fields_by}
use Rattle.terms.specs.Rename.{new_name, written}
use Rattle.terms.specs.TextSize.{text_size, text_size_fields}
use Rattle.terms.specs.Labelled.{labelled, labelled_fields}
use Rattle.std.specs.Prelude.{Option, Some}
use Rattle.rows.specs.Sums.{row_is, parts_of, sum_of, is_fields, total_of}
use Rattle.rows.proofs.RowLaws.{num_code, as_word, as_fresh, as_outside}
use Rattle.rows.proofs.SumLaws.{Adds, total_adds, adds_by}
use Rattle.writer.specs.Pool.{spelling_room, spell_in, ShortSpellings}
use Rattle.writer.specs.Beginnings.{name_text}
use Rattle.measuring.specs.Lengths.{term_length, fields_length}
use Rattle.measuring.specs.OwnLengths.{own_of, own_length, Unnumbered, Weighable, OwnLengths, TextMeasurable}

-- ------------------------------------------------------------------ short spellings

-- a spelling of the room is short
pub spelling_short : (pool : List ℕ) → ShortSpellings pool → (spelled : ℕ) → length (spell_in pool spelled) ≤ longest_word
unfolding spell_in
spelling_short pool short spelled =
    omega (arith, short spelled, length-take (get_or pool (spelled * spelling_room) 0) (drop (spelled * spelling_room + 1) pool))

-- and so is a name as written
pub written_short : (spell : ℕ → List ℕ) → ((spelled : ℕ) → length (spell spelled) ≤ longest_word) → (value : ℕ)
    → length (written (name_of spell value)) ≤ longest_word
unfolding new_name
written_short spell short value =
    by_test (eqb (value / name_base) 1)
    (λ e. rw (as_word spell value (eqb-true (value / name_base) 1 e)) (short (value % name_base)))
    (λ e.
    by_test (eqb (value / name_base) 2)
    (λ f. rw (as_fresh spell value (eqb-true (value / name_base) 2 f)) (omega (arith, decimal_bound 0 0 (omega arith))))
    (λ f. rw (as_outside spell value (eqb-false (value / name_base) 1 e) (eqb-false (value / name_base) 2 f)) (short (value % name_base))))

-- ------------------------------------------------------------------ the own bytes of a row

module _ {pool cells : List ℕ} (weighable : Weighable pool cells) (row : ℕ) where
  own_by : (constructed : Constructor) → own_of constructed pool cells row ≤ 46
  unfolding own_of
  own_by var_row = omega (arith, written_short (spell_in pool) (spelling_short pool weighable.short) (column cells row 1))
  own_by fun_row = omega (arith, written_short (spell_in pool) (spelling_short pool weighable.short) (column cells row 1))
  own_by app_row = omega arith
  own_by rcd_row = omega arith
  own_by dot_row = omega (arith, spelling_short pool weighable.short (column cells row 2))
  own_by nil_row = omega arith
  own_by cons_row = omega (arith, spelling_short pool weighable.short (column cells row 1))
  own_by num_row = omega (arith, decimal_bound 9 (column cells row 1) (omega (arith, weighable.wide (row * columns + 1))))

  -- they are few
  pub own_short : own_length pool cells row ≤ 46
  own_short = own_by (constructor_of (column cells row 0))

  -- their number fits 32 bits
  pub own_narrow : {count : ℕ} → count ≡ own_length pool cells row → val.Fits w32 count
  own_narrow e = record { fits = omega (arith, own_short) }

  own_fits : {count : ℕ} → count ≡ own_length pool cells row → val.Fits w64 count
  own_fits e = record { fits = omega (arith, own_short) }

  module _ {code : ℕ} (read : code ≡ column cells row 0) where
    -- an application has 12
    pub app_own : code ≡ 0x22 → 12 ≡ own_length pool cells row
    unfolding constructor_of own_of
    app_own is = rw (← read, is) refl

    -- a record has 11
    pub rcd_own : code ≡ 0x23 → 11 ≡ own_length pool cells row
    unfolding constructor_of own_of
    rcd_own is = rw (← read, is) refl

    -- the empty field list has 12
    pub nil_own : code ≡ 0x25 → 12 ≡ own_length pool cells row
    unfolding constructor_of own_of
    nil_own is = rw (← read, is) refl

    module _ {value count : ℕ} (one : value ≡ column cells row 1) (named : count ≡ length (name_text pool value 0)) where
      -- a variable has 11 and its name
      pub var_own : code ≡ 0x20 → 11 + count ≡ own_length pool cells row
      unfolding constructor_of own_of
      var_own is = rw (named, ← read, is, ← one) refl

      -- a number of 64 bits
      pub var_own_small : code ≡ 0x20 → val.Fits w64 (11 + count)
      var_own_small is = own_fits (var_own is)

      -- a function has 12 and its binder's name
      pub fun_own : code ≡ 0x21 → 12 + count ≡ own_length pool cells row
      unfolding constructor_of own_of
      fun_own is = rw (named, ← read, is, ← one) refl

      -- a number of 64 bits
      pub fun_own_small : code ≡ 0x21 → val.Fits w64 (12 + count)
      fun_own_small is = own_fits (fun_own is)

    module _ (is : code ≡ 0x24) {value count : ℕ} (two : value ≡ column cells row 2) (label : count ≡ length (spell_in pool value)) where
      -- a selection has 12 and its label
      pub dot_own : 12 + count ≡ own_length pool cells row
      unfolding constructor_of own_of
      dot_own = rw (label, ← read, is, ← two) refl

      -- a number of 64 bits
      pub dot_own_small : val.Fits w64 (12 + count)
      dot_own_small = own_fits dot_own

    module _ (is : code ≡ 0x26) {value count : ℕ} (one : value ≡ column cells row 1) (label : count ≡ length (spell_in pool value)) where
      -- a field has 15 and its label
      pub cons_own : 15 + count ≡ own_length pool cells row
      unfolding constructor_of own_of
      cons_own = rw (label, ← read, is, ← one) refl

      -- a number of 64 bits
      pub cons_own_small : val.Fits w64 (15 + count)
      cons_own_small = own_fits cons_own

    -- any other row is a number
    module _ (others : ((((((Unit {0} × (code ≡ 0x20 → ⊥)) × (code ≡ 0x21 → ⊥)) × (code ≡ 0x22 → ⊥)) × (code ≡ 0x23 → ⊥)) × (code ≡ 0x24 → ⊥)) ×
        (code ≡ 0x25 → ⊥))
        × (code ≡ 0x26 → ⊥)) {value count : ℕ} (one : value ≡ column cells row 1) (digits : count ≡ length (decimal value)) where
      -- it has 11 and its digits
      pub num_own : 11 + count ≡ own_length pool cells row
      unfolding own_of
      num_own =
          let (before-cons, not-cons) = others in
          let (before-nil, not-nil) = before-cons in
          let (before-dot, not-dot) = before-nil in
          let (until-app, not-rcd) = before-dot in
          rw (digits, ← read, num_code code until-app.0.0.1 until-app.0.1 until-app.1 not-rcd not-dot not-nil not-cons, ← one) refl

      -- a number of 64 bits
      pub num_own_small : val.Fits w64 (11 + count)
      num_own_small = own_fits num_own

-- ------------------------------------------------------------------ a room of them

-- a room with the own bytes of the first rows
pub record Weighing (pool cells room weights : List ℕ) (row : ℕ) : Type 0 where
  -- as long as it was
  pub long : length weights ≡ length room
  -- the rows weighed have places
  pub within : row ≤ length room
  -- each of them has its own bytes
  pub each : (q : ℕ) → q < row → get_or weights q 0 ≡ own_length pool cells q

-- ------------------------------------------------------------------ the sum of the numbers of new names

-- The numbers of the first places are added up.
pub record Summing (numbers : List ℕ) (place sum : ℕ) : Type 0 where
  -- they have places
  pub within : place ≤ length numbers
  -- with those that are left they give the whole sum
  pub rest : sum + foldr ◌+◌ 0 (drop place numbers) ≡ foldr ◌+◌ 0 numbers
  -- each is of 16 bits
  pub small : sum ≤ place * 65535

sum_none : (numbers : List ℕ) → foldr ◌+◌ 0 numbers ≡ 0 → Unnumbered numbers
sum_none [] e place = refl
sum_none (n ∷ numbers) e zero = omega arith
sum_none (n ∷ numbers) e (suc place) = sum_none numbers (omega arith) place

-- Where the numbers add up to 0, no name is new.
pub none-new : (numbers : List ℕ) {sum : ℕ} → sum ≡ foldr ◌+◌ 0 numbers → sum ≤ 0 → Unnumbered numbers
none-new numbers e l = sum_none numbers (omega arith)

-- ------------------------------------------------------------------ a length as a sum

module _ (numbers : List ℕ) (none : Unnumbered numbers) where
  mutual
    unfolding labelled labelled_fields

    -- where no name is new, a text does not depend on its place
    placeless : (t : Term Name) (p q : ℕ) → labelled numbers p t ≡ labelled numbers q t
    placeless (variable v) p q = rw (none p, none q) refl
    placeless (function b t) p q = rw (none p, none q) (ap (function (written b)) (placeless t (suc p) (suc q)))
    placeless (apply t u) p q = ap₂ apply (placeless t (suc p) (suc q)) (placeless u (suc p + size t) (suc q + size t))
    placeless (rcd f) p q = ap rcd (placeless_fields f (suc p) (suc q))
    placeless (dot t l) p q = rw (placeless t (suc p) (suc q)) refl
    placeless (number n) p q = refl

    placeless_fields : (f : Fields Name) (p q : ℕ) → labelled_fields numbers p f ≡ labelled_fields numbers q f
    placeless_fields nil p q = refl
    placeless_fields (cons l t f) p q = ap₂ (cons l) (placeless t (suc p) (suc q)) (placeless_fields f (suc p + size t) (suc q + size t))

  -- the length of a text, from the first place on
  abbrev long : Term Name → ℕ
  long t = text_size (labelled numbers 0 t)

  abbrev long_fields : Fields Name → ℕ
  long_fields f = text_size_fields (labelled_fields numbers 0 f)

  same : (t : Term Name) (p : ℕ) → text_size (labelled numbers p t) ≡ long t
  same t p = ap text_size (placeless t p 0)

  same_fields : (f : Fields Name) (p : ℕ) → text_size_fields (labelled_fields numbers p f) ≡ long_fields f
  same_fields f p = ap text_size_fields (placeless_fields f p 0)

  module _ {pool cells room weights : List ℕ} (own : OwnLengths pool cells room weights) where
    weight : (row : ℕ) → row < length weights → {c : Constructor} → row_is cells row ≡ c → get_or weights row 0 ≡ own_of c pool cells row
    weight row l e = rw e at (own.each row l)

    -- Lengths are the sums of own bytes.
    pub lengths_add : Adds weights cells (length weights) (λ depth row. term_length pool cells numbers depth row 0)
        (λ depth row. fields_length pool cells numbers depth row 0)
    unfolding term_length fields_length labelled labelled_fields text_size text_size_fields term_by fields_by parts_of own_of
    lengths_add = adds_by (spell_in pool) long long_fields by_term by_list
      where
        by_term : (row : ℕ) → row < length weights → (c : Constructor) → row_is cells row ≡ c → is_fields c ≡ false
            → (terms : ℕ → Term Name) (fields : ℕ → Fields Name)
            → long (term_by c (spell_in pool) cells row terms fields)
            ≡ get_or weights row 0 + sum_of (parts_of c cells row) (λ q. long (terms q)) (λ q. long_fields (fields q))
        by_term row l var_row e k terms fields = rw (weight row l e, none 0) (omega arith)
        by_term row l fun_row e k terms fields = rw (weight row l e, none 0, same (terms (column cells row 2)) 1) (omega arith)
        by_term row l app_row e k terms fields =
            omega (
              arith,
              weight row l e,
              same (terms (column cells row 1)) 1,
              same (terms (column cells row 2)) (1 + size (terms (column cells row 1))),
            )
        by_term row l rcd_row e k terms fields = omega (arith, weight row l e, same_fields (fields (column cells row 1)) 1)
        by_term row l dot_row e k terms fields = omega (arith, weight row l e, same (terms (column cells row 1)) 1)
        by_term row l nil_row e k terms fields = absurd (true≢false k)
        by_term row l cons_row e k terms fields = absurd (true≢false k)
        by_term row l num_row e k terms fields = omega (arith, weight row l e)

        by_list : (row : ℕ) → row < length weights → (c : Constructor) → row_is cells row ≡ c → is_fields c ≡ true
            → (terms : ℕ → Term Name) (fields : ℕ → Fields Name)
            → long_fields (fields_by (is_cons c) (spell_in pool) cells row terms fields)
            ≡ get_or weights row 0 + sum_of (parts_of c cells row) (λ q. long (terms q)) (λ q. long_fields (fields q))
        by_list row l var_row e k terms fields = absurd (true≢false (sym k))
        by_list row l fun_row e k terms fields = absurd (true≢false (sym k))
        by_list row l app_row e k terms fields = absurd (true≢false (sym k))
        by_list row l rcd_row e k terms fields = absurd (true≢false (sym k))
        by_list row l dot_row e k terms fields = absurd (true≢false (sym k))
        by_list row l nil_row e k terms fields = omega (arith, weight row l e)
        by_list row l cons_row e k terms fields =
            omega (
              arith,
              weight row l e,
              same (terms (column cells row 2)) 1,
              same_fields (fields (column cells row 3)) (1 + size (terms (column cells row 2))),
            )
        by_list row l num_row e k terms fields = absurd (true≢false (sym k))

    -- The length that a pass tells.
    pub length_told : {root : ℕ} {total : Option ℕ} {sum : ℕ} → TextMeasurable pool cells numbers (length room) root
        → total ≡ total_of cells 0x3FFFFFFF weights root → total ≡ Some sum → sum ≡ term_length pool cells numbers (length room) root 0
    length_told {root} {sum = sum} measurable is-total is_sum =
        let bound = measurable.room in
        let told = total_adds 0x3FFFFFFF root lengths_add (sym is_sum ∙ is-total) in
        let here : sum ≡ min 0x3FFFFFFF (term_length pool cells numbers (length room) root 0) = rw own.long at told in
        omega arith
