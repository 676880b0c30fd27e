-- Names, and what a constructor's text begins with, piece by piece.
use Prim.Native.Nat.{ℕ, zero, suc, ◌+◌, ◌/◌, ◌%◌, ◌<◌, ◌≤◌}
use mathlib.Core.Path.{◌≡◌, refl, sym, ap, ◌∙◌}
use mathlib.Core.Logic.{◌⊎◌}
use mathlib.Core.List.{List, [], ◌∷◌}
use native.Mathlib.Omega.{arith}
use lib.Dec.{eqb}
use lib.ListN.{get_or}
use borrow.Author.Tests.{eqb-true, eqb-false}
use Rattle.spellings.specs.Bytes.{bytes, decimal, digits_then}
use Rattle.spellings.proofs.BytesLaws.{by_test}
use Rattle.terms.specs.Cells.{column}
use Rattle.terms.specs.Term.{Name}
use Rattle.terms.specs.Rows.{name_of, term_at, field_list_at}
use Rattle.terms.specs.Rename.{new_name, written}
use Rattle.terms.specs.Print.{numeral}
use Rattle.terms.specs.Labelled.{name_shown, labelled}
use Rattle.rows.proofs.RowLaws as rows
use Rattle.rows.proofs.RowLaws.{as_word, as_fresh, as_outside}
use Rattle.writer.specs.Pool.{spell_in}
use Rattle.writer.specs.Beginnings.{beginning, beginning_fields, number_beginning, term_beginning, fields_beginning, name_text, BeginningFits}
use Rattle.writer.specs.Writing.{Fits, Written}
use Rattle.writer.proofs.Pieces.{remains, with_rest, MadeOf, Writing, first_fits, first_written, next_fits, next_written, last_written}

-- ------------------------------------------------------------------ names

new_split : (shown number : ℕ) (name : Name) → 0 < shown → number ≡ shown → name_shown shown name ≡ 0x5F ∷ decimal number
unfolding new_name
new_split zero number name h e = absurd (omega arith)
new_split (suc shown) number name h e = cc

-- a new name: an underscore, then its number
module _ (pool : List ℕ) (value shown : ℕ) {out : List ℕ} (fits : Fits (name_text pool value shown) out) (new : 0 < shown) {number : ℕ}
    (same : number ≡ shown) where
  new_made : MadeOf (name_text pool value shown) ((0x5F ∷ []) ∷ decimal number ∷ [])
  new_made = record { whole = new_split shown number (name_of (spell_in pool) value) new same }

  -- the underscore fits
  pub new_fits : Fits (0x5F ∷ []) out
  new_fits = first_fits new_made fits

  module _ {end : ℕ} {out' : List ℕ} (first : Written (0x5F ∷ []) out end out') where
    -- and behind it the number
    pub new_number_fits : Fits (decimal number) (remains end out')
    new_number_fits = next_fits (first_written new_made fits first)

    -- both are the name
    pub new_written : {count : ℕ} {rest : List ℕ} → Written (decimal number) (remains end out') count rest
        → Written (name_text pool value shown) out (end + count) (with_rest end out' rest)
    new_written = last_written (first_written new_made fits first)

not_new : (shown : ℕ) (name : Name) → shown ≤ 0 → name_shown shown name ≡ written name
not_new zero name h = refl
not_new (suc shown) name h = absurd (omega arith)

module _ (pool : List ℕ) (value : ℕ) {shown : ℕ} (old : shown ≤ 0) where
  -- a fresh name that has no number
  pub fresh_name : value / 0x1000000 ≡ 2 → 0x5F ∷ 0x30 ∷ [] ≡ name_text pool value shown
  unfolding new_name digits_then
  fresh_name e = sym (not_new shown (name_of (spell_in pool) value) old ∙ ap written (as_fresh (spell_in pool) value e))

  -- a name as written
  pub plain_name : (value / 0x1000000 ≡ 2 → ⊥) → {spelling : List ℕ} → spelling ≡ spell_in pool (value % 0x1000000) → spelling ≡ name_text pool value shown
  plain_name d es =
      by_test (eqb (value / 0x1000000) 1)
      (λ e. es ∙ sym (not_new shown (name_of (spell_in pool) value) old ∙ ap written (as_word (spell_in pool) value (eqb-true (value / 0x1000000) 1 e))))
      (λ e. es ∙ sym (not_new shown (name_of (spell_in pool) value) old ∙ ap written (as_outside (spell_in pool) value (eqb-false (value / 0x1000000) 1 e) d)))

-- ------------------------------------------------------------------ beginnings, piece by piece

abbrev space : List ℕ
space = 0x20 ∷ []

abbrev VAR : List ℕ
VAR = 0x6D ∷ 0x6B ∷ 0x54 ∷ 0x65 ∷ 0x72 ∷ 0x6D ∷ 0x56 ∷ 0x61 ∷ 0x72 ∷ 0x28 ∷ []

abbrev FUN : List ℕ
FUN = 0x6D ∷ 0x6B ∷ 0x54 ∷ 0x65 ∷ 0x72 ∷ 0x6D ∷ 0x46 ∷ 0x75 ∷ 0x6E ∷ 0x28 ∷ []

abbrev APP : List ℕ
APP = 0x6D ∷ 0x6B ∷ 0x54 ∷ 0x65 ∷ 0x72 ∷ 0x6D ∷ 0x41 ∷ 0x70 ∷ 0x70 ∷ 0x28 ∷ []

abbrev RCD : List ℕ
RCD = 0x6D ∷ 0x6B ∷ 0x54 ∷ 0x65 ∷ 0x72 ∷ 0x6D ∷ 0x52 ∷ 0x63 ∷ 0x64 ∷ 0x28 ∷ []

abbrev DOT : List ℕ
DOT = 0x6D ∷ 0x6B ∷ 0x54 ∷ 0x65 ∷ 0x72 ∷ 0x6D ∷ 0x44 ∷ 0x6F ∷ 0x74 ∷ 0x28 ∷ []

abbrev NUM : List ℕ
NUM = 0x6D ∷ 0x6B ∷ 0x54 ∷ 0x65 ∷ 0x72 ∷ 0x6D ∷ 0x4E ∷ 0x75 ∷ 0x6D ∷ 0x28 ∷ []

abbrev NIL : List ℕ
NIL = 0x6D ∷ 0x6B ∷ 0x46 ∷ 0x69 ∷ 0x65 ∷ 0x6C ∷ 0x64 ∷ 0x4E ∷ 0x69 ∷ 0x6C ∷ 0x28 ∷ []

abbrev CONS : List ℕ
CONS = 0x6D ∷ 0x6B ∷ 0x46 ∷ 0x69 ∷ 0x65 ∷ 0x6C ∷ 0x64 ∷ 0x43 ∷ 0x6F ∷ 0x6E ∷ 0x73 ∷ 0x28 ∷ []

-- a number: its constructor, then its digits
module _ (number : ℕ) {out : List ℕ} (fits : Fits (number_beginning number) out) where
  number_made : MadeOf (number_beginning number) (NUM ∷ numeral number ∷ [])
  unfolding bytes number_beginning
  number_made = record { whole = refl }

  -- the constructor fits
  pub number_fits : Fits NUM out
  number_fits = first_fits number_made fits

  module _ {end : ℕ} {out' : List ℕ} (first : Written NUM out end out') where
    -- and behind it the digits
    pub digits_fit : Fits (decimal number) (remains end out')
    digits_fit = next_fits (first_written number_made fits first)

    -- both are what a number begins with
    pub number_written : {count : ℕ} {rest : List ℕ} → Written (decimal number) (remains end out') count rest
        → Written (number_beginning number) out (end + count) (with_rest end out' rest)
    number_written = last_written (first_written number_made fits first)

module _ (pool cells numbers : List ℕ) (depth row place : ℕ) where
  -- where no depth is left, a term begins as the number 0
  pub shallow_begins : depth ≡ 0 → number_beginning 0 ≡ term_beginning pool cells numbers depth row place
  unfolding term_beginning term_at labelled beginning number_beginning
  shallow_begins e = rw e refl

  module _ (some : depth ≡ 0 → ⊥) {code : ℕ} (read : code ≡ column cells row 0) where
    -- an application: its constructor
    pub app_begins : code ≡ 0x22 → APP ≡ term_beginning pool cells numbers depth row place
    unfolding bytes term_beginning labelled beginning
    app_begins e = rw (rows.app_row_lem (spell_in pool) cells depth row some read e) refl

    -- a record: its constructor
    pub rcd_begins : code ≡ 0x23 → RCD ≡ term_beginning pool cells numbers depth row place
    unfolding bytes term_beginning labelled beginning
    rcd_begins e = rw (rows.rcd_row_lem (spell_in pool) cells depth row some read e) refl

    -- a selection: its constructor
    pub dot_begins : code ≡ 0x24 → DOT ≡ term_beginning pool cells numbers depth row place
    unfolding bytes term_beginning labelled beginning
    dot_begins e = rw (rows.dot_row_lem (spell_in pool) cells depth row some read e) refl

    -- a row of a field list, read as a term, begins as the number 0
    pub zero_begins : (code ≡ 0x25) ⊎ (code ≡ 0x26) → number_beginning 0 ≡ term_beginning pool cells numbers depth row place
    unfolding term_beginning labelled beginning number_beginning
    zero_begins e = rw (rows.zero_row (spell_in pool) cells depth row some read e) refl

    -- any other row: a number
    pub num_begins : ((((((Unit {0} × (code ≡ 0x20 → ⊥)) × (code ≡ 0x21 → ⊥)) × (code ≡ 0x22 → ⊥)) × (code ≡ 0x23 → ⊥)) × (code ≡ 0x24 → ⊥)) ×
        (code ≡ 0x25 → ⊥))
        × (code ≡ 0x26 → ⊥) → {value : ℕ} → value ≡ column cells row 1 → number_beginning value ≡ term_beginning pool cells numbers depth row place
    unfolding term_beginning labelled beginning number_beginning
    num_begins others ex =
        let (before-cons, not-cons) = others in
        let (before-nil, not-nil) = before-cons in
        let (before-dot, not-dot) = before-nil in
        let (until-app, not-rcd) = before-dot in
        rw (
          ex,
          rows.num_row_lem (spell_in pool) cells depth row some read until-app.0.0.1 until-app.0.1 until-app.1 not-rcd not-dot not-nil not-cons,
        ) refl

-- a variable: its constructor, then its name; a function: its constructor, its binder's name and a space
module _ {pool cells numbers out : List ℕ} {depth row place code : ℕ} (fits : BeginningFits pool cells numbers depth row place code out)
    (some : depth ≡ 0 → ⊥) {value number : ℕ} (valued : value ≡ column cells row 1) (numbered : number ≡ get_or numbers place 0) where
  abbrev Text : List ℕ
  Text = term_beginning pool cells numbers depth row place

  var_made : code ≡ 0x20 → MadeOf Text (VAR ∷ name_text pool value number ∷ [])
  unfolding bytes term_beginning labelled beginning
  var_made e = record { whole = rw (valued, numbered, rows.var_row_lem (spell_in pool) cells depth row some fits.read e) refl }

  fun_made : code ≡ 0x21 → MadeOf Text (FUN ∷ name_text pool value number ∷ space ∷ [])
  unfolding bytes term_beginning labelled beginning
  fun_made e = record { whole = rw (valued, numbered, rows.fun_row_lem (spell_in pool) cells depth row some fits.read e) refl }

  -- a variable's constructor fits
  pub var_fits : code ≡ 0x20 → Fits VAR out
  var_fits e = first_fits (var_made e) fits.room

  -- a function's constructor fits
  pub fun_fits : code ≡ 0x21 → Fits FUN out
  fun_fits e = first_fits (fun_made e) fits.room

  module _ {end : ℕ} {out' : List ℕ} where
    -- a variable's name fits behind it
    pub var_name_fits : code ≡ 0x20 → Written VAR out end out' → Fits (name_text pool value number) (remains end out')
    var_name_fits e first = next_fits (first_written (var_made e) fits.room first)

    -- both are what a variable begins with
    pub var_written : code ≡ 0x20 → Written VAR out end out' → {count : ℕ} {rest : List ℕ}
        → Written (name_text pool value number) (remains end out') count rest
        → Written Text out (end + count) (with_rest end out' rest)
    var_written e first = last_written (first_written (var_made e) fits.room first)

    -- a binder's name fits behind it
    pub fun_name_fits : code ≡ 0x21 → Written FUN out end out' → Fits (name_text pool value number) (remains end out')
    fun_name_fits e first = next_fits (first_written (fun_made e) fits.room first)

    module _ (is : code ≡ 0x21) (first : Written FUN out end out') {count : ℕ} {rest : List ℕ}
        (named : Written (name_text pool value number) (remains end out') count rest) where
      abbrev Named : List ℕ
      Named = with_rest end out' rest

      name_written : Writing Text out (end + count) Named (space ∷ [])
      name_written = next_written (first_written (fun_made is) fits.room first) named

      -- and behind it the space
      pub fun_space_fits : Fits space (remains (end + count) Named)
      fun_space_fits = next_fits name_written

      -- all three are what a function begins with
      pub fun_written : {count' : ℕ} {rest' : List ℕ} → Written space (remains (end + count) Named) count' rest'
          → Written Text out (end + count + count') (with_rest (end + count) Named rest')
      fun_written = last_written name_written

module _ (pool cells : List ℕ) (depth row : ℕ) where
  -- where no depth is left, a field list begins as the empty one
  pub shallow_begins_fields : depth ≡ 0 → NIL ≡ fields_beginning pool cells depth row
  unfolding bytes fields_beginning field_list_at beginning_fields
  shallow_begins_fields e = rw e refl

  module _ (some : depth ≡ 0 → ⊥) {code : ℕ} (read : code ≡ column cells row 0) where
    -- any other row: the empty field list
    pub nil_begins : (code ≡ 0x26 → ⊥) → NIL ≡ fields_beginning pool cells depth row
    unfolding bytes fields_beginning beginning_fields
    nil_begins e = rw (rows.nil_row_lem (spell_in pool) cells depth row some read e) refl

-- a field: its constructor, its label and a space
module _ (pool cells : List ℕ) (depth row : ℕ) {out : List ℕ} (fits : Fits (fields_beginning pool cells depth row) out) (some : depth ≡ 0 → ⊥) {code : ℕ}
    (read : code ≡ column cells row 0) (is : code ≡ 0x26) {value : ℕ} (valued : value ≡ column cells row 1) where
  cons_made : MadeOf (fields_beginning pool cells depth row) (CONS ∷ spell_in pool value ∷ space ∷ [])
  unfolding bytes fields_beginning beginning_fields
  cons_made = record { whole = rw (valued, rows.cons_row_lem (spell_in pool) cells depth row some read is) refl }

  -- the constructor fits
  pub cons_fits : Fits CONS out
  cons_fits = first_fits cons_made fits

  module _ {end : ℕ} {out' : List ℕ} (first : Written CONS out end out') where
    -- and behind it the label
    pub cons_label_fits : Fits (spell_in pool value) (remains end out')
    cons_label_fits = next_fits (first_written cons_made fits first)

    module _ {count : ℕ} {rest : List ℕ} (label : Written (spell_in pool value) (remains end out') count rest) where
      abbrev Labelled : List ℕ
      Labelled = with_rest end out' rest

      label_written : Writing (fields_beginning pool cells depth row) out (end + count) Labelled (space ∷ [])
      label_written = next_written (first_written cons_made fits first) label

      -- and behind it the space
      pub cons_space_fits : Fits space (remains (end + count) Labelled)
      cons_space_fits = next_fits label_written

      -- all three are what a field begins with
      pub cons_written : {count' : ℕ} {rest' : List ℕ} → Written space (remains (end + count) Labelled) count' rest'
          → Written (fields_beginning pool cells depth row) out (end + count + count')
          (with_rest (end + count) Labelled rest')
      cons_written = last_written label_written
