-- The length of a text, constructor by constructor.
use Prim.Native.Nat.{ℕ, zero, suc, ◌+◌, ◌-◌, ◌/◌, ◌%◌, ◌<◌, ◌≤◌}
use mathlib.Core.Path.{◌≡◌, refl, sym, ap, ◌∙◌}
use mathlib.Core.Logic.{◌⊎◌}
use mathlib.Core.List.{List}
use native.Mathlib.Numerals.{add-one}
use native.Mathlib.Omega.{arith}
use lib.ListN.{length, get_or}
use mir.Syntax.{w64}
use mir.Val as val
use Rattle.spellings.specs.Bytes.{decimal, digits_then}
use Rattle.spellings.proofs.DecimalLaws.{decimal_bound}
use Rattle.terms.specs.Cells.{column}
use Rattle.terms.specs.Term as term
use Rattle.terms.specs.Term.{Name, size, size_fields}
use Rattle.terms.specs.Rows.{name_of, term_at, field_list_at}
use Rattle.terms.specs.Rename.{new_name}
use Rattle.terms.specs.TextSize.{text_size, text_size_fields}
use Rattle.terms.specs.Labelled.{name_shown, labelled, labelled_fields}
use Rattle.rows.specs.Sizes.{no_spell, size_at, size_fields_at}
use Rattle.rows.proofs.RowLaws as rows
use Rattle.rows.proofs.SizeLaws.{size_spell, size-some, size_some_fields}
use Rattle.writer.specs.Pool.{spell_in}
use Rattle.writer.specs.Beginnings.{name_text}
use Rattle.writer.proofs.BeginningLaws.{fresh_name, plain_name}
use Rattle.measuring.specs.Lengths.{term_length, fields_length, TermMeasurable, FieldsMeasurable, Measured}

-- ------------------------------------------------------------------ names

new_length_by : (shown number : ℕ) (name : Name) → 0 < shown → number ≡ shown → length (name_shown shown name) ≡ 1 + length (decimal number)
unfolding new_name
new_length_by zero number name some e = absurd (omega arith)
new_length_by (suc shown) number name some e = rw e (omega arith)

module _ (pool : List ℕ) (value : ℕ) {shown : ℕ} where
  -- a new name is an underscore longer than its number
  pub new_length : 0 < shown → {number count : ℕ} → number ≡ shown → count ≡ length (decimal number) → 1 + count ≡ length (name_text pool value shown)
  new_length some {number} same counted = omega (arith, counted, new_length_by shown number (name_of (spell_in pool) value) some same)

  -- a fresh name without a number has two bytes
  pub fresh_length : shown ≤ 0 → value / 0x1000000 ≡ 2 → 2 ≡ length (name_text pool value shown)
  fresh_length old is = ap length (fresh_name pool value old is)

  -- a name as written is as long as its spelling
  pub plain_length : shown ≤ 0 → (value / 0x1000000 ≡ 2 → ⊥) → {count : ℕ} → count ≡ length (spell_in pool (value % 0x1000000))
      → count ≡ length (name_text pool value shown)
  plain_length old other counted = counted ∙ ap length (plain_name pool value old other refl)

-- the digits of a number of 16 bits are few
pub new_small : (shown : ℕ) → shown < 65536 → {number count : ℕ} → number ≡ shown → count ≡ length (decimal number) → val.Fits w64 (1 + count)
new_small shown small {number} same counted = record { fits = omega (arith, counted, decimal_bound 4 number (omega arith)) }

-- ------------------------------------------------------------------ terms

module _ {pool cells numbers : List ℕ} {depth row place : ℕ} (m : TermMeasurable pool cells numbers depth row place) where
  abbrev Long : ℕ
  Long = term_length pool cells numbers depth row place

  abbrev MeasuredTerm : ℕ → ℕ → Type 0
  MeasuredTerm count place' = Measured Long (size_at cells depth row) place count place'

  -- its place is that of a number
  pub term_there : place < length numbers
  term_there = omega (arith, m.inside, size-some (term_at depth no_spell cells row))

  -- the place behind it is a number of 64 bits
  pub term_next : val.Fits w64 (place + 1)
  term_next = record { fits = omega (arith, m.inside, m.few, size-some (term_at depth no_spell cells row)) }

  -- with no depth left, it is the number 0
  pub shallow_measured : depth ≡ 0 → MeasuredTerm 12 (place + 1)
  unfolding term_length term_at labelled text_size size digits_then
  shallow_measured e = record { counted = rw e refl; moved = rw e refl }

  module _ (some : depth ≡ 0 → ⊥) {code : ℕ} (read : code ≡ column cells row 0) where
    -- a variable
    module _ (is : code ≡ 0x20) {value number count : ℕ} (one : value ≡ column cells row 1) (numbered : number ≡ get_or numbers place 0)
        (name : count ≡ length (name_text pool value number)) where
      var_length : Long ≡ 11 + count
      unfolding term_length labelled text_size
      var_length = rw (name, one, numbered, rows.var_row_lem (spell_in pool) cells depth row some read is) refl

      -- its name's length and 11 bytes
      pub var_measured : MeasuredTerm (11 + count) (place + 1)
      unfolding size
      var_measured = record { counted = sym var_length; moved = rw (rows.var_row_lem no_spell cells depth row some read is) refl }

      -- are a number of 64 bits
      pub var_small : val.Fits w64 (11 + count)
      var_small = record { fits = omega (arith, var_length, m.room) }

    -- a function
    module _ (is : code ≡ 0x21) {last : ℕ} (two : last ≡ column cells row 2) where
      fun_length : Long ≡ 12 + length (name_text pool (column cells row 1) (get_or numbers place 0)) + term_length pool cells numbers (depth - 1) last (place + 1)
      unfolding term_length labelled text_size
      fun_length = rw (two, rows.fun_row_lem (spell_in pool) cells depth row some read is, add-one place) refl

      fun_size : size (term_at depth no_spell cells row) ≡ 1 + size_at cells (depth - 1) last
      unfolding size
      fun_size = rw (two, rows.fun_row_lem no_spell cells depth row some read is) (omega arith)

      -- its body can be measured
      pub fun_body : TermMeasurable pool cells numbers (depth - 1) last (place + 1)
      fun_body = record { room = omega (arith, fun_length, m.room); inside = omega (arith, fun_size, m.inside); few = m.few }

      module _ {value number count : ℕ} (one : value ≡ column cells row 1) (numbered : number ≡ get_or numbers place 0)
          (name : count ≡ length (name_text pool value number)) where
        named : Long ≡ 12 + count + term_length pool cells numbers (depth - 1) last (place + 1)
        named = rw (name, one, numbered) fun_length

        -- 12 bytes and its binder's name
        pub fun_front_small : val.Fits w64 (12 + count)
        fun_front_small = record { fits = omega (arith, named, m.room) }

        module _ {count' place' : ℕ}
            (body : Measured (term_length pool cells numbers (depth - 1) last (place + 1)) (size_at cells (depth - 1) last) (place + 1) count' place') where
          -- and its body's text
          pub fun_small : val.Fits w64 (12 + count + count')
          fun_small = record { fits = omega (arith, named, m.room, body.counted) }

          -- are its text
          pub fun_measured : MeasuredTerm (12 + count + count') place'
          fun_measured = record { counted = omega (arith, named, body.counted); moved = omega (arith, fun_size, body.moved) }

    -- an application
    module _ (is : code ≡ 0x22) {first last : ℕ} (one : first ≡ column cells row 1) (two : last ≡ column cells row 2) where
      app_length : {place' : ℕ} → place' ≡ place + 1 + size_at cells (depth - 1) first
          → Long ≡ 12 + term_length pool cells numbers (depth - 1) first (place + 1) + term_length pool cells numbers (depth - 1) last place'
      unfolding term_length labelled text_size
      app_length moved =
          rw (
            moved,
            size_spell (depth - 1) no_spell (spell_in pool) cells first,
            one,
            two,
            rows.app_row_lem (spell_in pool) cells depth row some read is,
            add-one place,
          ) refl

      app_size : size (term_at depth no_spell cells row) ≡ 1 + size_at cells (depth - 1) first + size_at cells (depth - 1) last
      unfolding size
      app_size = rw (one, two, rows.app_row_lem no_spell cells depth row some read is) (omega arith)

      -- its first term can be measured
      pub app_first : TermMeasurable pool cells numbers (depth - 1) first (place + 1)
      app_first = record { room = omega (arith, app_length refl, m.room); inside = omega (arith, app_size, m.inside); few = m.few }

      module _ {count place' : ℕ}
          (term : Measured (term_length pool cells numbers (depth - 1) first (place + 1)) (size_at cells (depth - 1) first) (place + 1) count place') where
        -- 12 bytes and that text
        pub app_front_small : val.Fits w64 (12 + count)
        app_front_small = record { fits = omega (arith, app_length term.moved, m.room, term.counted) }

        -- its second term can be measured
        pub app_last : TermMeasurable pool cells numbers (depth - 1) last place'
        app_last =
            record { room = omega (arith, app_length term.moved, m.room); inside = omega (arith, app_size, m.inside, term.moved); few = m.few }

        module _ {count' place'' : ℕ}
            (other : Measured (term_length pool cells numbers (depth - 1) last place') (size_at cells (depth - 1) last) place' count' place'') where
          -- and that text
          pub app_small : val.Fits w64 (12 + count + count')
          app_small = record { fits = omega (arith, app_length term.moved, m.room, term.counted, other.counted) }

          -- are its text
          pub app_measured : MeasuredTerm (12 + count + count') place''
          app_measured =
              record {
                counted = omega (arith, app_length term.moved, term.counted, other.counted);
                moved = omega (arith, app_size, term.moved, other.moved);
              }

    -- a record
    module _ (is : code ≡ 0x23) {first : ℕ} (one : first ≡ column cells row 1) where
      rcd_length : Long ≡ 11 + fields_length pool cells numbers (depth - 1) first (place + 1)
      unfolding term_length fields_length labelled text_size
      rcd_length = rw (one, rows.rcd_row_lem (spell_in pool) cells depth row some read is, add-one place) refl

      rcd_size : size (term_at depth no_spell cells row) ≡ 1 + size_fields_at cells (depth - 1) first
      unfolding size
      rcd_size = rw (one, rows.rcd_row_lem no_spell cells depth row some read is) (omega arith)

      -- its fields can be measured
      pub rcd_fields : FieldsMeasurable pool cells numbers (depth - 1) first (place + 1)
      rcd_fields = record { room = omega (arith, rcd_length, m.room); inside = omega (arith, rcd_size, m.inside); few = m.few }

      module _ {count place' : ℕ}
          (fields : Measured (fields_length pool cells numbers (depth - 1) first (place + 1)) (size_fields_at cells (depth - 1) first) (place + 1) count place')
        where
          -- 11 bytes and their text
          pub rcd_small : val.Fits w64 (11 + count)
          rcd_small = record { fits = omega (arith, rcd_length, m.room, fields.counted) }

          -- are its text
          pub rcd_measured : MeasuredTerm (11 + count) place'
          rcd_measured = record { counted = omega (arith, rcd_length, fields.counted); moved = omega (arith, rcd_size, fields.moved) }

    -- a selection
    module _ (is : code ≡ 0x24) {first last : ℕ} (one : first ≡ column cells row 1) (two : last ≡ column cells row 2) where
      dot_length : Long ≡ 12 + term_length pool cells numbers (depth - 1) first (place + 1) + length (spell_in pool last)
      unfolding term_length labelled text_size
      dot_length = rw (one, two, rows.dot_row_lem (spell_in pool) cells depth row some read is, add-one place) refl

      dot_size : size (term_at depth no_spell cells row) ≡ 1 + size_at cells (depth - 1) first
      unfolding size
      dot_size = rw (one, rows.dot_row_lem no_spell cells depth row some read is) (omega arith)

      -- its term can be measured
      pub dot_term : TermMeasurable pool cells numbers (depth - 1) first (place + 1)
      dot_term = record { room = omega (arith, dot_length, m.room); inside = omega (arith, dot_size, m.inside); few = m.few }

      module _ {count place' : ℕ}
          (term : Measured (term_length pool cells numbers (depth - 1) first (place + 1)) (size_at cells (depth - 1) first) (place + 1) count place') where
        -- 12 bytes and that text
        pub dot_front_small : val.Fits w64 (12 + count)
        dot_front_small = record { fits = omega (arith, dot_length, m.room, term.counted) }

        module _ {count' : ℕ} (label : count' ≡ length (spell_in pool last)) where
          -- and its label
          pub dot_small : val.Fits w64 (12 + count + count')
          dot_small = record { fits = omega (arith, dot_length, m.room, term.counted, label) }

          -- are its text
          pub dot_measured : MeasuredTerm (12 + count + count') place'
          dot_measured = record { counted = omega (arith, dot_length, term.counted, label); moved = omega (arith, dot_size, term.moved) }

    -- a row of a field list is read as the number 0
    pub zero_measured : (code ≡ 0x25) ⊎ (code ≡ 0x26) → MeasuredTerm 12 (place + 1)
    unfolding term_length labelled text_size size digits_then
    zero_measured is =
        record {
          counted = rw (rows.zero_row (spell_in pool) cells depth row some read is) refl;
          moved = rw (rows.zero_row no_spell cells depth row some read is) refl;
        }

    -- any other row is a number
    module _ (others : ((((((Unit {0} × (code ≡ 0x20 → ⊥)) × (code ≡ 0x21 → ⊥)) × (code ≡ 0x22 → ⊥)) × (code ≡ 0x23 → ⊥)) × (code ≡ 0x24 → ⊥)) ×
        (code ≡ 0x25 → ⊥))
        × (code ≡ 0x26 → ⊥)) {value count : ℕ} (one : value ≡ column cells row 1) (digits : count ≡ length (decimal value)) where
      as_number : (spell : ℕ → List ℕ) → term_at depth spell cells row ≡ term.number (column cells row 1)
      as_number spell =
          let (before-cons, not-cons) = others in
          let (before-nil, not-nil) = before-cons in
          let (before-dot, not-dot) = before-nil in
          let (until-app, not-rcd) = before-dot in
          rows.num_row_lem spell cells depth row some read until-app.0.0.1 until-app.0.1 until-app.1 not-rcd not-dot not-nil not-cons

      num_length : Long ≡ 11 + count
      unfolding term_length labelled text_size
      num_length = rw (digits, one, as_number (spell_in pool)) refl

      -- its digits and 11 bytes
      pub num_measured : MeasuredTerm (11 + count) (place + 1)
      unfolding size
      num_measured = record { counted = sym num_length; moved = rw (as_number no_spell) refl }

      -- are a number of 64 bits
      pub num_small : val.Fits w64 (11 + count)
      num_small = record { fits = omega (arith, num_length, m.room) }

-- ------------------------------------------------------------------ field lists

module _ {pool cells numbers : List ℕ} {depth row place : ℕ} (m : FieldsMeasurable pool cells numbers depth row place) where
  abbrev LongFields : ℕ
  LongFields = fields_length pool cells numbers depth row place

  abbrev MeasuredFields : ℕ → ℕ → Type 0
  MeasuredFields count place' = Measured LongFields (size_fields_at cells depth row) place count place'

  -- the place behind it is a number of 64 bits
  pub fields_next : val.Fits w64 (place + 1)
  fields_next = record { fits = omega (arith, m.inside, m.few, size_some_fields (field_list_at depth no_spell cells row)) }

  -- with no depth left, it is the empty one
  pub shallow_measured_fields : depth ≡ 0 → MeasuredFields 12 (place + 1)
  unfolding fields_length field_list_at labelled_fields text_size_fields size_fields
  shallow_measured_fields e = record { counted = rw e refl; moved = rw e refl }

  module _ (some : depth ≡ 0 → ⊥) {code : ℕ} (read : code ≡ column cells row 0) where
    -- any row but that of a field is the empty one
    pub nil_measured : (code ≡ 0x26 → ⊥) → MeasuredFields 12 (place + 1)
    unfolding fields_length labelled_fields text_size_fields size_fields
    nil_measured other =
        record {
          counted = rw (rows.nil_row_lem (spell_in pool) cells depth row some read other) refl;
          moved = rw (rows.nil_row_lem no_spell cells depth row some read other) refl;
        }

    -- a field
    module _ (is : code ≡ 0x26) {first part others count : ℕ} (one : first ≡ column cells row 1) (label : count ≡ length (spell_in pool first))
        (two : part ≡ column cells row 2) (three : others ≡ column cells row 3) where
      cons_length : {place' : ℕ} → place' ≡ place + 1 + size_at cells (depth - 1) part
          → LongFields ≡ 15 + count + term_length pool cells numbers (depth - 1) part (place + 1) + fields_length pool cells numbers (depth - 1) others place'
      unfolding fields_length term_length labelled_fields text_size_fields
      cons_length moved =
          rw (
            moved,
            size_spell (depth - 1) no_spell (spell_in pool) cells part,
            label,
            one,
            two,
            three,
            rows.cons_row_lem (spell_in pool) cells depth row some read is,
            add-one place,
          ) refl

      cons_size : size_fields (field_list_at depth no_spell cells row) ≡ 1 + size_at cells (depth - 1) part + size_fields_at cells (depth - 1) others
      unfolding size_fields
      cons_size = rw (two, three, rows.cons_row_lem no_spell cells depth row some read is) (omega arith)

      -- its term can be measured
      pub cons_term : TermMeasurable pool cells numbers (depth - 1) part (place + 1)
      cons_term = record { room = omega (arith, cons_length refl, m.room); inside = omega (arith, cons_size, m.inside); few = m.few }

      module _ {count₂ place' : ℕ}
          (term : Measured (term_length pool cells numbers (depth - 1) part (place + 1)) (size_at cells (depth - 1) part) (place + 1) count₂ place') where
        -- 15 bytes and its label
        pub cons_label_small : val.Fits w64 (15 + count)
        cons_label_small = record { fits = omega (arith, cons_length term.moved, m.room) }

        -- and that text
        pub cons_front_small : val.Fits w64 (15 + count + count₂)
        cons_front_small = record { fits = omega (arith, cons_length term.moved, m.room, term.counted) }

        -- the fields behind it can be measured
        pub cons_fields : FieldsMeasurable pool cells numbers (depth - 1) others place'
        cons_fields =
            record { room = omega (arith, cons_length term.moved, m.room); inside = omega (arith, cons_size, m.inside, term.moved); few = m.few }

        module _ {count₃ place'' : ℕ}
            (fields : Measured (fields_length pool cells numbers (depth - 1) others place') (size_fields_at cells (depth - 1) others) place' count₃ place'') where
          -- and that text
          pub cons_small : val.Fits w64 (15 + count + count₂ + count₃)
          cons_small = record { fits = omega (arith, cons_length term.moved, m.room, term.counted, fields.counted) }

          -- are its text
          pub cons_measured : MeasuredFields (15 + count + count₂ + count₃) place''
          cons_measured =
              record {
                counted = omega (arith, cons_length term.moved, term.counted, fields.counted);
                moved = omega (arith, cons_size, term.moved, fields.moved);
              }
