-- Printing, constructor by constructor: each piece fits what remains, and all pieces are the text.
use Prim.Native.Nat.{ℕ, ◌+◌, ◌-◌, ◌^◌, ◌<◌, ◌≤◌}
use mathlib.Core.Path.{◌≡◌, refl, sym}
use mathlib.Core.List.{List, [], ◌∷◌}
use native.Mathlib.Numerals.{add-one}
use native.Mathlib.Omega.{arith}
use lib.ListN.{length}
use mir.Syntax.{w64}
use mir.Val as val
use Rattle.terms.specs.Cells.{column}
use Rattle.terms.specs.Term.{size, size_fields}
use Rattle.terms.specs.Rows.{term_at, field_list_at}
use Rattle.terms.specs.Print.{print}
use Rattle.terms.specs.Labelled.{labelled, labelled_fields}
use Rattle.rows.specs.Sizes.{no_spell}
use Rattle.rows.proofs.RowLaws as rows
use Rattle.rows.proofs.SizeLaws.{size_spell, size-some, size_some_fields}
use Rattle.writer.specs.Writing.{Fits, Written}
use Rattle.writer.specs.Pool.{spell_in}
use Rattle.writer.specs.Beginnings.{beginning, beginning_fields, term_beginning, fields_beginning, BeginningFits}
use Rattle.writer.proofs.Pieces.{remains, with_rest, same_length, MadeOf, Writing, done_within}
use Rattle.writer.proofs.Pieces.{as_fits, first_fits, first_written, next_fits, next_written, last_written}
use Rattle.printing.specs.PrintedParts.{Part, term_part, fields_part, part_text, part_size, PartFits, PartPrinted}
use Rattle.printing.proofs.Texts.{space, close, term_made, fields_made, begins_alike}

-- ------------------------------------------------------------------ a part whose text is begun

module _ {pool cells numbers out : List ℕ} {whole : Part} {place : ℕ} (fits : PartFits pool cells numbers whole place out) where
  abbrev Text : List ℕ
  Text = part_text pool cells numbers whole place

  -- the next piece is a part of it, which fits what remains
  part_fits : {end inside : ℕ} {out' : List ℕ} {inner : Part} {ps : List (List ℕ)}
      → Writing Text out end out' (part_text pool cells numbers inner inside ∷ ps) → inside + part_size cells inner ≤ place + part_size cells whole
      → PartFits pool cells numbers inner inside (remains end out')
  part_fits writing within = record { room = next_fits writing; inside = omega (arith, fits.inside); few = fits.few }

  -- the next piece is the parenthesis, which ends it
  ends : {end place' : ℕ} {out' : List ℕ} → Writing Text out end out' (close ∷ []) → place' ≡ place + part_size cells whole → {count : ℕ} {rest : List ℕ}
      → Written close (remains end out') count rest → PartPrinted pool cells numbers whole place out (end + count) place' (with_rest end out' rest)
  ends writing moved closed = record { wrote = last_written writing closed; moved = moved }

  -- what was lent keeps its length
  pub kept : {end place' : ℕ} {out' : List ℕ} → PartPrinted pool cells numbers whole place out end place' out' → length out' ≡ length out
  kept printed = same_length printed.wrote fits.room.room

  -- the text's length is a number of 64 bits, as what was lent has one
  pub length_small : {end place' : ℕ} {out' : List ℕ} → length out < 2 ^ 64 → PartPrinted pool cells numbers whole place out end place' out' → val.Fits w64 end
  length_small small printed = record { fits = omega (arith, small, printed.wrote.within, kept printed) }

  -- and so is the length of what is written of it
  pub front_small : {end : ℕ} {out' : List ℕ} {ps : List (List ℕ)} → length out < 2 ^ 64 → Writing Text out end out' ps → val.Fits w64 end
  front_small small writing = record { fits = omega (arith, small, done_within writing, writing.written.counted) }

-- ------------------------------------------------------------------ terms

module _ {pool cells numbers out : List ℕ} {depth row place : ℕ} (fits : PartFits pool cells numbers (term_part depth row) place out) where
  -- a term fits, so what it begins with does
  pub begin_fits : {code : ℕ} → code ≡ column cells row 0 → BeginningFits pool cells numbers depth row place code out
  unfolding part_text term_beginning
  begin_fits read =
      record {
        read = read;
        room = first_fits (term_made (labelled numbers place (term_at depth (spell_in pool) cells row))) fits.room;
        inside = omega (arith, fits.inside, size-some (term_at depth no_spell cells row));
        few = fits.few;
      }

  -- the place behind it is a number of 64 bits
  pub term_next : val.Fits w64 (place + 1)
  term_next = record { fits = omega (arith, fits.inside, fits.few, size-some (term_at depth no_spell cells row)) }

  module _ {end : ℕ} {out' : List ℕ} (begun : Written (term_beginning pool cells numbers depth row place) out end out') (shallow : depth ≡ 0) where
    shallow_made : MadeOf (part_text pool cells numbers (term_part depth row) place) (term_beginning pool cells numbers depth row place ∷ close ∷ [])
    unfolding part_text term_beginning term_at labelled
    shallow_made = rw shallow (term_made _)

    shallow_begun : Writing (part_text pool cells numbers (term_part depth row) place) out end out' (close ∷ [])
    shallow_begun = first_written shallow_made fits.room begun

    -- with no depth left, the parenthesis fits
    pub shallow_close_fits : Fits close (remains end out')
    shallow_close_fits = next_fits shallow_begun

    -- and ends the text
    pub shallow_printed : {count : ℕ} {rest : List ℕ} → Written close (remains end out') count rest
        → PartPrinted pool cells numbers (term_part depth row) place out (end + count) (place + 1) (with_rest end out' rest)
    unfolding term_at size
    shallow_printed = ends fits shallow_begun (rw shallow refl)

-- a row is read, and what its term begins with is written
pub record TermRow (pool cells numbers : List ℕ) (depth row place : ℕ) (out : List ℕ) (code first last end : ℕ) (out' : List ℕ) : Type 0 where
  -- the text of the term fits
  pub fits : PartFits pool cells numbers (term_part depth row) place out
  -- there is depth left
  pub some : depth ≡ 0 → ⊥
  -- the row's constructor
  pub read : code ≡ column cells row 0
  -- its first part
  pub one : first ≡ column cells row 1
  -- its second part
  pub two : last ≡ column cells row 2
  -- what the text begins with is written
  pub begun : Written (term_beginning pool cells numbers depth row place) out end out'

-- from what is known where a term is read
pub term_row : {pool cells numbers out out' : List ℕ} {depth row place code first last end : ℕ} → PartFits pool cells numbers (term_part depth row) place out
    → (depth ≡ 0 → ⊥) → code ≡ column cells row 0 → first ≡ column cells row 1 → last ≡ column cells row 2
    → Written (term_beginning pool cells numbers depth row place) out end out'
    → TermRow pool cells numbers depth row place out code first last end out'
term_row f s r a b w = record { fits = f; some = s; read = r; one = a; two = b; begun = w }

module _ {pool cells numbers out : List ℕ} {depth row place code first last end : ℕ} {out' : List ℕ}
    (r : TermRow pool cells numbers depth row place out code first last end out') where
  abbrev TermText : List ℕ
  TermText = part_text pool cells numbers (term_part depth row) place

  abbrev Begins : List ℕ
  Begins = term_beginning pool cells numbers depth row place

  abbrev Printed : ℕ → ℕ → List ℕ → Type 0
  Printed length place' out'' = PartPrinted pool cells numbers (term_part depth row) place out length place' out''

  started : {piece : List ℕ} {ps : List (List ℕ)} → MadeOf TermText (Begins ∷ piece ∷ ps) → Writing TermText out end out' (piece ∷ ps)
  started made = first_written made r.fits.room r.begun

  -- a variable or a number
  module _ (others : (((Unit {0} × (code ≡ 0x21 → ⊥)) × (code ≡ 0x22 → ⊥)) × (code ≡ 0x23 → ⊥)) × (code ≡ 0x24 → ⊥)) where
    bare_made : MadeOf TermText (Begins ∷ close ∷ [])
    unfolding part_text term_beginning labelled
    bare_made =
        rows.bare_row (spell_in pool) cells depth row r.some r.read
        (λ t. MadeOf (print (labelled numbers place t)) (beginning (labelled numbers place t) ∷ close ∷ []))
        (λ v. term_made _) (λ d. term_made _) others.0.0.0.1 others.0.0.1 others.0.1 others.1

    bare_size : size (term_at depth no_spell cells row) ≡ 1
    unfolding size
    bare_size =
        rows.bare_row no_spell cells depth row r.some r.read (λ t. size t ≡ 1) (λ v. refl) (λ d. refl) others.0.0.0.1 others.0.0.1
        others.0.1 others.1

    -- the parenthesis fits
    pub bare_close_fits : Fits close (remains end out')
    bare_close_fits = next_fits (started bare_made)

    -- and ends the text
    pub bare_printed : {count : ℕ} {rest : List ℕ} → Written close (remains end out') count rest → Printed (end + count) (place + 1) (with_rest end out' rest)
    bare_printed = ends r.fits (started bare_made) (omega (arith, bare_size))

  -- a function
  module _ (is : code ≡ 0x21) where
    fun_made : MadeOf TermText (Begins ∷ part_text pool cells numbers (term_part (depth - 1) last) (place + 1) ∷ close ∷ [])
    unfolding part_text term_beginning labelled
    fun_made = rw (r.two, rows.fun_row_lem (spell_in pool) cells depth row r.some r.read is, add-one place) (term_made _)

    fun_size : size (term_at depth no_spell cells row) ≡ 1 + part_size cells (term_part (depth - 1) last)
    unfolding size
    fun_size = rw (r.two, rows.fun_row_lem no_spell cells depth row r.some r.read is) (omega arith)

    -- its body fits
    pub fun_body_fits : PartFits pool cells numbers (term_part (depth - 1) last) (place + 1) (remains end out')
    fun_body_fits = part_fits r.fits (started fun_made) (omega (arith, fun_size))

    module _ {count place' : ℕ} {rest : List ℕ}
        (body : PartPrinted pool cells numbers (term_part (depth - 1) last) (place + 1) (remains end out') count place' rest) where
      fun_closing : Writing TermText out (end + count) (with_rest end out' rest) (close ∷ [])
      fun_closing = next_written (started fun_made) body.wrote

      -- behind it the parenthesis fits
      pub fun_close_fits : Fits close (remains (end + count) (with_rest end out' rest))
      fun_close_fits = next_fits fun_closing

      -- and ends the text
      pub fun_printed : {count' : ℕ} {rest' : List ℕ} → Written close (remains (end + count) (with_rest end out' rest)) count' rest'
          → Printed (end + count + count') place' (with_rest (end + count) (with_rest end out' rest) rest')
      fun_printed = ends r.fits fun_closing (omega (arith, body.moved, fun_size))

  -- a record
  module _ (is : code ≡ 0x23) where
    rcd_made : MadeOf TermText (Begins ∷ part_text pool cells numbers (fields_part (depth - 1) first) (place + 1) ∷ close ∷ [])
    unfolding part_text term_beginning labelled
    rcd_made = rw (r.one, rows.rcd_row_lem (spell_in pool) cells depth row r.some r.read is, add-one place) (term_made _)

    rcd_size : size (term_at depth no_spell cells row) ≡ 1 + part_size cells (fields_part (depth - 1) first)
    unfolding size
    rcd_size = rw (r.one, rows.rcd_row_lem no_spell cells depth row r.some r.read is) (omega arith)

    -- its fields fit
    pub rcd_fields_fit : PartFits pool cells numbers (fields_part (depth - 1) first) (place + 1) (remains end out')
    rcd_fields_fit = part_fits r.fits (started rcd_made) (omega (arith, rcd_size))

    module _ {count place' : ℕ} {rest : List ℕ}
        (fields : PartPrinted pool cells numbers (fields_part (depth - 1) first) (place + 1) (remains end out') count place' rest) where
      rcd_closing : Writing TermText out (end + count) (with_rest end out' rest) (close ∷ [])
      rcd_closing = next_written (started rcd_made) fields.wrote

      -- behind them the parenthesis fits
      pub rcd_close_fits : Fits close (remains (end + count) (with_rest end out' rest))
      rcd_close_fits = next_fits rcd_closing

      -- and ends the text
      pub rcd_printed : {count' : ℕ} {rest' : List ℕ} → Written close (remains (end + count) (with_rest end out' rest)) count' rest'
          → Printed (end + count + count') place' (with_rest (end + count) (with_rest end out' rest) rest')
      rcd_printed = ends r.fits rcd_closing (omega (arith, fields.moved, rcd_size))

  abbrev First : Part
  First = term_part (depth - 1) first

  -- an application
  module _ (is : code ≡ 0x22) where
    app_made : {place' : ℕ} → place' ≡ place + 1 + part_size cells First
        → MadeOf TermText
        (Begins ∷ part_text pool cells numbers First (place + 1) ∷ space ∷ part_text pool cells numbers (term_part (depth - 1) last) place' ∷ close ∷ [])
    unfolding part_text term_beginning labelled
    app_made moved =
        rw (
          moved,
          size_spell (depth - 1) no_spell (spell_in pool) cells first,
          r.one,
          r.two,
          rows.app_row_lem (spell_in pool) cells depth row r.some r.read is,
          add-one place,
        ) (term_made _)

    app_size : size (term_at depth no_spell cells row) ≡ 1 + part_size cells First + part_size cells (term_part (depth - 1) last)
    unfolding size
    app_size = rw (r.one, r.two, rows.app_row_lem no_spell cells depth row r.some r.read is) (omega arith)

    -- its first term fits
    pub app_first_fits : PartFits pool cells numbers First (place + 1) (remains end out')
    app_first_fits = part_fits r.fits (started (app_made refl)) (omega (arith, app_size))

    module _ {count place' : ℕ} {rest : List ℕ} (term : PartPrinted pool cells numbers First (place + 1) (remains end out') count place' rest) where
      abbrev Behind : List ℕ
      Behind = with_rest end out' rest

      -- all but the space, the second term and the parenthesis is written
      pub app_second : Writing TermText out (end + count) Behind (space ∷ part_text pool cells numbers (term_part (depth - 1) last) place' ∷ close ∷ [])
      app_second = next_written (started (app_made term.moved)) term.wrote

      -- behind it the space fits
      pub app_space_fits : Fits space (remains (end + count) Behind)
      app_space_fits = next_fits app_second

      module _ {count₂ : ℕ} {rest₂ : List ℕ} (spaced : Written space (remains (end + count) Behind) count₂ rest₂) where
        abbrev Spaced : List ℕ
        Spaced = with_rest (end + count) Behind rest₂

        -- then the second term
        pub app_last_fits : PartFits pool cells numbers (term_part (depth - 1) last) place' (remains (end + count + count₂) Spaced)
        app_last_fits = part_fits r.fits (next_written app_second spaced) (omega (arith, app_size, term.moved))

        module _ {count₃ place'' : ℕ} {rest₃ : List ℕ}
            (other : PartPrinted pool cells numbers (term_part (depth - 1) last) place' (remains (end + count + count₂) Spaced) count₃ place'' rest₃) where
          -- all but the parenthesis is written
          pub app_closing : Writing TermText out (end + count + count₂ + count₃) (with_rest (end + count + count₂) Spaced rest₃) (close ∷ [])
          app_closing = next_written (next_written app_second spaced) other.wrote

          -- behind it the parenthesis fits
          pub app_close_fits : Fits close (remains (end + count + count₂ + count₃) (with_rest (end + count + count₂) Spaced rest₃))
          app_close_fits = next_fits app_closing

          -- and ends the text
          pub app_printed : {count₄ : ℕ} {rest₄ : List ℕ}
              → Written close (remains (end + count + count₂ + count₃) (with_rest (end + count + count₂) Spaced rest₃)) count₄ rest₄
              → Printed (end + count + count₂ + count₃ + count₄) place''
              (with_rest (end + count + count₂ + count₃) (with_rest (end + count + count₂) Spaced rest₃) rest₄)
          app_printed = ends r.fits app_closing (omega (arith, other.moved, term.moved, app_size))

  -- a selection
  module _ (is : code ≡ 0x24) where
    dot_made : MadeOf TermText (Begins ∷ part_text pool cells numbers First (place + 1) ∷ space ∷ spell_in pool last ∷ close ∷ [])
    unfolding part_text term_beginning labelled
    dot_made = rw (r.one, r.two, rows.dot_row_lem (spell_in pool) cells depth row r.some r.read is, add-one place) (term_made _)

    dot_size : size (term_at depth no_spell cells row) ≡ 1 + part_size cells First
    unfolding size
    dot_size = rw (r.one, rows.dot_row_lem no_spell cells depth row r.some r.read is) (omega arith)

    -- its term fits
    pub dot_term_fits : PartFits pool cells numbers First (place + 1) (remains end out')
    dot_term_fits = part_fits r.fits (started dot_made) (omega (arith, dot_size))

    module _ {count place' : ℕ} {rest : List ℕ} (term : PartPrinted pool cells numbers First (place + 1) (remains end out') count place' rest) where
      abbrev Selected : List ℕ
      Selected = with_rest end out' rest

      -- all but the space, the label and the parenthesis is written
      pub dot_second : Writing TermText out (end + count) Selected (space ∷ spell_in pool last ∷ close ∷ [])
      dot_second = next_written (started dot_made) term.wrote

      -- behind it the space fits
      pub dot_space_fits : Fits space (remains (end + count) Selected)
      dot_space_fits = next_fits dot_second

      module _ {count₂ : ℕ} {rest₂ : List ℕ} (spaced : Written space (remains (end + count) Selected) count₂ rest₂) where
        abbrev Parted : List ℕ
        Parted = with_rest (end + count) Selected rest₂

        -- then the label
        pub dot_label_fits : Fits (spell_in pool last) (remains (end + count + count₂) Parted)
        dot_label_fits = next_fits (next_written dot_second spaced)

        module _ {count₃ : ℕ} {rest₃ : List ℕ} (label : Written (spell_in pool last) (remains (end + count + count₂) Parted) count₃ rest₃) where
          -- all but the parenthesis is written
          pub dot_closing : Writing TermText out (end + count + count₂ + count₃) (with_rest (end + count + count₂) Parted rest₃) (close ∷ [])
          dot_closing = next_written (next_written dot_second spaced) label

          -- behind it the parenthesis fits
          pub dot_close_fits : Fits close (remains (end + count + count₂ + count₃) (with_rest (end + count + count₂) Parted rest₃))
          dot_close_fits = next_fits dot_closing

          -- and ends the text
          pub dot_printed : {count₄ : ℕ} {rest₄ : List ℕ}
              → Written close (remains (end + count + count₂ + count₃) (with_rest (end + count + count₂) Parted rest₃)) count₄ rest₄
              → Printed (end + count + count₂ + count₃ + count₄) place'
              (with_rest (end + count + count₂ + count₃) (with_rest (end + count + count₂) Parted rest₃) rest₄)
          dot_printed = ends r.fits dot_closing (omega (arith, term.moved, dot_size))

-- ------------------------------------------------------------------ field lists

module _ {pool cells numbers out : List ℕ} {depth row place : ℕ} (fits : PartFits pool cells numbers (fields_part depth row) place out) where
  -- a field list fits, so what it begins with does
  pub begin_fields_fits : Fits (fields_beginning pool cells depth row) out
  unfolding part_text fields_beginning
  begin_fields_fits =
      let fields = field_list_at depth (spell_in pool) cells row in
      as_fits (sym (begins_alike numbers place fields)) (first_fits (fields_made (labelled_fields numbers place fields)) fits.room)

  -- the place behind it is a number of 64 bits
  pub fields_next : val.Fits w64 (place + 1)
  fields_next = record { fits = omega (arith, fits.inside, fits.few, size_some_fields (field_list_at depth no_spell cells row)) }

  module _ {end : ℕ} {out' : List ℕ} (begun : Written (fields_beginning pool cells depth row) out end out') (shallow : depth ≡ 0) where
    shallow_made_fields : MadeOf (part_text pool cells numbers (fields_part depth row) place) (fields_beginning pool cells depth row ∷ close ∷ [])
    unfolding part_text fields_beginning field_list_at labelled_fields beginning_fields
    shallow_made_fields = rw shallow (fields_made _)

    shallow_begun_fields : Writing (part_text pool cells numbers (fields_part depth row) place) out end out' (close ∷ [])
    shallow_begun_fields = first_written shallow_made_fields fits.room begun

    -- with no depth left, the parenthesis fits
    pub shallow_close_fits_fields : Fits close (remains end out')
    shallow_close_fits_fields = next_fits shallow_begun_fields

    -- and ends the text
    pub shallow_printed_fields : {count : ℕ} {rest : List ℕ} → Written close (remains end out') count rest
        → PartPrinted pool cells numbers (fields_part depth row) place out (end + count) (place + 1) (with_rest end out' rest)
    unfolding field_list_at size_fields
    shallow_printed_fields = ends fits shallow_begun_fields (rw shallow refl)

-- a row is read, and what its field list begins with is written
pub record FieldsRow (pool cells numbers : List ℕ) (depth row place : ℕ) (out : List ℕ) (code end : ℕ) (out' : List ℕ) : Type 0 where
  -- the text of the field list fits
  pub fits : PartFits pool cells numbers (fields_part depth row) place out
  -- there is depth left
  pub some : depth ≡ 0 → ⊥
  -- the row's constructor
  pub read : code ≡ column cells row 0
  -- what the text begins with is written
  pub begun : Written (fields_beginning pool cells depth row) out end out'

-- from what is known where a field list is read
pub fields_row : {pool cells numbers out out' : List ℕ} {depth row place code end : ℕ} → PartFits pool cells numbers (fields_part depth row) place out
    → (depth ≡ 0 → ⊥) → code ≡ column cells row 0 → Written (fields_beginning pool cells depth row) out end out'
    → FieldsRow pool cells numbers depth row place out code end out'
fields_row f s r w = record { fits = f; some = s; read = r; begun = w }

module _ {pool cells numbers out : List ℕ} {depth row place code end : ℕ} {out' : List ℕ} (r : FieldsRow pool cells numbers depth row place out code end out')
  where
    abbrev FieldsText : List ℕ
    FieldsText = part_text pool cells numbers (fields_part depth row) place

    abbrev FieldsBegin : List ℕ
    FieldsBegin = fields_beginning pool cells depth row

    abbrev FieldsPrinted : ℕ → ℕ → List ℕ → Type 0
    FieldsPrinted length place' out'' = PartPrinted pool cells numbers (fields_part depth row) place out length place' out''

    started_fields : {piece : List ℕ} {ps : List (List ℕ)} → MadeOf FieldsText (FieldsBegin ∷ piece ∷ ps) → Writing FieldsText out end out' (piece ∷ ps)
    started_fields made = first_written made r.fits.room r.begun

    -- the empty field list
    module _ (other : code ≡ 0x26 → ⊥) where
      nil_made : MadeOf FieldsText (FieldsBegin ∷ close ∷ [])
      unfolding part_text fields_beginning labelled_fields beginning_fields
      nil_made = rw (rows.nil_row_lem (spell_in pool) cells depth row r.some r.read other) (fields_made _)

      -- the parenthesis fits
      pub nil_close_fits : Fits close (remains end out')
      nil_close_fits = next_fits (started_fields nil_made)

      -- and ends the text
      pub nil_printed : {count : ℕ} {rest : List ℕ} → Written close (remains end out') count rest
          → FieldsPrinted (end + count) (place + 1) (with_rest end out' rest)
      unfolding size_fields
      nil_printed = ends r.fits (started_fields nil_made) (rw (rows.nil_row_lem no_spell cells depth row r.some r.read other) refl)

    -- a field
    module _ (is : code ≡ 0x26) {part : ℕ} (two : part ≡ column cells row 2) {others : ℕ} (three : others ≡ column cells row 3) where
      abbrev Inner : Part
      Inner = term_part (depth - 1) part

      cons_made : {place' : ℕ} → place' ≡ place + 1 + part_size cells Inner
          → MadeOf FieldsText
          (FieldsBegin ∷ part_text pool cells numbers Inner (place + 1) ∷ space
          ∷ part_text pool cells numbers (fields_part (depth - 1) others) place' ∷ close ∷ [])
      unfolding part_text fields_beginning labelled_fields beginning_fields
      cons_made moved =
          rw (
            moved,
            size_spell (depth - 1) no_spell (spell_in pool) cells part,
            two,
            three,
            rows.cons_row_lem (spell_in pool) cells depth row r.some r.read is,
            add-one place,
          ) (fields_made _)

      cons_size : size_fields (field_list_at depth no_spell cells row) ≡ 1 + part_size cells Inner + part_size cells (fields_part (depth - 1) others)
      unfolding size_fields
      cons_size = rw (two, three, rows.cons_row_lem no_spell cells depth row r.some r.read is) (omega arith)

      -- its term fits
      pub cons_term_fits : PartFits pool cells numbers Inner (place + 1) (remains end out')
      cons_term_fits = part_fits r.fits (started_fields (cons_made refl)) (omega (arith, cons_size))

      module _ {count place' : ℕ} {rest : List ℕ} (term : PartPrinted pool cells numbers Inner (place + 1) (remains end out') count place' rest) where
        abbrev Held : List ℕ
        Held = with_rest end out' rest

        cons_second : Writing FieldsText out (end + count) Held (space ∷ part_text pool cells numbers (fields_part (depth - 1) others) place' ∷ close ∷ [])
        cons_second = next_written (started_fields (cons_made term.moved)) term.wrote

        -- behind it the space fits
        pub cons_space_fits : Fits space (remains (end + count) Held)
        cons_space_fits = next_fits cons_second

        module _ {count₂ : ℕ} {rest₂ : List ℕ} (spaced : Written space (remains (end + count) Held) count₂ rest₂) where
          abbrev Next : List ℕ
          Next = with_rest (end + count) Held rest₂

          -- then the fields behind it
          pub cons_fields_fit : PartFits pool cells numbers (fields_part (depth - 1) others) place' (remains (end + count + count₂) Next)
          cons_fields_fit = part_fits r.fits (next_written cons_second spaced) (omega (arith, cons_size, term.moved))

          module _ {count₃ place'' : ℕ} {rest₃ : List ℕ}
              (fields : PartPrinted pool cells numbers (fields_part (depth - 1) others) place' (remains (end + count + count₂) Next) count₃ place'' rest₃)
            where
              -- all but the parenthesis is written
              pub cons_closing : Writing FieldsText out (end + count + count₂ + count₃) (with_rest (end + count + count₂) Next rest₃) (close ∷ [])
              cons_closing = next_written (next_written cons_second spaced) fields.wrote

              -- behind them the parenthesis fits
              pub cons_close_fits : Fits close (remains (end + count + count₂ + count₃) (with_rest (end + count + count₂) Next rest₃))
              cons_close_fits = next_fits cons_closing

              -- and ends the text
              pub cons_printed : {count₄ : ℕ} {rest₄ : List ℕ}
                  → Written close (remains (end + count + count₂ + count₃) (with_rest (end + count + count₂) Next rest₃)) count₄ rest₄
                  → FieldsPrinted (end + count + count₂ + count₃ + count₄) place''
                  (with_rest (end + count + count₂ + count₃) (with_rest (end + count + count₂) Next rest₃) rest₄)
              cons_printed = ends r.fits cons_closing (omega (arith, fields.moved, term.moved, cons_size))
