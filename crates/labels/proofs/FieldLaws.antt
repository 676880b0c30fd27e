-- Rows of which none is a mkFieldCons: no label is given twice in them.
use Prim.Native.Nat.{ℕ, zero, suc, ◌+◌, ◌-◌, ◌*◌, ◌<◌, ◌≤◌}
use mathlib.Core.Path.{◌≡◌, refl, sym, ap, ◌∙◌}
use mathlib.Core.Bool.{Bool, true, false, ◌||◌, true≢false}
use mathlib.Core.List.{List, []}
use native.Mathlib.Numerals.{add-one}
use native.Mathlib.Omega.{arith}
use native.Mathlib.Decide.{dec_lt}
use lib.Dec.{eqb}
use borrow.Author.Tests.{eq-eqb, ne_eqb}
use Rattle.grammar.proofs.ReaderLaws.{get_d_past}
use Rattle.terms.specs.Cells.{column, columns}
use Rattle.terms.specs.Term.{Term, Name, size, size_fields}
use Rattle.terms.specs.Rows.{Constructor, var_row, fun_row, app_row, rcd_row, dot_row, nil_row, cons_row, num_row, constructor_of, term_by, term_at, field_list_at}
use Rattle.terms.specs.Loose.{reached}
use Rattle.terms.specs.Labels.{label_walk, label_walk_fields}
use Rattle.rows.specs.Sizes.{WholeRows, rows_held}
use Rattle.rows.proofs.RowLaws as rows
use Rattle.labels.specs.Stamps.{single, numbered_term, numbered_fields, fields_from, has_fields}

-- ------------------------------------------------------------------ the loop over rows

-- What is left tells of all rows.
pub record Looking (cells : List ℕ) (row : ℕ) : Type 0 where
  -- `row` is a row or the end
  pub within : row ≤ rows_held cells
  -- a row from here on is a mkFieldCons exactly if some row is
  pub rest : fields_from (rows_held cells - row) cells row ≡ has_fields cells

-- No row is looked at yet.
pub looking_start : (cells : List ℕ) → Looking cells 0
looking_start cells = let z : rows_held cells - 0 ≡ rows_held cells = omega arith in record { within = omega arith; rest = rw z refl }

module _ {cells : List ℕ} {row : ℕ} (looking : Looking cells row) where
  module _ {code : ℕ} (below : row < rows_held cells) (read : code ≡ column cells row 0) where
    ahead : (eqb code 0x26 || fields_from (rows_held cells - (row + 1)) cells (row + 1)) ≡ has_fields cells
    unfolding fields_from
    ahead =
        let z : rows_held cells - row ≡ suc (rows_held cells - (row + 1)) = omega arith in
        rw (read, add-one row) (rw (z, add-one row) at looking.rest)

    -- One row more that is none.
    pub looking_next : (code ≡ 0x26 → ⊥) → Looking cells (row + 1)
    looking_next q = record { within = omega arith; rest = rw (ne_eqb code 0x26 q) at ahead }

    -- A row that is a mkFieldCons.
    pub looking_stop : code ≡ 0x26 → true ≡ has_fields cells
    looking_stop q = rw (eq-eqb code 0x26 q) at ahead

  -- No row is one.
  pub looking_end : rows_held cells ≤ row → false ≡ has_fields cells
  unfolding fields_from
  looking_end l = let z : rows_held cells - row ≡ 0 = omega arith in rw z at looking.rest

-- ------------------------------------------------------------------ no row is one

none_each : (many : ℕ) (cells : List ℕ) (first : ℕ) → fields_from many cells first ≡ false → (i : ℕ) → i < many → column cells (first + i) 0 ≡ 0x26 → ⊥
unfolding fields_from
none_each zero cells first none i l e = omega arith
none_each (suc many) cells first none zero l e =
    let z : first + 0 ≡ first = omega arith in true≢false (sym (rw (eq-eqb (column cells first 0) 0x26 (rw z at e))) ∙ none)
none_each (suc many) cells first none (suc i) l e =
    let z : first + suc i ≡ suc first + i = omega arith in
    none_each many cells (suc first) (or_right (eqb (column cells first 0) 0x26) none) i (omega arith) (rw z at e)
  where
    or_right : (test : Bool) {other : Bool} → (test || other) ≡ false → other ≡ false
    or_right true h = absurd (true≢false h)
    or_right false h = h

module _ {cells : List ℕ} (whole : WholeRows cells) (none : has_fields cells ≡ false) where
  -- what lies behind the rows reads as 0
  no_field : (row : ℕ) → column cells row 0 ≡ 0x26 → ⊥
  no_field row e = by (dec_lt row (rows_held cells))
    where
      by : Dec (row < rows_held cells) → ⊥
      by (yes h) = let z : 0 + row ≡ row = omega arith in none_each (rows_held cells) cells 0 none row h (rw z e)
      by (no h) = omega (arith, get_d_past cells (row * columns + 0) 0 (omega (arith, whole.whole)), e)

  no_fields : (bound row place : ℕ) → label_walk_fields [] place (numbered_fields cells bound row) ≡ reached (place + size_fields (numbered_fields cells bound row))
  unfolding label_walk_fields field_list_at size_fields
  no_fields zero row place = ap reached (omega arith)
  no_fields (suc bound) row place = rw (rows.nil_row_lem single cells (suc bound) row (λ e. omega arith) refl (no_field row)) (ap reached (omega arith))

  abbrev Through : Term Name → Type 0
  Through t = (place : ℕ) → label_walk place t ≡ reached (place + size t)

  through_by : (bound row : ℕ) (constructor : Constructor) → ((part : ℕ) → Through (numbered_term cells bound part))
      → Through (term_by constructor single cells row (λ q. numbered_term cells bound q) (λ q. numbered_fields cells bound q))
  unfolding label_walk term_by size
  through_by bound row var_row parts place = ap reached (omega arith)
  through_by bound row fun_row parts place = parts (column cells row 2) (suc place) ∙ ap reached (omega arith)
  through_by bound row app_row parts place =
      rw (parts (column cells row 1) (suc place)) (parts (column cells row 2) _ ∙ ap reached (omega arith))
  through_by bound row rcd_row parts place = no_fields bound (column cells row 1) (suc place) ∙ ap reached (omega arith)
  through_by bound row dot_row parts place = parts (column cells row 1) (suc place) ∙ ap reached (omega arith)
  through_by bound row nil_row parts place = ap reached (omega arith)
  through_by bound row cons_row parts place = ap reached (omega arith)
  through_by bound row num_row parts place = ap reached (omega arith)

  through : (bound row : ℕ) → Through (numbered_term cells bound row)
  unfolding label_walk term_at size
  through zero row place = ap reached (omega arith)
  through (suc bound) row place = through_by bound row (constructor_of (column cells row 0)) (λ part. through bound part) place

  -- The walk over the labels of a term gets through.
  pub no_repetition : (bound row : ℕ) → label_walk 0 (numbered_term cells bound row) ≡ reached (size (numbered_term cells bound row))
  no_repetition bound row = through bound row 0 ∙ ap reached (omega arith)
