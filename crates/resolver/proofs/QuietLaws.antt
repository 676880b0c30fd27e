-- Where no row binds a name and no variable is fresh, every mark is 0: nothing is renamed and nothing is loose.
use Prim.Native.Nat.{ℕ, zero, suc, ◌+◌, ◌-◌, ◌*◌, ◌/◌, ◌<◌, ◌≤◌}
use mathlib.Core.Path.{◌≡◌, refl, sym, ap, ◌∙◌}
use mathlib.Core.Bool.{Bool, true, false, not, ◌&&◌, true≢false}
use mathlib.Core.List.{List, [], ◌∷◌, ◌++◌}
use native.Mathlib.Numerals.{add-one}
use native.Mathlib.Omega.{arith}
use native.Mathlib.Decide.{dec_lt}
use lib.Dec.{eqb}
use lib.ListN.{length, get_or}
use borrow.Author.Tests.{eq-eqb, ne_eqb, eqb-true, eqb-false}
use Rattle.spellings.proofs.BytesLaws.{by_test}
use Rattle.grammar.proofs.ReaderLaws.{get_d_past}
use Rattle.terms.specs.Cells.{column, name_base, columns}
use Rattle.rows.specs.Sizes.{WholeRows}
use Rattle.binders.specs.Slots.{slot_of}
use Rattle.scopes.specs.Marks.{variable_mark}
use Rattle.scopes.proofs.NameLaws.{by_class_lem, class_word, class_outside}
use Rattle.marking.specs.RowMarks.{term_marks, field_marks}
use Rattle.marking.proofs.WalkLaws.{RowRead, var_marked, app_marked, rcd_marked, dot_marked, num_marked, cons_marked, nil_marked}
use Rattle.marking.proofs.WalkLaws.{shallow_marked, shallow_fields_marked}
use Rattle.resolver.specs.Quiet.{is_quiet_row, quiet_from, is_quiet}

-- ------------------------------------------------------------------ a row

module _ (code value : ℕ) where
  -- A row that binds a name is not quiet.
  pub binder_row : code ≡ 0x21 → false ≡ is_quiet_row code value
  unfolding is_quiet_row
  binder_row e = sym (rw (eq-eqb code 0x21 e, is_quiet_row) refl)

  -- A variable's row is quiet unless the variable is fresh.
  pub variable_row : code ≡ 0x20 → not (eqb (value / name_base) 2) ≡ is_quiet_row code value
  unfolding is_quiet_row
  variable_row e = sym (rw (ne_eqb code 0x21 (λ d. omega arith), eq-eqb code 0x20 e, is_quiet_row) refl)

  -- Any other row is.
  pub other_row : (code ≡ 0x21 → ⊥) → (code ≡ 0x20 → ⊥) → true ≡ is_quiet_row code value
  unfolding is_quiet_row
  other_row d e = sym (rw (ne_eqb code 0x21 d, ne_eqb code 0x20 e, is_quiet_row) refl)

-- what a quiet row is not
record QuietRow (code value : ℕ) : Type 0 where
  no_binder : code ≡ 0x21 → ⊥
  no_fresh : code ≡ 0x20 → value / name_base ≡ 2 → ⊥

quiet_row : (code value : ℕ) → is_quiet_row code value ≡ true → QuietRow code value
quiet_row code value q =
    record {
      no_binder = λ e. true≢false (sym q ∙ sym (binder_row code value e));
      no_fresh = λ e f. true≢false (sym q ∙ sym (variable_row code value e) ∙ ap not (eq-eqb (value / name_base) 2 f));
    }

-- ------------------------------------------------------------------ the loop over rows

-- what is left tells of all rows
pub record Looking (cells : List ℕ) (row : ℕ) : Type 0 where
  -- `row` is a row or the end
  pub within : row ≤ length cells / columns
  -- the rows from here on are quiet exactly if all are
  pub rest : quiet_from (length cells / columns - row) cells row ≡ is_quiet cells

-- No row is looked at yet.
pub looking_start : (cells : List ℕ) → Looking cells 0
looking_start cells = let z : length cells / columns - 0 ≡ length cells / columns = omega arith in record { within = omega arith; rest = rw z refl }

module _ {cells : List ℕ} {row : ℕ} (looking : Looking cells row) where
  module _ {code value : ℕ} (below : row < length cells / columns) (ec : code ≡ column cells row 0) (ev : value ≡ column cells row 1) where
    ahead : (is_quiet_row code value && quiet_from (length cells / columns - (row + 1)) cells (row + 1)) ≡ is_quiet cells
    unfolding quiet_from
    ahead =
        let z : length cells / columns - row ≡ suc (length cells / columns - (row + 1)) = omega arith in
        rw (ec, ev, add-one row) (rw (z, add-one row) at looking.rest)

    -- One quiet row more.
    pub looking_next : is_quiet_row code value ≡ true → Looking cells (row + 1)
    looking_next q = record { within = omega arith; rest = rw q at ahead }

    -- A row that is not quiet.
    pub looking_stop : is_quiet_row code value ≡ false → false ≡ is_quiet cells
    looking_stop q = rw q at ahead

  -- All rows are quiet.
  pub looking_end : length cells / columns ≤ row → true ≡ is_quiet cells
  unfolding quiet_from
  looking_end l = let z : length cells / columns - row ≡ 0 = omega arith in rw z at looking.rest

-- ------------------------------------------------------------------ all rows

and_left : (a b : Bool) → (a && b) ≡ true → a ≡ true
and_left true b e = refl
and_left false b e = absurd (true≢false (sym e))

and_right : (a b : Bool) → (a && b) ≡ true → b ≡ true
and_right true b e = e
and_right false b e = absurd (true≢false (sym e))

quiet_each : (many : ℕ) (cells : List ℕ) (first : ℕ) → quiet_from many cells first ≡ true → (i : ℕ) → i < many
    → QuietRow (column cells (first + i) 0) (column cells (first + i) 1)
unfolding quiet_from
quiet_each zero cells first q i l = absurd (omega arith)
quiet_each (suc many) cells first q zero l =
    let z : first + 0 ≡ first = omega arith in
    rw z (quiet_row (column cells first 0) (column cells first 1) (and_left _ (quiet_from many cells (suc first)) q))
quiet_each (suc many) cells first q (suc i) l =
    let z : first + suc i ≡ suc first + i = omega arith in
    rw z (quiet_each many cells (suc first) (and_right (is_quiet_row (column cells first 0) (column cells first 1)) _ q) i (omega arith))

-- a row that is not there is a number's
quiet_any : {cells : List ℕ} → WholeRows cells → is_quiet cells ≡ true → (row : ℕ) → QuietRow (column cells row 0) (column cells row 1)
quiet_any {cells} w q row = by (dec_lt row (length cells / columns))
  where
    by : Dec (row < length cells / columns) → QuietRow (column cells row 0) (column cells row 1)
    by (yes h) = let z : 0 + row ≡ row = omega arith in rw z at (quiet_each (length cells / columns) cells 0 q row h)
    by (no h) =
        let past : column cells row 0 ≡ 0 = get_d_past cells (row * columns + 0) 0 (omega (arith, w.whole)) in
        record { no_binder = λ e. omega (arith, past, e); no_fresh = λ e f. omega (arith, past, e) }

-- ------------------------------------------------------------------ marks

-- zeros and nothing else
pub data Zeros : List ℕ → Type 0 where
  zeros_none : Zeros []
  zeros_more : {ms : List ℕ} → Zeros ms → Zeros (0 ∷ ms)

zeros_both : {ms ns : List ℕ} → Zeros ms → Zeros ns → Zeros (ms ++ ns)
zeros_both zeros_none k = k
zeros_both (zeros_more h) k = zeros_more (zeros_both h k)

zeros_one : (mark : ℕ) → mark ≡ 0 → Zeros (mark ∷ [])
zeros_one mark e = rw e (zeros_more zeros_none)

module _ {cells : List ℕ} (whole : WholeRows cells) (quiet : is_quiet cells ≡ true) (current : List ℕ) (none : (i : ℕ) → get_or current i 0 ≡ 0) where
  variable_zero : (row : ℕ) → column cells row 0 ≡ 0x20 → variable_mark (column cells row 1) (get_or current (slot_of cells (column cells row 1)) 0) ≡ 0
  variable_zero row e =
      let x : ℕ = column cells row 1 in
      by_class_lem x (λ f. class_word x _ _ _ f ∙ none (slot_of cells x)) (λ f. absurd ((quiet_any whole quiet row).no_fresh e f))
      (λ a b. class_outside x _ _ _ a b)

  mutual
    -- Every mark of a term is 0.
    pub quiet_term : (depth row place : ℕ) → Zeros (term_marks cells depth row place current).marks
    quiet_term zero row place = rw (shallow_marked cells 0 row place current refl) (zeros_more zeros_none)
    quiet_term (suc depth) row place =
        let z : suc depth - 1 ≡ depth = omega arith in
        let code : ℕ = column cells row 0 in
        let read : RowRead cells (suc depth) row code = record { some = λ e. omega (arith, e); at = refl } in
        by_test (eqb code 0x20)
        (λ e.
        let is = eqb-true code 0x20 e in
        rw (var_marked read place current is refl) (zeros_one _ (variable_zero row is)))
        (λ v. by_test (eqb code 0x22)
        (λ e.
        rw (app_marked read place current (eqb-true code 0x22 e) refl refl refl refl, z)
        (zeros_more (zeros_both (quiet_term depth (column cells row 1) (place + 1)) (quiet_term depth (column cells row 2) _))))
        (λ a. by_test (eqb code 0x23)
        (λ e. rw (rcd_marked read place current (eqb-true code 0x23 e) refl, z) (zeros_more (quiet_fields depth (column cells row 1) (place + 1))))
        (λ r. by_test (eqb code 0x24)
        (λ e. rw (dot_marked read place current (eqb-true code 0x24 e) refl, z) (zeros_more (quiet_term depth (column cells row 1) (place + 1))))
        (λ d.
        rw (num_marked read place current
        (((((tt, eqb-false code 0x20 v), (quiet_any whole quiet row).no_binder), eqb-false code 0x22 a), eqb-false code 0x23 r), eqb-false code 0x24 d))
        (zeros_more zeros_none)))))

    quiet_fields : (depth row place : ℕ) → Zeros (field_marks cells depth row place current).marks
    quiet_fields zero row place = rw (shallow_fields_marked cells 0 row place current refl) (zeros_more zeros_none)
    quiet_fields (suc depth) row place =
        let z : suc depth - 1 ≡ depth = omega arith in
        let read : RowRead cells (suc depth) row (column cells row 0) = record { some = λ e. omega (arith, e); at = refl } in
        by_test (eqb (column cells row 0) 0x26)
        (λ e.
        rw (cons_marked read place current (eqb-true (column cells row 0) 0x26 e) refl refl refl refl, z)
        (zeros_more (zeros_both (quiet_term depth (column cells row 2) (place + 1)) (quiet_fields depth (column cells row 3) _))))
        (λ e. rw (nil_marked read place current (eqb-false (column cells row 0) 0x26 e)) (zeros_more zeros_none))
