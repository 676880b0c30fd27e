-- What the marks of a row's numbers mean, where names are spelled: they are the marks of the row's term, under the binders around.
use Prim.Native.Nat.{ℕ, zero, suc, ◌+◌, ◌-◌, ◌*◌, ◌/◌, ◌≤◌, ◌<◌}
use mathlib.Core.Path.{◌≡◌, refl, ap, subst}
use mathlib.Core.Bool.{Bool, false, ◌||◌}
use mathlib.Core.List.{List, [], ◌∷◌, ◌++◌}
use native.Mathlib.Numerals.{add-one}
use native.Mathlib.Omega.{arith}
use native.Mathlib.Decide.{dec_lt}
use lib.Dec.{eqb}
use lib.ListN.{length, set, length-set}
use borrow.Author.Tests.{eqb-true, eqb-false}
use Rattle.spellings.proofs.BytesLaws.{by_test}
use Rattle.kinds.proofs.KindsLaws.{has_none, has_join}
use Rattle.grammar.proofs.ReaderLaws.{get_d_past}
use Rattle.terms.specs.Cells.{column, columns, most_cells}
use Rattle.terms.specs.Term.{Name, Term, size}
use Rattle.terms.specs.Rows.{name_of, term_at, field_list_at}
use Rattle.terms.specs.Rename.{holds, holds_fields}
use Rattle.terms.specs.Binding.{Binder}
use Rattle.terms.specs.Names.{Distinct, WellNamed, WellNamedFields}
use Rattle.rows.specs.Sizes.{WholeRows}
use Rattle.rows.proofs.RowLaws as rows
use Rattle.binders.specs.Slots.{slot_of}
use Rattle.binders.proofs.LinkLaws.{slot_is}
use Rattle.binders.proofs.SlotLaws.{slot_there}
use Rattle.scopes.specs.Marks.{Around, HoldsOutsides}
use Rattle.scopes.proofs.NameLaws.{outsides_held, binder_marked, bindable_of, variable_marked}
use Rattle.scopes.proofs.AroundLaws.{around_binder}
use Rattle.marking.specs.Marks.{marks, marks_fields}
use Rattle.marking.specs.RowMarks.{Marked, bare, over, over_both, term_marks, field_marks}
use Rattle.marking.proofs.MarkLaws.{length_marks}
use Rattle.marking.proofs.WalkLaws.{RowRead, var_marked, fun_marked, app_marked, rcd_marked, dot_marked, num_marked, cons_marked, nil_marked}
use Rattle.marking.proofs.WalkLaws.{shallow_marked, shallow_fields_marked}

row_inside : (cells : List ℕ) (row : ℕ) → WholeRows cells → column cells row 0 ≡ 0x21 → row < length cells / columns
row_inside cells row w e = by (dec_lt (row * columns + 0) (length cells))
  where
    by : Dec (row * columns + 0 < length cells) → row < length cells / columns
    by (yes h) = omega (arith, w.whole)
    by (no h) = absurd (omega (arith, e, get_d_past cells (row * columns + 0) 0 (omega arith)))

-- ------------------------------------------------------------------ constructors

-- what a walk gives, by names
pub record Means (spell : ℕ → List ℕ) (marked : Marked) (written : List ℕ) (holder : List ℕ → Bool) : Type 0 where
  -- `written` are the marks
  pub marks_are : marked.marks ≡ written
  -- `holder` tells which outside names are held
  pub holding : HoldsOutsides spell marked.held holder

module _ {spell : ℕ → List ℕ} where
  bare_means : Means spell bare (0 ∷ []) (λ s. false)
  bare_means = record { marks_are = refl; holding = λ n l w. has_none n }

  over_means : {part : Marked} {written : List ℕ} {holder : List ℕ → Bool} → Means spell part written holder → Means spell (over part) (0 ∷ written) holder
  over_means m = record { marks_are = ap (λ l. 0 ∷ l) m.marks_are; holding = m.holding }

  both_mean : {first second : Marked} {written written' : List ℕ} {holder holder' : List ℕ → Bool} → Means spell first written holder
      → Means spell second written' holder' → Means spell (over_both first second) (0 ∷ written ++ written') (λ s. holder s || holder' s)
  both_mean {first} {second} m m' =
      record {
        marks_are = cc (m.marks_are, m'.marks_are);
        holding = λ n l w. rw (has_join first.held second.held n, m.holding n l w, m'.holding n l w) refl;
      }

-- ------------------------------------------------------------------ rows

module _ (spell : ℕ → List ℕ) (apart : Distinct spell) (cells : List ℕ) (whole : WholeRows cells) where
  -- the marks of a term's rows are those of its names, under the binders around
  abbrev TermMeans : ℕ → ℕ → ℕ → List Binder → List ℕ → Type 0
  TermMeans depth row place around current =
      WellNamed spell (term_at depth spell cells row)
      → Means spell (term_marks cells depth row place current) (marks around place (term_at depth spell cells row))
      (λ s. holds s (term_at depth spell cells row))

  -- so are those of a field list's
  abbrev FieldListMeans : ℕ → ℕ → ℕ → List Binder → List ℕ → Type 0
  FieldListMeans depth row place around current =
      WellNamedFields spell (field_list_at depth spell cells row)
      → Means spell (field_marks cells depth row place current) (marks_fields around place (field_list_at depth spell cells row))
      (λ s. holds_fields s (field_list_at depth spell cells row))

  -- both hold at every row of a depth, under any binders around that `current` has
  abbrev TermsMean : ℕ → Type 0
  TermsMean depth =
      (row place : ℕ) (around : List Binder) (current : List ℕ) → length cells / columns ≤ length current → Around spell cells around current
      → TermMeans depth row place around current

  abbrev FieldsMean : ℕ → Type 0
  FieldsMean depth =
      (row place : ℕ) (around : List Binder) (current : List ℕ) → length cells / columns ≤ length current → Around spell cells around current
      → FieldListMeans depth row place around current

  module _ {depth : ℕ} (some : depth ≡ 0 → ⊥) (terms : TermsMean (depth - 1)) (fields : FieldsMean (depth - 1)) (row place : ℕ) (around : List Binder)
      (current : List ℕ) (room : length cells / columns ≤ length current) (env : Around spell cells around current) where
    abbrev Below : ℕ → Term Name
    Below q = term_at (depth - 1) spell cells q

    read : RowRead cells depth row (column cells row 0)
    read = record { some = some; at = refl }

    -- the place behind a part
    behind : (q : ℕ) {holder : List ℕ → Bool} → Means spell (term_marks cells (depth - 1) q (place + 1) current) (marks around (place + 1) (Below q)) holder
        → place + 1 + size (Below q) ≡ place + 1 + length (term_marks cells (depth - 1) q (place + 1) current).marks
    behind q part = omega (arith, ap length part.marks_are, length_marks around (place + 1) (Below q))

    variable_means : column cells row 0 ≡ 0x20 → TermMeans depth row place around current
    unfolding WellNamed marks holds
    variable_means e known =
        let x : ℕ = column cells row 1 in
        let t = rows.var_row_lem spell cells depth row some refl e in
        rw (t, var_marked read place current e refl)
        (record {
          marks_are = ap (λ m. m ∷ []) (variable_marked spell x cells current around (subst (WellNamed spell) t known) env);
          holding = outsides_held spell apart x;
        })

    function_means : column cells row 0 ≡ 0x21 → TermMeans depth row place around current
    unfolding WellNamed marks holds
    function_means e known =
        let x : ℕ = column cells row 1 in
        let slot : ℕ = slot_of cells x in
        let t = rows.fun_row_lem spell cells depth row some refl e in
        let named = subst (WellNamed spell) t known in
        let there : slot < most_cells = slot_there cells row (row_inside cells row whole e) whole.few e in
        let inside : slot < length cells / columns = (slot_is cells x (length cells / columns) (omega (arith, whole.few)) there).inside in
        let inner = around_binder spell apart cells around current x place (bindable_of spell x named.0) there (omega (arith, inside, room)) env in
        let body = terms (column cells row 2) (place + 1) (record { name = name_of spell x; place = place } ∷ around) (set current slot (place + 1))
        (omega (arith, length-set current slot (place + 1), room)) inner named.1 in
        rw (t, fun_marked read place current e refl refl refl)
        (record {
          marks_are = cc (binder_marked spell apart x _ (Below (column cells row 2)) named.1 named.0 body.holding, body.marks_are, add-one place);
          holding = body.holding;
        })

    apply_means : column cells row 0 ≡ 0x22 → TermMeans depth row place around current
    unfolding WellNamed marks holds
    apply_means e known =
        let q : ℕ = column cells row 1 in
        let t = rows.app_row_lem spell cells depth row some refl e in
        let named = subst (WellNamed spell) t known in
        let first = terms q (place + 1) around current room env named.0 in
        let second = terms (column cells row 2) (place + 1 + size (Below q)) around current room env named.1 in
        rw (t, app_marked read place current e refl refl (behind q first) refl, ← add-one place) (both_mean first second)

    rcd_means : column cells row 0 ≡ 0x23 → TermMeans depth row place around current
    unfolding WellNamed marks holds
    rcd_means e known =
        let t = rows.rcd_row_lem spell cells depth row some refl e in
        rw (t, rcd_marked read place current e refl, ← add-one place)
        (over_means (fields (column cells row 1) (place + 1) around current room env (subst (WellNamed spell) t known)))

    dot_means : column cells row 0 ≡ 0x24 → TermMeans depth row place around current
    unfolding WellNamed marks holds
    dot_means e known =
        let t = rows.dot_row_lem spell cells depth row some refl e in
        rw (t, dot_marked read place current e refl, ← add-one place)
        (over_means (terms (column cells row 1) (place + 1) around current room env (subst (WellNamed spell) t known)))

    row_means : TermMeans depth row place around current
    unfolding marks holds
    row_means known =
        let code : ℕ = column cells row 0 in
        by_test (eqb code 0x20) (λ e. variable_means (eqb-true code 0x20 e) known)
        (λ v. by_test (eqb code 0x21) (λ e. function_means (eqb-true code 0x21 e) known)
        (λ f. by_test (eqb code 0x22) (λ e. apply_means (eqb-true code 0x22 e) known)
        (λ a. by_test (eqb code 0x23) (λ e. rcd_means (eqb-true code 0x23 e) known)
        (λ r. by_test (eqb code 0x24) (λ e. dot_means (eqb-true code 0x24 e) known)
        (λ d.
        let no_v = eqb-false code 0x20 v in
        let no_f = eqb-false code 0x21 f in
        let no_a = eqb-false code 0x22 a in
        let no_r = eqb-false code 0x23 r in
        let no_d = eqb-false code 0x24 d in
        rw (num_marked read place current (((((tt, no_v), no_f), no_a), no_r), no_d))
        (rows.number_row spell cells depth row some refl (λ t. Means spell bare (marks around place t) (λ s. holds s t)) (λ n. bare_means) no_v no_f no_a
        no_r no_d))))))

    fields_row_mean : FieldListMeans depth row place around current
    unfolding WellNamedFields marks_fields holds_fields
    fields_row_mean known =
        by_test (eqb (column cells row 0) 0x26)
        (λ test.
        let e = eqb-true (column cells row 0) 0x26 test in
        let q : ℕ = column cells row 2 in
        let t = rows.cons_row_lem spell cells depth row some refl e in
        let named = subst (WellNamedFields spell) t known in
        let first = terms q (place + 1) around current room env named.0 in
        let second = fields (column cells row 3) (place + 1 + size (Below q)) around current room env named.1 in
        rw (t, cons_marked read place current e refl refl (behind q first) refl, ← add-one place) (both_mean first second))
        (λ test.
        let e = eqb-false (column cells row 0) 0x26 test in
        rw (rows.nil_row_lem spell cells depth row some refl e, nil_marked read place current e) bare_means)

  mutual
    unfolding term_at field_list_at marks marks_fields holds holds_fields

    -- The marks of the numbers of a term's rows are the marks of the term.
    pub term_means : (depth : ℕ) → TermsMean depth
    term_means zero = λ row place around current room env known. rw (shallow_marked cells 0 row place current refl) bare_means
    term_means (suc depth) =
        let z : depth ≡ suc depth - 1 = omega arith in
        row_means (λ (e : suc depth ≡ 0). omega arith) (subst TermsMean z (term_means depth)) (subst FieldsMean z (fields_mean depth))

    fields_mean : (depth : ℕ) → FieldsMean depth
    fields_mean zero = λ row place around current room env known. rw (shallow_fields_marked cells 0 row place current refl) bare_means
    fields_mean (suc depth) =
        let z : depth ≡ suc depth - 1 = omega arith in
        fields_row_mean (λ (e : suc depth ≡ 0). omega arith) (subst TermsMean z (term_means depth)) (subst FieldsMean z (fields_mean depth))
