-- Sums over the trees at rows: the parts of a row by its code, a pass row by row, and what a measure of terms adds up to.
use Prim.Native.Nat.{ℕ, zero, suc, ◌+◌, ◌<◌, ◌≤◌, min}
use mathlib.Core.Path.{◌≡◌, refl, sym, ap, ap₂, ◌∙◌}
use mathlib.Core.Bool.{Bool, true, false, ◌&&◌, ◌||◌, not, true≢false, and-eq-true_iff}
use mathlib.Core.List.{List}
use native.Mathlib.Omega.{arith}
use native.Mathlib.Numerals.{add-one}
use lib.Dec.{eqb, ltb}
use lib.ListN.{length, get_or, set, length-set}
use lib.Seq.{get_or-set_same, get_or-set_other}
use borrow.Author.Tests.{eqb-true, eqb-false, ne_eqb, ltb-true, not-true}
use Rattle.std.specs.Prelude.{Some, None}
use Rattle.spellings.proofs.BytesLaws.{by_test}
use Rattle.terms.specs.Cells.{column}
use Rattle.terms.specs.Term.{Name, Term, Fields}
use Rattle.terms.specs.Rows.{Constructor, constructor_of, term_by, is_cons, fields_by, term_at, field_list_at}
use Rattle.rows.specs.declared.sums.Parts.{Parts}
use Rattle.rows.specs.declared.sums.Parts.TheVariants.{NoPart, OneTerm, TwoTerms, OneList, TermAndList}
use Rattle.rows.specs.Sums.{row_is, parts_of, parts_at, sum_of, sum_in, sum_at, is_fields, is_term_before, is_list_before, are_before, are_ordered}
use Rattle.rows.specs.Sums.{SumsRows, total_of}
use Rattle.rows.proofs.RowLaws.{each-code}

-- ------------------------------------------------------------------ the parts of a row

-- the two codes of field lists
pub fields_code : (code : ℕ) → (eqb code 0x25 || eqb code 0x26) ≡ is_fields (constructor_of code)
fields_code =
    each-code (λ code c. (eqb code 0x25 || eqb code 0x26) ≡ is_fields c) refl refl refl refl refl refl refl
    (λ code v a b c d e f. rw (ne_eqb code 0x25 e, ne_eqb code 0x26 f) refl)

module _ (cells : List ℕ) (row : ℕ) {code : ℕ} (at : code ≡ column cells row 0) where
  -- a function has its body
  pub fun_parts : code ≡ 0x21 → {part : ℕ} → part ≡ column cells row 2 → OneTerm part ≡ parts_at cells row
  unfolding constructor_of parts_of
  fun_parts e eq = rw (← at, e) (ap OneTerm eq)

  -- an application has its two terms
  pub app_parts : code ≡ 0x22 → {part other : ℕ} → part ≡ column cells row 1 → other ≡ column cells row 2 → TwoTerms part other ≡ parts_at cells row
  unfolding constructor_of parts_of
  app_parts e eq eo = rw (← at, e) (ap₂ TwoTerms eq eo)

  -- a record has its fields
  pub rcd_parts : code ≡ 0x23 → {part : ℕ} → part ≡ column cells row 1 → OneList part ≡ parts_at cells row
  unfolding constructor_of parts_of
  rcd_parts e eq = rw (← at, e) (ap OneList eq)

  -- a selection has its term
  pub dot_parts : code ≡ 0x24 → {part : ℕ} → part ≡ column cells row 1 → OneTerm part ≡ parts_at cells row
  unfolding constructor_of parts_of
  dot_parts e eq = rw (← at, e) (ap OneTerm eq)

  -- a field has its term and the other fields
  pub cons-parts : code ≡ 0x26 → {part other : ℕ} → part ≡ column cells row 2 → other ≡ column cells row 3 → TermAndList part other ≡ parts_at cells row
  unfolding constructor_of parts_of
  cons-parts e eq eo = rw (← at, e) (ap₂ TermAndList eq eo)

  -- any other row has none
  pub no_parts : (code ≡ 0x21 → ⊥) → (code ≡ 0x22 → ⊥) → (code ≡ 0x23 → ⊥) → (code ≡ 0x24 → ⊥) → (code ≡ 0x26 → ⊥) → NoPart ≡ parts_at cells row
  unfolding parts_of
  no_parts a b c d f =
      rw (← at)
      (each-code
      (λ n k. (n ≡ 0x21 → ⊥) → (n ≡ 0x22 → ⊥) → (n ≡ 0x23 → ⊥) → (n ≡ 0x24 → ⊥) → (n ≡ 0x26 → ⊥) → NoPart ≡ parts_of k cells row)
      (λ a b c d f. refl)
      (λ a b c d f. absurd (a refl))
      (λ a b c d f. absurd (b refl))
      (λ a b c d f. absurd (c refl))
      (λ a b c d f. absurd (d refl))
      (λ a b c d f. refl)
      (λ a b c d f. absurd (f refl))
      (λ n v a b c d e f a' b' c' d' f'. refl) code a b c d f)

-- ------------------------------------------------------------------ parts before a row

module _ (cells : List ℕ) (row : ℕ) where
  -- a term before a row
  pub term_before : (part : ℕ) → is_term_before cells row part ≡ true → (part < row) × (is_fields (row_is cells part) ≡ false)
  term_before part e =
      let both = (and-eq-true_iff (ltb part row) (not (is_fields (row_is cells part)))).0 e in
      (ltb-true part row both.0, not-true (is_fields (row_is cells part)) both.1)

  -- a field list before a row
  pub list_before : (part : ℕ) → is_list_before cells row part ≡ true → (part < row) × (is_fields (row_is cells part) ≡ true)
  list_before part e =
      let both = (and-eq-true_iff (ltb part row) (is_fields (row_is cells part))).0 e in
      (ltb-true part row both.0, both.1)

  -- what agrees at the terms and at the field lists before a row agrees in the sum of parts there
  pub sum_same : {terms fields terms' fields' : ℕ → ℕ}
      → ((part : ℕ) → part < row → is_fields (row_is cells part) ≡ false → terms part ≡ terms' part)
      → ((part : ℕ) → part < row → is_fields (row_is cells part) ≡ true → fields part ≡ fields' part)
      → (parts : Parts) → are_before cells row parts ≡ true → sum_of parts terms fields ≡ sum_of parts terms' fields'
  sum_same same_term same-list NoPart e = refl
  sum_same same_term same-list (OneTerm t) e = let is = term_before t e in same_term t is.0 is.1
  sum_same same_term same-list (TwoTerms t u) e =
      let both = (and-eq-true_iff (is_term_before cells row t) (is_term_before cells row u)).0 e in
      let first = term_before t both.0 in
      let second = term_before u both.1 in
      ap₂ ◌+◌ (same_term t first.0 first.1) (same_term u second.0 second.1)
  sum_same same_term same-list (OneList f) e = let is = list_before f e in same-list f is.0 is.1
  sum_same same_term same-list (TermAndList t f) e =
      let both = (and-eq-true_iff (is_term_before cells row t) (is_list_before cells row f)).0 e in
      let first = term_before t both.0 in
      let second = list_before f both.1 in
      ap₂ ◌+◌ (same_term t first.0 first.1) (same-list f second.0 second.1)

-- rows in order have their parts before them
pub ordered_at : (cells : List ℕ) (rows : ℕ) → are_ordered cells rows ≡ true → (row : ℕ) → row < rows → are_before cells row (parts_at cells row) ≡ true
unfolding are_ordered
ordered_at cells zero e row l = absurd (omega arith)
ordered_at cells (suc rows) e row l =
    let both = (and-eq-true_iff (are_ordered cells rows) (are_before cells rows (parts_at cells rows))).0 e in
    by_test (eqb row rows) (λ t. rw (eqb-true row rows t) both.1)
    (λ t. ordered_at cells rows both.0 row (omega (arith, eqb-false row rows t)))

-- one row that has not puts the rows out of order
pub unordered_at : (cells : List ℕ) (rows row : ℕ) → row < rows → are_before cells row (parts_at cells row) ≡ false → are_ordered cells rows ≡ false
unordered_at cells rows row l e =
    by_test (are_ordered cells rows) (λ t. absurd (true≢false (sym (ordered_at cells rows t row l) ∙ e))) (λ t. t)

-- ------------------------------------------------------------------ a pass

-- sums that are cut off before they are added, and then again
pub cut_parts : (cap own : ℕ) (f g : ℕ → ℕ) (parts : Parts)
    → min cap (own + sum_of parts (λ q. min cap (f q)) (λ q. min cap (g q))) ≡ min cap (own + sum_of parts f g)
cut_parts cap own f g NoPart = refl
cut_parts cap own f g (OneTerm t) = omega arith
cut_parts cap own f g (TwoTerms t u) = omega arith
cut_parts cap own f g (OneList l) = omega arith
cut_parts cap own f g (TermAndList t l) = omega arith

-- a room with the sums at the first rows, and the own weights of the others
pub record Passed (cells : List ℕ) (cap : ℕ) (weights sums : List ℕ) (row : ℕ) : Type 0 where
  -- a place for each weight
  pub long : length sums ≡ length weights
  -- the rows passed have places
  pub within : row ≤ length weights
  -- they are in order
  pub ordered : are_ordered cells row ≡ true
  -- each of them has its sum, for any bound of the depth that is above it
  pub each : (q depth : ℕ) → q < row → q < depth → get_or sums q 0 ≡ min cap (sum_at depth weights cells q)
  -- each other row has its own weight
  pub behind : (q : ℕ) → row ≤ q → get_or sums q 0 ≡ get_or weights q 0

-- at the start no row has its sum
pub passed_start : {cells : List ℕ} {cap : ℕ} {weights : List ℕ} → Passed cells cap weights weights 0
unfolding are_ordered
passed_start =
    record { long = refl; within = omega arith; ordered = refl; each = λ q depth l h. absurd (omega arith); behind = λ q h. refl }

module _ {cells : List ℕ} {cap : ℕ} {weights sums : List ℕ} {row : ℕ} (passed : Passed cells cap weights sums row) where
  -- the next row's sum, by those before it
  row_summed : are_before cells row (parts_at cells row) ≡ true → (depth : ℕ) → row < depth
      → min cap (get_or sums row 0 + sum_in sums (parts_at cells row)) ≡ min cap (sum_at depth weights cells row)
  unfolding sum_at
  row_summed e zero l = absurd (omega arith)
  row_summed e (suc depth) l =
      let below : (q : ℕ) → q < row → get_or sums q 0 ≡ min cap (sum_at depth weights cells q) = λ q h. passed.each q depth h (omega arith) in
      let same = sum_same cells row (λ q h k. below q h) (λ q h k. below q h) (parts_at cells row) e in
      ap₂ (λ own parts. min cap (own + parts)) (passed.behind row (omega arith)) same
      ∙ cut_parts cap (get_or weights row 0) (λ q. sum_at depth weights cells q) (λ q. sum_at depth weights cells q) (parts_at cells row)

  -- one row more, whose parts stand before it
  pub passed_next : row < length weights → {parts : Parts} {ordered : Bool} {sum : ℕ} → parts ≡ parts_at cells row → ordered ≡ are_before cells row parts
      → ordered ≡ true → sum ≡ min cap (get_or sums row 0 + sum_in sums parts)
      → Passed cells cap weights (set sums row sum) (row + 1)
  unfolding are_ordered
  passed_next l {parts} {ordered} {sum} ep eo t es =
      let before : are_before cells row (parts_at cells row) ≡ true = cc in
      let summed : sum ≡ min cap (get_or sums row 0 + sum_in sums (parts_at cells row)) = rw (← ep) es in
      record {
        long = length-set sums row sum ∙ passed.long;
        within = omega (arith, passed.long);
        ordered = rw (add-one, passed.ordered, before) refl;
        each =
            λ q depth h d.
            by_test (eqb q row)
            (λ k. let same : q ≡ row = eqb-true q row k in
            rw (same, get_or-set_same sums row sum 0 (omega (arith, passed.long))) (summed ∙ row_summed before depth (omega arith)))
            (λ k. let other : q ≡ row → ⊥ = eqb-false q row k in
            rw (get_or-set_other sums row q sum 0 other) (passed.each q depth (omega (arith, h, other)) d));
        behind = λ q h. rw (get_or-set_other sums row q sum 0 (λ k. omega arith)) (passed.behind q (omega arith));
      }

  -- a row whose parts do not all stand before it
  pub passed_stop : row < length weights → {parts : Parts} {ordered : Bool} → parts ≡ parts_at cells row → ordered ≡ are_before cells row parts
      → ordered ≡ false → SumsRows cells cap weights sums false
  passed_stop l ep eo t =
      let none : are_before cells row (parts_at cells row) ≡ false = cc in
      record {
        long = passed.long;
        told = sym (unordered_at cells (length weights) row l none);
        each = λ e. absurd (true≢false (sym e));
      }

-- ------------------------------------------------------------------ what a measure adds up to

-- Measures of terms and of field lists, by depth and row, that give each row its own weight and add up its parts.
pub record Adds (weights cells : List ℕ) (rows : ℕ) (terms fields : ℕ → ℕ → ℕ) : Type 0 where
  -- at the row of a term
  pub term : (depth row : ℕ) → row < rows → is_fields (row_is cells row) ≡ false
      → terms (suc depth) row ≡ get_or weights row 0 + sum_of (parts_at cells row) (terms depth) (fields depth)
  -- at the row of a field list
  pub list : (depth row : ℕ) → row < rows → is_fields (row_is cells row) ≡ true
      → fields (suc depth) row ≡ get_or weights row 0 + sum_of (parts_at cells row) (terms depth) (fields depth)

module _ {weights cells : List ℕ} {rows : ℕ} {terms fields : ℕ → ℕ → ℕ} (adds : Adds weights cells rows terms fields)
    (ordered : are_ordered cells rows ≡ true)
  where
    -- the measure of a term, and of a field list, is the sum of the weights
    pub adds_up : (depth row : ℕ) → row < rows → row < depth
        → (is_fields (row_is cells row) ≡ false → terms depth row ≡ sum_at depth weights cells row)
        × (is_fields (row_is cells row) ≡ true → fields depth row ≡ sum_at depth weights cells row)
    unfolding sum_at
    adds_up zero row l d = absurd (omega arith)
    adds_up (suc depth) row l d =
        let same =
        sum_same cells row (λ q h. (adds_up depth q (omega arith) (omega arith)).0) (λ q h. (adds_up depth q (omega arith) (omega arith)).1)
        (parts_at cells row) (ordered_at cells rows ordered row l) in
        let own = ap (λ parts. get_or weights row 0 + parts) same in
        (λ k. adds.term depth row l k ∙ own, λ k. adds.list depth row l k ∙ own)

-- The sum that a pass tells is the measure, cut off.
pub total_adds : {weights cells : List ℕ} {terms fields : ℕ → ℕ → ℕ} (cap root : ℕ) {sum : ℕ} → Adds weights cells (length weights) terms fields
    → Some sum ≡ total_of cells cap weights root → sum ≡ min cap (terms (length weights) root)
total_adds {weights} {cells} cap root {sum} adds e =
    by_test (are_ordered cells (length weights) && is_term_before cells (length weights) root)
    (λ t.
    let both = (and-eq-true_iff (are_ordered cells (length weights)) (is_term_before cells (length weights) root)).0 t in
    let is = term_before cells (length weights) root both.1 in
    let known : Some sum ≡ Some (min cap (sum_at (length weights) weights cells root)) = rw t at e in
    let told : sum ≡ min cap (sum_at (length weights) weights cells root) = cc in
    told ∙ ap (min cap) (sym ((adds_up adds both.0 (length weights) root is.0 is.0).0 is.1)))
    (λ t.
    let unknown : Some sum ≡ None = rw t at e in
    let z : ◌≡◌ {A = ℕ} 0 1 = cc in
    absurd (omega arith))

-- Measures of the terms and the field lists at rows add up if they do constructor by constructor.
pub adds_by : {weights cells : List ℕ} {rows : ℕ} (spell : ℕ → List ℕ) (measure : Term Name → ℕ) (measure_fields : Fields Name → ℕ)
    → ((row : ℕ) → row < rows → (c : Constructor) → row_is cells row ≡ c → is_fields c ≡ false → (terms : ℕ → Term Name) (fields : ℕ → Fields Name)
    → measure (term_by c spell cells row terms fields)
    ≡ get_or weights row 0 + sum_of (parts_of c cells row) (λ q. measure (terms q)) (λ q. measure_fields (fields q)))
    → ((row : ℕ) → row < rows → (c : Constructor) → row_is cells row ≡ c → is_fields c ≡ true → (terms : ℕ → Term Name) (fields : ℕ → Fields Name)
    → measure_fields (fields_by (is_cons c) spell cells row terms fields)
    ≡ get_or weights row 0 + sum_of (parts_of c cells row) (λ q. measure (terms q)) (λ q. measure_fields (fields q)))
    → Adds weights cells rows (λ depth row. measure (term_at depth spell cells row)) (λ depth row. measure_fields (field_list_at depth spell cells row))
unfolding term_at field_list_at
adds_by {weights} {cells} spell measure measure_fields by_term by_list =
    record {
      term = λ depth row l k. by_term row l (row_is cells row) refl k (λ q. term_at depth spell cells q) (λ q. field_list_at depth spell cells q);
      list = λ depth row l k. by_list row l (row_is cells row) refl k (λ q. term_at depth spell cells q) (λ q. field_list_at depth spell cells q);
    }
