-- Laws of the sizes of templates held as rows: by the parts of a row, by what is left of a number, and by one pass over the rows.
use Prim.Native.Nat.{ℕ, zero, suc, ◌+◌, ◌-◌, ◌/◌, ◌<◌, ◌≤◌, min}
use mathlib.Core.Path.{◌≡◌, refl, sym, ap, ◌∙◌}
use mathlib.Core.Bool.{Bool, true, false, ◌&&◌, ◌||◌, not, and-eq-true_iff}
use mathlib.Core.List.{List, [], ◌∷◌}
use native.Mathlib.Omega.{arith}
use lib.Dec.{eqb, leb, ltb}
use lib.ListN.{length, get_or, set, length-set}
use lib.Seq.{get_or-set_same, get_or-set_other}
use borrow.Author.Tests.{eqb-true, eqb-false, ltb-true, leb-true, leb-false, le-leb, lt-leb, lt-ltb, le-ltb, not-true}
use Rattle.spellings.proofs.BytesLaws.{by_test}
use Rattle.grammar.proofs.ReaderLaws.{get_d_past}
use Rattle.grammar.specs.Sorts.{constructor, constructor_signatures, var, binder, unit}
use Rattle.grammar.specs.Table.{Template}
use Rattle.terms.specs.Cells.{column, name_base, most_cells}
use Rattle.terms.specs.Term.{largest_term}
use Rattle.terms.specs.Rows.{constructor_of}
use Rattle.expansion.specs.Costs.{rows_of, rows_of_all}
use Rattle.rows.specs.declared.sums.Parts.{Parts}
use Rattle.rows.specs.declared.sums.Parts.TheVariants.{NoPart, OneTerm, TwoTerms, OneList, TermAndList}
use Rattle.rows.specs.Sums.{parts_of, parts_at, sum_of, sum_in}
use Rattle.rows.proofs.RowLaws.{each-code}
use Rattle.copying.specs.RowTemplates.{is_variable_name, is_row_sort, value_template, column_templates, row_template, text_template}
use Rattle.copying.proofs.ValueLaws.{at_variable, at_row, at_name, at_unit, at_plain}
use Rattle.copying.specs.Hanging.{is_row_at}
use Rattle.copying.proofs.CopyLaws.{rows_at, no_row_sort}
use Rattle.copying.specs.TemplateSizes.{part_size, size_cap, is_before, are_parts, SizedBelow, SizesRows, is_small_text}

-- ------------------------------------------------------------------ the size of a row

module _ (rows : ℕ → Template) where
  -- the constructors of a variable or a row
  abbrev size_by : ℕ → ℕ
  size_by x = elim (is_variable_name x) [ true ↦ 0 | false ↦ rows_of (rows x) ]

  -- a value that is no row has none
  leaf_size : (sort x : ℕ) → is_row_sort sort ≡ false → rows_of (value_template sort rows x) ≡ 0
  unfolding rows_of
  leaf_size sort x no_row =
      by_test (is_variable_name x) (λ e. ap rows_of (at_variable rows sort x e))
      (λ e.
      by_test (eqb sort var || eqb sort binder) (λ f. ap rows_of (at_name rows sort x e no_row f))
      (λ f.
      by_test (eqb sort unit) (λ g. ap rows_of (at_unit rows sort x e no_row f g)) (λ g. ap rows_of (at_plain rows sort x e no_row f g))))

  -- a row, or a variable in its place, has its own
  place_size : (sort x : ℕ) → is_row_sort sort ≡ true → rows_of (value_template sort rows x) ≡ size_by x
  unfolding rows_of
  place_size sort x is_row =
      by_test (is_variable_name x) (λ e. ap rows_of (at_variable rows sort x e) ∙ rw (e, size_by) refl)
      (λ e. ap rows_of (at_row rows sort x e is_row) ∙ rw (e, size_by) refl)

  module _ (text : List ℕ) (row : ℕ) where
    at : ℕ → ℕ
    at k = column text row k

    -- one argument that is no row
    one_leaf : (sort : ℕ) → is_row_sort sort ≡ false → rows_of_all (column_templates (sort ∷ []) rows text row 1) ≡ 0
    unfolding column_templates rows_of_all at
    one_leaf sort no_row = omega (arith, leaf_size sort (at 1) no_row)

    above : {code : ℕ} (place : ℕ) → suc place ≡ code - 0x20 → code ≡ 0x21 + place
    above place h = omega arith

    -- the arguments of a constructor, by its code
    columns_size : (code : ℕ)
        → rows_of_all (column_templates (constructor code).params rows text row 1) ≡ sum_of (parts_of (constructor_of code) text row) size_by size_by
    unfolding column_templates rows_of_all constructor constructor_signatures parts_of at
    columns_size =
        each-code (λ code c. rows_of_all (column_templates (constructor code).params rows text row 1) ≡ sum_of (parts_of c text row) size_by size_by)
        (one_leaf 1 refl)
        (omega (arith, leaf_size 2 (at 1) refl, place_size 4 (at 2) refl))
        (omega (arith, place_size 4 (at 1) refl, place_size 4 (at 2) refl))
        (omega (arith, place_size 5 (at 1) refl))
        (omega (arith, place_size 4 (at 1) refl, leaf_size 3 (at 2) refl))
        refl
        (omega (arith, leaf_size 3 (at 1) refl, place_size 4 (at 2) refl, place_size 5 (at 3) refl))
        (λ code a b c d e f g. other (code - 0x20) refl a b c d e f g)
      where
        other : {code : ℕ} (place : ℕ) → place ≡ code - 0x20 → (code ≡ 0x20 → ⊥) → (code ≡ 0x21 → ⊥) → (code ≡ 0x22 → ⊥) → (code ≡ 0x23 → ⊥)
            → (code ≡ 0x24 → ⊥) → (code ≡ 0x25 → ⊥) → (code ≡ 0x26 → ⊥)
            → rows_of_all (column_templates (constructor code).params rows text row 1) ≡ 0
        other zero h a b c d e f g = rw (← h) (one_leaf 1 refl)
        other (suc zero) h a b c d e f g = absurd (b (above 0 h))
        other (suc (suc zero)) h a b c d e f g = absurd (c (above 1 h))
        other (suc (suc (suc zero))) h a b c d e f g = absurd (d (above 2 h))
        other (suc (suc (suc (suc zero)))) h a b c d e f g = absurd (e (above 3 h))
        other (suc (suc (suc (suc (suc zero))))) h a b c d e f g = absurd (f (above 4 h))
        other (suc (suc (suc (suc (suc (suc zero)))))) h a b c d e f g = absurd (g (above 5 h))
        other (suc (suc (suc (suc (suc (suc (suc zero))))))) h a b c d e f g = rw (← h) (one_leaf 6 refl)
        other (suc (suc (suc (suc (suc (suc (suc (suc place)))))))) h a b c d e f g = rw (← h) refl

-- A row has one constructor and those of its parts.
pub row_size : (depth : ℕ) (text : List ℕ) (row : ℕ)
    → rows_of (row_template (suc depth) text row) ≡ sum_of (parts_at text row) (λ q. part_size depth text q) (λ q. part_size depth text q) + 1
unfolding rows_of row_template
row_size depth text row = ap (λ k. k + 1) (columns_size (λ q. row_template depth text q) text row (column text row 0))

-- ------------------------------------------------------------------ what is left of a number

module _ (text : List ℕ) (bound x left : ℕ) {variable : Bool} (told : variable ≡ is_variable_name x) where
  module _ (no_variable : variable ≡ false) where
    row_part : part_size bound text x ≡ rows_of (row_template bound text x)
    row_part = let e : is_variable_name x ≡ false = sym told ∙ no_variable in rw (e, part_size) refl

    -- where no depth is left, nothing is counted
    pub bound_left : bound ≡ 0 → left ≡ left - part_size bound text x
    unfolding row_template rows_of
    bound_left e = let none : rows_of (row_template bound text x) ≡ 0 = rw e refl in omega (arith, row_part)

    module _ (some : bound ≡ 0 → ⊥) {parts : Parts} (parts_are : parts ≡ parts_at text x) where
      -- one constructor, and those of the parts
      part_size_lem : part_size bound text x ≡ sum_of parts (λ q. part_size (bound - 1) text q) (λ q. part_size (bound - 1) text q) + 1
      part_size_lem =
          let deep : bound ≡ suc (bound - 1) = omega arith in
          row_part ∙ ap (λ k. rows_of (row_template k text x)) deep ∙ row_size (bound - 1) text x
          ∙ ap (λ ps. sum_of ps (λ q. part_size (bound - 1) text q) (λ q. part_size (bound - 1) text q) + 1) (sym parts_are)

      -- no part
      pub no_part_left : parts ≡ NoPart → left - 1 ≡ left - part_size bound text x
      no_part_left e = let size = rw e at part_size_lem in omega arith

      -- one term
      pub term_left : {part r : ℕ} → parts ≡ OneTerm part → r ≡ left - 1 - part_size (bound - 1) text part → r ≡ left - part_size bound text x
      term_left e h = let size = rw e at part_size_lem in omega arith

      -- one field list
      pub list_left : {part r : ℕ} → parts ≡ OneList part → r ≡ left - 1 - part_size (bound - 1) text part → r ≡ left - part_size bound text x
      list_left e h = let size = rw e at part_size_lem in omega arith

      module _ {part part' r r' : ℕ} (first : r ≡ left - 1 - part_size (bound - 1) text part) (second : r' ≡ r - part_size (bound - 1) text part') where
        -- two terms
        pub terms_left : parts ≡ TwoTerms part part' → r' ≡ left - part_size bound text x
        terms_left e = let size = rw e at part_size_lem in omega arith

        -- a term and a field list
        pub field_left : parts ≡ TermAndList part part' → r' ≡ left - part_size bound text x
        field_left e = let size = rw e at part_size_lem in omega arith

-- ------------------------------------------------------------------ a pass over the rows

-- a number that is a variable is past every row
variable_past : (text sizes : List ℕ) (depth x : ℕ) → length sizes ≤ most_cells → is_variable_name x ≡ true
    → get_or sizes x 0 ≡ min size_cap (part_size depth text x)
variable_past text sizes depth x few e =
    let large : x / name_base ≡ 4 = eqb-true (x / name_base) 4 e in
    get_d_past sizes x 0 (omega arith) ∙ rw (e, part_size) refl

module _ {text sizes : List ℕ} {row : ℕ} (sized : SizedBelow text sizes row) where
  -- what stands before a row has its size in the room
  before_size : (depth x : ℕ) → row ≤ depth → is_before row x ≡ true → get_or sizes x 0 ≡ min size_cap (part_size depth text x)
  before_size depth x l e =
      by_test (is_variable_name x) (λ t. variable_past text sizes depth x sized.few t)
      (λ f.
      let less : x < row = ltb-true x row (rw f at e) in
      sized.each x depth less (omega arith) ∙ rw (f, part_size) refl)

  -- and so have the parts of the row
  parts_size : (depth : ℕ) (parts : Parts) → row ≤ depth → are_parts row parts ≡ true
      → min largest_term (sum_in sizes parts) ≡ min largest_term (sum_of parts (λ q. part_size depth text q) (λ q. part_size depth text q))
  parts_size depth NoPart l e = refl
  parts_size depth (OneTerm t) l e = let first = before_size depth t l e in omega arith
  parts_size depth (TwoTerms t u) l e =
      let both = (and-eq-true_iff (is_before row t) (is_before row u)).0 e in
      let first = before_size depth t l both.0 in
      let second = before_size depth u l both.1 in
      omega arith
  parts_size depth (OneList f) l e = let first = before_size depth f l e in omega arith
  parts_size depth (TermAndList t f) l e =
      let both = (and-eq-true_iff (is_before row t) (is_before row f)).0 e in
      let first = before_size depth t l both.0 in
      let second = before_size depth f l both.1 in
      omega arith

  -- one row more, whose parts stand before it
  sized_next : row < length sizes → {parts : Parts} {ordered : Bool} {below : ℕ} → parts ≡ parts_at text row → ordered ≡ are_parts row parts
      → ordered ≡ true → below ≡ min largest_term (sum_in sizes parts) → SizedBelow text (set sizes row (below + 1)) (row + 1)
  sized_next l {parts} {ordered} {below} ep eo t eb =
      record {
        few = rw (length-set sizes row (below + 1)) sized.few;
        within = rw (length-set sizes row (below + 1)) (omega arith);
        each =
            λ q depth h d.
            by_test (eqb q row) (λ k. let same : q ≡ row = eqb-true q row k in rw (same, get_or-set_same sizes row (below + 1) 0 l) (here depth (omega arith)))
            (λ k.
            let other : q ≡ row → ⊥ = eqb-false q row k in
            rw (get_or-set_other sizes row q (below + 1) 0 other) (sized.each q depth (omega (arith, h, other)) d));
      }
    where
      here : (depth : ℕ) → row < depth → below + 1 ≡ min size_cap (rows_of (row_template depth text row))
      here zero d = absurd (omega arith)
      here (suc depth) d =
          let sum = parts_size depth parts (omega arith) (sym eo ∙ t) in
          let size : rows_of (row_template (suc depth) text row) ≡ sum_of parts (λ q. part_size depth text q) (λ q. part_size depth text q) + 1
          = row_size depth text row ∙ ap (λ ps. sum_of ps (λ q. part_size depth text q) (λ q. part_size depth text q) + 1) (sym ep) in
          omega arith

-- A room as long as it was, with the sizes of the first rows.
pub record Passed (text sizes₀ sizes : List ℕ) (row : ℕ) : Type 0 where
  -- a place for each row
  pub long : length sizes ≡ length sizes₀
  -- those passed have their sizes
  pub sized : SizedBelow text sizes row

module _ {text sizes₀ sizes : List ℕ} {row : ℕ} (passed : Passed text sizes₀ sizes row) where
  -- One row more, whose parts stand before it.
  pub passed_next : row < length sizes → {parts : Parts} {ordered : Bool} {below : ℕ} → parts ≡ parts_at text row → ordered ≡ are_parts row parts
      → ordered ≡ true → below ≡ min largest_term (sum_in sizes parts) → Passed text sizes₀ (set sizes row (below + 1)) (row + 1)
  passed_next l {below = below} ep eo t eb =
      record { long = length-set sizes row (below + 1) ∙ passed.long; sized = sized_next passed.sized l ep eo t eb }

-- ------------------------------------------------------------------ a text

-- the constructors of a text
abbrev text_size : List ℕ → ℕ → ℕ → ℕ → ℕ
text_size text made sort x = rows_of (text_template made text sort x)

-- a value that is no row has no constructor
pub leaf_small : (text : List ℕ) (made sort x : ℕ) {below : Bool} → below ≡ is_row_at sort x → below ≡ false → true ≡ is_small_text text made sort x
unfolding rows_of
leaf_small text made sort x told f =
    by_test (is_variable_name x) (λ e. rw (e, value_template) refl)
    (λ e.
    let none : text_size text made sort x ≡ 0 = leaf_size (λ q. row_template made text q) sort x (no_row_sort sort x (sym told ∙ f) e) in
    sym (le-leb (text_size text made sort x) largest_term (omega arith)))

-- a row that the pass has told lies in the room
pub told_inside : {text sizes₀ sizes : List ℕ} {x : ℕ} {ordered : Bool} → SizesRows text sizes₀ sizes ordered
    → (ordered && ltb x (length sizes₀)) ≡ true → x < length sizes
told_inside {sizes₀ = sizes₀} {x = x} {ordered = ordered} rows t =
    omega (arith, rows.long, ltb-true x (length sizes₀) ((and-eq-true_iff ordered (ltb x (length sizes₀))).0 t).1)

module _ (text : List ℕ) (sort x : ℕ) {below : Bool} (told : below ≡ is_row_at sort x) (is_row : below ≡ true) where
  text_size_lem : (made : ℕ) → text_size text made sort x ≡ rows_of (row_template made text x)
  text_size_lem made = ap rows_of (rows_at sort x (λ q. row_template made text q) (sym told ∙ is_row))

  -- and its size is told
  pub told_small : {sizes₀ sizes : List ℕ} {ordered : Bool} → SizesRows text sizes₀ sizes ordered → (ordered && ltb x (length sizes₀)) ≡ true
      → {size : ℕ} → size ≡ get_or sizes x 0 → leb size largest_term ≡ is_small_text text (length sizes₀) sort x
  told_small {sizes₀} {sizes} {ordered} rows t {size} e =
      let both = (and-eq-true_iff ordered (ltb x (length sizes₀))).0 t in
      let cut = (rows.sized both.0).each x (length sizes₀) (told_inside rows t) (ltb-true x (length sizes₀) both.1) in
      let same = text_size_lem (length sizes₀) in
      by_test (is_small_text text (length sizes₀) sort x)
      (λ f.
      let small : text_size text (length sizes₀) sort x ≤ largest_term = leb-true (text_size text (length sizes₀) sort x) largest_term f in
      le-leb size largest_term (omega arith) ∙ sym f)
      (λ f.
      let large : largest_term < text_size text (length sizes₀) sort x = leb-false (text_size text (length sizes₀) sort x) largest_term f in
      lt-leb size largest_term (omega arith) ∙ sym f)

  -- that of any other is walked
  pub walked_small : (made : ℕ) {left : ℕ} → left ≡ largest_term + 1 - part_size made text x → ltb 0 left ≡ is_small_text text made sort x
  walked_small made {left} e =
      let no_variable = not-true (is_variable_name x) ((and-eq-true_iff (is_row_sort sort) (not (is_variable_name x))).0 (sym told ∙ is_row)).1 in
      let size : part_size made text x ≡ rows_of (row_template made text x) = rw (no_variable, part_size) refl in
      let same = text_size_lem made in
      by_test (is_small_text text made sort x)
      (λ f.
      let small : text_size text made sort x ≤ largest_term = leb-true (text_size text made sort x) largest_term f in
      lt-ltb 0 left (omega arith) ∙ sym f)
      (λ f.
      let large : largest_term < text_size text made sort x = leb-false (text_size text made sort x) largest_term f in
      le-ltb 0 left (omega arith) ∙ sym f)
