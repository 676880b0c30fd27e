-- Laws of templates held as rows: the values in their columns, and the loop over the arguments of a row.
use Rattle.std.specs.Prelude.{Some, None}
use Prim.Native.Nat.{ℕ, zero, suc, ◌+◌, ◌-◌, ◌*◌, ◌/◌, ◌%◌, ◌<◌, ◌≤◌}
use mathlib.Core.Path.{◌≡◌, refl, sym, ap, ◌∙◌}
use mathlib.Core.Bool.{Bool, true, false, ◌||◌, not, true≢false, and-eq-true_iff}
use mathlib.Core.List.{List, [], ◌∷◌, ◌++◌}
use native.Mathlib.Omega.{arith}
use native.Mathlib.Numerals.{add-one}
use lib.Dec.{eqb}
use lib.ListN.{length, get_or, drop, set, length-append, drop_of_length-le}
use lib.Seq.{sets, drop-cons}
use borrow.Author.Tests.{eq-eqb, ne_eqb, not-true}
use Rattle.spellings.proofs.BytesLaws.{by_test}
use Rattle.grammar.specs.Sorts.{constructor, arity, unit}
use Rattle.grammar.specs.Table.{Template, Templates, outside_var, outside_label, none, more}
use Rattle.grammar.specs.Table as Table
use Rattle.grammar.proofs.ReaderLaws.{arity_few}
use Rattle.terms.specs.Cells.{columns, column, row_numbers, name_base, outside_name, rows_lent}
use Rattle.expansion.specs.declared.State.{State}
use Rattle.expansion.specs.Run.{done}
use Rattle.expansion.specs.Expansion.{Input, build, cell}
use Rattle.expansion.proofs.CellLaws.{cell_row, cell_none}
use Rattle.templates.specs.Built.{Holds, with_made}
use Rattle.templates.proofs.VariableLaws.{spare}
use Rattle.templates.proofs.FlatLaws.{spare_more}
use Rattle.templates.proofs.StackLaws.{Pending, waits, going, resume, resume_halt, takes_value, waits_for, makes_cell, going_make}
use Rattle.copying.specs.RowTemplates.{is_variable_name, is_row_sort, value_template, column_templates, row_template, text_template}
use Rattle.copying.proofs.ValueLaws.{at_variable, at_row, at_name, at_unit, at_plain}
use Rattle.copying.specs.Hanging.{is_row_at, argument_at, IsPart, VariableBelow, Hangs, hangs, HangsAt}
use Rattle.copying.specs.Copies.{HasValue, row_made, CopiesRow, CopiesText}

-- ------------------------------------------------------------------ rows that hang together

-- an argument that is a variable is one of the first
pub argument_below : {text : List ℕ} {count row : ℕ} → Hangs text count row → (i : ℕ) → i < arity (column text row 0)
    → VariableBelow count (argument_at text row i)
argument_below (hangs byte variables before parts) = variables

-- a part stands before its row
pub part_before : {text : List ℕ} {count row : ℕ} → Hangs text count row → (i : ℕ) → IsPart text row i → argument_at text row i < row
part_before (hangs byte variables before parts) = before

-- and hangs together too
pub part_hangs : {text : List ℕ} {count row : ℕ} → Hangs text count row → (i : ℕ) → IsPart text row i → Hangs text count (argument_at text row i)
part_hangs (hangs byte variables before parts) = parts

-- Rows that hang together under some variables do so under more.
pub hangs_more : {text : List ℕ} {few many row : ℕ} → few ≤ many → Hangs text few row → Hangs text many row
hangs_more l (hangs byte variables before parts) =
    hangs byte (λ i small four. omega (arith, variables i small four)) before (λ i part. hangs_more l (parts i part))

-- ------------------------------------------------------------------ values

-- a row at its place
pub rows_at : (sort x : ℕ) (rows : ℕ → Template) → is_row_at sort x ≡ true → value_template sort rows x ≡ rows x
rows_at sort x rows e =
    let both = (and-eq-true_iff (is_row_sort sort) (not (is_variable_name x))).0 e in
    at_row rows sort x (not-true (is_variable_name x) both.1) both.0

-- what is neither a variable nor a row has no sort of rows
pub no_row_sort : (sort x : ℕ) → is_row_at sort x ≡ false → is_variable_name x ≡ false → is_row_sort sort ≡ false
no_row_sort sort x no_row other =
    by_test (is_row_sort sort) (λ e. let row : is_row_at sort x ≡ true = rw (e, other) refl in absurd (true≢false (sym row ∙ no_row))) (λ e. e)

-- a variable has the value at its place
pub value_variable : (sort x : ℕ) (env : List ℕ) {value : ℕ} → x / name_base ≡ 4 → x % name_base < 16 → value ≡ get_or env (x % name_base) 0
    → HasValue sort x env value
unfolding build
value_variable sort x env is small e =
    record {
      gives =
          λ M count holds below no_row rows I s cells.
          ap (λ t. build t I M s cells) (at_variable rows sort x (eq-eqb (x / name_base) 4 is))
          ∙ ap (λ v. done v s cells) (sym (e ∙ holds.same (x % name_base) small (below is)));
    }

module _ (sort x : ℕ) (env : List ℕ) (other : x / name_base ≡ 4 → ⊥) where
  no_variable : is_variable_name x ≡ false
  no_variable = ne_eqb (x / name_base) 4 other

  -- a number that is neither a variable nor a row has the value of its template
  by_sort : {value : ℕ} (t : Template) → (is_row_sort sort ≡ false → (rows : ℕ → Template) → value_template sort rows x ≡ t)
      → ((I : Input) (M : List ℕ) (s : State) (cells : List ℕ) → build t I M s cells ≡ done value s cells) → HasValue sort x env value
  by_sort t is gives =
      record {
        gives =
            λ M count holds below no_row rows I s cells.
            ap (λ u. build u I M s cells) (is (no_row_sort sort x no_row no_variable) rows) ∙ gives I M s cells;
      }

  -- a name is an outside name
  pub value_name : (eqb sort 1 || eqb sort 2) ≡ true → HasValue sort x env (outside_name (x % name_base))
  unfolding build
  value_name e = by_sort (outside_var (x % name_base)) (λ no_row rows. at_name rows sort x no_variable no_row e) (λ I M s cells. refl)

  -- a Unit is 0
  pub value_unit : (eqb sort 1 || eqb sort 2) ≡ false → sort ≡ 0 → HasValue sort x env 0
  unfolding build
  value_unit e is = by_sort Table.unit (λ no_row rows. at_unit rows sort x no_variable no_row e (eq-eqb sort 0 is)) (λ I M s cells. refl)

  -- a label or a number is itself
  pub value_plain : (eqb sort 1 || eqb sort 2) ≡ false → (sort ≡ 0 → ⊥) → HasValue sort x env x
  unfolding build
  value_plain e is = by_sort (outside_label x) (λ no_row rows. at_plain rows sort x no_variable no_row e (ne_eqb sort 0 is)) (λ I M s cells. refl)

-- an answer that is not 0 has made its row
row_made_lem : (s : State) (r : ℕ) (cells : List ℕ) → (r ≡ 0 → ⊥) → row_made s r cells ≡ done (r - 1) (with_made s r) cells
row_made_lem s zero cells some = absurd (some refl)
row_made_lem s (suc r) cells some = ap (λ v. done v (with_made s (suc r)) cells) (omega arith)

-- ------------------------------------------------------------------ the arguments of a row

-- the templates of a row's arguments from argument i on
abbrev left : List ℕ → ℕ → ℕ → ℕ → ℕ → Templates
left text row code depth i = column_templates (drop i (constructor code).params) (λ q. row_template depth text q) text row (i + 1)

-- that of argument i
abbrev argument : List ℕ → ℕ → ℕ → ℕ → ℕ → Template
argument text row code depth i = value_template (get_or (constructor code).params i unit) (λ q. row_template depth text q) (argument_at text row i)

left_more : (text : List ℕ) (row code depth i : ℕ) → i < arity code
    → left text row code depth i ≡ more (argument text row code depth i) (left text row code depth (i + 1))
unfolding column_templates
left_more text row code depth i h =
    let first : drop i (constructor code).params ≡ get_or (constructor code).params i unit ∷ drop (i + 1) (constructor code).params
    = rw (add-one i) (drop-cons (constructor code).params i unit h) in
    ap (λ sorts. column_templates sorts (λ q. row_template depth text q) text row (i + 1)) first

left_none : (text : List ℕ) (row code depth i : ℕ) → arity code ≤ i → left text row code depth i ≡ none
unfolding column_templates
left_none text row code depth i h =
    ap (λ sorts. column_templates sorts (λ q. row_template depth text q) text row (i + 1)) (drop_of_length-le (constructor code).params h)

-- a constructor with the values of its first arguments
abbrev begun : List ℕ → ℕ → ℕ → List ℕ → ℕ → ℕ → Pending
begun text row code given depth i = record { code = code; given = given; left = left text row code depth i }

-- what is known where a row is evaluated: as many rows as the cells have, the values of the variables, rows that hang together
pub record Evaluated (text : List ℕ) (row : ℕ) (env cells : List ℕ) (I : Input) (M : List ℕ) : Type 0 where
  -- how many variables there are
  pub count : ℕ
  -- the rows are those of the cells
  pub rows_are : I.rows ≡ rows_lent (length cells)
  -- their values stand in the array
  pub holds : Holds env count M
  -- the rows hang together
  pub hang : Hangs text count row

-- The first i arguments of a row have their values; what is left of them gives what the row gives.
pub record Copying (text : List ℕ) (row : ℕ) (env : List ℕ) (made : ℕ) (cells₀ : List ℕ) (code n : ℕ) (cells args : List ℕ)
    (count i : ℕ) : Type 0 where
  -- the code is the row's
  pub code_is : code ≡ column text row 0
  -- so many arguments it has
  pub arity_is : n ≡ arity code
  -- there are as many
  pub within : i ≤ n
  -- the values of the first
  pub given : List ℕ
  -- they are so many
  pub counted : length given ≡ i
  -- they stand in the array, the spare ones 0
  pub stands : args ≡ spare given
  -- the cells are as many
  pub as_many : length cells ≡ length cells₀
  -- what is left gives what the whole row gives
  pub rest :
      (I : Input) (s : State) (M : List ℕ) (depth : ℕ) → Evaluated text row env cells₀ I M → row ≤ depth
      → going I M (begun text row code given depth i) (with_made s count) cells ≡ build (row_template (suc depth) text row) I M (with_made s made) cells₀

-- no argument has its value at the start
pub copying_start : {text : List ℕ} {row : ℕ} (env : List ℕ) (made : ℕ) (cells : List ℕ) {code n : ℕ} → code ≡ column text row 0 → n ≡ arity code
    → Copying text row env made cells code n cells (0 ∷ 0 ∷ 0 ∷ []) made 0
unfolding row_template
copying_start {text} {row} env made cells e many =
    record {
      code_is = e;
      arity_is = many;
      within = omega arith;
      given = [];
      counted = refl;
      stands = refl;
      as_many = refl;
      rest = λ I s M depth known l. rw e (sym (going_make I M (column text row 0) _ (with_made s made) cells));
    }

-- an answer for a row, to any depth that reaches it
answers : {text : List ℕ} {row : ℕ} {env : List ℕ} {made : ℕ} {cells₀ : List ℕ} (r : ℕ) {cells' : List ℕ} → r ≤ rows_lent (length cells₀)
    → ((I : Input) (s : State) (M : List ℕ) (depth : ℕ) → Evaluated text row env cells₀ I M → row ≤ depth
    → row_made s r cells' ≡ build (row_template (suc depth) text row) I M (with_made s made) cells₀)
    → CopiesRow text row env made cells₀ r cells'
answers {text} {row} {env} {made} {cells₀} r {cells'} few f = record { few = few; evaluates = by }
  where
    by : (I : Input) (s : State) (M : List ℕ) (count depth : ℕ) → I.rows ≡ rows_lent (length cells₀) → Holds env count M → Hangs text count row → row < depth
        → row_made s r cells' ≡ build (row_template depth text row) I M (with_made s made) cells₀
    by I s M count zero e holds hang l = absurd (omega arith)
    by I s M count (suc depth) e holds hang l =
        f I s M depth (record { count = count; rows_are = e; holds = holds; hang = hang }) (omega arith)

-- Argument i of a row as the code finds it: its number, its sort, and whether it is a row.
pub record Found (text : List ℕ) (row code n i sort x : ℕ) (below : Bool) : Type 0 where
  -- there is such an argument
  pub less : i < n
  -- its number
  pub number_is : x ≡ column text row (i + 1)
  -- its sort
  pub sort_is : sort ≡ get_or (constructor code).params i unit
  -- whether it is a row
  pub told : below ≡ is_row_at sort x

module _ {text : List ℕ} {row : ℕ} {env : List ℕ} {made : ℕ} {cells₀ : List ℕ} {code n : ℕ} {cells args : List ℕ} {count i : ℕ}
    (copying : Copying text row env made cells₀ code n cells args count i) where
  -- an argument has a place in the array
  pub argument_place : i < n → i < 3
  argument_place less = omega (arith, copying.arity_is, arity_few code)

  -- what an argument gives
  abbrev Gives : ℕ → ℕ → List ℕ → Type 0
  Gives v count' cells' =
      (I : Input) (s : State) (M : List ℕ) (depth : ℕ) → Evaluated text row env cells₀ I M → row ≤ depth
      → build (argument text row code depth i) I M (with_made s count) cells ≡ done v (with_made s count') cells'

  -- the row waits for it
  abbrev waiting : ℕ → Pending
  waiting depth = waits (begun text row code copying.given depth i) (left text row code depth (i + 1))

  -- the next argument
  module _ {sort x : ℕ} {below : Bool} (found : Found text row code n i sort x below) where
    awaited : (I : Input) (s : State) (M : List ℕ) (depth : ℕ)
        → resume I M (waiting depth ∷ []) (build (argument text row code depth i) I M (with_made s count) cells)
        ≡ going I M (begun text row code copying.given depth i) (with_made s count) cells
    unfolding resume
    awaited I s M depth =
        let less : i < arity code = omega (arith, found.less, copying.arity_is) in
        sym (waits_for I M (begun text row code copying.given depth i) (with_made s count) cells [] (left_more text row code depth i less))

    next : (v count' : ℕ) (cells' : List ℕ) → length cells' ≡ length cells → Gives v count' cells'
        → Copying text row env made cells₀ code n cells' (set args i v) count' (i + 1)
    unfolding resume
    next v count' cells' same gives =
        record {
          code_is = copying.code_is;
          arity_is = copying.arity_is;
          within = omega (arith, found.less);
          given = copying.given ++ (v ∷ []);
          counted = simp length-append (omega (arith, copying.counted));
          stands =
              ap (λ xs. set xs i v) copying.stands
              ∙ ap (λ k. set (spare copying.given) k v) (sym copying.counted)
              ∙ spare_more copying.given v (omega (arith, copying.counted, argument_place found.less));
          as_many = same ∙ copying.as_many;
          rest =
              λ I s M depth known l.
              sym (takes_value I M (waiting depth) (with_made s count') cells' [] v)
              ∙ ap (resume I M (waiting depth ∷ [])) (sym (gives I s M depth known l))
              ∙ awaited I s M depth
              ∙ copying.rest I s M depth known l;
        }

    argument_is : (depth : ℕ) → argument text row code depth i ≡ value_template sort (λ q. row_template depth text q) x
    argument_is depth = rw (found.number_is, found.sort_is) refl

    -- A variable is one of the first.
    pub argument_small : {most : ℕ} → Hangs text most row → VariableBelow most x
    argument_small hang = rw found.number_is (argument_below hang i (rw (← copying.code_is, ← copying.arity_is) found.less))

    -- It is no row: it has a value.
    pub copying_value : below ≡ false → {v : ℕ} → HasValue sort x env v → Copying text row env made cells₀ code n cells (set args i v) count (i + 1)
    copying_value t {v} has =
        next v count cells refl
        (λ I s M depth known l.
        ap (λ u. build u I M (with_made s count) cells) (argument_is depth)
        ∙ has.gives M known.count known.holds (argument_small known.hang) (sym found.told ∙ t) (λ q. row_template depth text q) I
        (with_made s count) cells)

    -- It is a row, which is evaluated.
    module _ (t : below ≡ true) where
      is_part : IsPart text row i
      is_part = rw (← found.number_is, ← copying.code_is, ← found.sort_is) (sym found.told ∙ t)

      -- it stands before
      pub part_less : {most : ℕ} → Hangs text most row → x < row
      part_less hang = rw found.number_is (part_before hang i is_part)

      -- and hangs together
      pub part_whole : {most : ℕ} → Hangs text most row → Hangs text most x
      part_whole hang = rw found.number_is (part_hangs hang i is_part)

      module _ {r : ℕ} {cells' : List ℕ} (copies : CopiesRow text x env count cells r cells') where
        part_gives : (I : Input) (s : State) (M : List ℕ) (depth : ℕ) → Evaluated text row env cells₀ I M → row ≤ depth
            → build (argument text row code depth i) I M (with_made s count) cells ≡ row_made s r cells'
        part_gives I s M depth known l =
            let before = part_less known.hang in
            ap (λ u. build u I M (with_made s count) cells)
            (argument_is depth ∙ rows_at sort x (λ q. row_template depth text q) (sym found.told ∙ t))
            ∙ sym (copies.evaluates I s M known.count depth (known.rows_are ∙ ap rows_lent (sym copying.as_many)) known.holds
            (part_whole known.hang) (omega arith))

        -- Its row is one argument more.
        pub copying_row : (r ≡ 0 → ⊥) → length cells' ≡ length cells
            → Copying text row env made cells₀ code n cells' (set args i (r - 1)) r (i + 1)
        copying_row some same =
            next (r - 1) r cells' same (λ I s M depth known l. part_gives I s M depth known l ∙ row_made_lem s r cells' some)

        -- No row is left for it.
        pub copying_stops : r ≡ 0 → CopiesRow text row env made cells₀ 0 cells'
        unfolding resume
        copying_stops none_left =
            answers 0 (omega arith)
            (λ I s M depth known l.
            sym (resume_halt I M (waiting depth ∷ []) _ cells')
            ∙ ap (resume I M (waiting depth ∷ [])) (sym (part_gives I s M depth known l ∙ ap (λ k. row_made s k cells') none_left))
            ∙ awaited I s M depth
            ∙ copying.rest I s M depth known l)

  -- All arguments have their values.
  module _ (stop : n ≤ i) {lent : ℕ} (Lent-is : lent ≡ rows_lent (length cells)) where
    ended : (I : Input) (s : State) (M : List ℕ) (depth : ℕ) → Evaluated text row env cells₀ I M → row ≤ depth
        → cell I code copying.given (with_made s count) cells ≡ build (row_template (suc depth) text row) I M (with_made s made) cells₀
    ended I s M depth known l =
        let none_left : arity code ≤ i = omega (arith, copying.arity_is) in
        sym (makes_cell I M (begun text row code copying.given depth i) (with_made s count) cells (left_none text row code depth i none_left))
        ∙ copying.rest I s M depth known l

    -- No row is left for the row itself.
    pub copying_full : lent ≤ count → CopiesRow text row env made cells₀ 0 cells
    copying_full h =
        answers 0 (omega arith)
        (λ I s M depth known l.
        sym (cell_none I code copying.given (with_made s count) cells (omega (arith, known.rows_are, Lent-is, copying.as_many)))
        ∙ ended I s M depth known l)

    -- There is one.
    pub copying_made : count < lent → {cells' : List ℕ} → cells' ≡ sets cells (count * columns) (code ∷ args)
        → CopiesRow text row env made cells₀ (count + 1) cells'
    copying_made h {cells'} stored =
        answers (count + 1) (omega (arith, Lent-is, copying.as_many))
        (λ I s M depth known l.
        let numbers : code ∷ args ≡ row_numbers code copying.given = ap (◌∷◌ code) copying.stands in
        rw (add-one count) (ap (λ c. done count (with_made s (suc count)) c) (stored ∙ ap (sets cells (count * columns)) numbers))
        ∙ sym (cell_row I code copying.given (with_made s count) cells (omega (arith, known.rows_are, Lent-is, copying.as_many)))
        ∙ ended I s M depth known l)

-- ------------------------------------------------------------------ a text

module _ {text : List ℕ} {sort x : ℕ} {env : List ℕ} {made : ℕ} {cells : List ℕ} {below : Bool} (told : below ≡ is_row_at sort x) where
  -- a text whose value is a row
  module _ (true_is : below ≡ true) {r : ℕ} {cells' : List ℕ} (copies : CopiesRow text x env made cells r cells') where
    text_gives : (I : Input) (s : State) (M : List ℕ) (count depth : ℕ) → I.rows ≡ rows_lent (length cells) → Holds env count M → HangsAt text count sort x
        → (is_row_at sort x ≡ true → x < depth) → row_made s r cells' ≡ build (text_template depth text sort x) I M (with_made s made) cells
    text_gives I s M count depth e holds hang l =
        copies.evaluates I s M count depth e holds (hang.row (sym told ∙ true_is)) (l (sym told ∙ true_is))
        ∙ ap (λ t. build t I M (with_made s made) cells) (sym (rows_at sort x (λ q. row_template depth text q) (sym told ∙ true_is)))

    -- It gives its row.
    pub text_row : (r ≡ 0 → ⊥) → CopiesText text sort x env made cells (Some (r - 1, r)) cells'
    text_row some =
        record {
          evaluates = λ I s M count depth e holds hang l. sym (row_made_lem s r cells' some) ∙ text_gives I s M count depth e holds hang l;
        }

    -- No row is left for it.
    pub text_full : r ≡ 0 → CopiesText text sort x env made cells None cells'
    text_full none_left =
        record {
          evaluates =
              λ I s M count depth e holds hang l. ap (λ k. row_made s k cells') (sym none_left) ∙ text_gives I s M count depth e holds hang l;
        }

  -- Any other gives a value, and makes no cell.
  pub text_value : below ≡ false → {v : ℕ} → HasValue sort x env v → CopiesText text sort x env made cells (Some (v, made)) cells
  text_value false-is has =
      record {
        evaluates =
            λ I s M count depth e holds hang l.
            sym (has.gives M count holds hang.variable (sym told ∙ false-is) (λ q. row_template depth text q) I (with_made s made) cells);
      }
