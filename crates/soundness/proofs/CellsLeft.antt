-- An expansion changes no number of the cells behind the rows that it made, on a refusal too.
use Prim.Native.Nat.{ℕ, zero, suc, ◌+◌, ◌*◌, ◌≤◌}
use mathlib.Core.Path.{◌≡◌, refl, ◌∙◌}
use mathlib.Core.Bool.{Bool, true, false}
use mathlib.Core.List.{List, [], ◌∷◌, ◌++◌}
use native.Mathlib.Omega.{arith}
use lib.Dec.{eqb, ltb}
use lib.ListN.{length, get_or, set}
use lib.Seq.{sets, length-sets, get_or-set_other}
use Rattle.answers.specs.Refusals.{refusal}
use Rattle.kinds.specs.Kinds.{only}
use Rattle.grammar.specs.Table.{Template, Templates, none, more, Item}
use Rattle.grammar.specs.Table as Table
use Rattle.terms.specs.Cells.{columns}
use Rattle.expansion.specs.declared.State.{State}
use Rattle.expansion.specs.Run.{Result, done, halt, Run, after}
use Rattle.expansion.specs.Expansion.{Input, next_token, token_taken, take_token, misfit, cell, build, build_all, run_item}
use Rattle.expansion.specs.Expansion.{run_items, call_begun, run_call, initial_state, ended, run}
use Rattle.expansion.specs.Limits.{most_open}
use Rattle.expansion.specs.TextTokens.{read_value}
use Rattle.expansion.proofs.AsBefore.{terminal_by}
use Rattle.expansion.proofs.CellLaws.{with_row, Row, cell_by}
use Rattle.expansion.proofs.CallLaws.{inner, inner_rows, call_by}
use Rattle.soundness.specs.Stopping.{Left}

-- Cells that were not touched are left.
pub left_not : (made : ℕ) (cells : List ℕ) → Left made cells cells
left_not made cells = record { as_many = refl; same = λ j h. refl }

-- What is left after one run and then after another is left after both.
pub left_trans : {made later : ℕ} {cells cells' cells'' : List ℕ} → made ≤ later → Left made cells cells' → Left later cells' cells'' → Left later cells cells''
left_trans l h k = record { as_many = k.as_many ∙ h.as_many; same = λ j b. k.same j b ∙ h.same j (omega arith) }

-- What a run leaves that had made m rows: the rows made by then are no more than there are.
abbrev pub Leaves : {A : Type 0} → ℕ → ℕ → List ℕ → Result A → Type 0
Leaves rows m cells (done a s cells') = (m ≤ s.made) × (s.made ≤ rows) × Left s.made cells cells'
Leaves rows m cells (halt r cells') = (n : ℕ) × (m ≤ n) × (n ≤ rows) × Left n cells cells'

leaves_after : {A B : Type 0} (rows made : ℕ) (cells : List ℕ) (result : Result A) (then_run : A → Run B) → Leaves rows made cells result
    → ((item : A) (state : State) (cells' : List ℕ) → state.made ≤ rows → Leaves rows state.made cells' (then_run item state cells'))
    → Leaves rows made cells (after result then_run)
leaves_after rows made cells (halt r cells') then_run h f = h
leaves_after {B = B} rows made cells (done a s cells') then_run h f = go (then_run a s cells') (f a s cells' h.1)
  where
    go : (result : Result B) → Leaves rows s.made cells' result → Leaves rows made cells result
    go (done b s'' cells'') q = (omega (arith, h.0, q.0), q.1, left_trans q.0 h.2 q.2)
    go (halt r cells'') q = (q.0, omega (arith, h.0, q.1), q.2, left_trans q.1 h.2 q.3)

-- ------------------------------------------------------------------ one row

sets_other : (vs room : List ℕ) (place other : ℕ) → place + length vs ≤ other → get_or (sets room place vs) other 0 ≡ get_or room other 0
sets_other [] room place other h = refl
sets_other (v ∷ vs) room place other h =
    sets_other vs (set room place v) (suc place) other (omega arith) ∙ get_or-set_other room place other v 0 (λ e. omega (arith, e))

row_left : (made : ℕ) (cells : List ℕ) {code : ℕ} {xs numbers : List ℕ} → Row code xs numbers → Left (made + 1) cells (with_row cells made numbers)
row_left made cells {numbers = numbers} row =
    record {
      as_many = length-sets cells (made * columns) numbers;
      same = λ j h. sets_other numbers cells (made * columns) j (omega (arith, row.as_many));
    }

-- ------------------------------------------------------------------ templates, items, calls

module _ (rows : ℕ) where
  abbrev Leaving : {A : Type 0} → Run A → Type 0
  Leaving m = (s : State) (cells : List ℕ) → s.made ≤ rows → Leaves rows s.made cells (m s cells)

  stays : (state state' : State) (cells : List ℕ) → state'.made ≡ state.made → state.made ≤ rows
      → (state.made ≤ state'.made) × (state'.made ≤ rows) × Left state'.made cells cells
  stays state state' cells e h = (omega arith, omega arith, left_not state'.made cells)

  -- what reads so many rows
  module _ (input : Input) (rows_are : input.rows ≡ rows) where
    cell_leaves : (code : ℕ) (xs : List ℕ) → Leaving (cell input code xs)
    cell_leaves code xs s cells h =
        cell_by input code xs s cells (λ x. Leaves rows s.made cells x)
        (λ numbers row l. (omega arith, omega (arith, rows_are), row_left s.made cells row))
        (λ l. (s.made, omega arith, h, left_not s.made cells))

    take_leaves : (kind : ℕ) (value : ℕ → ℕ) → Leaving (take_token input kind value)
    take_leaves kind value s cells h = go (eqb (next_token input s).kind kind)
      where
        go : (test : Bool)
            → Leaves {A = ℕ} rows s.made cells
            (elim test as (λ x. Result ℕ) [ true ↦ done (value (next_token input s).value) (token_taken s) cells | false ↦ misfit (only kind) s cells ])
        go true = stays s (token_taken s) cells refl h
        go false = (s.made, omega arith, h, left_not s.made cells)

    mutual
      unfolding build build_all

      -- a template leaves the cells behind the rows that it made,
      pub build_leaves : (template : Template) (values : List ℕ) → Leaving (build template input values)
      build_leaves (Table.variable i) values s cells h = stays s s cells refl h
      build_leaves (Table.outside_var n) values s cells h = stays s s cells refl h
      build_leaves (Table.outside_label n) values s cells h = stays s s cells refl h
      build_leaves Table.unit values s cells h = stays s s cells refl h
      build_leaves (Table.make c ts) values s cells h =
          leaves_after rows s.made cells (build_all ts input values s cells) (λ vs. cell input c vs) (build_all_leaves ts values s cells h)
          (λ vs s' cells' l. cell_leaves c vs s' cells' l)

      -- and so do templates,
      pub build_all_leaves : (ts : Templates) (values : List ℕ) → Leaving (build_all ts input values)
      build_all_leaves none values s cells h = stays s s cells refl h
      build_all_leaves (more t ts) values s cells h =
          leaves_after rows s.made cells (build t input values s cells) _ (build_leaves t values s cells h)
          (λ v s' cells' l.
          leaves_after rows s'.made cells' (build_all ts input values s' cells') _ (build_all_leaves ts values s' cells' l)
          (λ vs s'' cells'' m. stays s'' s'' cells'' refl m))

    module _ (callee : ℕ → List ℕ → Run ℕ) (calls : (nonterminal : ℕ) (vs : List ℕ) → Leaving (callee nonterminal vs)) where
      -- an item,
      pub item_leaves : (item : Item) (values : List ℕ) → Leaving (run_item callee input item values)
      item_leaves (Table.terminal t) values s cells h =
          terminal_by input t s cells (λ x. Leaves rows s.made cells x) (λ value. stays s (token_taken s) cells refl h)
          (take_leaves (Table.kind_of t) (read_value t) s cells h)
      item_leaves Table.local values s cells h = stays s (record { at = s.at; fresh = s.fresh + 1; calls = s.calls; made = s.made }) cells refl h
      item_leaves (Table.call n ts) values s cells h =
          leaves_after rows s.made cells (build_all ts input values s cells) (λ vs. callee n vs) (build_all_leaves ts values s cells h)
          (λ vs s' cells' l. calls n vs s' cells' l)

      -- items,
      pub items_leave : (is : List Item) (values : List ℕ) → Leaving (run_items callee input is values)
      unfolding run_items
      items_leave [] values s cells h = stays s s cells refl h
      items_leave (i ∷ is) values s cells h =
          leaves_after rows s.made cells (run_item callee input i values s cells) (λ v. run_items callee input is (values ++ (v ∷ [])))
          (item_leaves i values s cells h)
          (λ v s' cells' l. items_leave is (values ++ (v ∷ [])) s' cells' l)

  module _ (input : Input) (rows_are : input.rows ≡ rows) where
    -- and a call.
    pub call_leaves : (depth nonterminal : ℕ) (vs : List ℕ) → Leaving (run_call depth input nonterminal vs)
    unfolding run_call
    call_leaves zero nonterminal vs s cells h = (s.made, omega arith, h, left_not s.made cells)
    call_leaves (suc depth) nonterminal vs s cells h =
        call_by depth input nonterminal vs s cells (λ x. Leaves rows s.made cells x) (s.made, omega arith, h, left_not s.made cells)
        (s.made, omega arith, h, left_not s.made cells)
        (λ r.
        leaves_after rows s.made cells (run_items (run_call depth input) (inner input s) r.items vs (call_begun s) cells)
        (λ M. build r.result (inner input s) M)
        (items_leave (inner input s) (inner_rows input s ∙ rows_are) (run_call depth input) (call_leaves depth) r.items vs (call_begun s) cells h)
        (λ M s' cells' l. build_leaves (inner input s) (inner_rows input s ∙ rows_are) r.result M s' cells' l))

    -- The run of a formula leaves the cells behind the rows that it made.
    pub run_leaves : (root : ℕ) (cells : List ℕ) → Leaves rows 0 cells (run input root cells)
    unfolding run
    run_leaves root cells =
        leaves_after rows initial_state.made cells (run_call most_open input root [] initial_state cells) (ended input)
        (call_leaves most_open root [] initial_state cells (omega arith))
        (λ v s cells' l. go v s cells' l (ltb s.at (length input.tokens)))
      where
        go : (row : ℕ) (state : State) (cells' : List ℕ) → state.made ≤ rows → (test : Bool)
            → Leaves {A = ℕ} rows state.made cells'
            (elim test as (λ x. Result ℕ) [ true ↦ halt (refusal 18 state.at 0 0) cells' | false ↦ done row state cells' ])
        go row state cells' l true = (state.made, omega arith, l, left_not state.made cells')
        go row state cells' l false = stays state state cells' refl l
