-- A run that does not end in 21 ends the same way with more rows lent, whatever the cells held before: the same value, state and rows, or the same refusal.
-- So a text may be read in a small room first, and in the large one only if 21 was met: what it gives is then the same (`reading_alike`).
use Prim.Native.Nat.{ℕ, zero, suc, ◌+◌, ◌*◌, ◌≤◌, ◌<◌}
use mathlib.Core.Path.{◌≡◌, refl, sym, ap, ap₂, subst, subst₂, ◌∙◌, fun_ext}
use mathlib.Core.Bool.{Bool, true, false}
use mathlib.Core.List.{List, [], ◌∷◌, ◌++◌}
use native.Mathlib.Decide.{dec_lt, ℕ_discrete}
use native.Mathlib.Omega.{arith}
use lib.Dec.{eqb, ltb}
use lib.ListN.{length, get_or, set, replicate, length-set, length-replicate, get_or-replicate, get_or-eq_default}
use lib.Seq.{sets, length-sets, get_or-set_same, get_or-set_other}
use Rattle.answers.specs.declared.Refusal.{Refusal}
use Rattle.answers.specs.Refusals.{refusal}
use Rattle.kinds.specs.Kinds.{only}
use Rattle.grammar.specs.Sorts.{constructor}
use Rattle.grammar.specs.Table.{Template, Templates, variable, outside_var, outside_label, make, unit, none, more, Terminal, kind_of, Item, terminal, local, call}
use Rattle.terms.specs.Cells.{columns, column, row_numbers}
use Rattle.tokens.specs.declared.Token.{Token}
use Rattle.expansion.specs.declared.State.{State}
use Rattle.expansion.specs.Run.{Result, done, halt, Run, after}
use Rattle.expansion.specs.Limits.{most_calls, most_open}
use Rattle.expansion.specs.TextTokens.{read_value, meets, text_value}
use Rattle.expansion.specs.Expansion.{Grammar, Input, Choice, unfit, chosen, choice, next_token, token_taken, misfit, take_token, take_terminal}
use Rattle.expansion.specs.Expansion.{cell, build, build_all, run_item, run_items, call_begun, run_call, initial_state, ended, run}
use Rattle.expansion.proofs.CellLaws.{with_row, row_numbers_lem, cell_row, cell_none}
use Rattle.expansion.proofs.CallLaws.{inner, inner_grammar, inner_tokens, inner_rows, call_full, call_unfit, call_chosen}
use Rattle.expansion.proofs.Shows.{Agree}
use Rattle.copying.specs.RowTemplates.{value_template, column_templates, row_template, text_template}
use Rattle.texts.specs.Reading.{reading, reading_of}

-- ------------------------------------------------------------------ one row in two rooms

-- a number written into both rooms is the same in both, and one that was the same stays so
set_same : (at v : ℕ) (cells cells' : List ℕ) → at < length cells → at < length cells' → (spot : ℕ) → ((spot ≡ at → ⊥) → get_or cells' spot 0 ≡ get_or cells spot 0)
    → get_or (set cells' at v) spot 0 ≡ get_or (set cells at v) spot 0
set_same at v cells cells' l l' spot h = by (ℕ_discrete spot at)
  where
    by : Dec (spot ≡ at) → get_or (set cells' at v) spot 0 ≡ get_or (set cells at v) spot 0
    by (yes e) = rw e (get_or-set_same cells' at v 0 l' ∙ sym (get_or-set_same cells at v 0 l))
    by (no e) = get_or-set_other cells' at spot v 0 e ∙ h e ∙ sym (get_or-set_other cells at spot v 0 e)

-- so it is with numbers from a place on
sets_same : (vs : List ℕ) (at : ℕ) (cells cells' : List ℕ) → at + length vs ≤ length cells → at + length vs ≤ length cells' → (spot : ℕ)
    → (((at ≤ spot) × (spot < at + length vs) → ⊥) → get_or cells' spot 0 ≡ get_or cells spot 0) → get_or (sets cells' at vs) spot 0 ≡ get_or (sets cells at vs) spot 0
sets_same [] at cells cells' l l' spot h = h (λ b. omega (arith, b.0, b.1))
sets_same (v ∷ vs) at cells cells' l l' spot h =
    sets_same vs (suc at) (set cells at v) (set cells' at v) (omega (arith, length-set cells at v)) (omega (arith, length-set cells' at v)) spot
    (λ outside.
    set_same at v cells cells' (omega arith) (omega arith) spot (λ e. h (λ b. outside (omega (arith, b.0, b.1, e), omega (arith, b.1)))))

module _ (made : ℕ) (numbers cells cells' : List ℕ) (as_many : length numbers ≡ columns) (room : made * columns + columns ≤ length cells)
    (room' : made * columns + columns ≤ length cells') where
  -- one row more that both rooms have
  row_alike : Agree made cells cells' → Agree (made + 1) (with_row cells made numbers) (with_row cells' made numbers)
  row_alike h =
      record {
        same = λ spot b.
            sets_same numbers (made * columns) cells cells' (omega (arith, as_many)) (omega (arith, as_many)) spot
            (λ outside. h.same spot (below spot b outside));
      }
    where
      below : (spot : ℕ) → spot < (made + 1) * columns → ((made * columns ≤ spot) × (spot < made * columns + length numbers) → ⊥) → spot < made * columns
      below spot b outside = by (dec_lt spot (made * columns))
        where
          by : Dec (spot < made * columns) → spot < made * columns
          by (yes l) = l
          by (no l) = absurd (outside (omega arith, omega (arith, as_many)))

  -- a number that was the same stays so
  row_same : (spot : ℕ) → get_or cells' spot 0 ≡ get_or cells spot 0 → get_or (with_row cells' made numbers) spot 0 ≡ get_or (with_row cells made numbers) spot 0
  row_same spot e = sets_same numbers (made * columns) cells cells' (omega (arith, as_many)) (omega (arith, as_many)) spot (λ outside. e)

-- ------------------------------------------------------------------ what is read off rows

zeros : (count spot : ℕ) → get_or {A = ℕ} (replicate count 0) spot 0 ≡ 0
zeros count spot = by (dec_lt spot count)
  where
    by : Dec (spot < count) → get_or {A = ℕ} (replicate count 0) spot 0 ≡ 0
    by (yes l) = get_or-replicate {A = ℕ} count spot 0 0 l
    by (no l) = get_or-eq_default {A = ℕ} (replicate count 0) 0 {n = spot} (omega (arith, length-replicate {A = ℕ} count 0))

module _ (cells cells' : List ℕ) (same : (spot : ℕ) → get_or cells' spot 0 ≡ get_or cells spot 0) where
  columns_same : (sorts : List ℕ) (rows : ℕ → Template) (row k : ℕ) → column_templates sorts rows cells' row k ≡ column_templates sorts rows cells row k
  unfolding column_templates
  columns_same [] rows row k = refl
  columns_same (sort ∷ sorts) rows row k =
      ap₂ more (ap (value_template sort rows) (same (row * columns + k))) (columns_same sorts rows row (k + 1))

  row_template_same : (depth row : ℕ) → row_template depth cells' row ≡ row_template depth cells row
  unfolding row_template
  row_template_same zero row = refl
  row_template_same (suc depth) row =
      let rest : ◌≡◌ {A = ℕ → Template} (λ q. row_template depth cells' q) (λ q. row_template depth cells q) = fun_ext (row_template_same depth) in
      ap (λ code. make code (column_templates (constructor code).params (λ q. row_template depth cells' q) cells' row 1)) (same (row * columns + 0))
      ∙ ap (λ f. make (column cells row 0) (column_templates (constructor (column cells row 0)).params f cells' row 1)) rest
      ∙ ap (make (column cells row 0)) (columns_same (constructor (column cells row 0)).params (λ q. row_template depth cells q) row 1)

  template_same : (made sort x : ℕ) → text_template made cells' sort x ≡ text_template made cells sort x
  template_same made sort x = ap (λ f. value_template sort f x) (fun_ext (row_template_same made))

-- ------------------------------------------------------------------ two runs

-- P has places at which both rooms hold the same from the beginning: none of them, or all if both are zeroed
module _ (P : ℕ → Type 0) (rows rows' : ℕ) (fewer : rows ≤ rows') where
  -- two rooms, with the same rows made
  pub record Rooms (made : ℕ) (cells cells' : List ℕ) : Type 0 where
    -- the smaller one holds its rows
    pub room : rows * columns ≤ length cells
    -- so does the larger one
    pub room' : rows' * columns ≤ length cells'
    -- the rows made are the same
    pub agree : Agree made cells cells'
    -- and so is what was the same from the beginning
    pub kept : (spot : ℕ) → P spot → get_or cells' spot 0 ≡ get_or cells spot 0

  -- how two runs end: alike, or the one with fewer rows in 21
  pub data Alikes {A : Type 0} : Result A → Result A → Type 0 where
    both_done : {a : A} {s : State} {cells cells' : List ℕ} → Rooms s.made cells cells' → Alikes (done a s cells) (done a s cells')
    both_halt : {r : Refusal} {cells cells' : List ℕ} → Alikes (halt r cells) (halt r cells')
    too_few : {r : Refusal} {cells : List ℕ} {other : Result A} → r.number ≡ 21 → Alikes (halt r cells) other

  abbrev Widens : {A : Type 0} → Run A → Run A → Type 0
  Widens m m' = (s : State) (cells cells' : List ℕ) → Rooms s.made cells cells' → Alikes (m s cells) (m' s cells')

  after_alike : {A B : Type 0} {result result' : Result A} (k k' : A → Run B) → Alikes result result' → ((a : A) → Widens (k a) (k' a))
      → Alikes (after result k) (after result' k')
  after_alike k k' (both_done {a = a} {s = s} {cells = cells} {cells' = cells'} h) f = f a s cells cells' h
  after_alike k k' both_halt f = both_halt
  after_alike k k' (too_few e) f = too_few e

  -- the same grammar and tokens, with fewer rows and with more
  record Wider (lent lent' : Input) : Type 0 where
    -- the grammar is the same
    grammar_is : lent'.grammar ≡ lent.grammar
    -- the tokens are the same
    tokens_are : lent'.tokens ≡ lent.tokens
    -- the one has the fewer rows
    rows_are : lent.rows ≡ rows
    -- the other the more
    rows'_are : lent'.rows ≡ rows'

  wider_inner : {lent lent' : Input} → Wider lent lent' → (s : State) → Wider (inner lent s) (inner lent' s)
  wider_inner {lent} {lent'} w s =
      record {
        grammar_is = inner_grammar lent' s ∙ w.grammar_is ∙ sym (inner_grammar lent s);
        tokens_are = inner_tokens lent' s ∙ w.tokens_are ∙ sym (inner_tokens lent s);
        rows_are = inner_rows lent s ∙ w.rows_are;
        rows'_are = inner_rows lent' s ∙ w.rows'_are;
      }

  -- a token taken in two rooms
  take_alike : (lent : Input) (kind : ℕ) (value : ℕ → ℕ) → Widens (take_token lent kind value) (take_token lent kind value)
  take_alike lent kind value s cells cells' h = go (eqb (next_token lent s).kind kind)
    where
      go : (test : Bool)
          → Alikes {A = ℕ}
          (elim test as (λ x. Result ℕ) [ true ↦ done (value (next_token lent s).value) (token_taken s) cells | false ↦ misfit (only kind) s cells ])
          (elim test as (λ x. Result ℕ) [ true ↦ done (value (next_token lent s).value) (token_taken s) cells' | false ↦ misfit (only kind) s cells' ])
      go true = both_done h
      go false = both_halt

  terminal_alike : (lent : Input) (t : Terminal) → Widens (take_terminal lent t) (take_terminal lent t)
  terminal_alike lent t s cells cells' h = go (meets t (next_token lent s))
    where
      go : (test : Bool)
          → Alikes {A = ℕ}
          (elim test as (λ x. Result ℕ) [
            | true ↦ done (text_value t (next_token lent s)) (token_taken s) cells
            | false ↦ take_token lent (kind_of t) (read_value t) s cells
          ])
          (elim test as (λ x. Result ℕ) [
            | true ↦ done (text_value t (next_token lent s)) (token_taken s) cells'
            | false ↦ take_token lent (kind_of t) (read_value t) s cells'
          ])
      go true = both_done h
      go false = take_alike lent (kind_of t) (read_value t) s cells cells' h

  module _ {lent lent' : Input} (wider : Wider lent lent') where
    -- ---------------------------------------------------------------- templates

    cell_alike : (code : ℕ) (xs : List ℕ) → Widens (cell lent code xs) (cell lent' code xs)
    cell_alike code xs s cells cells' h = by (dec_lt s.made rows)
      where
        grown : s.made < rows → Rooms (s.made + 1) (with_row cells s.made (row_numbers code xs)) (with_row cells' s.made (row_numbers code xs))
        grown l =
            let many = (row_numbers_lem code xs).as_many in
            record {
              room = omega (arith, h.room, length-sets cells (s.made * columns) (row_numbers code xs));
              room' = omega (arith, h.room', length-sets cells' (s.made * columns) (row_numbers code xs));
              agree = row_alike s.made (row_numbers code xs) cells cells' many (omega (arith, h.room)) (omega (arith, h.room')) h.agree;
              kept = λ spot q.
                  row_same s.made (row_numbers code xs) cells cells' many (omega (arith, h.room)) (omega (arith, h.room')) spot (h.kept spot q);
            }

        by : Dec (s.made < rows) → Alikes (cell lent code xs s cells) (cell lent' code xs s cells')
        by (yes l) =
            subst₂ Alikes (sym (cell_row lent code xs s cells (omega (arith, wider.rows_are))))
            (sym (cell_row lent' code xs s cells' (omega (arith, wider.rows'_are)))) (both_done (grown l))
        by (no l) =
            subst (λ r. Alikes r (cell lent' code xs s cells')) (sym (cell_none lent code xs s cells (omega (arith, wider.rows_are)))) (too_few refl)

    mutual
      unfolding build build_all

      build_alike : (t : Template) (M : List ℕ) → Widens (build t lent M) (build t lent' M)
      build_alike (variable i) M s cells cells' h = both_done h
      build_alike (outside_var n) M s cells cells' h = both_done h
      build_alike (outside_label n) M s cells cells' h = both_done h
      build_alike unit M s cells cells' h = both_done h
      build_alike (make c ts) M s cells cells' h = after_alike _ _ (all_alike ts M s cells cells' h) (λ vs. cell_alike c vs)

      all_alike : (ts : Templates) (M : List ℕ) → Widens (build_all ts lent M) (build_all ts lent' M)
      all_alike none M s cells cells' h = both_done h
      all_alike (more t ts) M s cells cells' h =
          after_alike _ _ (build_alike t M s cells cells' h)
          (λ v s₁ c₁ c₁' k. after_alike _ _ (all_alike ts M s₁ c₁ c₁' k) (λ vs s₂ c₂ c₂' l. both_done l))

    -- ---------------------------------------------------------------- items

    module _ (C C' : ℕ → List ℕ → Run ℕ) (callee : (n : ℕ) (vs : List ℕ) → Widens (C n vs) (C' n vs)) where
      item_alike : (item : Item) (M : List ℕ) → Widens (run_item C lent item M) (run_item C' lent' item M)
      item_alike (terminal t) M s cells cells' h = rw wider.tokens_are (terminal_alike lent t s cells cells' h)
      item_alike local M s cells cells' h = both_done (record { room = h.room; room' = h.room'; agree = h.agree; kept = h.kept })
      item_alike (call n ts) M s cells cells' h = after_alike _ _ (all_alike ts M s cells cells' h) (λ vs. callee n vs)

      items_alike : (is : List Item) (M : List ℕ) → Widens (run_items C lent is M) (run_items C' lent' is M)
      unfolding run_items
      items_alike [] M s cells cells' h = both_done h
      items_alike (i ∷ is) M s cells cells' h = after_alike _ _ (item_alike i M s cells cells' h) (λ v. items_alike is (M ++ (v ∷ [])))

  -- ---------------------------------------------------------------- calls

  call_alike : (depth : ℕ) {lent lent' : Input} → Wider lent lent' → (n : ℕ) (vs : List ℕ) → Widens (run_call depth lent n vs) (run_call depth lent' n vs)
  unfolding run_call
  call_alike zero wider n vs s cells cells' h = both_halt
  call_alike (suc depth) {lent} {lent'} wider n vs s cells cells' h =
      go (call_alike depth wider) (ltb s.calls most_calls) refl (choice lent.grammar n (next_token lent s).kind) refl
    where
      same_choice : choice lent'.grammar n (next_token lent' s).kind ≡ choice lent.grammar n (next_token lent s).kind
      same_choice = rw (wider.grammar_is, wider.tokens_are) refl

      go : ((m : ℕ) (ws : List ℕ) → Widens (run_call depth lent m ws) (run_call depth lent' m ws)) → (test : Bool) → ltb s.calls most_calls ≡ test
          → (picked : Choice) → choice lent.grammar n (next_token lent s).kind ≡ picked
          → Alikes (run_call (suc depth) lent n vs s cells) (run_call (suc depth) lent' n vs s cells')
      go f false e picked q = subst₂ Alikes (sym (call_full depth lent n vs s cells e)) (sym (call_full depth lent' n vs s cells' e)) both_halt
      go f true e unfit q =
          subst₂ Alikes (sym (call_unfit depth lent n vs s cells e q)) (sym (call_unfit depth lent' n vs s cells' e (same_choice ∙ q)))
          (rw wider.grammar_is both_halt)
      go f true e (chosen r) q =
          let within = wider_inner wider s in
          subst₂ Alikes (sym (call_chosen depth lent n vs s cells r e q)) (sym (call_chosen depth lent' n vs s cells' r e (same_choice ∙ q)))
          (after_alike _ _
          (items_alike within (run_call depth lent) (run_call depth lent') f r.items vs (call_begun s) cells cells'
          (record { room = h.room; room' = h.room'; agree = h.agree; kept = h.kept }))
          (λ M. build_alike within r.result M))

  -- ---------------------------------------------------------------- the whole run

  module _ (grammar : Grammar) (tokens : List Token) where
    -- the same input, with fewer rows and with more
    abbrev small : Input
    small = record { grammar = grammar; tokens = tokens; rows = rows }

    abbrev large : Input
    large = record { grammar = grammar; tokens = tokens; rows = rows' }

    both_inputs : Wider small large
    both_inputs = record { grammar_is = refl; tokens_are = refl; rows_are = refl; rows'_are = refl }

    ended_alike : (v : ℕ) → Widens (ended small v) (ended large v)
    ended_alike v s cells cells' h = go (ltb s.at (length tokens))
      where
        go : (test : Bool)
            → Alikes {A = ℕ} (elim test as (λ x. Result ℕ) [ true ↦ halt (refusal 18 s.at 0 0) cells | false ↦ done v s cells ])
            (elim test as (λ x. Result ℕ) [ true ↦ halt (refusal 18 s.at 0 0) cells' | false ↦ done v s cells' ])
        go true = both_halt
        go false = both_done h

    -- Two runs of the same tokens in two rooms end alike, unless the smaller room is full (21).
    pub run_alike : (root : ℕ) (cells cells' : List ℕ) → rows * columns ≤ length cells → rows' * columns ≤ length cells'
        → ((spot : ℕ) → P spot → get_or cells' spot 0 ≡ get_or cells spot 0) → Alikes (run small root cells) (run large root cells')
    unfolding run
    run_alike root cells cells' l l' same =
        after_alike _ _
        (call_alike most_open both_inputs root [] initial_state cells cells'
        (record { room = l; room' = l'; agree = record { same = λ spot b. absurd (omega arith) }; kept = same }))
        (λ v. ended_alike v)

module _ (grammar : Grammar) (tokens : List Token) (rows rows' : ℕ) (fewer : rows ≤ rows') (root : ℕ) where
  -- ---------------------------------------------------------------- any cells

  module _ (cells cells' : List ℕ) (room : rows * columns ≤ length cells) (room' : rows' * columns ≤ length cells') where
    abbrev small_run : Result ℕ
    small_run = run (record { grammar = grammar; tokens = tokens; rows = rows }) root cells

    abbrev large_run : Result ℕ
    large_run = run (record { grammar = grammar; tokens = tokens; rows = rows' }) root cells'

    abbrev Nowhere : ℕ → Type 0
    Nowhere spot = ⊥

    ends_alike : Alikes Nowhere rows rows' fewer small_run large_run
    ends_alike = run_alike Nowhere rows rows' fewer grammar tokens root cells cells' room room' (λ spot q. absurd q)

    -- What a run that is done has in the larger room.
    pub record Again (x : ℕ) (s : State) (Made-Cells : List ℕ) : Type 0 where
      -- the cells then
      pub left : List ℕ
      -- it is done with the same value and state
      pub is : large_run ≡ done x s left
      -- and with the same rows
      pub agree : Agree s.made Made-Cells left

    -- A run that is done is done with more rows, with the same value, state and rows made.
    pub more_rows_done : {x : ℕ} {s : State} {Made-Cells : List ℕ} → small_run ≡ done x s Made-Cells → Again x s Made-Cells
    more_rows_done {x = x} {s = s} {Made-Cells = d} e =
        by large_run refl (subst (λ y. Alikes Nowhere rows rows' fewer y large_run) e ends_alike)
      where
        by : (other : Result ℕ) → large_run ≡ other → Alikes Nowhere rows rows' fewer (done x s d) other → Again x s d
        by _ q (both_done {cells' = d'} h) = record { left = d'; is = q; agree = h.agree }

    -- A run that is refused, but not with 21, is refused so with more rows.
    pub more_rows_halt : {r : Refusal} {Made-Cells : List ℕ} → small_run ≡ halt r Made-Cells → (r.number ≡ 21 → ⊥)
        → (left : List ℕ) × (large_run ≡ halt r left)
    more_rows_halt {r = r} {Made-Cells = d} e no-21 =
        by large_run refl (subst (λ y. Alikes Nowhere rows rows' fewer y large_run) e ends_alike)
      where
        by : (other : Result ℕ) → large_run ≡ other → Alikes Nowhere rows rows' fewer (halt r d) other → (left : List ℕ) × (large_run ≡ halt r left)
        by _ q (both_halt {cells' = d'}) = (d', q)
        by _ q (too_few f) = absurd (no-21 f)

  -- ---------------------------------------------------------------- zeroed rooms

  abbrev small_text : Result ℕ
  small_text = run (record { grammar = grammar; tokens = tokens; rows = rows }) root (replicate (rows * columns) 0)

  abbrev large_text : Result ℕ
  large_text = run (record { grammar = grammar; tokens = tokens; rows = rows' }) root (replicate (rows' * columns) 0)

  abbrev Everywhere : ℕ → Type 0
  Everywhere spot = Unit {0}

  -- In zeroed rooms, what a text gives at a sort is the same with more rows, unless 21 is met.
  pub reading_alike : (sort : ℕ) → ((r : Refusal) (cells : List ℕ) → small_text ≡ halt r cells → r.number ≡ 21 → ⊥)
      → reading_of sort large_text ≡ reading_of sort small_text
  reading_alike sort no-21 =
      by small_text large_text refl
      (run_alike Everywhere rows rows' fewer grammar tokens root (replicate (rows * columns) 0) (replicate (rows' * columns) 0)
      (omega (arith, length-replicate {A = ℕ} (rows * columns) 0)) (omega (arith, length-replicate {A = ℕ} (rows' * columns) 0))
      (λ spot q. zeros (rows' * columns) spot ∙ sym (zeros (rows * columns) spot)))
    where
      by : (one other : Result ℕ) → small_text ≡ one → Alikes Everywhere rows rows' fewer one other → reading_of sort other ≡ reading_of sort one
      by _ _ e (both_done {a = a} {s = s} {cells = c} {cells' = c'} h) =
          ap (λ t. reading (record { template = t; made = s.made; is_fresh = ltb 1 s.fresh }))
          (template_same c c' (λ spot. h.kept spot tt) s.made sort a)
      by _ _ e both_halt = refl
      by _ _ e (too_few {r = r} {cells = c} f) = absurd (no-21 r c e f)
