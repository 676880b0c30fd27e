-- An expansion that stops by the rules halts with the same refusal.
use Prim.Native.Nat.{ℕ, zero, suc, ◌+◌, ◌*◌, ◌≤◌, ◌<◌}
use mathlib.Core.Path.{◌≡◌, refl, sym, ap, ◌∙◌}
use mathlib.Core.Bool.{Bool, true, false, true≢false}
use mathlib.Core.List.{List, [], ◌∷◌, ◌++◌}
use native.Mathlib.Omega.{arith}
use lib.Dec.{ltb}
use lib.ListN.{length, drop, length-drop}
use lib.Count.{ones}
use borrow.Author.Tests.{lt-ltb, le-ltb}
use Rattle.answers.specs.declared.Refusal.{Refusal}
use Rattle.answers.specs.Refusals.{refusal}
use Rattle.kinds.specs.Kinds.{only}
use Rattle.kinds.specs.TextKinds.{variable_kind}
use Rattle.grammar.specs.Sorts as Sorts
use Rattle.grammar.specs.Table.{Template, Templates, make, none, Terminal, kind_of, Item, terminal, call}
use Rattle.grammar.specs.Table as Table
use Rattle.decoding.specs.Within.{Each, each_more, ItemWithin, call_within}
use Rattle.judgements.specs.Judgements.{Fill, Body, by_binding}
use Rattle.judgements.specs.Judgements as Judgements
use Rattle.tokens.specs.declared.Token.{Token}
use Rattle.productions.specs.Normal.{Production}
use Rattle.firsts.specs.Rules.{Reads, reads}
use Rattle.expansion.specs.declared.State.{State}
use Rattle.expansion.specs.Run.{Result, done, halt, Run, after}
use Rattle.expansion.specs.Expansion.{Input, ready_for, ready, choice, next_token, build_all, build, run_item, run_items, call_begun, run_call, initial_state, ended}
use Rattle.expansion.specs.Expansion.{run}
use Rattle.expansion.specs.Limits.{most_calls, most_open}
use Rattle.expansion.specs.Expansion as Expansion
use Rattle.expansion.specs.Figure3.{Value, Gives, GiveAll, Taken, Derives}
use Rattle.expansion.specs.Costs.{rows_of, rows_of_all, open_in, calls_in, rows_in, Affords}
use Rattle.expansion.specs.Parsing.{input}
use Rattle.expansion.proofs.Shows.{ShowAll, show_none}
use Rattle.soundness.proofs.Setting.{Setting, Provides, provides_whole, provides_inner, choice_is, picks_at, item_body, root_body, root_within}
use Rattle.expansion.proofs.Endings.{Ends, ends_both, Full}
use Rattle.soundness.proofs.Building.{Built, BuiltAll, build_ends, build_all_ends}
use Rattle.soundness.proofs.Typing.{FitAll, taken_of, result_sorted}
use Rattle.expansion.proofs.CallLaws.{inner, Ran, call_full, call_unfit, call_chosen}
use Rattle.expansion.proofs.Choosing.{next_kind, Picks, picks, picks_none, rule, taken_one}
use Rattle.soundness.proofs.Sound.{Kept, kept_made, kept_less}
use Rattle.soundness.proofs.Complete.{Beyond, items_along, Reached, root_along}
use Rattle.soundness.proofs.Complete as Complete
use Rattle.soundness.specs.Stopping.{Left, next_index, takes, makes, begins, Fails, no_token, no_row, too_deep, too_many_calls, no_choice, Stops, at_token}
use Rattle.soundness.specs.Stopping.{at_place, at_arguments, at_call, past_item, CallStops, at-start, in_items, at_result, Refuses, stops, left_over}
use Rattle.soundness.proofs.CellsLeft.{left_not, left_trans, Leaves, build_leaves, build_all_leaves, item_leaves, items_leave, call_leaves}
use Rattle.soundness.proofs.StopLaws.{first_set_one, build_stays, build_all_stays, index_is, take_halts, place_halts, item_bounded, items_bounded, call_bounded}
use Rattle.terms.specs.Cells.{columns}

-- a run halted with this refusal that had made `first` cells and then `total`, and left the others
pub record HaltsWith {A : Type 0} (total first : ℕ) (cells : List ℕ) (cause : Refusal) (result : Result A) : Type 0 where
  -- the cells at exit
  pub cells' : List ℕ
  -- with the refusal they are the result
  pub is : result ≡ halt cause cells'
  -- no cell is unmade
  pub grows : first ≤ total
  -- the others are as they were
  pub left : Left total cells cells'

-- no cell was made
halts_here : {A : Type 0} {total first : ℕ} {cells : List ℕ} {cause : Refusal} {result : Result A} → first ≡ total → result ≡ halt cause cells
    → HaltsWith total first cells cause result
halts_here {total = total} {cells = cells} made is = record { cells' = cells; is = is; grows = omega arith; left = left_not total cells }

-- all rows were made
halts_full : {A : Type 0} {total first : ℕ} {cells cells_after : List ℕ} {cause other : Refusal} → cause ≡ other
    → Leaves {A = A} total first cells (halt cause cells_after) → HaltsWith {A = A} total first cells other (halt cause cells_after)
halts_full {total = total} {cells_after = cells_after} same leaves =
    record {
      cells' = cells_after;
      is = cc;
      grows = omega (arith, leaves.1, leaves.2);
      left = left_trans leaves.2 leaves.3 (left_not total cells_after);
    }

-- what was done before left the cells, too
halts_later : {A : Type 0} {total first made : ℕ} {cells cells₁ : List ℕ} {cause : Refusal} {result : Result A} → first ≤ made → Left made cells cells₁
    → HaltsWith total made cells₁ cause result → HaltsWith total first cells cause result
halts_later more left h = record { cells' = h.cells'; is = h.is; grows = omega (arith, h.grows); left = left_trans h.grows left h.left }

abbrev is_done : {A : Type 0} → Result A → Bool
is_done (done a s c) = true
is_done (halt r c) = false

never_done : {A C : Type 0} {item : A} {state : State} {cells cells' : List ℕ} {cause : Refusal}
    → ◌≡◌ {A = Result A} (done item state cells) (halt cause cells') → C
never_done e = absurd (true≢false (ap is_done e))

halts_after : {A B : Type 0} {total first : ℕ} {cells : List ℕ} (cause : Refusal) (result : Result A) (next : A → Run B)
    → HaltsWith total first cells cause result → HaltsWith total first cells cause (after result next)
halts_after cause result next h = record { cells' = h.cells'; is = cc h.is; grows = h.grows; left = h.left }

module _ {g : List Production} (setting : Setting g) where
  abbrev F : FitAll g
  F = setting.fit

  abbrev spell : ℕ → List ℕ
  spell = setting.spell

  abbrev tokens : List Token
  tokens = setting.tokens

  abbrev rows : ℕ
  rows = setting.rows

  abbrev J : Input
  J = input g tokens rows

  abbrev rest : State → List Token
  rest s = drop s.at tokens

  -- a state where the tokens `left` are left, i is the next fresh name, `begun` calls are begun and `made_rows` cells made
  record At (begun made_rows : ℕ) (left : List Token) (i : ℕ) (state : State) : Type 0 where
    place : rest state ≡ left
    bounded : state.at ≤ length tokens
    counter : state.fresh ≡ i
    calls : state.calls ≡ begun
    made : state.made ≡ made_rows

  index : {begun made : ℕ} {left : List Token} {i : ℕ} (state : State) → At begun made left i state → next_index tokens left ≡ state.at
  index state p = index_is setting state p.place p.bounded

  -- a run of these items, begun as the rules are, ends with this refusal
  record Halts (opened begun made : ℕ) (left : List Token) (i : ℕ) (is : List Item) (M : List Value) (cause : Refusal) (total : ℕ) : Type 0 where
    halts : {lent within : Input} → Provides setting lent → Provides setting within
        → (depth names_left : ℕ) (result : Template) (B : ℕ) (L xs : List ℕ) (state : State) (cells : List ℕ) → depth + opened ≡ most_open
        → Body F.scope L is result B → Each ItemWithin is → At begun made left i state
        → Kept rows (names_left + length is) state cells → ShowAll spell state.made cells xs M
        → HaltsWith total state.made cells cause (run_items (run_call depth lent) within is xs state cells)

  -- so does a run of this call
  record Calls (opened begun made nonterminal : ℕ) (vs : List Value) (left : List Token) (i : ℕ) (cause : Refusal) (total : ℕ) : Type 0 where
    calls : {lent : Input} → Provides setting lent → (depth names_left : ℕ) (ys : List ℕ) (state : State) (cells : List ℕ) → depth + opened ≡ most_open
        → nonterminal < 64 → At begun made left i state
        → Kept rows names_left state cells → ShowAll spell state.made cells ys vs
        → HaltsWith total state.made cells cause (run_call depth lent nonterminal ys state cells)

  kept_item : (names_left count : ℕ) {state : State} {cells : List ℕ} → Kept rows (names_left + suc count) state cells
      → Kept rows (names_left + count + 1) state cells
  kept_item names_left count h = record { room = h.room; fits = h.fits; names = omega (arith, h.names); begun = h.begun }

  -- ------------------------------------------------------------------ steps that fail

  -- an item that reads takes what a terminal of its kind takes
  reads_take : {item : Item} {kind : ℕ} → Reads item kind → (within : Input) (callee : ℕ → List ℕ → Run ℕ) (xs : List ℕ)
      → (kind < 64) × (t : Terminal) × (kind_of t ≡ kind) × (run_item callee within item xs ≡ Expansion.take_terminal within t)
  reads_take (reads {t = t} l) within callee xs = (l, t, refl, refl)

  token_fails : {opened begun made i kind total : ℕ} {left : List Token} {item : Item} {cause : Refusal} {within : Input} → Provides setting within
      → (callee : ℕ → List ℕ → Run ℕ) (xs : List ℕ)
      (state : State) (cells : List ℕ) → Reads item kind
      → Fails g spell rows tokens opened begun made left (takes kind) cause total → At begun made left i state
      → HaltsWith total state.made cells cause (run_item callee within item xs state cells)
  token_fails {kind = kind} {left = left} {within = within} inside callee xs state cells w (no_token f) p =
      let q = reads_take w within callee xs in
      let h = take_halts setting inside q.1 state cells (rw q.2 q.0) (λ n. f (rw (← p.place) (rw q.2 at n))) in
      halts_here p.made (cc (q.3, q.2, h, index state p))

  arguments_fail : {within : Input} → Provides setting within
      → {opened begun made i total : ℕ} {left : List Token} {cause : Refusal} {ts : Templates} {M vs : List Value} {L Bs xs : List ℕ} (state : State)
      (cells : List ℕ) → GiveAll spell M ts vs → Fill F.scope.outsides L ts Bs
      → Fails g spell rows tokens opened begun made left (makes (rows_of_all ts)) cause total → At begun made left i state → rows * columns ≤ length cells
      → state.made ≤ rows → ShowAll spell state.made cells xs M → HaltsWith total state.made cells cause (build_all ts within xs state cells)
  arguments_fail {within} inside {left = left} {ts = ts} {vs = vs} {xs = xs} state cells gs f (no_row l) p room fits a =
      go (build_all ts within xs state cells)
      (ends_both (BuiltAll spell rows (rows_of_all ts) state cells vs) (λ ys s₁ c₁. s₁.at ≡ state.at) (Full rows (state.made + rows_of_all ts))
      (λ r. r ≡ refusal 21 state.at 0 0) (build_all ts within xs state cells)
      (build_all_ends spell rows within inside.rows_are ts state cells gs f
      (omega (arith, F.outside_count)) room fits a) (build_all_stays within ts xs state cells))
      (build_all_leaves rows within inside.rows_are ts xs state cells fits)
    where
      go : (result : Result (List ℕ))
          → Ends (λ ys s₁ c₁. BuiltAll spell rows (rows_of_all ts) state cells vs ys s₁ c₁ × (s₁.at ≡ state.at))
          (λ r. Full rows (state.made + rows_of_all ts) r × (r ≡ refusal 21 state.at 0 0)) result
          → Leaves rows state.made cells result → HaltsWith rows state.made cells (refusal 21 (next_index tokens left) 0 0) result
      go (done ys s₁ c₁) y k = absurd (omega (arith, y.0.0.made_is, y.0.0.fits, l, p.made))
      go (halt q c₁) u k = halts_full (cc (u.1, index state p)) k

  start_fails : {opened begun made nonterminal i : ℕ} {left : List Token} {vs : List Value} {cause : Refusal} {total : ℕ}
      → Fails g spell rows tokens opened begun made left (begins nonterminal) cause total → Calls opened begun made nonterminal vs left i cause total
  unfolding run_call ready_for
  start_fails {opened} {begun} {made} {nonterminal} {i} {left} {vs} (too_deep l) = record { calls = go }
    where
      go : {lent : Input} → Provides setting lent → (depth names_left : ℕ) (ys : List ℕ) (state : State) (cells : List ℕ) → depth + opened ≡ most_open
          → nonterminal < 64 → At begun made left i state
          → Kept rows names_left state cells → ShowAll spell state.made cells ys vs
          → HaltsWith made state.made cells (refusal 19 (next_index tokens left) 0 0) (run_call depth lent nonterminal ys state cells)
      go provides zero names_left ys state cells e b p h a = halts_here p.made (cc (index state p))
      go {lent} provides (suc depth) names_left ys state cells e b p h a = absurd (omega arith)
  start_fails {opened} {begun} {made} {nonterminal} {i} {left} {vs} (too_many_calls l q) = record { calls = go }
    where
      go : {lent : Input} → Provides setting lent → (depth names_left : ℕ) (ys : List ℕ) (state : State) (cells : List ℕ) → depth + opened ≡ most_open
          → nonterminal < 64 → At begun made left i state
          → Kept rows names_left state cells → ShowAll spell state.made cells ys vs
          → HaltsWith made state.made cells (refusal 20 (next_index tokens left) 0 0) (run_call depth lent nonterminal ys state cells)
      go provides zero names_left ys state cells e b p h a = absurd (omega arith)
      go {lent} provides (suc depth) names_left ys state cells e b p h a =
          halts_here p.made
          (cc (call_full depth lent nonterminal ys state cells (le-ltb state.calls most_calls (omega (arith, p.calls))), index state p))
  start_fails {opened} {begun} {made} {nonterminal} {i} {left} {vs} (no_choice {set = set} l q f w) = record { calls = go }
    where
      go : {lent : Input} → Provides setting lent → (depth names_left : ℕ) (ys : List ℕ) (state : State) (cells : List ℕ) → depth + opened ≡ most_open
          → nonterminal < 64 → At begun made left i state
          → Kept rows names_left state cells → ShowAll spell state.made cells ys vs
          → HaltsWith made state.made cells (refusal 17 (next_index tokens left) set (ones set)) (run_call depth lent nonterminal ys state cells)
      go provides zero names_left ys state cells e b p h a = absurd (omega arith)
      go {lent} provides (suc depth) names_left ys state cells e b p h a = by (picks_at setting state nonterminal b)
        where
          by : Picks g nonterminal (rest state) (choice (ready g) nonterminal (next_kind (rest state)))
              → HaltsWith made state.made cells (refusal 17 (next_index tokens left) set (ones set)) (run_call (suc depth) lent nonterminal ys state cells)
          by (picks x z u) = absurd (f x (rw (← p.place) z))
          by (picks_none z u) =
              halts_here p.made
              (cc (
                call_unfit depth lent nonterminal ys state cells (lt-ltb state.calls most_calls (omega (arith, p.calls)))
                    (choice_is setting provides state nonterminal ∙ u),
                provides.grammar_is,
                index state p,
                first_set_one w,
              ))

  -- ------------------------------------------------------------------ a call that is taken

  module _ (opened begun made nonterminal i : ℕ) (left : List Token) (vs : List Value) (p : Production) (taken : Taken g nonterminal left p) where
    enter : {lent : Input} → Provides setting lent → (cause : Refusal) {total : ℕ} (depth : ℕ) (ys : List ℕ) (state : State) (cells : List ℕ)
        → At begun made left i state → begun < most_calls
        → HaltsWith total state.made cells cause (Ran depth lent nonterminal ys state cells (rule g p))
        → HaltsWith total state.made cells cause (run_call (suc depth) lent nonterminal ys state cells)
    enter {lent} provides cause {total} depth ys state cells q l h = by (picks_at setting state nonterminal (taken_of taken).small)
      where
        by : Picks g nonterminal (rest state) (choice (ready g) nonterminal (next_kind (rest state)))
            → HaltsWith total state.made cells cause (run_call (suc depth) lent nonterminal ys state cells)
        by (picks p' w z) =
            let picked : choice lent.grammar nonterminal (next_token lent state).kind ≡ Expansion.chosen (rule g p) =
            choice_is setting provides state nonterminal ∙ z ∙ rw (taken_one g setting.passed (rw q.place at w) taken) in
            record {
              cells' = h.cells';
              is = call_chosen depth lent nonterminal ys state cells (rule g p) (lt-ltb state.calls most_calls (omega (arith, q.calls))) picked ∙ h.is;
              grows = h.grows;
              left = h.left;
            }
        by (picks_none z u) = absurd (z p (rw q.place taken))

    begun_kept : {names_left : ℕ} {state : State} {cells : List ℕ} → state.calls < most_calls → Kept rows names_left state cells
        → Kept rows (names_left + length p.items) (call_begun state) cells
    begun_kept l h =
        record { room = h.room; fits = h.fits; names = omega (arith, h.names, (F.each p (taken_of taken).member).item_count); begun = omega arith }

    begun_at : {state : State} → At begun made left i state → At (begun + 1) made left i (call_begun state)
    begun_at q = record { place = q.place; bounded = q.bounded; counter = q.counter; calls = omega (arith, q.calls); made = q.made }

    items_fail : {cause : Refusal} {total : ℕ} → opened < most_open → begun < most_calls → Halts (opened + 1) (begun + 1) made left i p.items vs cause total
        → Calls opened begun made nonterminal vs left i cause total
    items_fail {cause} {total} l b H = record { calls = go }
      where
        go : {lent : Input} → Provides setting lent → (depth names_left : ℕ) (ys : List ℕ) (state : State) (cells : List ℕ) → depth + opened ≡ most_open
            → nonterminal < 64 → At begun made left i state
            → Kept rows names_left state cells → ShowAll spell state.made cells ys vs
            → HaltsWith total state.made cells cause (run_call depth lent nonterminal ys state cells)
        go provides zero names_left ys state cells e z q h a = absurd (omega arith)
        go {lent} provides (suc depth) names_left ys state cells e z q h a =
            let f = F.each p (taken_of taken).member in
            enter provides cause depth ys state cells q b
            (halts_after cause (run_items (run_call depth lent) (inner lent state) p.items ys (call_begun state) cells)
            (λ M. build p.result (inner lent state) M)
            (H.halts provides (provides_inner setting provides state) depth names_left p.result f.signature.result f.signature.params ys
            (call_begun state) cells (omega (arith, e)) f.body
            f.items
            (begun_at q)
            (begun_kept (omega (arith, q.calls)) h) a))

    result_fails : {left' : List Token} {cause : Refusal} {total i' : ℕ} {M : List Value} {value : Value}
        (derives : Derives g spell vs left i p.items left' i' M)
        → Affords rows (opened + 1) (begun + 1) made derives → Gives spell M p.result value
        → Fails g spell rows tokens (opened + 1) (begun + 1 + calls_in derives) (made + rows_in derives) left' (makes (rows_of p.result)) cause total
        → Calls opened begun made nonterminal vs left i cause total
    result_fails {left' = left'} {i' = i'} {M = M} {value = value} derives A gives (no_row l) = record { calls = go }
      where
        go : {lent : Input} → Provides setting lent → (depth names_left : ℕ) (ys : List ℕ) (state : State) (cells : List ℕ) → depth + opened ≡ most_open
            → nonterminal < 64 → At begun made left i state
            → Kept rows names_left state cells → ShowAll spell state.made cells ys vs
            → HaltsWith rows state.made cells (refusal 21 (next_index tokens left') 0 0) (run_call depth lent nonterminal ys state cells)
        go provides zero names_left ys state cells e z q h a = absurd (omega (arith, A.few_open))
        go {lent} provides (suc depth) names_left ys state cells e z q h a =
            let f = F.each p (taken_of taken).member in
            let b : state.calls < most_calls = omega (arith, A.few_calls, q.calls) in
            enter provides (refusal 21 (next_index tokens left') 0 0) depth ys state cells q (omega (arith, A.few_calls))
            (by (run_items (run_call depth lent) (inner lent state) p.items ys (call_begun state) cells)
            (ends_both
            (Reached setting names_left depth (open_in derives) (calls_in derives) (rows_in derives) left' i' M (call_begun state).calls state.made cells)
            (λ zs s₁ c₁. s₁.at ≤ length tokens)
            (Beyond rows depth (open_in derives) ((call_begun state).calls + calls_in derives) (state.made + rows_in derives)) (λ r. Unit {0})
            (run_items (run_call depth lent) (inner lent state) p.items ys (call_begun state) cells)
            ((items_along setting derives).along provides (provides_inner setting provides state) depth names_left p.result f.signature.result
            f.signature.params ys (call_begun state) cells f.body
            q.place q.counter
            (begun_kept b h) a)
            (items_bounded setting (provides_inner setting provides state) (run_call depth lent) (call_bounded setting provides depth) p.items ys
            (call_begun state) cells f.body f.items q.bounded))
            (items_leave rows (inner lent state) (provides_inner setting provides state).rows_are (run_call depth lent)
            (call_leaves rows lent provides.rows_are depth) p.items ys (call_begun state) cells h.fits))
          where
            never : {other : Refusal} → Beyond rows depth (open_in derives) ((call_begun state).calls + calls_in derives) (state.made + rows_in derives) other → ⊥
            never (Complete.too_deep x y) = omega (arith, A.few_open, e, y)
            never (Complete.too_many x y) = omega (arith, A.few_calls, q.calls, y)
            never (Complete.too_large x y) = omega (arith, A.few_rows, q.made, y)

            by : (result : Result (List ℕ))
                → Ends
                (λ zs s₁ c₁. Reached setting names_left depth (open_in derives) (calls_in derives) (rows_in derives) left' i' M (call_begun state).calls
                state.made cells zs s₁ c₁ × (s₁.at ≤ length tokens))
                (λ r. Beyond rows depth (open_in derives) ((call_begun state).calls + calls_in derives) (state.made + rows_in derives) r × Unit {0}) result
                → Leaves rows state.made cells result
                → HaltsWith rows state.made cells (refusal 21 (next_index tokens left') 0 0) (after result (λ M. build p.result (inner lent state) M))
            by (halt w c₁) u k = absurd (never u.0)
            by (done zs s₁ c₁) u k =
                let w = result_sorted (F.each p (taken_of taken).member).body in
                halts_later k.0 k.2
                (last (build p.result (inner lent state) zs s₁ c₁)
                (ends_both (Built spell rows (rows_of p.result) s₁ c₁ value) (λ x s₂ c₂. s₂.at ≡ s₁.at) (Full rows (s₁.made + rows_of p.result))
                (λ r. r ≡ refusal 21 s₁.at 0 0) (build p.result (inner lent state) zs s₁ c₁)
                (build_ends spell rows (inner lent state) (provides_inner setting provides state).rows_are p.result {value = value} s₁ c₁ gives w.2
                (omega (arith, F.outside_count)) u.0.0.kept.room u.0.0.kept.fits
                u.0.1) (build_stays (inner lent state) p.result zs s₁ c₁))
                (build_leaves rows (inner lent state) (provides_inner setting provides state).rows_are p.result zs s₁ c₁ u.0.0.kept.fits))
              where
                last : (result : Result ℕ)
                    → Ends (λ result s₂ c₂. Built spell rows (rows_of p.result) s₁ c₁ value result s₂ c₂ × (s₂.at ≡ s₁.at))
                    (λ r. Full rows (s₁.made + rows_of p.result) r × (r ≡ refusal 21 s₁.at 0 0)) result
                    → Leaves rows s₁.made c₁ result → HaltsWith rows s₁.made c₁ (refusal 21 (next_index tokens left') 0 0) result
                last (done result s₂ c₂) y k' = absurd (omega (arith, y.0.0.made_is, y.0.0.fits, u.0.0.made_are, l, q.made))
                last (halt w c₂) y k' = halts_full (cc (y.1, index_is setting s₁ u.0.0.place u.1)) k'

  -- ------------------------------------------------------------------ items

  call_fails : {opened begun made nonterminal i : ℕ} {left : List Token} {ts : Templates} {M vs : List Value} (is : List Item) {cause : Refusal} {total : ℕ}
      → GiveAll spell M ts vs → made + rows_of_all ts ≤ rows
      → Calls opened begun (made + rows_of_all ts) nonterminal vs left i cause total → Halts opened begun made left i (call nonterminal ts ∷ is) M cause total
  unfolding run_items
  call_fails {opened} {begun} {made} {nonterminal} {i} {left} {ts} {M} {vs} is {cause} {total} gs l C = record { halts = go }
    where
      go : {lent within : Input} → Provides setting lent → Provides setting within
          → (depth names_left : ℕ) (result : Template) (B : ℕ) (L xs : List ℕ) (state : State) (cells : List ℕ) → depth + opened ≡ most_open
          → Body F.scope L (call nonterminal ts ∷ is) result B
          → Each ItemWithin (call nonterminal ts ∷ is)
          → At begun made left i state → Kept rows (names_left + length (call nonterminal ts ∷ is)) state cells → ShowAll spell state.made cells xs M
          → HaltsWith total state.made cells cause (run_items (run_call depth lent) within (call nonterminal ts ∷ is) xs state cells)
      go {lent} {within} provides inside depth names_left result B L xs state cells e (by_binding (Judgements.by_call w z) b)
          (each_more (call_within y ws) zs) p h a =
          halts_after cause (run_item (run_call depth lent) within (call nonterminal ts) xs state cells)
          (λ x. run_items (run_call depth lent) within is (xs ++ (x ∷ [])))
          (by (build_all ts within xs state cells)
          (build_all_ends spell rows within inside.rows_are ts state cells gs z (omega (arith, F.outside_count)) h.room h.fits a)
          (build_all_leaves rows within inside.rows_are ts xs state cells h.fits))
        where
          by : (given_result : Result (List ℕ)) → Ends (BuiltAll spell rows (rows_of_all ts) state cells vs) (Full rows (state.made + rows_of_all ts)) given_result
              → Leaves rows state.made cells given_result
              → HaltsWith total state.made cells cause (after given_result (λ ys. run_call depth lent nonterminal ys))
          by (halt q c₁) u k = absurd (omega (arith, u.beyond, p.made, l))
          by (done ys s₁ c₁) u k =
              halts_later k.0 k.2
              (C.calls provides depth (names_left + length is) ys s₁ c₁ e (omega (arith, y))
              (record {
                place = cc (u.0.at_kept, p.place);
                bounded = omega (arith, u.0.at_kept, p.bounded);
                counter = u.0.fresh_kept ∙ p.counter;
                calls = u.0.calls_kept ∙ p.calls;
                made = omega (arith, u.0.made_is, p.made);
              })
              (kept_less (kept_made (kept_item names_left (length is) h) u.0)) u.1)

  arguments_halt : {opened begun made nonterminal i : ℕ} {left : List Token} {ts : Templates} {M vs : List Value} (is : List Item) {cause : Refusal} {total : ℕ}
      → GiveAll spell M ts vs
      → Fails g spell rows tokens opened begun made left (makes (rows_of_all ts)) cause total
      → Halts opened begun made left i (call nonterminal ts ∷ is) M cause total
  unfolding run_items
  arguments_halt {opened} {begun} {made} {nonterminal} {i} {left} {ts} {M} {vs} is {cause} {total} gs f = record { halts = go }
    where
      go : {lent within : Input} → Provides setting lent → Provides setting within
          → (depth names_left : ℕ) (result : Template) (B : ℕ) (L xs : List ℕ) (state : State) (cells : List ℕ) → depth + opened ≡ most_open
          → Body F.scope L (call nonterminal ts ∷ is) result B
          → Each ItemWithin (call nonterminal ts ∷ is)
          → At begun made left i state → Kept rows (names_left + length (call nonterminal ts ∷ is)) state cells → ShowAll spell state.made cells xs M
          → HaltsWith total state.made cells cause (run_items (run_call depth lent) within (call nonterminal ts ∷ is) xs state cells)
      go {lent} {within} provides inside depth names_left result B L xs state cells e (by_binding (Judgements.by_call w z) b) ws p h a =
          halts_after cause (run_item (run_call depth lent) within (call nonterminal ts) xs state cells)
          (λ x. run_items (run_call depth lent) within is (xs ++ (x ∷ [])))
          (halts_after cause (build_all ts within xs state cells) (λ ys. run_call depth lent nonterminal ys)
          (arguments_fail inside state cells gs z f p h.room h.fits a))

  token_halts : {opened begun made i kind total : ℕ} {left : List Token} {item : Item} {M : List Value} (is : List Item) {cause : Refusal} → Reads item kind
      → Fails g spell rows tokens opened begun made left (takes kind) cause total → Halts opened begun made left i (item ∷ is) M cause total
  unfolding run_items
  token_halts {item = item} is {cause} w f =
      record {
        halts = λ {lent} {within} provides inside d k result B L xs s cells e b ws p h a.
            halts_after cause (run_item (run_call d lent) within item xs s cells) (λ x. run_items (run_call d lent) within is (xs ++ (x ∷ [])))
            (token_fails inside (run_call d lent) xs s cells w f p);
      }

  place_stops : {opened begun made i total : ℕ} {left : List Token} {M : List Value} (B : ℕ) (is : List Item) {cause : Refusal}
      → Fails g spell rows tokens opened begun made left (takes (variable_kind B)) cause total
      → Halts opened begun made left i (terminal (Table.place B) ∷ is) M cause total
  unfolding run_items
  place_stops {left = left} B is {cause} (no_token f) =
      record {
        halts = λ {lent} {within} provides inside d k result S L xs s cells e b ws p h a.
            halts_after cause (Expansion.take_terminal within (Table.place B) s cells) (λ x. run_items (run_call d lent) within is (xs ++ (x ∷ [])))
            (halts_here p.made
            (place_halts setting inside B s cells
            ∙ ap (λ at. halt (refusal 17 at (only (variable_kind B)) (ones (only (variable_kind B)))) cells) (sym (index s p))));
      }

  past_halts : {opened begun made i i' : ℕ} {left left' : List Token} {item : Item} {is : List Item} {M M' : List Value} {cause : Refusal} {total : ℕ}
      (derives : Derives g spell M left i (item ∷ []) left' i' M')
      → Affords rows opened begun made derives
      → Halts opened (begun + calls_in derives) (made + rows_in derives) left' i' is M' cause total → Halts opened begun made left i (item ∷ is) M cause total
  unfolding run_items
  past_halts {opened} {begun} {made} {i} {i'} {left} {left'} {item} {is} {M} {M'} {cause} {total} derives A H = record { halts = go }
    where
      go : {lent within : Input} → Provides setting lent → Provides setting within
          → (depth names_left : ℕ) (result : Template) (B : ℕ) (L xs : List ℕ) (state : State) (cells : List ℕ) → depth + opened ≡ most_open
          → Body F.scope L (item ∷ is) result B
          → Each ItemWithin (item ∷ is)
          → At begun made left i state → Kept rows (names_left + length (item ∷ is)) state cells → ShowAll spell state.made cells xs M
          → HaltsWith total state.made cells cause (run_items (run_call depth lent) within (item ∷ is) xs state cells)
      go {lent} {within} provides inside depth names_left result B L xs state cells e (by_binding {A = S} w b) (each_more z zs) p h a =
          by (run_item (run_call depth lent) within item xs state cells)
          ((items_along setting derives).along provides inside depth (names_left + length is) (make 0x25 none) Sorts.fields L xs state cells
          (item_body setting w) p.place
          p.counter
          (kept_item names_left (length is) h) a)
          (item_bounded setting inside (run_call depth lent) (call_bounded setting provides depth) xs state cells w z p.bounded)
          (item_leaves rows within inside.rows_are (run_call depth lent) (call_leaves rows lent provides.rows_are depth) item xs state cells h.fits)
        where
          never : {other : Refusal} → Beyond rows depth (open_in derives) (state.calls + calls_in derives) (state.made + rows_in derives) other → ⊥
          never (Complete.too_deep x y) = omega (arith, A.few_open, e, y)
          never (Complete.too_many x y) = omega (arith, A.few_calls, p.calls, y)
          never (Complete.too_large x y) = omega (arith, A.few_rows, p.made, y)

          by : (outcome : Result ℕ)
              → Ends
              (Reached setting (names_left + length is) depth (open_in derives) (calls_in derives) (rows_in derives) left' i' M' state.calls
              state.made cells)
              (Beyond rows depth (open_in derives) (state.calls + calls_in derives) (state.made + rows_in derives))
              (after outcome (λ y. run_items (run_call depth lent) within [] (xs ++ (y ∷ []))))
              → Ends {A = ℕ} (λ a state begun. state.at ≤ length tokens) (λ cause. Unit {0}) outcome → Leaves rows state.made cells outcome
              → HaltsWith total state.made cells cause (after outcome (λ y. run_items (run_call depth lent) within is (xs ++ (y ∷ []))))
          by (halt q c₁) u n k = absurd (never u)
          by (done outcome s₁ c₁) u n k =
              halts_later k.0 k.2
              (H.halts provides inside depth names_left result B (L ++ (S ∷ [])) (xs ++ (outcome ∷ [])) s₁ c₁ e b zs
              (record {
                place = u.0.place;
                bounded = n;
                counter = u.0.counter;
                calls = omega (arith, u.0.calls_are, p.calls);
                made = omega (arith, u.0.made_are, p.made);
              })
              u.0.kept u.1)

  mutual
    stops_halts : {opened begun made i : ℕ} {M : List Value} {left : List Token} {is : List Item} {cause : Refusal} {total : ℕ}
        → Stops g spell rows tokens opened begun made M left i is cause total
        → Halts opened begun made left i is M cause total
    stops_halts (at_token {ps = is} w f) = token_halts is w f
    stops_halts (at_place {B = B} {ps = is} f) = place_stops B is f
    stops_halts (at_arguments {ps = is} gs f) = arguments_halt is gs f
    stops_halts (at_call {ps = is} gs l e) = call_fails is gs l (enters_calls e)
    stops_halts (past_item D A st) = past_halts D A (stops_halts st)

    enters_calls : {opened begun made nonterminal i : ℕ} {vs : List Value} {left : List Token} {cause : Refusal} {total : ℕ}
        → CallStops g spell rows tokens opened begun made nonterminal vs left i cause total → Calls opened begun made nonterminal vs left i cause total
    enters_calls (at-start f) = start_fails f
    enters_calls {opened} {begun} {made} {nonterminal} {i} {vs} {left} (in_items {p = p} l b taken st) =
        items_fail opened begun made nonterminal i left vs p taken l b (stops_halts st)
    enters_calls {opened} {begun} {made} {nonterminal} {i} {vs} {left} (at_result {p = p} taken D A v f) =
        result_fails opened begun made nonterminal i left vs p taken D A v f

  -- ------------------------------------------------------------------ the whole formula

  -- the items that are one call of the root halt where that call does
  root_halts : (cause : Refusal) {total : ℕ} (cells : List ℕ)
      → HaltsWith total 0 cells cause (run_items (run_call most_open J) J (call setting.root none ∷ []) [] initial_state cells)
      → HaltsWith total 0 cells cause (run_call most_open J setting.root [] initial_state cells)
  unfolding run_items build_all
  root_halts cause {total} cells h = go (run_call most_open J setting.root [] initial_state cells) h
    where
      go : (result : Result ℕ) → HaltsWith total 0 cells cause (after result (λ v. run_items (run_call most_open J) J [] ([] ++ (v ∷ []))))
          → HaltsWith total 0 cells cause result
      go (done v s c) q = never_done q.is
      go (halt z c) q = record { cells' = q.cells'; is = cc q.is; grows = q.grows; left = q.left }

  left_halts : {i : ℕ} {M : List Value} {token : Token} {ts : List Token}
      (derives : Derives g spell [] tokens 1 (call setting.root none ∷ []) (token ∷ ts) i M)
      → Affords rows 0 0 0 derives → (cells : List ℕ) → rows * columns ≤ length cells
      → HaltsWith (rows_in derives) 0 cells (refusal 18 (next_index tokens (token ∷ ts)) 0 0) (run J setting.root cells)
  unfolding run
  left_halts {i} {M} {token} {ts} derives A cells room =
      go (run_call most_open J setting.root [] initial_state cells)
      (ends_both (λ x s c. Reached setting 0 most_open (open_in derives) (calls_in derives) (rows_in derives) (token ∷ ts) i M 0 0 cells (x ∷ []) s c)
      (λ x s c. s.at ≤ length tokens)
      (Beyond rows most_open (open_in derives) (calls_in derives) (rows_in derives)) (λ r. Unit {0}) (run_call most_open J setting.root [] initial_state cells)
      (root_along setting derives cells room) (call_bounded setting (provides_whole setting) most_open setting.root [] initial_state cells
      setting.root_small (omega arith)))
      (call_leaves rows J refl most_open setting.root [] initial_state cells (omega arith))
    where
      never : {other : Refusal} → Beyond rows most_open (open_in derives) (calls_in derives) (rows_in derives) other → ⊥
      never (Complete.too_deep x y) = omega (arith, A.few_open, y)
      never (Complete.too_many x y) = omega (arith, A.few_calls, y)
      never (Complete.too_large x y) = omega (arith, A.few_rows, y)

      go : (result : Result ℕ)
          → Ends (λ result s c. Reached setting 0 most_open (open_in derives) (calls_in derives) (rows_in derives) (token ∷ ts) i M 0 0 cells (result ∷ []) s c
          × (s.at ≤ length tokens)) (λ r. Beyond rows most_open (open_in derives) (calls_in derives) (rows_in derives) r × Unit {0}) result
          → Leaves rows 0 cells result → HaltsWith (rows_in derives) 0 cells (refusal 18 (next_index tokens (token ∷ ts)) 0 0) (after result (ended J))
      go (halt q c) u k = absurd (never u.0)
      go (done result s c) u k =
          let e : length (drop s.at tokens) ≡ suc (length ts) = ap length u.0.0.place in
          let b : ltb s.at (length tokens) ≡ true = lt-ltb s.at (length tokens) (omega (arith, length-drop s.at tokens)) in
          halts_later k.0 k.2 (halts_here (omega (arith, u.0.0.made_are)) (rw (b, ended) (cc (index_is setting s u.0.0.place u.1))))

  -- a run stops with the refusal that the rules give
  pub refuses_halts : {cause : Refusal} {total : ℕ} → Refuses g spell rows tokens setting.root cause total → (cells : List ℕ) → rows * columns ≤ length cells
      → HaltsWith total 0 cells cause (run J setting.root cells)
  unfolding run
  refuses_halts {cause} (stops E) cells room =
      halts_after cause (run_call most_open J setting.root [] initial_state cells) (ended J)
      (root_halts cause cells
      ((stops_halts E).halts (provides_whole setting) (provides_whole setting) most_open 0 (make 0x25 none) Sorts.fields [] [] initial_state cells refl
      (root_body setting) (root_within setting)
      (record { place = refl; bounded = omega arith; counter = refl; calls = refl; made = refl })
      (record { room = room; fits = omega arith; names = omega arith; begun = omega arith }) show_none))
  refuses_halts (left_over D A) cells room = left_halts D A cells room
