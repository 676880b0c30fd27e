-- Beside a derivation of Figure 3 an expansion goes the same way: it is accepted with the term derived, or refused at a limit that the
-- derivation exceeds.
use Prim.Native.Nat.{ℕ, zero, suc, ◌+◌, ◌*◌, ◌≤◌, ◌<◌, max}
use mathlib.Core.Path.{◌≡◌, refl, sym, ap, subst⁻¹, ◌∙◌}
use mathlib.Core.Bool.{Bool, true, false}
use mathlib.Core.List.{List, [], ◌∷◌, ◌++◌}
use native.Mathlib.Omega.{arith}
use lib.Dec.{ltb}
use lib.ListN.{length, get_or, drop, drop_of_length-le, length-drop}
use borrow.Author.Tests.{eq-eqb, ltb-true, ltb-false, le-ltb}
use Rattle.spellings.proofs.BytesLaws.{by_test}
use Rattle.answers.specs.declared.Refusal.{Refusal}
use Rattle.answers.specs.Refusals.{refusal}
use Rattle.kinds.specs.Kinds.{word_kind}
use Rattle.grammar.specs.Sorts as Sorts
use Rattle.grammar.specs.Table.{Template, Templates, make, none, Terminal, keyword, ide, number, kind_of, Item, terminal, local, call}
use Rattle.judgements.specs.Judgements.{Body, by_binding}
use Rattle.judgements.specs.Judgements as Judgements
use Rattle.tokens.specs.declared.Token.{Token}
use Rattle.productions.specs.Normal.{Production}
use Rattle.terms.specs.Term.{Name, Term, word, fresh}
use Rattle.terms.specs.Rows.{term_at, name_of}
use Rattle.expansion.specs.declared.State.{State}
use Rattle.expansion.specs.Run.{Result, done, halt, Run, after}
use Rattle.expansion.specs.Expansion.{Input, ready, choice, next_token, token_taken, take_token, build_all, build, run_item, run_items, call_begun}
use Rattle.expansion.specs.TextTokens.{read_value}
use Rattle.tokens.specs.Tokens.{end_token}
use Rattle.expansion.specs.Expansion.{run_call, initial_state, ended, run}
use Rattle.expansion.specs.Limits.{most_calls, most_open}
use Rattle.expansion.specs.Figure3.{Value, binder, term, Gives, GiveAll, Taken, as_var, as_binder, as_label, by_keyword, by_ide, by_number}
use Rattle.expansion.specs.Figure3.{by_local, Derives, by_end, by_terminal, by_call, Parses}
use Rattle.expansion.specs.Costs.{rows_of, rows_of_all, open_in, calls_in, rows_in, Affords}
use Rattle.expansion.proofs.Shows.{Grown, grown_not, grown_trans, Shows, shows_unit, shows_var, shows_binder, shows_label, shows_num, ShowAll}
use Rattle.expansion.proofs.Shows.{show_none, show_more, all_later, all_and, word_named, fresh_named}
use Rattle.soundness.proofs.Setting.{Setting, Provides, provides_whole, provides_inner, choice_is, picks_at, take_is, root_body}
use Rattle.expansion.proofs.Endings.{Ends, ends_after, ends_map, Full}
use Rattle.soundness.proofs.Building.{Built, BuiltAll, build_ends, build_all_ends}
use Rattle.soundness.proofs.Typing.{FitAll, taken_of, result_sorted}
use Rattle.expansion.proofs.CallLaws.{inner, Ran, call_full, call_chosen}
use Rattle.expansion.proofs.Choosing.{next_kind, Picks, picks, picks_none, rule, taken_one}
use Rattle.expansion.specs.Parsing.{input}
use Rattle.soundness.proofs.Sound.{token_here, Kept, kept_made, kept_less, shown}
use Rattle.terms.specs.Cells.{columns}

-- ------------------------------------------------------------------ the next token

-- the first token of what is left, and what is left after it
pub token_is : (tokens : List Token) (at : ℕ) {token : Token} {s : List Token} → drop at tokens ≡ token ∷ s → (get_or tokens at end_token ≡ token)
    × (drop (at + 1) tokens ≡ s)
token_is tokens at {token} {s} e =
    by_test (ltb at (length tokens))
    (λ b. let h : get_or tokens at end_token ∷ drop (at + 1) tokens ≡ token ∷ s = sym (token_here tokens at (ltb-true at (length tokens) b)) ∙ e in ((cc), (cc)))
    (λ b.
    let n : ◌≡◌ {A = ℕ} 0 (suc (length s)) = ap length (sym (drop_of_length-le tokens (ltb-false at (length tokens) b)) ∙ e) in
    absurd (omega arith))

take_done : (lent : Input) (kind : ℕ) (value : ℕ → ℕ) (state : State) (cells : List ℕ) → (next_token lent state).kind ≡ kind
    → take_token lent kind value state cells ≡ done (value (next_token lent state).value) (token_taken state) cells
take_done lent kind value state cells e = rw (eq-eqb (next_token lent state).kind kind e, take_token) refl

-- the items behind one that is read
pub items_after : (callee : ℕ → List ℕ → Run ℕ) (lent : Input) (item : Item) (is : List Item) (xs : List ℕ) (state : State) (cells : List ℕ) (row : ℕ)
    (state' : State) (cells' : List ℕ)
    → run_item callee lent item xs state cells ≡ done row state' cells'
    → run_items callee lent (item ∷ is) xs state cells ≡ run_items callee lent is (xs ++ (row ∷ [])) state' cells'
unfolding run_items
items_after callee lent item is xs state cells row state' cells' e = cc

-- ------------------------------------------------------------------ limits

-- refusal 19, 20 or 21 where the calls open, the calls in all or the cells are more than there may be
pub data Beyond (rows deep opened begun made : ℕ) (cause : Refusal) : Type 0 where
  too_deep : cause.number ≡ 19 → deep < opened → Beyond rows deep opened begun made cause
  too_many : cause.number ≡ 20 → most_calls < begun → Beyond rows deep opened begun made cause
  too_large : cause.number ≡ 21 → rows < made → Beyond rows deep opened begun made cause

beyond_more : {rows depth opened opened' calls calls' made made' : ℕ} → opened ≤ opened' → calls ≤ calls' → made ≤ made' → (cause : Refusal)
    → Beyond rows depth opened calls made cause → Beyond rows depth opened' calls' made' cause
beyond_more x y z cause (too_deep e l) = too_deep e (omega arith)
beyond_more x y z cause (too_many e l) = too_many e (omega arith)
beyond_more x y z cause (too_large e l) = too_large e (omega arith)

beyond_open : {rows depth opened calls calls' made made' : ℕ} → calls ≤ calls' → made ≤ made' → (cause : Refusal) → Beyond rows depth opened calls made cause
    → Beyond rows (suc depth) (opened + 1) calls' made' cause
beyond_open y z cause (too_deep e l) = too_deep e (omega arith)
beyond_open y z cause (too_many e l) = too_many e (omega arith)
beyond_open y z cause (too_large e l) = too_large e (omega arith)

full_beyond : {rows depth opened calls made made' : ℕ} → made ≤ made' → (cause : Refusal) → Full rows made cause → Beyond rows depth opened calls made' cause
full_beyond z cause h = too_large h.is_21 (omega (arith, h.beyond))

module _ {g : List Production} (setting : Setting g) where
  abbrev F : FitAll g
  F = setting.fit

  abbrev spell : ℕ → List ℕ
  spell = setting.spell

  abbrev tokens : List Token
  tokens = setting.tokens

  abbrev rows : ℕ
  rows = setting.rows

  -- what a run reads
  abbrev pub I : Input
  I = input g tokens rows

  -- the tokens that are left
  abbrev pub from : State → List Token
  from s = drop s.at tokens

  -- the way from a state with `calls_before` calls begun and `made` cells made: `opened` calls open, `calls` calls begun and `rows_made` cells made,
  -- to the place `left` and the counter i
  pub record Went (names_left depth opened calls rows_made : ℕ) (left : List Token) (i calls_before made : ℕ) (cells : List ℕ) (state' : State)
      (cells' : List ℕ) : Type 0 where
    -- rows are added only
    pub grown : Grown made cells state'.made cells'
    -- the bounds of a run still hold
    pub kept : Kept rows names_left state' cells'
    -- the tokens left are those of the derivation
    pub place : from state' ≡ left
    -- so is the counter of new names
    pub counter : state'.fresh ≡ i
    -- the calls begun
    pub calls_are : state'.calls ≡ calls_before + calls
    -- the rows made
    pub made_are : state'.made ≡ made + rows_made
    -- the calls open at once
    pub deep : opened ≤ depth

  -- the run is where the derivation is, with its values shown
  abbrev pub Reached : (names_left depth opened calls rows_made : ℕ) → List Token → ℕ → List Value → ℕ → ℕ → List ℕ → List ℕ → State → List ℕ → Type 0
  Reached names_left depth opened calls rows_made t i M b m cells xs s' cells' =
      Went names_left depth opened calls rows_made t i b m cells s' cells' × ShowAll spell s'.made cells' xs M

  -- the run gives what the derivation gives
  abbrev pub Gave : (names_left depth opened calls rows_made : ℕ) → List Token → ℕ → Value → ℕ → ℕ → List ℕ → ℕ → State → List ℕ → Type 0
  Gave names_left depth opened calls rows_made t i v b m cells x s' cells' =
      Went names_left depth opened calls rows_made t i b m cells s' cells' × Shows spell s'.made cells' x v

  -- the run of items beside a derivation with its costs
  pub record Along (opened calls rows_made : ℕ) (left : List Token) (i : ℕ) (is : List Item) (M M' : List Value) (left' : List Token) (i' : ℕ) : Type 0 where
    -- from any state that fits, the run goes along
    pub along : {lent within : Input} → Provides setting lent → Provides setting within
        → (depth names_left : ℕ) (result : Template) (B : ℕ) (L xs : List ℕ) (state : State) (cells : List ℕ) → Body F.scope L is result B
        → from state ≡ left → state.fresh ≡ i → Kept rows (names_left + length is) state cells → ShowAll spell state.made cells xs M
        → Ends (Reached names_left depth opened calls rows_made left' i' M' state.calls state.made cells)
        (Beyond rows depth opened (state.calls + calls) (state.made + rows_made)) (run_items (run_call depth lent) within is xs state cells)

  -- a token taken, and the items after it
  token_along : {opened calls rows_made : ℕ} {token : Token} {s₀ s' : List Token} {i i' : ℕ} {is : List Item} {M M' : List Value} {given_value : Value}
      (t : Terminal) → token.kind ≡ kind_of t
      → ((state : State) (cells : List ℕ) → next_token I state ≡ token → Shows spell state.made cells (read_value t (next_token I state).value) given_value)
      → Along opened calls rows_made s₀ i is (M ++ (given_value ∷ [])) M' s' i' → Along opened calls rows_made (token ∷ s₀) i (terminal t ∷ is) M M' s' i'
  token_along {opened} {calls} {rows_made} {token} {s₀} {s'} {i} {i'} {is} {M} {M'} {given_value} t e shown A =
      record { along = λ u v d k r B L xs s cells b p f h a. go u v d k r B L xs s cells b p f h a }
    where
      go : {lent within : Input} → Provides setting lent → Provides setting within
          → (depth names_left : ℕ) (result : Template) (B : ℕ) (L xs : List ℕ) (state : State) (cells : List ℕ) → Body F.scope L (terminal t ∷ is) result B
          → from state ≡ token ∷ s₀ → state.fresh ≡ i
          → Kept rows (names_left + length (terminal t ∷ is)) state cells → ShowAll spell state.made cells xs M
          → Ends (Reached names_left depth opened calls rows_made s' i' M' state.calls state.made cells)
          (Beyond rows depth opened (state.calls + calls) (state.made + rows_made)) (run_items (run_call depth lent) within (terminal t ∷ is) xs state cells)
      go {lent} {within} provides inside depth names_left result B L xs state cells (by_binding w b) p f h a =
          let q = token_is tokens state.at p in
          let x : ℕ = read_value t (next_token I state).value in
          let taken : run_item (run_call depth lent) within (terminal t) xs state cells ≡ done x (token_taken state) cells =
          cc (take_is setting inside t state cells, take_done I (kind_of t) (read_value t) state cells (cc q.0)) in
          rw (items_after (run_call depth lent) within (terminal t) is xs state cells x (token_taken state) cells taken)
          (A.along provides inside depth names_left result B _ (xs ++ (x ∷ [])) (token_taken state) cells b q.1 f
          (record { room = h.room; fits = h.fits; names = omega (arith, h.names); begun = h.begun }) (all_and a (shown state cells q.0)))

  word_shown : (state : State) (token : Token) → next_token I state ≡ token → token.kind ≡ word_kind
      → name_of spell (Rattle.terms.specs.Cells.word_name (next_token I state).value) ≡ word (spell token.value)
  word_shown state token q e = cc (word_named spell (next_token I state).value (setting.small state.at (cc)))

  -- a call beside the derivation of its production
  module _ {opened calls rows_made nonterminal : ℕ} {left left' : List Token} {i i' : ℕ} {vs M : List Value} {value : Value} (p : Production)
      (taken : Taken g nonterminal left p)
      (along : Along opened calls rows_made left i p.items vs M left' i') (gives : Gives spell M p.result value) where
    -- the calls and rows of a derivation
    abbrev pub cost : ℕ
    cost = rows_made + rows_of p.result

    module _ (names_left : ℕ) (xs : List ℕ) (state : State) (cells : List ℕ) (equal : from state ≡ left) (agrees : state.fresh ≡ i)
        (kept : Kept rows names_left state cells) (show_all : ShowAll spell state.made cells xs vs) where
      -- a call goes along, or a limit is passed
      abbrev pub Called : ℕ → Result ℕ → Type 0
      Called d z =
          Ends (Gave names_left d (opened + 1) (calls + 1) cost left' i' value state.calls state.made cells)
          (Beyond rows d (opened + 1) (state.calls + (calls + 1)) (state.made + cost)) z

      production_along : {lent : Input} → Provides setting lent → (depth : ℕ) → state.calls < most_calls
          → Called (suc depth) (Ran depth lent nonterminal xs state cells (rule g p))
      production_along {lent} provides depth l =
          let inside = provides_inner setting provides state in
          let q = F.each p (taken_of taken).member in
          let w = result_sorted q.body in
          ends_after (Reached names_left depth opened calls rows_made left' i' M (call_begun state).calls state.made cells)
          (Beyond rows depth opened ((call_begun state).calls + calls) (state.made + rows_made))
          (Gave names_left (suc depth) (opened + 1) (calls + 1) cost left' i' value state.calls state.made cells)
          (Beyond rows (suc depth) (opened + 1) (state.calls + (calls + 1)) (state.made + cost))
          (run_items (run_call depth lent) (inner lent state) p.items xs (call_begun state) cells) (λ ys. build p.result (inner lent state) ys)
          (along.along provides inside depth names_left p.result q.signature.result q.signature.params xs (call_begun state) cells
          q.body equal agrees
          (record { room = kept.room; fits = kept.fits; names = omega (arith, kept.names, q.item_count); begun = omega arith }) show_all)
          (λ ys s₁ c₁ y.
          ends_map (Built spell rows (rows_of p.result) s₁ c₁ value) (Full rows (s₁.made + rows_of p.result))
          (Gave names_left (suc depth) (opened + 1) (calls + 1) cost left' i' value state.calls state.made cells)
          (Beyond rows (suc depth) (opened + 1) (state.calls + (calls + 1)) (state.made + cost))
          (build p.result (inner lent state) ys s₁ c₁)
          (build_ends spell rows (inner lent state) inside.rows_are p.result s₁ c₁ gives w.2 (omega (arith, F.outside_count)) y.0.kept.room
          y.0.kept.fits y.1)
          (λ x s₂ c₂ b. (
            record {
              grown = grown_trans y.0.grown b.0.grown;
              kept = kept_made y.0.kept b.0;
              place = cc (b.0.at_kept, y.0.place);
              counter = b.0.fresh_kept ∙ y.0.counter;
              calls_are = omega (arith, y.0.calls_are, b.0.calls_kept);
              made_are = omega (arith, y.0.made_are, b.0.made_is);
              deep = omega (arith, y.0.deep);
            },
            b.1,
          ))
          (full_beyond (omega (arith, y.0.made_are))))
          (beyond_open (omega arith) (omega arith))

      call_along : {lent : Input} → Provides setting lent → (depth : ℕ) → Called depth (run_call depth lent nonterminal xs state cells)
      unfolding run_call
      call_along provides zero = too_deep refl (omega arith)
      call_along {lent} provides (suc depth) = go (ltb state.calls most_calls) refl (picks_at setting state nonterminal (taken_of taken).small)
        where
          go : (test : Bool) → ltb state.calls most_calls ≡ test → Picks g nonterminal (from state) (choice (ready g) nonterminal (next_kind (from state)))
              → Called (suc depth) (run_call (suc depth) lent nonterminal xs state cells)
          go false l q =
              subst⁻¹ (Called (suc depth)) (call_full depth lent nonterminal xs state cells l)
              (too_many refl (omega (arith, ltb-false state.calls most_calls l)))
          go true l (picks p' w z) =
              let same : p' ≡ p = taken_one g setting.passed w (rw (← equal) at taken) in
              let picked : choice lent.grammar nonterminal (next_token lent state).kind ≡ Rattle.expansion.specs.Expansion.chosen (rule g p) =
              choice_is setting provides state nonterminal ∙ cc in
              subst⁻¹ (Called (suc depth)) (call_chosen depth lent nonterminal xs state cells (rule g p) l picked)
              (production_along provides depth (ltb-true state.calls most_calls l))
          go true l (picks_none f z) = absurd (f p (rw (← equal) at taken))

  -- a fresh name, and the items after it
  local_along : {opened calls rows_made : ℕ} {left left' : List Token} {i i' : ℕ} {is : List Item} {M M' : List Value}
      → Along opened calls rows_made left (i + 1) is (M ++ (binder (fresh i) ∷ [])) M' left' i'
      → Along opened calls rows_made left i (local ∷ is) M M' left' i'
  local_along {opened} {calls} {rows_made} {left} {left'} {i} {i'} {is} {M} {M'} A = record { along = go }
    where
      go : {lent within : Input} → Provides setting lent → Provides setting within
          → (depth names_left : ℕ) (result : Template) (B : ℕ) (L xs : List ℕ) (state : State) (cells : List ℕ) → Body F.scope L (local ∷ is) result B
          → from state ≡ left → state.fresh ≡ i → Kept rows (names_left + length (local ∷ is)) state cells → ShowAll spell state.made cells xs M
          → Ends (Reached names_left depth opened calls rows_made left' i' M' state.calls state.made cells)
          (Beyond rows depth opened (state.calls + calls) (state.made + rows_made)) (run_items (run_call depth lent) within (local ∷ is) xs state cells)
      go {lent} {within} provides inside depth names_left result B L xs state cells (by_binding w b) p f h a =
          rw (items_after (run_call depth lent) within local is xs state cells _ _ cells refl)
          (A.along provides inside depth names_left result B _ _
          (record { at = state.at; fresh = state.fresh + 1; calls = state.calls; made = state.made }) cells b p (cc)
          (record { room = h.room; fits = h.fits; names = omega (arith, h.names); begun = h.begun })
          (all_and a (shows_binder (fresh_named spell state.fresh (omega (arith, h.names, h.begun)) ∙ ap fresh f))))

  -- a call with its arguments, and the items after it
  call_item_along : {opened calls rows_made opened' calls' rows_made' nonterminal : ℕ} {left left₁ left' : List Token} {i i₁ i' : ℕ} {is : List Item}
      {ts : Templates} {M M₁ M' vs : List Value} {value : Value} (p : Production)
      → GiveAll spell M ts vs → Taken g nonterminal left p → Along opened calls rows_made left i p.items vs M₁ left₁ i₁ → Gives spell M₁ p.result value
      → Along opened' calls' rows_made' left₁ i₁ is (M ++ (value ∷ [])) M' left' i'
      → Along (max (opened + 1) opened') (calls + 1 + calls') (rows_of_all ts + rows_made + rows_of p.result + rows_made') left i (call nonterminal ts ∷ is) M
      M' left' i'
  unfolding run_items
  call_item_along {opened} {calls} {rows_made} {opened'} {calls'} {rows_made'} {nonterminal} {left} {left₁} {left'} {i} {i₁} {i'} {is} {ts} {M} {M₁} {M'} {vs}
      {value} p gs taken A gives A' = record { along = go }
    where
      cells_of_lem : ℕ
      cells_of_lem = rows_of_all ts + rows_made + rows_of p.result

      item : {lent within : Input} → Provides setting lent → Provides setting within
          → (depth names_left : ℕ) {L Bs xs : List ℕ} (state : State) (cells : List ℕ) → Judgements.Fill F.scope.outsides L ts Bs → from state ≡ left
          → state.fresh ≡ i → Kept rows (names_left + 1) state cells → ShowAll spell state.made cells xs M
          → Ends (Gave names_left depth (opened + 1) (calls + 1) cells_of_lem left₁ i₁ value state.calls state.made cells)
          (Beyond rows depth (opened + 1) (state.calls + (calls + 1)) (state.made + cells_of_lem))
          (run_item (run_call depth lent) within (call nonterminal ts) xs state cells)
      item {lent} {within} provides inside depth names_left {xs = xs} state cells w e f h a =
          ends_after (BuiltAll spell rows (rows_of_all ts) state cells vs) (Full rows (state.made + rows_of_all ts))
          (Gave names_left depth (opened + 1) (calls + 1) cells_of_lem left₁ i₁ value state.calls state.made cells)
          (Beyond rows depth (opened + 1) (state.calls + (calls + 1)) (state.made + cells_of_lem))
          (build_all ts within xs state cells) (λ ys. run_call depth lent nonterminal ys)
          (build_all_ends spell rows within inside.rows_are ts state cells gs w (omega (arith, F.outside_count)) h.room h.fits a)
          (λ ys s₁ c₁ b.
          ends_map (Gave names_left depth (opened + 1) (calls + 1) (rows_made + rows_of p.result) left₁ i₁ value s₁.calls s₁.made c₁)
          (Beyond rows depth (opened + 1) (s₁.calls + (calls + 1)) (s₁.made + (rows_made + rows_of p.result)))
          (Gave names_left depth (opened + 1) (calls + 1) cells_of_lem left₁ i₁ value state.calls state.made cells)
          (Beyond rows depth (opened + 1) (state.calls + (calls + 1)) (state.made + cells_of_lem))
          (run_call depth lent nonterminal ys s₁ c₁)
          (call_along p taken A gives names_left ys s₁ c₁ (cc b.0.at_kept) (b.0.fresh_kept ∙ f) (kept_less (kept_made h b.0))
          b.1 provides depth)
          (λ x s₂ c₂ y. (
            record {
              grown = grown_trans b.0.grown y.0.grown;
              kept = y.0.kept;
              place = y.0.place;
              counter = y.0.counter;
              calls_are = omega (arith, y.0.calls_are, b.0.calls_kept);
              made_are = omega (arith, y.0.made_are, b.0.made_is);
              deep = y.0.deep;
            },
            y.1,
          ))
          (beyond_more (omega arith) (omega (arith, b.0.calls_kept)) (omega (arith, b.0.made_is))))
          (full_beyond (omega arith))

      go : {lent within : Input} → Provides setting lent → Provides setting within
          → (depth names_left : ℕ) (result : Template) (B : ℕ) (L xs : List ℕ) (state : State) (cells : List ℕ)
          → Body F.scope L (call nonterminal ts ∷ is) result B → from state ≡ left → state.fresh ≡ i
          → Kept rows (names_left + length (call nonterminal ts ∷ is)) state cells → ShowAll spell state.made cells xs M
          → Ends
          (Reached names_left depth (max (opened + 1) opened') (calls + 1 + calls') (cells_of_lem + rows_made') left' i' M' state.calls state.made cells)
          (Beyond rows depth (max (opened + 1) opened') (state.calls + (calls + 1 + calls')) (state.made + (cells_of_lem + rows_made')))
          (run_items (run_call depth lent) within (call nonterminal ts ∷ is) xs state cells)
      go {lent} {within} provides inside depth names_left result B L xs state cells (by_binding (Judgements.by_call w z) b) e f h a =
          ends_after (Gave (names_left + length is) depth (opened + 1) (calls + 1) cells_of_lem left₁ i₁ value state.calls state.made cells)
          (Beyond rows depth (opened + 1) (state.calls + (calls + 1)) (state.made + cells_of_lem))
          (Reached names_left depth (max (opened + 1) opened') (calls + 1 + calls') (cells_of_lem + rows_made') left' i' M' state.calls state.made cells)
          (Beyond rows depth (max (opened + 1) opened') (state.calls + (calls + 1 + calls')) (state.made + (cells_of_lem + rows_made')))
          (run_item (run_call depth lent) within (call nonterminal ts) xs state cells) (λ x. run_items (run_call depth lent) within is (xs ++ (x ∷ [])))
          (item provides inside depth (names_left + length is) state cells z e f
          (record { room = h.room; fits = h.fits; names = omega (arith, h.names); begun = h.begun })
          a)
          (λ x s₁ c₁ y.
          ends_map (Reached names_left depth opened' calls' rows_made' left' i' M' s₁.calls s₁.made c₁)
          (Beyond rows depth opened' (s₁.calls + calls') (s₁.made + rows_made'))
          (Reached names_left depth (max (opened + 1) opened') (calls + 1 + calls') (cells_of_lem + rows_made') left' i' M' state.calls state.made cells)
          (Beyond rows depth (max (opened + 1) opened') (state.calls + (calls + 1 + calls')) (state.made + (cells_of_lem + rows_made')))
          (run_items (run_call depth lent) within is (xs ++ (x ∷ [])) s₁ c₁)
          (A'.along provides inside depth names_left result B _ (xs ++ (x ∷ [])) s₁ c₁ b y.0.place y.0.counter y.0.kept
          (all_and (all_later y.0.grown a) y.1))
          (λ ys s₂ c₂ q. (
            record {
              grown = grown_trans y.0.grown q.0.grown;
              kept = q.0.kept;
              place = q.0.place;
              counter = q.0.counter;
              calls_are = omega (arith, y.0.calls_are, q.0.calls_are);
              made_are = omega (arith, y.0.made_are, q.0.made_are);
              deep = omega (arith, y.0.deep, q.0.deep);
            },
            q.1,
          ))
          (beyond_more (omega arith) (omega (arith, y.0.calls_are)) (omega (arith, y.0.made_are))))
          (beyond_more (omega arith) (omega arith) (omega arith))

  -- the run of items goes along their derivation
  pub items_along : {M M' : List Value} {s s' : List Token} {i i' : ℕ} {is : List Item} (derives : Derives g spell M s i is s' i' M')
      → Along (open_in derives) (calls_in derives) (rows_in derives) s i is M M' s' i'
  unfolding open_in calls_in rows_in run_items
  items_along by_end =
      record {
        along = λ u v d k r B L xs s cells b p f h a. (
          record {
            grown = grown_not s.made cells;
            kept = record { room = h.room; fits = h.fits; names = omega (arith, h.names); begun = h.begun };
            place = p;
            counter = f;
            calls_are = omega arith;
            made_are = omega arith;
            deep = omega arith;
          },
          a,
        );
      }
  items_along (by_terminal (by_keyword {k = k} e) derives) =
      token_along (keyword k) e (λ s cells q. shows_unit) (items_along derives)
  items_along (by_terminal (by_ide {t = t} e as_var) derives) =
      token_along (ide Sorts.var) e (λ s cells q. shows_var (word_shown s t q e)) (items_along derives)
  items_along (by_terminal (by_ide {t = t} e as_binder) derives) =
      token_along (ide Sorts.binder) e (λ s cells q. shows_binder (word_shown s t q e)) (items_along derives)
  items_along (by_terminal (by_ide {t = t} e as_label) derives) =
      token_along (ide Sorts.label) e (λ s cells q. rw (← q) shows_label) (items_along derives)
  items_along (by_terminal (by_number {t = t} e) derives) =
      token_along number e (λ s cells q. rw (← q) shows_num) (items_along derives)
  items_along (by_terminal by_local derives) = local_along (items_along derives)
  items_along (by_call {p = p} gs t derives q D') = call_item_along p gs t (items_along derives) q (items_along D')

  -- ------------------------------------------------------------------ the whole formula

  -- the items that are one call of the root run as that call
  root_ends : (P : List ℕ → State → List ℕ → Type 0) (H : Refusal → Type 0) (depth : ℕ) (cells : List ℕ)
      → Ends P H (run_items (run_call depth I) I (call setting.root none ∷ []) [] initial_state cells)
      → Ends (λ x s c. P (x ∷ []) s c) H (run_call depth I setting.root [] initial_state cells)
  unfolding run_items build_all
  root_ends P H depth cells h = go (run_call depth I setting.root [] initial_state cells) h
    where
      go : (result : Result ℕ) → Ends P H (after result (λ v. run_items (run_call depth I) I [] ([] ++ (v ∷ []))))
          → Ends (λ result s c. P (result ∷ []) s c) H result
      go (done v s c) q = q
      go (halt r c) q = q

  -- the call of the root beside its derivation
  pub root_along : {M : List Value} {left : List Token} {i : ℕ} (derives : Derives g spell [] tokens 1 (call setting.root none ∷ []) left i M)
      → (cells : List ℕ) → rows * columns ≤ length cells
      → Ends (λ x s c. Reached 0 most_open (open_in derives) (calls_in derives) (rows_in derives) left i M 0 0 cells (x ∷ []) s c)
      (Beyond rows most_open (open_in derives) (calls_in derives) (rows_in derives))
      (run_call most_open I setting.root [] initial_state cells)
  root_along {M} {left} {i} derives cells room =
      let W = Reached 0 most_open (open_in derives) (calls_in derives) (rows_in derives) left i M 0 0 cells in
      let K = Beyond rows most_open (open_in derives) (calls_in derives) (rows_in derives) in
      root_ends W K most_open cells
      (ends_map W (Beyond rows most_open (open_in derives) (0 + calls_in derives) (0 + rows_in derives)) W K
      (run_items (run_call most_open I) I (call setting.root none ∷ []) [] initial_state cells)
      ((items_along derives).along (provides_whole setting) (provides_whole setting) most_open 0 (make 0x25 none) Sorts.fields [] [] initial_state cells
      (root_body setting) refl refl
      (record { room = room; fits = omega arith; names = omega arith; begun = omega arith }) show_none)
      (λ xs s c u. u) (beyond_more (omega arith) (omega arith) (omega arith)))

  module _ {t : Term Name} (parses : Parses g spell setting.root tokens t) where
    -- accepted with the term, within the limits
    pub record Accepts (row : ℕ) (state : State) (cells : List ℕ) : Type 0 where
      -- the row given shows the term
      pub term_is : term_at state.made spell cells row ≡ t
      -- the limits allow the derivation
      pub affords : Affords rows 0 0 0 parses.derived
      -- the rows made
      pub made_are : state.made ≡ rows_in parses.derived

    abbrev Exceeds : Refusal → Type 0
    Exceeds r = Beyond rows most_open (open_in parses.derived) (calls_in parses.derived) (rows_in parses.derived) r

    all_read : (at : ℕ) → drop at tokens ≡ [] → length tokens ≤ at
    all_read at e = omega (arith, sym (length-drop at tokens) ∙ ap length e)

    ended_along : (row : ℕ) (state : State) (cells : List ℕ) → from state ≡ [] → Accepts row state cells → Ends Accepts Exceeds (ended I row state cells)
    ended_along row state cells e h =
        subst⁻¹ (λ b. Ends Accepts Exceeds (elim b [ true ↦ halt (refusal 18 state.at 0 0) cells | false ↦ done row state cells ]))
        (le-ltb state.at (length tokens) (all_read state.at e)) h

    shown_first : {made : ℕ} {cells : List ℕ} {row : ℕ} → ShowAll spell made cells (row ∷ []) (term t ∷ []) → term_at made spell cells row ≡ t
    shown_first (show_more h show_none) = shown setting h

    run_along : (cells : List ℕ) → rows * columns ≤ length cells → Ends Accepts Exceeds (run I setting.root cells)
    unfolding run
    run_along cells room =
        let D = parses.derived in
        ends_after (λ x s c. Reached 0 most_open (open_in D) (calls_in D) (rows_in D) [] parses.counter (term t ∷ []) 0 0 cells (x ∷ []) s c) Exceeds
        Accepts Exceeds (run_call most_open I setting.root [] initial_state cells) (ended I) (root_along D cells room)
        (λ v s c y.
        ended_along v s c y.0.place
        (record {
          term_is = shown_first y.1;
          affords =
              record {
                few_open = omega (arith, y.0.deep);
                few_calls = omega (arith, y.0.calls_are, y.0.kept.begun);
                few_rows = omega
                    (arith, y.0.made_are, y.0.kept.fits);
              };
          made_are = omega (arith, y.0.made_are);
        }))
        (λ r u. u)

    within_not : {cause : Refusal} → Affords rows 0 0 0 parses.derived → Exceeds cause → ⊥
    within_not h (too_deep e l) = omega (arith, h.few_open, l)
    within_not h (too_many e l) = omega (arith, h.few_calls, l)
    within_not h (too_large e l) = omega (arith, h.few_rows, l)

    -- accepted beside the derivation
    pub accepts : (cells : List ℕ) → rows * columns ≤ length cells → (row : ℕ) (state : State) (cells' : List ℕ)
        → run I setting.root cells ≡ done row state cells'
        → Accepts row state cells'
    accepts cells room row state cells' e = rw e at (run_along cells room)

    -- a derivation within the limits is accepted
    pub accepted : (cells : List ℕ) → rows * columns ≤ length cells → Affords rows 0 0 0 parses.derived
        → (row : ℕ) × (state : State) × (cells' : List ℕ) × (run I setting.root cells ≡ done row state cells')
    accepted cells room h = go (run I setting.root cells) refl (run_along cells room)
      where
        go : (result : Result ℕ) → run I setting.root cells ≡ result → Ends Accepts Exceeds result
            → (row : ℕ) × (state : State) × (cells' : List ℕ) × (run I setting.root cells ≡ done row state cells')
        go (done v s cells') e a = (v, s, cells', e)
        go (halt r cells') e q = absurd (within_not h q)
