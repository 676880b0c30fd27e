-- An expansion that halts stops by the rules, with the same refusal.
use Prim.Native.Nat.{ℕ, zero, suc, ◌+◌, ◌*◌, ◌≤◌, ◌<◌}
use mathlib.Core.Path.{◌≡◌, refl, subst₂, subst⁻¹, ◌∙◌}
use mathlib.Core.Bool.{Bool, true, false}
use mathlib.Core.List.{List, [], ◌∷◌, ◌++◌}
use native.Mathlib.Omega.{arith}
use lib.Dec.{eqb, ltb}
use lib.ListN.{length, drop}
use borrow.Author.Tests.{eqb-false, ltb-true, ltb-false}
use Rattle.answers.specs.declared.Refusal.{Refusal}
use Rattle.answers.specs.Refusals.{refusal}
use Rattle.kinds.specs.Kinds.{only}
use Rattle.grammar.specs.Sorts.{Signature}
use Rattle.grammar.specs.Sorts as Sorts
use Rattle.grammar.specs.Table.{Template, Templates, make, none, Terminal, kind_of, place, Item, terminal, local, call}
use Rattle.decoding.specs.Within.{Each, each_more, ItemWithin, call_within}
use Rattle.judgements.specs.Judgements.{Newest, ItemSorted, Body, by_binding}
use Rattle.judgements.specs.Judgements as Judgements
use Rattle.tokens.specs.declared.Token.{Token}
use Rattle.productions.specs.Normal.{Production}
use Rattle.firsts.specs.Rules.{reads}
use Rattle.firsts.proofs.FirstsTheorems.{opens_exactly}
use Rattle.expansion.specs.declared.State.{State}
use Rattle.expansion.specs.Run.{Result, done, halt}
use Rattle.expansion.specs.Expansion.{Input, ready_for, ready, choice, next_token, token_taken, take_terminal, misfit, build_all, build, run_item, run_items}
use Rattle.expansion.specs.TextTokens.{read_value}
use Rattle.expansion.specs.Expansion.{call_begun, run_call, initial_state, ended, run}
use Rattle.expansion.specs.Limits.{most_calls, most_open}
use Rattle.expansion.specs.Figure3.{Value, GiveAll, give_none, Taken, Derives, by_end}
use Rattle.expansion.specs.ValueSorts.{Matches}
use Rattle.expansion.specs.Costs.{rows_of, rows_of_all, open_in, calls_in, rows_in, Affords}
use Rattle.expansion.specs.Parsing.{input}
use Rattle.expansion.proofs.Shows.{ShowAll, show_none, all_later, all_and}
use Rattle.soundness.proofs.Setting.{Setting, Provides, provides_whole, provides_inner, choice_is, picks_at, take_is, no_arguments, item_body}
use Rattle.expansion.proofs.Endings.{Ends, after_by, ends_both, ends_after, ends_map, Made, Full}
use Rattle.soundness.proofs.Building.{Built, BuiltAll, build_ends, build_all_ends}
use Rattle.soundness.proofs.Typing.{matches_and, give_all_exist, gives_exists, FitAll, sorted_kind, body_of, taken_of}
use Rattle.expansion.proofs.CallLaws.{inner, Ran, call_full, call_unfit, call_chosen}
use Rattle.expansion.proofs.Choosing.{next_kind, Picks, picks, picks_none, rule}
use Rattle.soundness.proofs.Sound.{token_here, Kept, kept_made, kept_less, Stepped, Derived, item_sound}
use Rattle.soundness.proofs.Sound.{items_sound, call_sound, Root, root_called, root_derived}
use Rattle.soundness.proofs.Complete.{items_along, items_after, root_along}
use Rattle.soundness.specs.Stopping.{Action, next_index, takes, makes, Fails, no_token, no_row, too_deep, too_many_calls, no_choice, Stops, at_token}
use Rattle.soundness.specs.Stopping.{at_place, at_arguments, at_call, past_item, CallStops, at-start, in_items, at_result, Refuses, stops, left_over}
use Rattle.soundness.proofs.StopLaws.{build_stays, build_all_stays, index_is, kind_of_next, item_bounded, items_bounded, call_bounded}
use Rattle.terms.specs.Cells.{columns}

module _ {g : List Production} (setting : Setting g) where
  abbrev F : FitAll g
  F = setting.fit

  abbrev spell : ℕ → List ℕ
  spell = setting.spell

  abbrev tokens : List Token
  tokens = setting.tokens

  abbrev rows : ℕ
  rows = setting.rows

  abbrev J : Input
  J = input g tokens rows

  abbrev rest : State → List Token
  rest s = drop s.at tokens

  abbrev Fine : {A : Type 0} → A → State → List ℕ → Type 0
  Fine a s cells = Unit {0}

  -- from a state, with o calls open
  abbrev StopsAt : ℕ → List Value → List Item → State → Refusal → Type 0
  StopsAt o M is s r = (made : ℕ) × Stops g spell rows tokens o s.calls s.made M (rest s) s.fresh is r made

  abbrev EntersAt : ℕ → ℕ → List Value → State → Refusal → Type 0
  EntersAt o n vs s r = (made : ℕ) × CallStops g spell rows tokens o s.calls s.made n vs (rest s) s.fresh r made

  abbrev Refused : Refusal → Type 0
  Refused r = (made : ℕ) × Refuses g spell rows tokens setting.root r made

  here : (state : State) → state.at ≤ length tokens → next_index tokens (rest state) ≡ state.at
  here state l = index_is setting state refl l

  -- a step that fails at the index of what is left fails at the state's place
  fails_here : {opened begun made number value other total : ℕ} {step : Action} (state : State) → state.at ≤ length tokens
      → Fails g spell rows tokens opened begun made (rest state) step (refusal number (next_index tokens (rest state)) value other) total
      → Fails g spell rows tokens opened begun made (rest state) step (refusal number state.at value other) total
  fails_here state l f = rw (here state l) at f

  -- what is asked of a callee
  abbrev Halting : Input → ℕ → Type 0
  Halting lent d =
      (o k n : ℕ) (S : Signature) (vs : List Value) (xs : List ℕ) (s : State) (cells : List ℕ) → d + o ≡ most_open → Newest
      F.scope.env n S → n < 64 → Matches vs S.params
      → s.at ≤ length tokens → Kept rows k s cells → ShowAll spell s.made cells xs vs → Ends Fine (EntersAt o n vs s) (run_call d lent n xs s cells)

  take_halts : {lent : Input} → Provides setting lent
      → (opened : ℕ) (M : List Value) {item : Item} (is : List Item) (t : Terminal) (state : State) (cells : List ℕ)
      → ((cause : Refusal) (total : ℕ) → Fails g spell rows tokens opened state.calls state.made (rest state) (takes (kind_of t)) cause total
      → Stops g spell rows tokens opened state.calls state.made M (rest state) state.fresh (item ∷ is) cause total)
      → state.at ≤ length tokens
      → Ends Fine (StopsAt opened M (item ∷ is) state) (take_terminal lent t state cells)
  take_halts provides opened M {item} is t state cells w l =
      subst⁻¹ (Ends Fine (StopsAt opened M (item ∷ is) state)) (take_is setting provides t state cells)
      (go (eqb (next_token J state).kind (kind_of t)) refl)
    where
      go : (test : Bool) → eqb (next_token J state).kind (kind_of t) ≡ test
          → Ends {A = ℕ} Fine (StopsAt opened M (item ∷ is) state)
          (elim test as (λ x. Result ℕ) [
            | true ↦ done (read_value t (next_token J state).value) (token_taken state) cells
            | false ↦ misfit (only (kind_of t)) state cells
          ])
      go true e = tt
      go false e = (
        _,
        w _ _
            (fails_here state l
            (no_token (λ n. eqb-false (next_token J state).kind (kind_of t) e (kind_of_next setting state n)))),
      )

  full_row : (opened begun made : ℕ) {needed : ℕ} (state : State) → state.at ≤ length tokens → rows < made + needed
      → (total : ℕ) × Fails g spell rows tokens opened begun made (rest state) (makes needed) (refusal 21 state.at 0 0) total
  full_row opened begun made {needed} state l h = (_, fails_here state l (no_row h))

  -- a call of a state after its arguments is one of the state before them
  enters_stops : {opened nonterminal : ℕ} {M vs : List Value} {ts : Templates} (is : List Item) {state state₁ : State} {cells cells_after₁ : List ℕ}
      → GiveAll spell M ts vs → Made rows (rows_of_all ts) state cells state₁ cells_after₁
      → (cause : Refusal) → EntersAt opened nonterminal vs state₁ cause → StopsAt opened M (call nonterminal ts ∷ is) state cause
  enters_stops {opened} {nonterminal} {vs = vs} {ts = ts} is {state = state} {state₁ = state₁} gs b cause e =
      let fits : state.made + rows_of_all ts ≤ rows = omega (arith, b.fits, b.made_is) in (
        e.0,
        at_call gs fits
            (subst₂ (λ at i. CallStops g spell rows tokens opened state.calls (state.made + rows_of_all ts) nonterminal vs (drop at tokens) i cause e.0)
            b.at_kept b.fresh_kept
            (subst₂ (λ c m. CallStops g spell rows tokens opened c m nonterminal vs (rest state₁) state₁.fresh cause e.0) b.calls_kept b.made_is
            e.1)),
      )

  module _ {lent within : Input} (provides : Provides setting lent) (inside : Provides setting within) (depth opened : ℕ)
      (left : depth + opened ≡ most_open) (halting : Halting lent depth) where
    item_halts : (names_left : ℕ) {item : Item} {A : ℕ} {M : List Value} {L xs : List ℕ} (is : List Item) (state : State) (cells : List ℕ)
        → ItemSorted F.scope L item A → ItemWithin item → Matches M L
        → state.at ≤ length tokens → Kept rows (names_left + 1) state cells → ShowAll spell state.made cells xs M
        → Ends Fine (StopsAt opened M (item ∷ is) state) (run_item (run_call depth lent) within item xs state cells)
    item_halts names_left {item = terminal t} {M = M} is state cells w z m b h a =
        sorted_kind F w (λ l. take_halts inside opened M is t state cells (λ cause total f. at_token (reads l) f) b)
        (λ B e.
        subst⁻¹ (λ u. Ends Fine (StopsAt opened M (terminal u ∷ is) state) (take_terminal within u state cells)) e
        (take_halts inside opened M is (place B) state cells (λ cause total f. at_place f) b))
    item_halts names_left {item = local} is state cells w z m b h a = tt
    item_halts names_left {item = call _ _} {M = M} {xs = xs} is state cells (Judgements.by_call {n = n} {S = S} {ts = ts} w f) (call_within l ws) m b h a =
        let vs = give_all_exist spell m ts f in
        ends_after (λ ys s₁ c₁. BuiltAll spell rows (rows_of_all ts) state cells vs.0 ys s₁ c₁ × (s₁.at ≡ state.at))
        (λ r. Full rows (state.made + rows_of_all ts) r × (r ≡ refusal 21 state.at 0 0))
        Fine (StopsAt opened M (call n ts ∷ is) state) (build_all ts within xs state cells) (λ ys. run_call depth lent n ys)
        (ends_both (BuiltAll spell rows (rows_of_all ts) state cells vs.0) (λ ys s₁ c₁. s₁.at ≡ state.at) (Full rows (state.made + rows_of_all ts))
        (λ r. r ≡ refusal 21 state.at 0 0) (build_all ts within xs state cells)
        (build_all_ends spell rows within inside.rows_are ts state cells vs.1 f (omega (arith, F.outside_count)) h.room
        h.fits a) (build_all_stays within ts xs state cells))
        (λ ys s₁ c₁ y.
        ends_map Fine (EntersAt opened n vs.0 s₁) Fine (StopsAt opened M (call n ts ∷ is) state) (run_call depth lent n ys s₁ c₁)
        (halting opened names_left n S vs.0 ys s₁ c₁ left w (omega arith) vs.2 (omega (arith, y.1)) (kept_less (kept_made h y.0.0)) y.0.1)
        (λ x s₂ c₂ u. u) (enters_stops is vs.1 y.0.0))
        (λ r u. let full = full_row opened state.calls state.made state b u.0.beyond in (full.0, at_arguments vs.1 (rw u.1 full.1)))

    -- an item derived has cost what its derivation costs
    item_costs : (names_left : ℕ) {item : Item} {A : ℕ} {M : List Value} {L : List ℕ} (xs : List ℕ) (state : State) (cells : List ℕ)
        → ItemSorted F.scope L item A
        → Kept rows (names_left + 1) state cells → ShowAll spell state.made cells xs M → (row : ℕ) (state₁ : State) (cells_after₁ : List ℕ)
        → run_item (run_call depth lent) within item xs state cells ≡ done row state₁ cells_after₁
        → {M₁ : List Value} (derives : Derives g spell M (rest state) state.fresh (item ∷ []) (rest state₁) state₁.fresh M₁)
        → (state₁.calls ≡ state.calls + calls_in derives) × (state₁.made ≡ state.made + rows_in derives) × (open_in derives ≤ depth)
    unfolding run_items
    item_costs names_left {item} {L = L} xs state cells w h a row state₁ cells_after₁ e {M₁} derives =
        let q = rw (items_after (run_call depth lent) within item [] xs state cells row state₁ cells_after₁ e) at
        ((items_along setting derives).along provides inside depth names_left (make 0x25 none) Sorts.fields L xs state cells
        (item_body setting w) refl refl h a) in
        (q.0.calls_are, q.0.made_are, q.0.deep)

    items_halt : (names_left : ℕ) (is : List Item) {result : Template} {B : ℕ} {M : List Value} {L xs : List ℕ} (state : State) (cells : List ℕ)
        → Body F.scope L is result B → Each ItemWithin is → Matches M L
        → state.at ≤ length tokens → Kept rows (names_left + length is) state cells → ShowAll spell state.made cells xs M
        → Ends Fine (StopsAt opened M is state) (run_items (run_call depth lent) within is xs state cells)
    unfolding run_items
    items_halt names_left [] state cells b z m n h a = tt
    items_halt names_left (i ∷ is) {M = M} {xs = xs} state cells (by_binding {A = A} w b) (each_more z zs) m n h a =
        let h' : Kept rows (names_left + length is + 1) state cells = record
        { room = h.room; fits = h.fits; names = omega (arith, h.names); begun = h.begun } in
        after_by Fine (StopsAt opened M (i ∷ is) state) (run_item (run_call depth lent) within i xs state cells)
        (λ x. run_items (run_call depth lent) within is (xs ++ (x ∷ [])))
        (λ x s₁ c₁ e.
        let p : Stepped setting (names_left + length is) i A M state cells x s₁ c₁ =
        rw e at (item_sound setting inside (run_call depth lent) (call_sound setting provides depth) (names_left + length is) state cells w z m h' a) in
        let D = p.step [] (M ++ (p.value ∷ [])) (rest s₁) s₁.fresh by_end in
        let q = item_costs (names_left + length is) xs state cells w h' a x s₁ c₁ e D in
        let n₁ : s₁.at ≤ length tokens =
        rw e at (item_bounded setting inside (run_call depth lent) (call_bounded setting provides depth) xs state cells w z n) in
        ends_map Fine (StopsAt opened (M ++ (p.value ∷ [])) is s₁) Fine (StopsAt opened M (i ∷ is) state)
        (run_items (run_call depth lent) within is (xs ++ (x ∷ [])) s₁ c₁)
        (items_halt names_left is s₁ c₁ b zs (matches_and m p.typed) n₁ p.kept (all_and (all_later p.grown a) p.shows))
        (λ ys s₂ c₂ u. u)
        (λ r u. (
          u.0,
          past_item {o = opened} {c = state.calls} {m = state.made} D
              (record { few_open = omega (arith, q.2); few_calls = omega (arith, q.0, p.kept.begun); few_rows = omega (arith, q.1, p.kept.fits) })
              (subst₂ (λ c m. Stops g spell rows tokens opened c m (M ++ (p.value ∷ [])) (rest s₁) s₁.fresh is r u.0) q.0 q.1 u.1),
        )))
        (λ q c₁ e. rw e at (item_halts (names_left + length is) is state cells w z m n h' a))

  -- ------------------------------------------------------------------ calls

  module _ {lent : Input} (provides : Provides setting lent) (depth opened : ℕ) (left : suc depth + opened ≡ most_open) (halting : Halting lent depth)
      (names_left nonterminal : ℕ) (S : Signature) (vs : List Value)
      (xs : List ℕ) (state : State)
      (cells : List ℕ) (newest : Newest F.scope.env nonterminal S) (below : nonterminal < 64) (matches : Matches vs S.params)
      (bounded : state.at ≤ length tokens) (kept : Kept rows names_left state cells) (show_all : ShowAll spell state.made cells xs vs) where
    abbrev Goal : Result ℕ → Type 0
    Goal z = Ends Fine (EntersAt opened nonterminal vs state) z

    deeper : opened < most_open
    deeper = omega arith

    production_halts : (p : Production) → Taken g nonterminal (rest state) p → state.calls < most_calls
        → Goal (Ran depth lent nonterminal xs state cells (rule g p))
    production_halts p t c =
        let within = inner lent state in
        let inside = provides_inner setting provides state in
        let q = F.each p (taken_of t).member in
        let h' : Kept rows (names_left + length p.items) (call_begun state) cells =
        record { room = kept.room; fits = kept.fits; names = omega (arith, kept.names, q.item_count); begun = omega arith } in
        let body = body_of F (taken_of t) newest in
        let K = EntersAt opened nonterminal vs state in
        after_by Fine K (run_items (run_call depth lent) within p.items xs (call_begun state) cells) (λ ys. build p.result within ys)
        (λ ys s₁ c₁ e.
        let y : Derived setting names_left p.items p.result S.result vs (call_begun state) cells ys s₁ c₁ =
        rw e at
        (items_sound setting inside (run_call depth lent) (call_sound setting provides depth) names_left p.items (call_begun state) cells body
        q.items matches h' show_all) in
        let D = y.derived in
        let z = rw e at
        ((items_along setting D).along provides inside depth names_left p.result S.result S.params xs
        (call_begun state) cells body refl refl h' show_all) in
        let b₁ : s₁.at ≤ length tokens =
        rw e at
        (items_bounded setting inside (run_call depth lent) (call_bounded setting provides depth) p.items xs (call_begun state) cells body
        q.items bounded) in
        let v = gives_exists spell y.matches p.result y.sorted in
        let A : Affords rows (opened + 1) (state.calls + 1) state.made D =
        record {
          few_open = omega (arith, z.0.deep, left);
          few_calls = omega (arith, z.0.calls_are, y.kept.begun);
          few_rows = omega
              (arith, z.0.made_are, y.kept.fits);
        } in
        ends_map (λ x s₂ c₂. Built spell rows (rows_of p.result) s₁ c₁ v.0 x s₂ c₂ × (s₂.at ≡ s₁.at))
        (λ r. Full rows (s₁.made + rows_of p.result) r × (r ≡ refusal 21 s₁.at 0 0)) Fine K
        (build p.result within ys s₁ c₁)
        (ends_both (Built spell rows (rows_of p.result) s₁ c₁ v.0) (λ x s₂ c₂. s₂.at ≡ s₁.at) (Full rows (s₁.made + rows_of p.result))
        (λ r. r ≡ refusal 21 s₁.at 0 0) (build p.result within ys s₁ c₁)
        (build_ends spell rows within inside.rows_are p.result {value = v.0} s₁ c₁ v.1 y.sorted (omega (arith, F.outside_count)) y.kept.room
        y.kept.fits y.shows)
        (build_stays within p.result ys s₁ c₁))
        (λ x s₂ c₂ u. tt)
        (λ r u.
        let few : rows < state.made + rows_in D + rows_of p.result = omega (arith, u.0.beyond, z.0.made_are) in
        let full = full_row (opened + 1) (state.calls + 1 + calls_in D) (state.made + rows_in D) s₁ b₁ few in
        (full.0, at_result {made = full.0} {v = v.0} t D A v.1 (rw u.1 full.1))))
        (λ r c₁ e.
        let x : StopsAt (opened + 1) vs p.items (call_begun state) r = rw e at
        (items_halt provides inside depth (opened + 1) (omega (arith, left)) halting names_left p.items (call_begun state) cells body
        q.items matches bounded h'
        show_all) in
        (x.0, in_items deeper c t x.1))

    call_step : Goal (run_call (suc depth) lent nonterminal xs state cells)
    unfolding ready_for
    call_step = go (ltb state.calls most_calls) refl (picks_at setting state nonterminal below)
      where
        go : (test : Bool) → ltb state.calls most_calls ≡ test → Picks g nonterminal (rest state) (choice (ready g) nonterminal (next_kind (rest state)))
            → Goal (run_call (suc depth) lent nonterminal xs state cells)
        go false e q =
            subst⁻¹ Goal (call_full depth lent nonterminal xs state cells e)
            (_, at-start (fails_here state bounded (too_many_calls deeper (ltb-false state.calls most_calls e))))
        go true e (picks p t f) =
            subst⁻¹ Goal (call_chosen depth lent nonterminal xs state cells (rule g p) e (choice_is setting provides state nonterminal ∙ f))
            (production_halts p t (ltb-true state.calls most_calls e))
        go true e (picks_none f c) =
            subst⁻¹ Goal (call_unfit depth lent nonterminal xs state cells e (choice_is setting provides state nonterminal ∙ c))
            (rw provides.grammar_is
            (_, at-start (fails_here state bounded (no_choice deeper (ltb-true state.calls most_calls e) f (opens_exactly g nonterminal)))))

  call_halts : {lent : Input} → Provides setting lent → (depth : ℕ) → Halting lent depth
  unfolding run_call
  call_halts provides zero o k n S vs xs s cells e w l m b h a =
      (_, at-start {o = o} (fails_here s b (too_deep (omega (arith, e)))))
  call_halts provides (suc depth) o k n S vs xs s cells e w l m b h a = call_step provides depth o e (call_halts provides depth) k n S vs xs s cells w l m b h a

  -- ------------------------------------------------------------------ the whole formula

  -- the call of the root is the one item of the whole
  root_stops : {cause : Refusal} → EntersAt 0 setting.root [] initial_state cause → Refused cause
  unfolding rows_of_all
  root_stops e = (e.0, stops (at_call {m = 0} {ts = none} give_none (omega arith) e.1))

  leftover : (cells : List ℕ) (row : ℕ) (state : State) (cells' : List ℕ) {token : Token} {ts : List Token} → rows * columns ≤ length cells
      → run_call most_open J setting.root [] initial_state cells ≡ done row state cells' → Root setting cells row state cells' → state.at ≤ length tokens
      → rest state ≡ token ∷ ts → Refused (refusal 18 state.at 0 0)
  leftover cells row state cells' {token} {ts} room q y b e =
      let D : Derives g spell [] tokens 1 (call setting.root none ∷ []) (token ∷ ts) state.fresh (y.value ∷ []) =
      rw (← e) (root_derived setting y) in
      let z = rw q at (root_along setting D cells room) in
      rw (← (index_is setting state e b)) (
        _,
        left_over D
            (record {
              few_open = omega (arith, z.0.deep);
              few_calls = omega (arith, z.0.calls_are, z.0.kept.begun);
              few_rows = omega (arith, z.0.made_are, z.0.kept.fits);
            }),
      )

  -- a run that stops is refused by the rules
  pub run_halts : (cells : List ℕ) → rows * columns ≤ length cells → Ends Fine Refused (run J setting.root cells)
  unfolding run
  run_halts cells room =
      after_by Fine Refused (run_call most_open J setting.root [] initial_state cells) (ended J)
      (λ v s c₁ q.
      over v s c₁ q (rw q at (root_called setting cells room))
      (rw q at (call_bounded setting (provides_whole setting) most_open setting.root [] initial_state cells setting.root_small (omega arith))))
      (λ r c₁ q.
      root_stops
      (rw q at
      (call_halts (provides_whole setting) most_open 0 0 setting.root setting.signature [] [] initial_state cells refl setting.defined
      setting.root_small
      (no_arguments setting) (omega arith)
      (record { room = room; fits = omega arith; names = omega arith; begun = omega arith }) show_none)))
    where
      over : (row : ℕ) (state : State) (cells_after₁ : List ℕ) → run_call most_open J setting.root [] initial_state cells ≡ done row state cells_after₁
          → Root setting cells row state cells_after₁ → state.at ≤ length tokens
          → Ends Fine Refused (ended J row state cells_after₁)
      over row state cells_after₁ q y b = go (ltb state.at (length tokens)) refl
        where
          go : (test : Bool) → ltb state.at (length tokens) ≡ test
              → Ends {A = ℕ} Fine Refused
              (elim test as (λ x. Result ℕ) [ true ↦ halt (refusal 18 state.at 0 0) cells_after₁ | false ↦ done row state cells_after₁ ])
          go true e = leftover cells row state cells_after₁ room q y b (token_here tokens state.at (ltb-true state.at (length tokens) e))
          go false e = tt
