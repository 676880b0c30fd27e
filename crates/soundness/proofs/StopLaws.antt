-- Steps of an expansion: templates halt with 21 at the token where they stand, and a place never runs past the tokens.
use Prim.Native.Nat.{ℕ, zero, suc, ◌+◌, ◌^◌, ◌≤◌, ◌<◌}
use mathlib.Core.Path.{◌≡◌, refl, sym, ap, subst, subst⁻¹, ◌∙◌}
use mathlib.Core.Bool.{Bool, true, false}
use mathlib.Core.List.{List, [], ◌∷◌, ◌++◌}
use native.Mathlib.Omega.{arith}
use lib.Dec.{eqb, ltb}
use native.Mathlib.Nat.{pow-suc}
use lib.ListN.{length, get_or, drop, length-drop}
use lib.Count.{ones}
use borrow.Author.Tests.{eqb-true, ne_eqb, le-ltb}
use Rattle.answers.specs.Refusals.{refusal}
use Rattle.kinds.specs.Kinds.{has_kind, only}
use Rattle.kinds.specs.TextKinds.{variable_kind}
use Rattle.kinds.proofs.KindsLaws.{same_kinds}
use Rattle.grammar.specs.Table.{Template, Templates, none, more, Terminal, kind_of, Item, terminal, local, call}
use Rattle.grammar.specs.Table as Table
use Rattle.decoding.specs.Within.{Each, each_more, ItemWithin, call_within}
use Rattle.judgements.specs.Judgements.{ItemSorted, Body, by_binding}
use Rattle.tokens.specs.declared.Token.{Token}
use Rattle.productions.specs.Normal.{Production}
use Rattle.firsts.specs.FirstSets.{nullables, first_sets}
use Rattle.firsts.proofs.FirstsTheorems.{opens_exactly}
use Rattle.expansion.specs.declared.State.{State}
use Rattle.expansion.specs.Run.{Result, done, halt, Run, after}
use Rattle.expansion.specs.Expansion.{Input, ready, choice, next_token, token_taken, take_token, take_terminal, misfit, cell, build, build_all}
use Rattle.expansion.specs.TextTokens.{read_value}
use Rattle.expansion.specs.Expansion.{run_item, run_items, call_begun, run_call}
use Rattle.expansion.specs.Limits.{most_calls}
use Rattle.expansion.specs.Figure3.{Next, next}
use Rattle.expansion.specs.Parsing.{input}
use Rattle.soundness.proofs.Setting.{Setting, Provides, provides_inner, choice_is, picks_at, take_is}
use Rattle.expansion.proofs.Endings.{Ends}
use Rattle.soundness.proofs.Typing.{FitAll, sorted_kind, taken_of}
use Rattle.expansion.proofs.CellLaws.{cell_by}
use Rattle.expansion.proofs.CallLaws.{inner, call_full, call_unfit, call_chosen}
use Rattle.expansion.proofs.Choosing.{next_kind, kind_next, Picks, picks, picks_none, rule}
use Rattle.soundness.proofs.Sound.{token_before}
use Rattle.soundness.specs.Stopping.{next_index, FirstSet}

-- ------------------------------------------------------------------ first sets

below_power : (number : ℕ) → number < 2 ^ number
below_power zero = omega arith
below_power (suc number) = rw (pow-suc 2 number) (omega (arith, below_power number))

same_set : (set other : ℕ) → ((kind : ℕ) → has_kind set kind ≡ has_kind other kind) → set ≡ other
same_set set other h = same_kinds (set + other) set other (omega (arith, below_power (set + other))) (omega (arith, below_power (set + other))) (λ k l. h k)

both_true : (one other : Bool) → (one ≡ true → other ≡ true) → (other ≡ true → one ≡ true) → one ≡ other
both_true true other f g = sym (f refl)
both_true false true f g = g refl
both_true false false f g = refl

-- a nonterminal has one first set, the one that the rounds find
pub first_set_one : {g : List Production} {nonterminal set : ℕ} → FirstSet g nonterminal set → set ≡ get_or (first_sets (nullables g) g) nonterminal 0
first_set_one {g} {nonterminal} {set} w =
    same_set set _ (λ k. both_true _ _ (λ e. (opens_exactly g nonterminal k).1 ((w k).0 e)) (λ e. (w k).1 ((opens_exactly g nonterminal k).0 e)))

-- ------------------------------------------------------------------ templates

-- the place stays, and a refusal is 21 there
abbrev pub Stays : {A : Type 0} → State → Result A → Type 0
Stays s x = Ends (λ a s' c. s'.at ≡ s.at) (λ r. r ≡ refusal 21 s.at 0 0) x

stays_after : {A B : Type 0} (state : State) (result : Result A) (follow : A → Run B) → Stays state result
    → ((item : A) (state' : State) (cells : List ℕ) → Stays state' (follow item state' cells))
    → Stays state (after result follow)
stays_after state (halt r c) follow h f = h
stays_after {B = B} state (done a s' c) follow h f = go (follow a s' c) (f a s' c)
  where
    go : (result : Result B) → Stays s' result → Stays state result
    go (done b s'' c'') q = q ∙ h
    go (halt r c'') q = cc q

module _ (lent : Input) where
  cell_stays : (code : ℕ) (xs : List ℕ) (state : State) (cells : List ℕ) → Stays state (cell lent code xs state cells)
  cell_stays code xs state cells = cell_by lent code xs state cells (λ x. Stays state x) (λ numbers row l. refl) (λ l. refl)

  mutual
    unfolding build build_all

    -- building a template reads no token
    pub build_stays : (template : Template) (values : List ℕ) (state : State) (cells : List ℕ) → Stays state (build template lent values state cells)
    build_stays (Table.variable i) values state cells = refl
    build_stays (Table.outside_var n) values state cells = refl
    build_stays (Table.outside_label n) values state cells = refl
    build_stays Table.unit values state cells = refl
    build_stays (Table.make c ts) values state cells =
        stays_after state (build_all ts lent values state cells) (λ vs. cell lent c vs) (build_all_stays ts values state cells)
        (λ vs s' c'. cell_stays c vs s' c')

    -- nor does building templates
    pub build_all_stays : (ts : Templates) (values : List ℕ) (state : State) (cells : List ℕ) → Stays state (build_all ts lent values state cells)
    build_all_stays none values state cells = refl
    build_all_stays (more t ts) values state cells =
        stays_after state (build t lent values state cells) _ (build_stays t values state cells)
        (λ v s' c'. stays_after s' (build_all ts lent values s' c') _ (build_all_stays ts values s' c') (λ vs s'' c''. refl))

-- ------------------------------------------------------------------ tokens

is_next : (s : List Token) {kind : ℕ} → next_kind s ≡ kind → kind < 64 → Next s kind
is_next [] e l = absurd (omega (arith, e))
is_next (t ∷ s) e l = subst (Next (t ∷ s)) e next

next_is : {s : List Token} {kind : ℕ} → Next s kind → next_kind s ≡ kind
next_is next = refl

module _ {g : List Production} (setting : Setting g) where
  abbrev F : FitAll g
  F = setting.fit

  abbrev spell : ℕ → List ℕ
  spell = setting.spell

  abbrev tokens : List Token
  tokens = setting.tokens

  abbrev rows : ℕ
  rows = setting.rows

  abbrev J : Input
  J = input g tokens rows

  abbrev rest : State → List Token
  rest s = drop s.at tokens

  -- the index of what is left is the state's place
  pub index_is : (state : State) {left : List Token} → rest state ≡ left → state.at ≤ length tokens → next_index tokens left ≡ state.at
  index_is state e l = omega (arith, ap length e, length-drop state.at tokens)

  -- a token taken is of the kind, and one that is not is none of it
  next_kind_lem : (state : State) {kind : ℕ} → (next_token J state).kind ≡ kind → kind < 64 → Next (rest state) kind
  next_kind_lem state e l = is_next (rest state) (sym (kind_next state.at tokens) ∙ e) l

  -- the next token's kind
  pub kind_of_next : (state : State) {kind : ℕ} → Next (rest state) kind → (next_token J state).kind ≡ kind
  kind_of_next state n = kind_next state.at tokens ∙ next_is n

  -- a token of another kind stops the run
  pub take_halts : {lent : Input} → Provides setting lent → (t : Terminal) (state : State) (cells : List ℕ) → kind_of t < 64
      → (Next (rest state) (kind_of t) → ⊥)
      → take_terminal lent t state cells ≡ halt (refusal 17 state.at (only (kind_of t)) (ones (only (kind_of t)))) cells
  take_halts provides t state cells l n =
      take_is setting provides t state cells ∙ rw (ne_eqb (next_token J state).kind (kind_of t) (λ e. n (next_kind_lem state e l)), take_token) refl

  -- no token of a formula is taken at a pattern place
  pub place_halts : {lent : Input} → Provides setting lent → (B : ℕ) (state : State) (cells : List ℕ)
      → take_terminal lent (Table.place B) state cells ≡ halt (refusal 17 state.at (only (variable_kind B)) (ones (only (variable_kind B)))) cells
  place_halts provides B state cells =
      take_is setting provides (Table.place B) state cells
      ∙ rw (ne_eqb (next_token J state).kind (variable_kind B) (λ e. omega (arith, setting.formula state.at)), take_token) refl

  -- with no openings, and 0 for their count
  pub place_refused : {lent : Input} → Provides setting lent → (B : ℕ) (state : State) (cells : List ℕ)
      → take_terminal lent (Table.place B) state cells ≡ halt (refusal 17 state.at 0 0) cells
  unfolding only ones
  place_refused provides B state cells = place_halts provides B state cells ∙ rw (le-ltb (variable_kind B) 64 (omega arith), only) refl

  -- ------------------------------------------------------------------ the place

  -- the run stays within the tokens
  abbrev pub Bounded : {A : Type 0} → Result A → Type 0
  Bounded x = Ends (λ a s c. s.at ≤ length tokens) (λ r. Unit {0}) x

  bounded_after : {A B : Type 0} (result : Result A) (follow : A → Run B) → Bounded result
      → ((item : A) (state : State) (cells : List ℕ) → state.at ≤ length tokens → Bounded (follow item state cells))
      → Bounded (after result follow)
  bounded_after (done a s c) follow h f = f a s c h
  bounded_after (halt r c) follow h f = tt

  stays_bounded : {A : Type 0} (state : State) (result : Result A) → state.at ≤ length tokens → Stays state result → Bounded result
  stays_bounded state (done a s' c) l h = omega arith
  stays_bounded state (halt r c) l h = tt

  take_bounded : {lent : Input} → Provides setting lent → (t : Terminal) (state : State) (cells : List ℕ) → kind_of t < 64
      → Bounded (take_terminal lent t state cells)
  take_bounded provides t state cells l =
      subst⁻¹ Bounded (take_is setting provides t state cells) (go (eqb (next_token J state).kind (kind_of t)) refl)
    where
      go : (test : Bool) → eqb (next_token J state).kind (kind_of t) ≡ test
          → Bounded {A = ℕ} (elim test as (λ x. Result ℕ)
          [ true ↦ done (read_value t (next_token J state).value) (token_taken state) cells | false ↦ misfit (only (kind_of t)) state cells ])
      go true e = omega (arith, token_before tokens state.at (eqb-true (next_token J state).kind (kind_of t) e) l)
      go false e = tt

  module _ {lent : Input} (provides : Provides setting lent) (called : ℕ → List ℕ → Run ℕ)
      (callee : (number : ℕ) (vs : List ℕ) (state : State) (cells : List ℕ) → number < 64 → state.at ≤ length tokens → Bounded (called number vs state cells))
    where
      -- an item does
      pub item_bounded : {item : Item} {A : ℕ} {L : List ℕ} (xs : List ℕ) (state : State) (cells : List ℕ) → ItemSorted F.scope L item A → ItemWithin item
          → state.at ≤ length tokens → Bounded (run_item called lent item xs state cells)
      item_bounded {item = terminal t} xs state cells w z h =
          sorted_kind F w (take_bounded provides t state cells)
          (λ B e. subst⁻¹ (λ u. Bounded (take_terminal lent u state cells)) e (subst⁻¹ Bounded (place_halts provides B state cells) tt))
      item_bounded {item = local} xs state cells w z h = h
      item_bounded {item = call n ts} xs state cells w (call_within l ws) h =
          bounded_after (build_all ts lent xs state cells) (λ vs. called n vs)
          (stays_bounded state (build_all ts lent xs state cells) h (build_all_stays lent ts xs state cells))
          (λ vs s' c' b. callee n vs s' c' (omega arith) b)

      -- items do
      pub items_bounded : (is : List Item) {result : Template} {B : ℕ} {L : List ℕ} (xs : List ℕ) (state : State) (cells : List ℕ)
          → Body F.scope L is result B → Each ItemWithin is → state.at ≤ length tokens → Bounded (run_items called lent is xs state cells)
      unfolding run_items
      items_bounded [] xs state cells b z h = h
      items_bounded (i ∷ is) xs state cells (by_binding w b) (each_more z zs) h =
          bounded_after (run_item called lent i xs state cells) (λ v. run_items called lent is (xs ++ (v ∷ []))) (item_bounded xs state cells w z h)
          (λ v s' c' l. items_bounded is (xs ++ (v ∷ [])) s' c' b zs l)

  -- a call does
  pub call_bounded : {lent : Input} → Provides setting lent → (depth nonterminal : ℕ) (vs : List ℕ) (state : State) (cells : List ℕ) → nonterminal < 64
      → state.at ≤ length tokens
      → Bounded (run_call depth lent nonterminal vs state cells)
  unfolding run_call
  call_bounded provides zero nonterminal vs state cells l h = tt
  call_bounded {lent} provides (suc depth) nonterminal vs state cells l h =
      go (call_bounded provides depth) (ltb state.calls most_calls) refl (picks_at setting state nonterminal l)
    where
      go : ((callee : ℕ) (ws : List ℕ) (state' : State) (cells' : List ℕ) → callee < 64 → state'.at ≤ length tokens
          → Bounded (run_call depth lent callee ws state' cells')) → (test : Bool)
          → ltb state.calls most_calls ≡ test
          → Picks g nonterminal (rest state) (choice (ready g) nonterminal (next_kind (rest state)))
          → Bounded (run_call (suc depth) lent nonterminal vs state cells)
      go f false e q = subst⁻¹ Bounded (call_full depth lent nonterminal vs state cells e) tt
      go f true e (picks p t z) =
          subst⁻¹ Bounded (call_chosen depth lent nonterminal vs state cells (rule g p) e (choice_is setting provides state nonterminal ∙ z))
          (bounded_after (run_items (run_call depth lent) (inner lent state) p.items vs (call_begun state) cells) (λ M. build p.result (inner lent state) M)
          (items_bounded (provides_inner setting provides state) (run_call depth lent) f p.items vs (call_begun state) cells
          (F.each p (taken_of t).member).body
          (F.each p (taken_of t).member).items h)
          (λ M s' c' b. stays_bounded s' (build p.result (inner lent state) M s' c') b (build_stays (inner lent state) p.result M s' c')))
      go f true e (picks_none a z) =
          subst⁻¹ Bounded (call_unfit depth lent nonterminal vs state cells e (choice_is setting provides state nonterminal ∙ z)) tt
