-- What an expansion accepts is derived by Figure 3, and the cells show it.
use Prim.Native.Nat.{ℕ, zero, suc, ◌+◌, ◌*◌, ◌≤◌, ◌<◌}
use mathlib.Core.Path.{◌≡◌, refl, sym, ap, subst, subst₂, subst⁻¹, ◌∙◌}
use mathlib.Core.Bool.{Bool, true, false}
use mathlib.Core.List.{List, [], ◌∷◌, ◌++◌}
use native.Mathlib.Omega.{arith}
use native.Mathlib.Numerals.{add-one}
use lib.Dec.{eqb, ltb}
use lib.ListN.{length, get_or, drop, drop_of_length-le, get_or-eq_default}
use lib.Seq.{drop-cons}
use borrow.Author.Tests.{eqb-true, ltb-true, ltb-false}
use Rattle.spellings.proofs.BytesLaws.{by_test}
use Rattle.answers.specs.declared.Refusal.{Refusal}
use Rattle.answers.specs.Refusals.{refusal}
use Rattle.grammar.specs.Sorts.{Signature}
use Rattle.grammar.specs.Sorts as Sorts
use Rattle.grammar.specs.Table.{Template, none, Terminal, keyword, ide, number, place, kind_of, Item, terminal, call}
use Rattle.decoding.specs.Within.{Each, each_none, each_more, ItemWithin, call_within}
use Rattle.judgements.specs.Judgements.{Newest, Fits, Sorted, ItemSorted, Body, by_result, by_binding}
use Rattle.judgements.specs.Judgements as Judgements
use Rattle.tokens.specs.declared.Token.{Token}
use Rattle.productions.specs.Normal.{Production}
use Rattle.terms.specs.Term.{Name, Term}
use Rattle.terms.specs.Rows.{term_at}
use Rattle.expansion.specs.declared.State.{State}
use Rattle.expansion.specs.Run.{Result, done, halt, Run}
use Rattle.expansion.specs.Expansion.{Input, ready, choice, next_token, token_taken, take_terminal, misfit, build_all, build}
use Rattle.expansion.specs.TextTokens.{read_value}
use Rattle.tokens.specs.Tokens.{end_token}
use Rattle.expansion.specs.Expansion.{run_item, run_items, call_begun, run_call, initial_state, ended, run}
use Rattle.expansion.specs.Limits.{most_calls, most_open}
use Rattle.expansion.specs.Figure3.{Value, unit, binder, term, Gives, give_none, Taken, as_var, as_binder, as_label, by_keyword, by_ide, by_number}
use Rattle.expansion.specs.Figure3.{by_local, Derives, by_end, by_terminal, by_call, Parses}
use Rattle.expansion.specs.Figure3 as Figure3
use Rattle.expansion.specs.Parsing.{input}
use Rattle.expansion.specs.Costs.{rows_of, rows_of_all}
use Rattle.expansion.proofs.Shows.{Grown, grown_not, grown_trans, Shows, shows_unit, shows_var, shows_binder, shows_label, shows_num, shows_term, ShowAll}
use Rattle.expansion.proofs.Shows.{show_none, all_later, all_and, word_named, fresh_named}
use Rattle.soundness.proofs.Setting.{Setting, Provides, provides_whole, provides_inner, choice_is, picks_at, take_is, no_arguments}
use Rattle.expansion.proofs.Endings.{Ends, ends_after, ends_map, Made, Full}
use Rattle.soundness.proofs.Building.{Built, BuiltAll, build_ends, build_all_ends}
use Rattle.expansion.specs.ValueSorts.{Typed, typed_unit, typed_var, typed_binder, typed_label, typed_num, typed_term, Matches}
use Rattle.soundness.proofs.Typing.{matches_and, gives_exists, give_all_exist, items_typed, FitAll, body_of, taken_of}
use Rattle.expansion.proofs.CallLaws.{inner, Ran, call_full, call_unfit, call_chosen}
use Rattle.expansion.proofs.Choosing.{next_kind, Picks, picks, picks_none, rule}
use Rattle.terms.specs.Cells.{columns}

-- ------------------------------------------------------------------ the tokens from a place on

-- a token that is left is the first of those left
pub token_here : (tokens : List Token) (at : ℕ) → at < length tokens → drop at tokens ≡ get_or tokens at end_token ∷ drop (at + 1) tokens
token_here tokens at h = rw (add-one at) (drop-cons tokens at end_token h)

-- a kind below 64 is that of a token
pub token_before : (tokens : List Token) (at : ℕ) {kind : ℕ} → (get_or tokens at end_token).kind ≡ kind → kind < 64 → at < length tokens
token_before tokens at {kind} e l =
    by_test (ltb at (length tokens)) (λ b. ltb-true at (length tokens) b)
    (λ b.
    let n : 64 ≡ kind = cc (get_or-eq_default tokens end_token (ltb-false at (length tokens) b)) in
    absurd (omega arith))

-- ------------------------------------------------------------------ what an expansion is given

-- The rows have room in the cells, and the fresh names in a name: each call begun has at most 12 of them, `names_left` of which are to come.
pub record Kept (rows names_left : ℕ) (state : State) (cells : List ℕ) : Type 0 where
  -- the cells have room for all rows
  pub room : rows * columns ≤ length cells
  -- the rows made are not more
  pub fits : state.made ≤ rows
  -- twelve new names a call at most
  pub names : state.fresh + names_left ≤ 2 + 12 * state.calls
  -- the calls are not more than the limit
  pub begun : state.calls ≤ most_calls

-- the bounds hold after rows are made
pub kept_made : {rows new_rows names_left : ℕ} {state state' : State} {cells cells' : List ℕ} → Kept rows names_left state cells
    → Made rows new_rows state cells state' cells' → Kept rows names_left state' cells'
kept_made h m =
    record {
      room = rw m.grown.as_many h.room;
      fits = m.fits;
      names = omega (arith, h.names, m.fresh_kept, m.calls_kept);
      begun = omega (arith, h.begun, m.calls_kept);
    }

-- and with one name fewer to come
pub kept_less : {rows names_left : ℕ} {state : State} {cells : List ℕ} → Kept rows (names_left + 1) state cells → Kept rows names_left state cells
kept_less h = record { room = h.room; fits = h.fits; names = omega (arith, h.names); begun = h.begun }

module _ {g : List Production} (setting : Setting g) where
  abbrev F : FitAll g
  F = setting.fit

  abbrev spell : ℕ → List ℕ
  spell = setting.spell

  abbrev tokens : List Token
  tokens = setting.tokens

  abbrev rows : ℕ
  rows = setting.rows

  -- what a run reads
  abbrev pub I : Input
  I = input g tokens rows

  -- the tokens that are left
  abbrev pub from : State → List Token
  from s = drop s.at tokens

  -- ------------------------------------------------------------------ items

  -- an item derived, with its value, and any derivation of the items after it goes on from it
  pub record Stepped (names_left : ℕ) (item : Item) (A : ℕ) (M : List Value) (state : State) (cells : List ℕ) (row : ℕ) (state' : State)
      (cells' : List ℕ) : Type 0 where
    -- the value that Figure 3 gives the item
    pub value : Value
    -- it is of the item's sort
    pub typed : Typed value A
    -- the number found shows it in the cells at exit
    pub shows : Shows spell state'.made cells' row value
    -- rows are added only
    pub grown : Grown state.made cells state'.made cells'
    -- the bounds hold with one name fewer to come
    pub kept : Kept rows names_left state' cells'
    -- a derivation of the items behind, under this variable too, gives one of this item and those
    pub step : (is : List Item) (M' : List Value) (left : List Token) (i' : ℕ) → Derives g spell (M ++ (value ∷ [])) (from state') state'.fresh is left i' M'
        → Derives g spell M (from state) state.fresh (item ∷ is) left i' M'

  -- a call derived
  pub record Called (names_left nonterminal : ℕ) (vs : List Value) (state : State) (cells : List ℕ) (row : ℕ) (state' : State) (cells' : List ℕ) : Type 0 where
    -- the alternative chosen
    pub production : Production
    -- Figure 3 takes it at these tokens
    pub taken : Taken g nonterminal (from state) production
    -- the values of all its variables, parameters first
    pub variables : List Value
    -- its items are derived
    pub derived : Derives g spell vs (from state) state.fresh production.items (from state') state'.fresh variables
    -- the call's value
    pub value : Value
    -- the alternative's result gives it under the variables
    pub given : Gives spell variables production.result value
    -- the number found shows it in the cells at exit
    pub shows : Shows spell state'.made cells' row value
    -- rows are added only
    pub grown : Grown state.made cells state'.made cells'
    -- the bounds hold still
    pub kept : Kept rows names_left state' cells'

  -- of refusals nothing is said here
  abbrev pub Any : Refusal → Type 0
  Any r = Unit {0}

  -- what is asked of a callee
  abbrev pub Callee : (ℕ → List ℕ → Run ℕ) → Type 0
  Callee C =
      (k n : ℕ) (S : Signature) (vs : List Value) (xs : List ℕ) (s : State) (cells : List ℕ) → Newest F.scope.env n S → n < 64 → Matches vs S.params
      → Kept rows k s cells → ShowAll spell s.made cells xs vs → Ends (Called k n vs s cells) Any (C n xs s cells)

  -- a token of the terminal's kind is taken, or nothing is said
  take_ends : {lent : Input} → Provides setting lent → {names_left A : ℕ} {M : List Value} (t : Terminal) (state : State) (cells : List ℕ)
      → ((next_token I state).kind ≡ kind_of t
      → Stepped names_left (terminal t) A M state cells (read_value t (next_token I state).value) (token_taken state) cells)
      → Ends (Stepped names_left (terminal t) A M state cells) Any (take_terminal lent t state cells)
  take_ends provides {names_left} {A} {M} t state cells f =
      subst⁻¹ (Ends (Stepped names_left (terminal t) A M state cells) Any) (take_is setting provides t state cells)
      (go (eqb (next_token I state).kind (kind_of t)) refl)
    where
      go : (test : Bool) → eqb (next_token I state).kind (kind_of t) ≡ test
          → Ends (Stepped names_left (terminal t) A M state cells) Any
          (elim test [
            | true ↦ done (read_value t (next_token I state).value) (token_taken state) cells
            | false ↦ misfit (Rattle.kinds.specs.Kinds.only (kind_of t)) state cells
          ])
      go true e = f (eqb-true (next_token I state).kind (kind_of t) e)
      go false e = tt

  kept_on : {names_left : ℕ} {state : State} {cells : List ℕ} → Kept rows (names_left + 1) state cells → Kept rows names_left (token_taken state) cells
  kept_on h = record { room = h.room; fits = h.fits; names = omega (arith, h.names); begun = h.begun }

  -- a token taken as the `value`
  taken_as : {names_left : ℕ} {item : Item} {A kind : ℕ} {M : List Value} {state : State} {cells : List ℕ} (row : ℕ) (value : Value)
      → (next_token I state).kind ≡ kind → kind < 64
      → Kept rows (names_left + 1) state cells → Typed value A → Shows spell state.made cells row value
      → ((is : List Item) (M' : List Value) (left : List Token) (i' : ℕ) → Derives g spell (M ++ (value ∷ [])) (drop (state.at + 1) tokens)
      state.fresh is left i' M' → Derives g spell M (next_token I state ∷ drop (state.at + 1) tokens) state.fresh (item ∷ is) left i' M')
      → Stepped names_left item A M state cells row (token_taken state) cells
  taken_as {item = item} {M = M} {state = state} {cells = cells} row value e l h w z f =
      let h' : drop state.at tokens ≡ next_token I state ∷ drop (state.at + 1) tokens = token_here tokens state.at
      (token_before tokens state.at e l) in
      record {
        value = value;
        typed = w;
        shows = z;
        grown = grown_not state.made cells;
        kept = kept_on h;
        step = λ is M' t j d. rw h' (f is M' t j d);
      }

  at_ide : (P : ℕ → Type 0) (B : ℕ) → 1 ≤ B → B ≤ 3 → P Sorts.var → P Sorts.binder → P Sorts.label → P B
  at_ide P zero l h a b c = absurd (omega arith)
  at_ide P (suc zero) l h a b c = a
  at_ide P (suc (suc zero)) l h a b c = b
  at_ide P (suc (suc (suc zero))) l h a b c = c
  at_ide P (suc (suc (suc (suc B)))) l h a b c = absurd (omega arith)

  -- the items derived, and the result sorted under their variables
  pub record Derived (names_left : ℕ) (is : List Item) (result : Template) (B : ℕ) (M : List Value) (state : State) (cells : List ℕ) (xs : List ℕ)
      (state' : State) (cells' : List ℕ) : Type 0 where
    -- the values of all variables, the items' own last
    pub variables : List Value
    -- the items give them
    pub derived : Derives g spell M (from state) state.fresh is (from state') state'.fresh variables
    -- the variables' sorts
    pub sorts : List ℕ
    -- each variable is of its sort
    pub matches : Matches variables sorts
    -- the sort of the result
    pub sort : ℕ
    -- the result has it under the variables' sorts
    pub sorted : Sorted F.scope.outsides sorts result sort
    -- it fits where the sort B is asked for
    pub fit : Fits sort B
    -- the numbers found show the variables in the cells at exit
    pub shows : ShowAll spell state'.made cells' xs variables
    -- rows are added only
    pub grown : Grown state.made cells state'.made cells'
    -- the bounds hold still
    pub kept : Kept rows names_left state' cells'

  -- what the items read, and what a call of theirs does
  module _ {lent : Input} (provides : Provides setting lent) (called : ℕ → List ℕ → Run ℕ) (callee : Callee called) where
    -- an item that is run is derived
    pub item_sound : (names_left : ℕ) {item : Item} {A : ℕ} {M : List Value} {L xs : List ℕ} (state : State) (cells : List ℕ) → ItemSorted F.scope L item A
        → ItemWithin item → Matches M L
        → Kept rows (names_left + 1) state cells → ShowAll spell state.made cells xs M
        → Ends (Stepped names_left item A M state cells) Any (run_item called lent item xs state cells)
    item_sound names_left state cells (Judgements.by_keyword {k = w} l) z m h a =
        take_ends provides (keyword w) state cells
        (λ e. taken_as 0 unit e (omega (arith, l, F.keyword_count)) h typed_unit shows_unit (λ is M' t j d. by_terminal (by_keyword e) d))
    item_sound names_left {M = M} {xs = xs} state cells (Judgements.by_ide {B = B} l u) z m h a =
        at_ide (λ B. Ends (Stepped names_left (terminal (ide B)) B M state cells) Any (run_item called lent (terminal (ide B)) xs state cells)) B l u
        (take_ends provides (ide Sorts.var) state cells
        (λ e. taken_as _ _ e (omega arith) h typed_var (shows_var (word_named spell (next_token I state).value (setting.small state.at e)))
        (λ is M' t j d. by_terminal (by_ide e as_var) d)))
        (take_ends provides (ide Sorts.binder) state cells
        (λ e. taken_as _ _ e (omega arith) h typed_binder (shows_binder (word_named spell (next_token I state).value (setting.small state.at e)))
        (λ is M' t j d. by_terminal (by_ide e as_binder) d)))
        (take_ends provides (ide Sorts.label) state cells
        (λ e. taken_as _ _ e (omega arith) h typed_label shows_label (λ is M' t j d. by_terminal (by_ide e as_label) d)))
    item_sound names_left state cells Judgements.by_number z m h a =
        take_ends provides number state cells
        (λ e. taken_as _ _ e (omega arith) h typed_num shows_num (λ is M' t j d. by_terminal (by_number e) d))
    item_sound names_left state cells (Judgements.by_place {B = B} l) z m h a =
        take_ends provides (place B) state cells (λ e. absurd (omega (arith, e, setting.formula state.at)))
    item_sound names_left {M = M} state cells Judgements.by_local z m h a =
        record {
          value = binder (Rattle.terms.specs.Term.fresh state.fresh);
          typed = typed_binder;
          shows = shows_binder (fresh_named spell state.fresh (omega (arith, h.names, h.begun)));
          grown = grown_not state.made cells;
          kept = record { room = h.room; fits = h.fits; names = omega (arith, h.names); begun = h.begun };
          step = λ is M' t j d. by_terminal by_local d;
        }
    item_sound names_left {A = A} {M = M} {L = L} {xs = xs} state cells (Judgements.by_call {n = n} {S = S} {ts = ts} w f) (call_within l ws) m h a =
        let vs = give_all_exist spell m ts f in
        ends_after (BuiltAll spell rows (rows_of_all ts) state cells vs.0) (Full rows (state.made + rows_of_all ts))
        (Stepped names_left (call n ts) A M state cells) Any
        (build_all ts lent xs state cells) (λ ys. called n ys)
        (build_all_ends spell rows lent provides.rows_are ts state cells vs.1 f (omega (arith, F.outside_count)) h.room h.fits a)
        (λ ys s₁ c₁ b.
        ends_map (Called names_left n vs.0 s₁ c₁) Any (Stepped names_left (call n ts) A M state cells) Any (called n ys s₁ c₁)
        (callee names_left n S vs.0 ys s₁ c₁ w (omega arith) vs.2 (kept_less (kept_made h b.0)) b.1)
        (λ x s₂ c₂ d.
        record {
          value = d.value;
          typed = items_typed F d.derived vs.2 (body_of F (taken_of d.taken) w) d.given;
          shows = d.shows;
          grown = grown_trans b.0.grown d.grown;
          kept = d.kept;
          step =
              λ is M' t j e. subst₂ (λ at i. Derives g spell M (drop at tokens) i (call n ts ∷ is) t j M') b.0.at_kept b.0.fresh_kept
              (by_call vs.1 d.taken d.derived d.given e);
        })
        (λ r u. u))
        (λ r u. tt)

    -- items that are run are derived
    pub items_sound : (names_left : ℕ) (is : List Item) {result : Template} {B : ℕ} {M : List Value} {L xs : List ℕ} (state : State) (cells : List ℕ)
        → Body F.scope L is result B → Each ItemWithin is → Matches M L
        → Kept rows (names_left + length is) state cells → ShowAll spell state.made cells xs M
        → Ends (Derived names_left is result B M state cells) Any (run_items called lent is xs state cells)
    unfolding run_items
    items_sound names_left [] {M = M} {L = L} state cells (by_result {A = A} w f) each_none m h a =
        record {
          variables = M;
          derived = by_end;
          sorts = L;
          matches = m;
          sort = A;
          sorted = w;
          fit = f;
          shows = a;
          grown = grown_not state.made cells;
          kept = record { room = h.room; fits = h.fits; names = omega (arith, h.names); begun = h.begun };
        }
    items_sound names_left (i ∷ is) {result = result} {B = B} {M = M} {xs = xs} state cells (by_binding {A = A} w b) (each_more z zs) m h a =
        ends_after (Stepped (names_left + length is) i A M state cells) Any (Derived names_left (i ∷ is) result B M state cells) Any
        (run_item called lent i xs state cells)
        (λ x. run_items called lent is (xs ++ (x ∷ [])))
        (item_sound (names_left + length is) state cells w z m (record { room = h.room; fits = h.fits; names = omega (arith, h.names); begun = h.begun }) a)
        (λ x s₁ c₁ p.
        ends_map (Derived names_left is result B (M ++ (p.value ∷ [])) s₁ c₁) Any (Derived names_left (i ∷ is) result B M state cells) Any
        (run_items called lent is (xs ++ (x ∷ [])) s₁ c₁)
        (items_sound names_left is s₁ c₁ b zs (matches_and m p.typed) p.kept (all_and (all_later p.grown a) p.shows))
        (λ ys s₂ c₂ q.
        record {
          variables = q.variables;
          derived = p.step is q.variables (from s₂) s₂.fresh q.derived;
          sorts = q.sorts;
          matches = q.matches;
          sort = q.sort;
          sorted = q.sorted;
          fit = q.fit;
          shows = q.shows;
          grown = grown_trans p.grown q.grown;
          kept = q.kept;
        })
        (λ r u. u))
        (λ r u. u)

  -- ------------------------------------------------------------------ calls

  call_step : {lent : Input} → Provides setting lent → (depth : ℕ) → Callee (run_call depth lent) → Callee (run_call (suc depth) lent)
  call_step {lent} provides depth callee k n S vs xs s cells w l m h a = go (ltb s.calls most_calls) refl (picks_at setting s n l)
    where
      Goal : Result ℕ → Type 0
      Goal r = Ends (Called k n vs s cells) Any r

      items : (p : Production) → Taken g n (from s) p → s.calls < most_calls
          → Goal (Ran depth lent n xs s cells (rule g p))
      items p t c =
          let q = F.each p (taken_of t).member in
          let within = provides_inner setting provides s in
          ends_after (Derived k p.items p.result S.result vs (call_begun s) cells) Any (Called k n vs s cells) Any
          (run_items (run_call depth lent) (inner lent s) p.items xs (call_begun s) cells) (λ ys. build p.result (inner lent s) ys)
          (items_sound within (run_call depth lent) callee k p.items (call_begun s) cells (body_of F (taken_of t) w) q.items m
          (record { room = h.room; fits = h.fits; names = omega (arith, h.names, q.item_count); begun = omega arith }) a)
          (λ ys s₁ c₁ e.
          let v = gives_exists spell e.matches p.result e.sorted in
          ends_map (Built spell rows (rows_of p.result) s₁ c₁ v.0) (Full rows (s₁.made + rows_of p.result)) (Called k n vs s cells) Any
          (build p.result (inner lent s) ys s₁ c₁)
          (build_ends spell rows (inner lent s) within.rows_are p.result s₁ c₁ v.1 e.sorted (omega (arith, F.outside_count)) e.kept.room
          e.kept.fits e.shows)
          (λ x s₂ c₂ b.
          record {
            production = p;
            taken = t;
            variables = e.variables;
            derived =
                subst₂ (λ at i. Derives g spell vs (from s) s.fresh p.items (drop at tokens) i e.variables) (sym b.0.at_kept)
                (sym b.0.fresh_kept) e.derived;
            value = v.0;
            given = v.1;
            shows = b.1;
            grown = grown_trans e.grown b.0.grown;
            kept = kept_made e.kept b.0;
          })
          (λ r u. tt))
          (λ r u. u)

      go : (test : Bool) → ltb s.calls most_calls ≡ test → Picks g n (from s) (choice (ready g) n (next_kind (from s)))
          → Goal (run_call (suc depth) lent n xs s cells)
      go false e q = subst⁻¹ (Ends (Called k n vs s cells) Any) (call_full depth lent n xs s cells e) tt
      go true e (picks p t f) =
          subst⁻¹ (Ends (Called k n vs s cells) Any) (call_chosen depth lent n xs s cells (rule g p) e (choice_is setting provides s n ∙ f))
          (items p t (ltb-true s.calls most_calls e))
      go true e (picks_none f c) =
          subst⁻¹ (Ends (Called k n vs s cells) Any) (call_unfit depth lent n xs s cells e (choice_is setting provides s n ∙ c)) tt

  -- a call that is run is derived
  pub call_sound : {lent : Input} → Provides setting lent → (depth : ℕ) → Callee (run_call depth lent)
  unfolding run_call
  call_sound provides zero k n S vs xs s cells w l m h a = tt
  call_sound provides (suc depth) k n S vs xs s cells w l m h a = call_step provides depth (call_sound provides depth) k n S vs xs s cells w l m h a

  -- ------------------------------------------------------------------ the whole formula

  -- the row of a term is read as the term
  pub shown : {made : ℕ} {cells : List ℕ} {row : ℕ} {t : Term Name} → Shows spell made cells row (term t) → term_at made spell cells row ≡ t
  shown {made} {cells} (shows_term h) = h.read cells (record { same = λ j l. refl }) made h.below

  -- a run of the whole gives a term that its tokens derive
  abbrev pub Root : List ℕ → ℕ → State → List ℕ → Type 0
  Root cells = Called 0 setting.root [] initial_state cells

  -- the root, called
  pub root_called : (cells : List ℕ) → rows * columns ≤ length cells → Ends (Root cells) Any (run_call most_open I setting.root [] initial_state cells)
  root_called cells room =
      call_sound (provides_whole setting) most_open 0 setting.root setting.signature [] [] initial_state cells setting.defined setting.root_small
      (no_arguments setting)
      (record { room = room; fits = omega arith; names = omega arith; begun = omega arith }) show_none

  -- as a derivation of one call
  pub root_derived : {cells : List ℕ} {row : ℕ} {state' : State} {cells' : List ℕ} (root : Root cells row state' cells')
      → Derives g spell [] tokens 1 (call setting.root none ∷ []) (from state') state'.fresh (root.value ∷ [])
  root_derived root = by_call give_none root.taken root.derived root.given by_end

  abbrev RootGives : ℕ → Value → List Token → Type 0
  RootGives i v ts = Derives g spell [] tokens 1 (call setting.root none ∷ []) ts i (v ∷ [])

  parses : {cells : List ℕ} {row : ℕ} {state' : State} {cells' : List ℕ} → length tokens ≤ state'.at → (root : Root cells row state' cells')
      → Parses g spell setting.root tokens (term_at state'.made spell cells' row)
  parses {row = row} {state'} {cells'} l root =
      go root.value
      (subst (Typed root.value) setting.of_term
      (items_typed F root.derived (no_arguments setting) (body_of F (taken_of root.taken) setting.defined) root.given))
      (root_derived root) root.shows
    where
      go : (value : Value) → Typed value Sorts.term → RootGives state'.fresh value (from state') → Shows spell state'.made cells' row value
          → Parses g spell setting.root tokens (term_at state'.made spell cells' row)
      go (term t) typed_term d z =
          record { counter = state'.fresh; derived = subst₂ (RootGives state'.fresh) (ap term (sym (shown z))) (drop_of_length-le tokens l) d }
      go unit x d z = elim x [ ]
      go (Figure3.var _) x d z = elim x [ ]
      go (binder _) x d z = elim x [ ]
      go (Figure3.label _) x d z = elim x [ ]
      go (Figure3.num _) x d z = elim x [ ]
      go (Figure3.fields _) x d z = elim x [ ]

  Accepted : ℕ → State → List ℕ → Type 0
  Accepted v s cells = Parses g spell setting.root tokens (term_at s.made spell cells v)

  ended_sound : (cells : List ℕ) (row : ℕ) (state' : State) (cells' : List ℕ) → Root cells row state' cells' → Ends Accepted Any (ended I row state' cells')
  unfolding Accepted
  ended_sound cells row state' cells' c = go (ltb state'.at (length tokens)) refl
    where
      go : (test : Bool) → ltb state'.at (length tokens) ≡ test
          → Ends Accepted Any (elim test [ true ↦ halt (refusal 18 state'.at 0 0) cells' | false ↦ done row state' cells' ])
      go true e = tt
      go false e = parses (ltb-false state'.at (length tokens) e) c

  -- what is accepted is parsed
  pub run_sound : (cells : List ℕ) → rows * columns ≤ length cells → (row : ℕ) (state : State) (cells' : List ℕ)
      → run I setting.root cells ≡ done row state cells'
      → Parses g spell setting.root tokens (term_at state.made spell cells' row)
  unfolding run Accepted
  run_sound cells room row state cells' e =
      let root = run_call most_open I setting.root [] initial_state cells in
      rw e at (ends_after (Root cells) Any Accepted Any root (ended I) (root_called cells room) (ended_sound cells) (λ r u. u))
