-- A text that is run to its end is derived by Figure 3, over any values that a reading may give, and its cells show the value derived.
use Prim.Native.Nat.{ℕ, zero, suc, ◌+◌, ◌*◌, ◌≤◌, ◌<◌}
use mathlib.Core.Path.{◌≡◌, refl, sym, ap, subst, subst⁻¹, subst₂}
use mathlib.Core.Bool.{Bool, true, false}
use mathlib.Core.List.{List, [], ◌∷◌, ◌++◌}
use native.Mathlib.Omega.{arith}
use lib.Dec.{ltb}
use lib.ListN.{length, drop, drop_of_length-le}
use borrow.Author.Tests.{ltb-true, ltb-false}
use Rattle.answers.specs.Refusals.{refusal}
use Rattle.grammar.specs.Sorts.{Signature}
use Rattle.grammar.specs.Table.{Template, Templates, none, Item, terminal, local, call}
use Rattle.terms.specs.Cells.{columns}
use Rattle.tokens.specs.declared.Token.{Token}
use Rattle.productions.specs.Normal.{Production}
use Rattle.judgements.specs.Scopes.{Scope}
use Rattle.judgements.specs.Judgements.{Newest, Fits, Sorted, Fill, ItemSorted, Body, by_result, by_binding}
use Rattle.judgements.specs.Judgements as Judgements
use Rattle.expansion.specs.declared.State.{State}
use Rattle.expansion.specs.Run.{Result, done, halt, Run, after}
use Rattle.expansion.specs.Limits.{most_calls, most_open}
use Rattle.expansion.specs.Figure3.{by_end, by_terminal, by_call}
use Rattle.expansion.specs.Expansion.{Input, Choice, unfit, chosen, next_token, build, build_all, run_item, run_items, choice, call_begun, run_call}
use Rattle.expansion.specs.Expansion.{initial_state, ended, run}
use Rattle.expansion.specs.Costs.{rows_of, rows_of_all, open_in, calls_in, rows_in, Affords}
use Rattle.expansion.proofs.CallLaws.{inner, call_full, call_unfit, call_chosen}
use Rattle.expansion.proofs.Endings.{Ends, ends_after, ends_map, Made, Full}
use Rattle.expansion.proofs.Shows.{Grown, grown_not, grown_trans}
use Rattle.texts.specs.ReadingRules.{TextTaken}
use Rattle.texts.proofs.TextChoice.{TextPicks, chosen_taken, taken_of}
use Rattle.texts.proofs.TextSetting.{Kept}
use Rattle.texts.proofs.TextValues.{show_none, show_and, is_call, Values, ValueDerives, Step, Any, TextReader, whole_input, Lends, lends_whole}
use Rattle.texts.proofs.TextValues.{lends_inner, Shown, shown_later, arguments_built, result_built, choice_picked}

module _ {G : Scope} {g : List Production} {values : Values G.outsides} (reader : TextReader G g values) where
  abbrev tokens : List Token
  tokens = reader.tokens

  abbrev rows : ℕ
  rows = reader.rows

  -- the tokens that are left
  abbrev from : State → List Token
  from s = drop s.at tokens

  -- ------------------------------------------------------------------ items

  -- a derivation with what it costs: no more than so many calls are open at once, and calls and rows are counted on from numbers
  record Derived (depth : ℕ) (M : List values.Value) (ts : List Token) (i calls made : ℕ) (is : List Item) (ts' : List Token) (i' calls' made' : ℕ)
      (M' : List values.Value) : Type 0 where
    -- the derivation
    rule : ValueDerives values g M ts i is ts' i' M'
    -- its open calls
    few_open : open_in rule ≤ depth
    -- its calls
    all_calls : calls + calls_in rule ≡ calls'
    -- its rows
    all_rows : made + rows_in rule ≡ made'

  -- an item read at a sort: its value, and a derivation of the items behind gives one of these
  record Stepped (depth : ℕ) (item : Item) (B : ℕ) (M : List values.Value) (s : State) (cells : List ℕ) (x : ℕ) (s' : State) (cells' : List ℕ)
      : Type 0 where
    -- its value
    value : values.Value
    -- the number shows it
    shows : values.Shows cells' s'.made B x value
    -- rows are added only
    grown : Grown s.made cells s'.made cells'
    -- the room is kept
    kept : Kept rows s' cells'
    -- no more calls are begun than there may be
    few_calls : s.calls ≤ most_calls → s'.calls ≤ most_calls
    -- the items behind it go on from here
    step : (is : List Item) (M' : List values.Value) (left : List Token) (i' calls' made' : ℕ)
        → Derived depth (M ++ (value ∷ [])) (from s') s'.fresh s'.calls s'.made is left i' calls' made' M'
        → Derived depth M (from s) s.fresh s.calls s.made (item ∷ is) left i' calls' made' M'

  -- a terminal, so
  stepped : (depth : ℕ) (item : Item) (B : ℕ) (M : List values.Value) (s : State) (cells : List ℕ) (x : ℕ) (s' : State) (cells' : List ℕ)
      → Step values tokens rows item B s cells x s' cells' → Stepped depth item B M s cells x s' cells'
  unfolding open_in calls_in rows_in
  stepped depth item B M s cells x s' cells' k =
      record {
        value = k.value;
        shows = k.returned.shows;
        grown = k.returned.grown;
        kept = k.returned.kept;
        few_calls = λ l. omega (arith, k.returned.calls_is);
        step = λ is M' left i' calls' made' d.
            record {
              rule = by_terminal k.rule d.rule;
              few_open = d.few_open;
              all_calls = omega (arith, d.all_calls, k.returned.calls_is);
              all_rows = omega (arith, d.all_rows, k.returned.made_is);
            };
      }

  -- ------------------------------------------------------------------ calls

  -- a call read: its value, and how it is derived
  record Called (depth n B : ℕ) (vs : List values.Value) (s : State) (cells : List ℕ) (x : ℕ) (s' : State) (cells' : List ℕ) : Type 0 where
    -- its value
    value : values.Value
    -- the number shows it
    shows : values.Shows cells' s'.made B x value
    -- rows are added only
    grown : Grown s.made cells s'.made cells'
    -- the room is kept
    kept : Kept rows s' cells'
    -- its production
    production : Production
    -- it is taken
    taken : TextTaken g n (from s) production
    -- the values of its variables
    variables : List values.Value
    -- the calls that may be open in it
    below : ℕ
    -- they are fewer
    deeper : below < depth
    -- the rows made with its items
    middle : ℕ
    -- its items give them
    derived : Derived below vs (from s) s.fresh (s.calls + 1) s.made production.items (from s') s'.fresh s'.calls middle variables
    -- behind them its result makes rows
    made_is : middle + rows_of production.result ≡ s'.made
    -- no more calls are begun than there may be
    few_calls : s'.calls ≤ most_calls
    -- the value is what its result gives
    given : value ≡ values.give variables production.result

  -- what is asked of a callee
  abbrev Callee : ℕ → (ℕ → List ℕ → Run ℕ) → Type 0
  Callee depth C =
      (n : ℕ) (S : Signature) (vs : List values.Value) (xs : List ℕ) (s : State) (cells : List ℕ) → Newest G.env n S → Kept rows s cells
      → Shown values s.made cells S.params xs vs → Ends (Called depth n S.result vs s cells) Any (C n xs s cells)

  module _ (depth : ℕ) (C : ℕ → List ℕ → Run ℕ) (callee : Callee depth C) {input : Input} (lends : Lends reader input) where
    call_item_ends : (n : ℕ) (ts : Templates) (S : Signature) {L : List ℕ} {M : List values.Value} {xs : List ℕ} (s : State) (cells : List ℕ)
        → Newest G.env n S → Fill G.outsides L ts S.params → Kept rows s cells → Shown values s.made cells L xs M
        → Ends (Stepped depth (call n ts) S.result M s cells) Any (run_item C input (call n ts) xs s cells)
    unfolding open_in calls_in rows_in
    call_item_ends n ts S {M = M} {xs = xs} s cells newest fill kept a =
        ends_after (λ ys s₁ c₁. Made rows (rows_of_all ts) s cells s₁ c₁ × Shown values s₁.made c₁ S.params ys (values.give_all M ts))
        (Full rows (s.made + rows_of_all ts)) (Stepped depth (call n ts) S.result M s cells) Any (build_all ts input xs s cells) (λ vs. C n vs)
        (arguments_built reader lends ts s cells fill kept a)
        (λ ys s₁ c₁ b.
        ends_map (Called depth n S.result (values.give_all M ts) s₁ c₁) Any (Stepped depth (call n ts) S.result M s cells) Any (C n ys s₁ c₁)
        (callee n S (values.give_all M ts) ys s₁ c₁ newest (record { room = rw b.0.grown.as_many kept.room; fits = b.0.fits }) b.1)
        (λ x s₂ c₂ d.
        record {
          value = d.value;
          shows = d.shows;
          grown = grown_trans b.0.grown d.grown;
          kept = d.kept;
          few_calls = λ l. d.few_calls;
          step = λ is M' left i' calls' made' h.
              let same : from s₁ ≡ from s = ap (λ at. drop at tokens) b.0.at_kept in
              let k =
              subst₂
              (λ ts' i. Derived d.below (values.give_all M ts) ts' i (s₁.calls + 1) s₁.made d.production.items (from s₂) s₂.fresh s₂.calls
              d.middle d.variables)
              same b.0.fresh_kept d.derived in
              record {
                rule = by_call refl (subst (λ ts'. TextTaken g n ts' d.production) same d.taken) k.rule d.given h.rule;
                few_open = omega (arith, k.few_open, d.deeper, h.few_open);
                all_calls = omega (arith, k.all_calls, h.all_calls, b.0.calls_kept);
                all_rows = omega (arith, k.all_rows, h.all_rows, d.made_is, b.0.made_is);
              };
        })
        (λ r t. t))
        (λ r t. tt)

    -- a terminal or a fresh name
    terminal_ends : (item : Item) {L : List ℕ} {B : ℕ} (M : List values.Value) (xs : List ℕ) (s : State) (cells : List ℕ) → ItemSorted G L item B
        → is_call item ≡ false → Kept rows s cells → Ends (Stepped depth item B M s cells) Any (run_item C input item xs s cells)
    terminal_ends item {B = B} M xs s cells w e kept =
        ends_map (Step values tokens rows item B s cells) Any (Stepped depth item B M s cells) Any (run_item C input item xs s cells)
        (reader.step-ends C input lends.tokens_are item w e xs s cells kept) (stepped depth item B M s cells) (λ r z. z)

    -- an item that is sorted
    item_ends : (item : Item) {L : List ℕ} {B : ℕ} {M : List values.Value} {xs : List ℕ} (s : State) (cells : List ℕ) → ItemSorted G L item B
        → Kept rows s cells → Shown values s.made cells L xs M → Ends (Stepped depth item B M s cells) Any (run_item C input item xs s cells)
    item_ends (terminal t) {M = M} {xs = xs} s cells w kept a = terminal_ends (terminal t) M xs s cells w refl kept
    item_ends local {M = M} {xs = xs} s cells w kept a = terminal_ends local M xs s cells w refl kept
    item_ends (call n ts) s cells (Judgements.by_call {S = S} newest fill) kept a = call_item_ends n ts S s cells newest fill kept a

    -- where items have ended: the values of all variables, and the template behind the items is sorted
    record Went (is : List Item) (t : Template) (B : ℕ) (M : List values.Value) (s : State) (cells : List ℕ) (ys : List ℕ) (s' : State)
        (cells' : List ℕ) : Type 0 where
      -- the values
      variables : List values.Value
      -- the sorts of the variables
      sorts : List ℕ
      -- numbers show them
      shown : Shown values s'.made cells' sorts ys variables
      -- rows are added only
      grown : Grown s.made cells s'.made cells'
      -- the room is kept
      kept : Kept rows s' cells'
      -- the items give the values
      derived : Derived depth M (from s) s.fresh s.calls s.made is (from s') s'.fresh s'.calls s'.made variables
      -- no more calls are begun than there may be
      few_calls : s.calls ≤ most_calls → s'.calls ≤ most_calls
      -- the sort of the result
      sort : ℕ
      -- it has this sort
      sorted : Sorted G.outsides sorts t sort
      -- which fits
      fitting : Fits sort B

    items_ends : (is : List Item) {L : List ℕ} {t : Template} {B : ℕ} {M : List values.Value} (xs : List ℕ) (s : State) (cells : List ℕ) → Body G L is t B
        → Kept rows s cells → Shown values s.made cells L xs M → Ends (Went is t B M s cells) Any (run_items C input is xs s cells)
    unfolding run_items open_in calls_in rows_in
    items_ends [] {L = L} {M = M} xs s cells (by_result {A = A} h f) kept a =
        record {
          variables = M;
          sorts = L;
          shown = a;
          grown = grown_not s.made cells;
          kept = kept;
          derived = record { rule = by_end; few_open = omega arith; all_calls = omega arith; all_rows = omega arith };
          few_calls = λ l. l;
          sort = A;
          sorted = h;
          fitting = f;
        }
    items_ends (i ∷ is) {t = t} {B = B} {M = M} xs s cells (by_binding {A = A} h b) kept a =
        ends_after (Stepped depth i A M s cells) Any (Went (i ∷ is) t B M s cells) Any (run_item C input i xs s cells)
        (λ x. run_items C input is (xs ++ (x ∷ []))) (item_ends i s cells h kept a)
        (λ x s₁ c₁ d.
        ends_map (Went is t B (M ++ (d.value ∷ [])) s₁ c₁) Any (Went (i ∷ is) t B M s cells) Any (run_items C input is (xs ++ (x ∷ [])) s₁ c₁)
        (items_ends is (xs ++ (x ∷ [])) s₁ c₁ b d.kept (show_and (shown_later values d.grown a) d.shows))
        (λ ys s₂ c₂ w.
        record {
          variables = w.variables;
          sorts = w.sorts;
          shown = w.shown;
          grown = grown_trans d.grown w.grown;
          kept = w.kept;
          derived = d.step is w.variables (from s₂) s₂.fresh s₂.calls s₂.made w.derived;
          few_calls = λ l. w.few_calls (d.few_calls l);
          sort = w.sort;
          sorted = w.sorted;
          fitting = w.fitting;
        })
        (λ r z. z))
        (λ r z. z)

    -- the alternative of a call that is chosen
    chosen_ends : (n : ℕ) (S : Signature) (vs : List values.Value) (xs : List ℕ) (s : State) (cells : List ℕ)
        → Newest G.env n S → Kept rows s cells → Shown values s.made cells S.params xs vs → s.calls < most_calls → (p : Production)
        → TextTaken g n (from s) p
        → Ends (Called (suc depth) n S.result vs s cells) Any
        (after (run_items C input p.items xs (call_begun s) cells) (λ M. build p.result input M))
    chosen_ends n S vs xs s cells newest kept a few p taken =
        ends_after (Went p.items p.result S.result vs (call_begun s) cells) Any (Called (suc depth) n S.result vs s cells) Any
        (run_items C input p.items xs (call_begun s) cells) (λ M. build p.result input M)
        (items_ends p.items xs (call_begun s) cells (reader.all.production_sorted n S p newest (taken_of taken))
        (record { room = kept.room; fits = kept.fits }) a)
        (λ ys s₁ c₁ w.
        ends_map
        (λ x s₂ c₂. Made rows (rows_of p.result) s₁ c₁ s₂ c₂ × values.Shows c₂ s₂.made S.result x (values.give w.variables p.result))
        (Full rows (s₁.made + rows_of p.result)) (Called (suc depth) n S.result vs s cells) Any (build p.result input ys s₁ c₁)
        (result_built reader lends p.result s₁ c₁ w.sorted w.fitting w.kept w.shown)
        (λ x s₂ c₂ b.
        record {
          value = values.give w.variables p.result;
          shows = b.1;
          grown = grown_trans w.grown b.0.grown;
          kept = record { room = rw b.0.grown.as_many w.kept.room; fits = b.0.fits };
          production = p;
          taken = taken;
          variables = w.variables;
          below = depth;
          deeper = omega arith;
          middle = s₁.made;
          derived = moved b.0 w.derived;
          made_is = sym b.0.made_is;
          few_calls = omega (arith, w.few_calls (omega arith), b.0.calls_kept);
          given = refl;
        })
        (λ r z. tt))
        (λ r z. z)
      where
        moved : {s₁ s₂ : State} {c₁ c₂ : List ℕ} {M : List values.Value} → Made rows (rows_of p.result) s₁ c₁ s₂ c₂
            → Derived depth vs (from s) s.fresh (s.calls + 1) s.made p.items (from s₁) s₁.fresh s₁.calls s₁.made M
            → Derived depth vs (from s) s.fresh (s.calls + 1) s.made p.items (from s₂) s₂.fresh s₂.calls s₁.made M
        moved {s₁} {s₂} {M = M} b d =
            subst (λ i. Derived depth vs (from s) s.fresh (s.calls + 1) s.made p.items (from s₂) i s₂.calls s₁.made M) (sym b.fresh_kept)
            (subst₂ (λ at calls. Derived depth vs (from s) s.fresh (s.calls + 1) s.made p.items (drop at tokens) s₁.fresh calls s₁.made M)
            (sym b.at_kept) (sym b.calls_kept) d)

  -- what a call runs of items and a result
  abbrev RunOf : ℕ → Input → List ℕ → State → List ℕ → List Item → Template → Result ℕ
  RunOf depth input xs s cells is t = after (run_items (run_call depth input) (inner input s) is xs (call_begun s) cells) (λ M. build t (inner input s) M)

  -- a call with so many more open
  call_ends : (depth : ℕ) {input : Input} → Lends reader input → Callee depth (run_call depth input)
  unfolding run_call
  call_ends zero lends n S vs xs s cells newest kept a = tt
  call_ends (suc depth) {input} lends n S vs xs s cells newest kept a =
      go (chosen_ends depth (run_call depth input) (call_ends depth lends) (lends_inner reader lends s) n S vs xs s cells newest kept a)
      (ltb s.calls most_calls) refl (choice input.grammar n (next_token input s).kind) refl
    where
      go : (s.calls < most_calls → (p : Production) → TextTaken g n (from s) p
          → Ends (Called (suc depth) n S.result vs s cells) Any (RunOf depth input xs s cells p.items p.result))
          → (test : Bool) → ltb s.calls most_calls ≡ test → (picked_choice : Choice)
          → choice input.grammar n (next_token input s).kind ≡ picked_choice
          → Ends (Called (suc depth) n S.result vs s cells) Any (run_call (suc depth) input n xs s cells)
      go f false e c h = subst⁻¹ (Ends (Called (suc depth) n S.result vs s cells) Any) (call_full depth input n xs s cells e) tt
      go f true e unfit h = subst⁻¹ (Ends (Called (suc depth) n S.result vs s cells) Any) (call_unfit depth input n xs s cells e h) tt
      go f true e (chosen r) h =
          let k = chosen_taken g r (subst (TextPicks g n (from s)) h (choice_picked reader lends s n S newest)) in
          subst⁻¹ (Ends (Called (suc depth) n S.result vs s cells) Any) (call_chosen depth input n xs s cells r e h)
          (subst₂ (λ is t. Ends (Called (suc depth) n S.result vs s cells) Any (RunOf depth input xs s cells is t)) (sym k.same_items)
          (sym k.same_result) (f (ltb-true s.calls most_calls e) k.production k.taken))

  -- ------------------------------------------------------------------ the whole text

  -- A text that is read from n at a sort: the rules derive its value from all tokens, within the limits and by as many rows and fresh names as the run made.
  pub record ReadWhole (n B x : ℕ) (s : State) (cells : List ℕ) : Type 0 where
    -- its value
    pub value : values.Value
    -- the number shows it
    pub shows : values.Shows cells s.made B x value
    -- no more rows are made than there are
    pub few : s.made ≤ rows
    -- the derivation
    pub rule : ValueDerives values g [] tokens 1 (call n none ∷ []) [] s.fresh (value ∷ [])
    -- it is within the limits
    pub affords : Affords rows 0 0 0 rule
    -- its rows
    pub all_rows : rows_in rule ≡ s.made

  ended_ends : (n B x : ℕ) (s : State) (cells : List ℕ) (c : List ℕ) → Called most_open n B (values.give_all [] none) initial_state c x s cells
      → Ends (ReadWhole n B) Any (ended (whole_input reader) x s cells)
  unfolding open_in calls_in rows_in rows_of
  ended_ends n B x s cells c d = go (ltb s.at (length reader.read)) refl
    where
      go : (test : Bool) → ltb s.at (length reader.read) ≡ test
          → Ends (ReadWhole n B) Any (elim test [ true ↦ halt (refusal 18 s.at 0 0) cells | false ↦ done x s cells ])
      go true e = tt
      go false e =
          let all_read : from s ≡ [] =
          drop_of_length-le tokens {i = s.at} (omega (arith, reader.as_many, ltb-false s.at (length reader.read) e)) in
          let k =
          subst
          (λ ts. Derived d.below (values.give_all [] none) tokens 1 1 0 d.production.items ts s.fresh s.calls d.middle d.variables) all_read
          d.derived in
          record {
            value = d.value;
            shows = d.shows;
            few = d.kept.fits;
            rule = by_call {M = []} {ts = none} refl d.taken k.rule d.given by_end;
            affords =
                record {
                  few_open = omega (arith, k.few_open, d.deeper);
                  few_calls = omega (arith, k.all_calls, d.few_calls);
                  few_rows = omega (arith, k.all_rows, d.made_is, d.kept.fits);
                };
            all_rows = omega (arith, k.all_rows, d.made_is);
          }

  -- What a run of a text's tokens answers is derived by the rules, and the cells show it.
  pub run_derived : (n : ℕ) (S : Signature) (cells : List ℕ) → Newest G.env n S → S.params ≡ [] → values.give_all [] none ≡ []
      → rows * columns ≤ length cells → Ends (ReadWhole n S.result) Any (run (whole_input reader) n cells)
  unfolding run
  run_derived n S cells newest e f room =
      ends_after (Called most_open n S.result (values.give_all [] none) initial_state cells) Any (ReadWhole n S.result) Any
      (run_call most_open (whole_input reader) n [] initial_state cells)
      (ended (whole_input reader))
      (call_ends most_open (lends_whole reader) n S (values.give_all [] none) [] initial_state cells newest (record { room = room; fits = omega arith })
      (subst₂ (λ L vs. Shown values 0 cells L [] vs) (sym e) (sym f) show_none))
      (λ x s c d. ended_ends n S.result x s c cells d)
      (λ r z. z)
