-- A run gives no token back, and what is read without taking one is nullable.
use Prim.Native.Nat.{ℕ, zero, suc, ◌≤◌, ◌<◌}
use mathlib.Core.Path.{◌≡◌, refl, subst⁻¹}
use mathlib.Core.Bool.{Bool, true, false}
use mathlib.Core.List.{List, [], ◌∷◌, ◌++◌}
use native.Mathlib.Omega.{arith}
use lib.Dec.{eqb, ltb}
use Rattle.kinds.specs.Kinds.{only}
use Rattle.grammar.specs.Table.{Item}
use Rattle.grammar.specs.Table as Table
use Rattle.decoding.specs.Within.{Each, each_more, Among, ItemWithin, call_within}
use Rattle.tokens.specs.declared.Token.{Token}
use Rattle.productions.specs.Normal.{Production}
use Rattle.firsts.specs.Rules.{NullItems, null_none, null_local, null_call, Nullable}
use Rattle.expansion.specs.declared.State.{State}
use Rattle.expansion.specs.Run.{Result, done, halt, Run, after}
use Rattle.expansion.specs.Limits.{most_calls}
use Rattle.expansion.specs.TextTokens.{read_value}
use Rattle.expansion.specs.Expansion.{Input, ready_for, choice, next_token, token_taken, take_token, misfit, build, build_all}
use Rattle.expansion.specs.Expansion.{run_item, run_items, call_begun, run_call}
use Rattle.expansion.proofs.Choosing.{rule}
use Rattle.expansion.proofs.AsBefore.{terminal_by}
use Rattle.expansion.proofs.Endings.{Ends}
use Rattle.expansion.proofs.CallLaws.{inner, call_full, call_unfit, call_chosen}
use Rattle.soundness.proofs.StopLaws.{Stays, build_stays, build_all_stays}
use Rattle.chains.proofs.Chosen.{Chosen, of_production, none_chosen, choice_of}

-- from one token index to another: none is given back, and where none is taken `Null` holds
pub record Onward (Null : Type 0) (at at' : ℕ) : Type 0 where
  -- no token is given back
  pub no_less : at ≤ at'
  -- none was taken
  pub null : at ≡ at' → Null

-- a run goes so, unless it is refused
abbrev pub Goes : {A : Type 0} → Type 0 → ℕ → Result A → Type 0
Goes Null at x = Ends (λ a s c. Onward Null at s.at) (λ r. Unit {0}) x

goes_after : {A B : Type 0} (One Rest Whole : Type 0) → (One → Rest → Whole) → (at : ℕ) (result : Result A) (follow : A → Run B) → Goes One at result
    → ((item : A) (state : State) (cells : List ℕ) → Goes Rest state.at (follow item state cells))
    → Goes Whole at (after result follow)
goes_after One Rest Whole join at (halt r c) follow h f = tt
goes_after {B = B} One Rest Whole join at (done a s c) follow h f = go (follow a s c) (f a s c)
  where
    go : (result : Result B) → Goes Rest s.at result → Goes Whole at result
    go (halt r c'') q = tt
    go (done b s'' c'') q =
        record {
          no_less = omega (arith, h.no_less, q.no_less);
          null = λ e. join (h.null (omega (arith, h.no_less, q.no_less, e))) (q.null (omega (arith, h.no_less, q.no_less, e)));
        }

stays_goes : {A : Type 0} (state : State) (result : Result A) → Stays state result → Goes (Unit {0}) state.at result
stays_goes state (halt r c) h = tt
stays_goes state (done a s' c) h = record { no_less = omega (arith, h); null = λ e. tt }

take_goes : (Null : Type 0) (lent : Input) (kind : ℕ) (value : ℕ → ℕ) (state : State) (cells : List ℕ)
    → Goes Null state.at (take_token lent kind value state cells)
take_goes Null lent kind value state cells = go (eqb (next_token lent state).kind kind)
  where
    go : (test : Bool)
        → Goes {A = ℕ} Null state.at
        (elim test as (λ x. Result ℕ) [ true ↦ done (value (next_token lent state).value) (token_taken state) cells | false ↦ misfit (only kind) state cells ])
    go true = record { no_less = omega arith; null = λ e. absurd (omega (arith, e)) }
    go false = tt

null_then : {g : List Production} {item : Item} {is : List Item} → NullItems g (item ∷ []) → NullItems g is → NullItems g (item ∷ is)
null_then (null_local n) z = null_local z
null_then (null_call o m n) z = null_call o m z

-- a run of a grammar on tokens, of a formula or of a text
module _ (g : List Production) (within : (p : Production) → Among g p → Each ItemWithin p.items) (patterns : List Item → ℕ) (tokens : List Token) (rows : ℕ)
  where
    abbrev J : Input
    J = record { grammar = ready_for patterns g; tokens = tokens; rows = rows }

    -- what a call does: it goes on, and is of a nullable nonterminal if it takes nothing
    abbrev pub GoingCallee : (ℕ → List ℕ → Run ℕ) → Type 0
    GoingCallee called = (n : ℕ) → n < 64 → (vs : List ℕ) (s : State) (cells : List ℕ) → Goes (Nullable g n) s.at (called n vs s cells)

    module _ (lent : Input) (called : ℕ → List ℕ → Run ℕ) (callee : GoingCallee called) where
      -- an item goes on,
      pub item_goes : (item : Item) → ItemWithin item → (xs : List ℕ) (state : State) (cells : List ℕ)
          → Goes (NullItems g (item ∷ [])) state.at (run_item called lent item xs state cells)
      item_goes (Table.terminal t) w xs state cells =
          terminal_by lent t state cells (λ x. Goes (NullItems g (Table.terminal t ∷ [])) state.at x)
          (λ v. record { no_less = omega arith; null = λ e. absurd (omega (arith, e)) })
          (take_goes _ lent (Table.kind_of t) (read_value t) state cells)
      item_goes Table.local w xs state cells = record { no_less = omega arith; null = λ e. null_local null_none }
      item_goes (Table.call n ts) (call_within l w) xs state cells =
          goes_after (Unit {0}) (Nullable g n) (NullItems g (Table.call n ts ∷ [])) (λ u z. null_call z.of z.items null_none) state.at
          (build_all ts lent xs state cells) (λ vs. called n vs) (stays_goes state (build_all ts lent xs state cells) (build_all_stays lent ts xs state cells))
          (λ vs s' c'. callee n l vs s' c')

      -- items do,
      pub items_go : (is : List Item) → Each ItemWithin is → (xs : List ℕ) (state : State) (cells : List ℕ)
          → Goes (NullItems g is) state.at (run_items called lent is xs state cells)
      unfolding run_items
      items_go [] w xs state cells = record { no_less = omega arith; null = λ e. null_none }
      items_go (i ∷ is) (each_more w ws) xs state cells =
          goes_after (NullItems g (i ∷ [])) (NullItems g is) (NullItems g (i ∷ is)) null_then state.at (run_item called lent i xs state cells)
          (λ v. run_items called lent is (xs ++ (v ∷ []))) (item_goes i w xs state cells)
          (λ v s' c'. items_go is ws (xs ++ (v ∷ [])) s' c')

    -- and a call does.
    pub call_goes : (depth : ℕ) → GoingCallee (run_call depth J)
    unfolding run_call
    call_goes zero n l vs state cells = tt
    call_goes (suc depth) n l vs state cells =
        go (call_goes depth) (ltb state.calls most_calls) refl (choice_of patterns g n l (next_token J state).kind)
      where
        go : GoingCallee (run_call depth J) → (test : Bool) → ltb state.calls most_calls ≡ test
            → Chosen g n (choice J.grammar n (next_token J state).kind)
            → Goes (Nullable g n) state.at (run_call (suc depth) J n vs state cells)
        go f false e q = subst⁻¹ (Goes (Nullable g n) state.at) (call_full depth J n vs state cells e) tt
        go f true e (of_production p o z) =
            subst⁻¹ (Goes (Nullable g n) state.at)
            (call_chosen depth J n vs state cells (rule g p) e z)
            (goes_after (NullItems g p.items) (Unit {0}) (Nullable g n) (λ m u. record { production = p; of = o; items = m }) state.at
            (run_items (run_call depth J) (inner J state) p.items vs (call_begun state) cells) (λ M. build p.result (inner J state) M)
            (items_go (inner J state) (run_call depth J) f p.items (within p o.member) vs (call_begun state) cells)
            (λ M s' c'. stays_goes s' (build p.result (inner J state) M s' c') (build_stays (inner J state) p.result M s' c')))
        go f true e (none_chosen z) =
            subst⁻¹ (Goes (Nullable g n) state.at)
            (call_unfit depth J n vs state cells e z) tt
