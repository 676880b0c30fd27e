-- What begins a call: it is refused with 20 or 17, or the items and the result of the production chosen are run. They are run with an input
-- that has the grammar, the tokens and the rows of the call's; nothing else is said of it.
use Prim.Native.Nat.{ℕ, suc}
use mathlib.Core.Path.{◌≡◌, refl, subst⁻¹}
use mathlib.Core.Bool.{Bool, true, false}
use mathlib.Core.List.{List}
use lib.Dec.{ltb}
use lib.ListN.{get_or}
use Rattle.answers.specs.Refusals.{refusal}
use Rattle.expansion.specs.declared.State.{State}
use Rattle.expansion.specs.Run.{Result, halt, after}
use Rattle.expansion.specs.Expansion.{Input, Rule, Choice, unfit, chosen, choice, next_token, misfit, build, run_items, call_begun, run_call}
use Rattle.expansion.specs.Limits.{most_calls}

-- What a call hands to its items and to its result.
pub inner : Input → State → Input
inner lent state = lent

module _ (lent : Input) (state : State) where
  -- It has the same grammar,
  pub inner_grammar : (inner lent state).grammar ≡ lent.grammar
  unfolding inner
  inner_grammar = refl

  -- the same tokens,
  pub inner_tokens : (inner lent state).tokens ≡ lent.tokens
  unfolding inner
  inner_tokens = refl

  -- and as many rows.
  pub inner_rows : (inner lent state).rows ≡ lent.rows
  unfolding inner
  inner_rows = refl

module _ (depth : ℕ) (lent : Input) (nonterminal : ℕ) (xs : List ℕ) (state : State) (cells : List ℕ) where
  -- No call is left: refusal 20.
  pub call_full : ltb state.calls most_calls ≡ false → run_call (suc depth) lent nonterminal xs state cells ≡ halt (refusal 20 state.at 0 0) cells
  unfolding run_call
  call_full e = rw (e, run_call) refl

  -- No production fits: refusal 17.
  pub call_unfit : ltb state.calls most_calls ≡ true → choice lent.grammar nonterminal (next_token lent state).kind ≡ unfit
      → run_call (suc depth) lent nonterminal xs state cells ≡ misfit (get_or lent.grammar.firsts nonterminal 0) state cells
  unfolding run_call
  call_unfit e f = rw (e, f, run_call) refl

  -- what is run of a production
  abbrev pub Ran : Rule → Result ℕ
  Ran rule =
      after (run_items (run_call depth lent) (inner lent state) rule.items xs (call_begun state) cells) (λ ys. build rule.result (inner lent state) ys)

  -- The production chosen is run.
  pub call_chosen : (rule : Rule) → ltb state.calls most_calls ≡ true → choice lent.grammar nonterminal (next_token lent state).kind ≡ chosen rule
      → run_call (suc depth) lent nonterminal xs state cells ≡ Ran rule
  unfolding run_call inner
  call_chosen rule e f = rw (e, f, run_call) refl

  -- What holds of all three holds of a call.
  pub call_by : (P : Result ℕ → Type 0) → P (halt (refusal 20 state.at 0 0) cells) → P (misfit (get_or lent.grammar.firsts nonterminal 0) state cells)
      → ((rule : Rule) → P (Ran rule)) → P (run_call (suc depth) lent nonterminal xs state cells)
  call_by P full none ran = go (ltb state.calls most_calls) refl (choice lent.grammar nonterminal (next_token lent state).kind) refl
    where
      go : (test : Bool) → ltb state.calls most_calls ≡ test → (picked : Choice)
          → choice lent.grammar nonterminal (next_token lent state).kind ≡ picked → P (run_call (suc depth) lent nonterminal xs state cells)
      go false e picked f = subst⁻¹ P (call_full e) full
      go true e unfit f = subst⁻¹ P (call_unfit e f) none
      go true e (chosen rule) f = subst⁻¹ P (call_chosen rule e f) (ran rule)
