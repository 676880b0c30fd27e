-- All that an expansion is given but the cells: a grammar that fits, tokens, spellings, rows and a root.
use Prim.Native.Nat.{ℕ, ◌<◌}
use mathlib.Core.Path.{◌≡◌, refl, ap, subst⁻¹, ◌∙◌}
use mathlib.Core.List.{List, [], ◌∷◌}
use native.Mathlib.Omega.{arith}
use lib.ListN.{drop}
use Rattle.answers.specs.Checked.{ok}
use Rattle.grammar.specs.Sorts.{Signature, constructor_signatures, constructor}
use Rattle.grammar.specs.Sorts as Sorts
use Rattle.grammar.specs.Table.{make, none, Terminal, kind_of, Item, call}
use Rattle.decoding.specs.Within.{Each, each_none, each_more, ItemWithin, call_within, none_within}
use Rattle.judgements.specs.Judgements.{Newest, Fill, fill_none, Body, by_result, by_binding}
use Rattle.judgements.specs.Judgements as Judgements
use Rattle.tokens.specs.declared.Token.{Token}
use Rattle.productions.specs.Normal.{Production}
use Rattle.clashes.specs.CheckFirsts.{check_firsts}
use Rattle.expansion.specs.declared.State.{State}
use Rattle.expansion.specs.Expansion.{Input, ready, choice, next_token, take_token, take_terminal}
use Rattle.expansion.specs.TextTokens.{read_value}
use Rattle.expansion.specs.Parsing.{input, SmallWords, FormulaKinds}
use Rattle.expansion.specs.ValueSorts.{Matches, matches-none}
use Rattle.expansion.proofs.AsBefore.{terminal_as_before}
use Rattle.expansion.proofs.CallLaws.{inner, inner_grammar, inner_tokens, inner_rows}
use Rattle.expansion.proofs.Choosing.{next_kind, kind_next, Picks, choice_picks}
use Rattle.soundness.proofs.Typing.{FitAll}

-- A grammar that passed, the tokens to parse and the rows that there are.
pub record Setting (g : List Production) : Type 0 where
  -- the productions fit a scope
  pub fit : FitAll g
  -- the first sets pass
  pub passed : check_firsts g ≡ ok tt
  -- how tokens are spelled
  pub spell : ℕ → List ℕ
  -- the tokens
  pub tokens : List Token
  -- the rows that there are
  pub rows : ℕ
  -- the numbers of words are small
  pub small : SmallWords tokens
  -- the tokens are those of a formula
  pub formula : FormulaKinds tokens
  -- the root
  pub root : ℕ
  -- it is a nonterminal
  pub root_small : root < 64
  -- its signature
  pub signature : Signature
  -- it is defined
  pub defined : Newest fit.scope.env root signature
  -- without parameters
  pub without : signature.params ≡ []
  -- of sort Term
  pub of_term : signature.result ≡ Sorts.term

-- What a part of the run reads: this grammar, these tokens and these rows, whatever else it is told.
pub record Provides {g : List Production} (setting : Setting g) (lent : Input) : Type 0 where
  -- the grammar
  pub grammar_is : lent.grammar ≡ ready g
  -- the tokens
  pub tokens_are : lent.tokens ≡ setting.tokens
  -- the rows that there are
  pub rows_are : lent.rows ≡ setting.rows

module _ {g : List Production} (setting : Setting g) where
  -- what the whole run reads
  pub provides_whole : Provides setting (input g setting.tokens setting.rows)
  provides_whole = record { grammar_is = refl; tokens_are = refl; rows_are = refl }

  -- what a call hands on has them, too
  pub provides_inner : {lent : Input} → Provides setting lent → (state : State) → Provides setting (inner lent state)
  provides_inner {lent} provides state =
      record {
        grammar_is = inner_grammar lent state ∙ provides.grammar_is;
        tokens_are = inner_tokens lent state ∙ provides.tokens_are;
        rows_are = inner_rows lent state ∙ provides.rows_are;
      }

  -- the choice is that of the tokens left
  pub choice_is : {lent : Input} → Provides setting lent → (state : State) (nonterminal : ℕ)
      → choice lent.grammar nonterminal (next_token lent state).kind ≡ choice (ready g) nonterminal (next_kind (drop state.at setting.tokens))
  choice_is provides state nonterminal =
      rw (provides.grammar_is, provides.tokens_are) (ap (choice (ready g) nonterminal) (kind_next state.at setting.tokens))

  -- the choice picks the production that the tokens left take
  pub picks_at : (state : State) (nonterminal : ℕ) → nonterminal < 64
      → Picks g nonterminal (drop state.at setting.tokens) (choice (ready g) nonterminal (next_kind (drop state.at setting.tokens)))
  picks_at state nonterminal small =
      choice_picks g nonterminal small (drop state.at setting.tokens) (omega (arith, kind_next state.at setting.tokens, setting.formula state.at))

  -- a token is taken as the whole run takes it, by the terminal's kind
  pub take_is : {lent : Input} → Provides setting lent → (t : Terminal) (state : State) (cells : List ℕ)
      → take_terminal lent t state cells ≡ take_token (input g setting.tokens setting.rows) (kind_of t) (read_value t) state cells
  take_is provides t state cells =
      rw provides.tokens_are (terminal_as_before (input g setting.tokens setting.rows) t state cells (setting.formula state.at))

  -- the root is called without arguments
  pub no_arguments : Matches [] setting.signature.params
  no_arguments = subst⁻¹ (Matches []) setting.without matches-none

  -- an item that is sorted, as a body of its own
  pub item_body : {L : List ℕ} {item : Item} {A : ℕ} → Judgements.ItemSorted setting.fit.scope L item A
      → Body setting.fit.scope L (item ∷ []) (make 0x25 none) Sorts.fields
  unfolding constructor constructor_signatures
  item_body w = by_binding w (by_result (Judgements.by_constructor {c = 0x25} (omega arith) (omega arith) fill_none) Judgements.fits_equal)

  -- the call of the root, as a body of its own
  pub root_body : Body setting.fit.scope [] (call setting.root none ∷ []) (make 0x25 none) Sorts.fields
  root_body = item_body (Judgements.by_call setting.defined (subst⁻¹ (Fill setting.fit.scope.outsides [] none) setting.without fill_none))

  -- the call of the root is an item
  pub root_within : Each ItemWithin (call setting.root none ∷ [])
  root_within = each_more (call_within {n = setting.root} (omega (arith, setting.root_small)) none_within) each_none
