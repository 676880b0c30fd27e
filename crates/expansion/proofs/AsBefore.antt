-- The tokens of a formula have kinds up to 64. Of these a terminal takes what it takes by document 01, and for these the alternative is chosen that document
-- 01 chooses: none of them meets a terminal as a text's token does, and none has a pattern place.
use Prim.Native.Nat.{ℕ, ◌-◌, ◌<◌, ◌≤◌}
use mathlib.Core.Path.{◌≡◌, refl, ap, ◌∙◌, fun_ext}
use mathlib.Core.Bool.{Bool, true, false, and-false}
use mathlib.Core.List.{List, [], ◌∷◌}
use native.Mathlib.Omega.{arith}
use lib.Dec.{eqb}
use borrow.Author.Tests.{lt-ltb, le-ltb, ne_eqb}
use Rattle.kinds.specs.Kinds.{word_kind, no_kind, has_kind}
use Rattle.kinds.specs.TextKinds.{outside_kind}
use Rattle.grammar.specs.Table.{Terminal, keyword, ide, number, place, kind_of}
use Rattle.tokens.specs.declared.Token.{Token}
use Rattle.expansion.specs.declared.State.{State}
use Rattle.firsts.specs.Patterns.{opens_ide, opens_place}
use Rattle.expansion.specs.Run.{Result, done}
use Rattle.expansion.specs.TextTokens.{read_value, is_text_kind, is_outside_kind, meets_ide, meets, text_value, is_opened, is_placed}
use Rattle.expansion.specs.Expansion.{Rule, Grammar, Input, next_token, token_taken, take_token, take_terminal, Choice, unfit, first_rule, choice}

-- A kind up to 64 is none that only a text has,
pub no_text : (kind : ℕ) → kind ≤ no_kind → is_text_kind kind ≡ false
no_text kind h = le-ltb no_kind kind h

-- and no outside name.
pub no_outside : (kind : ℕ) → kind ≤ no_kind → is_outside_kind kind ≡ false
no_outside kind h = ne_eqb kind outside_kind (λ e. omega arith)

-- No token of a formula meets an ide as one of a text,
pub meets_no_ide : (kind sort : ℕ) → kind ≤ no_kind → meets_ide kind sort ≡ false
unfolding meets_ide
meets_no_ide kind sort h = rw (no_text kind h, no_outside kind h, meets_ide) refl

-- nor any other terminal.
pub meets_none : (t : Terminal) (token : Token) → token.kind ≤ no_kind → meets t token ≡ false
meets_none (keyword k) token h = refl
meets_none (ide sort) token h = meets_no_ide token.kind sort h
meets_none number token h = refl
meets_none (place sort) token h = refl

module _ (input : Input) (t : Terminal) (state : State) (cells : List ℕ) where
  -- A token that meets a terminal is taken,
  pub terminal_met : meets t (next_token input state) ≡ true
      → take_terminal input t state cells ≡ done (text_value t (next_token input state)) (token_taken state) cells
  terminal_met e = rw (e, take_terminal) refl

  -- and any other if it is of the terminal's kind;
  pub terminal_unmet : meets t (next_token input state) ≡ false → take_terminal input t state cells ≡ take_token input (kind_of t) (read_value t) state cells
  terminal_unmet e = rw (e, take_terminal) refl

  -- so are those of a formula.
  pub terminal_as_before : (next_token input state).kind ≤ no_kind → take_terminal input t state cells ≡ take_token input (kind_of t) (read_value t) state cells
  terminal_as_before h = terminal_unmet (meets_none t (next_token input state) h)

  -- What holds of a token that meets a terminal, and of one that is taken by its kind, holds of what a terminal takes.
  pub terminal_by : (P : Result ℕ → Type 0) → ((value : ℕ) → P (done value (token_taken state) cells))
      → P (take_token input (kind_of t) (read_value t) state cells) → P (take_terminal input t state cells)
  terminal_by P met other = go (meets t (next_token input state))
    where
      go : (test : Bool)
          → P
          (elim test [
            | true ↦ done (text_value t (next_token input state)) (token_taken state) cells
            | false ↦ take_token input (kind_of t) (read_value t) state cells
          ])
      go true = met _
      go false = other

-- ------------------------------------------------------------------ the choice

-- An alternative opens with a token of a formula by its first set,
pub opened_as_before : (kind first patterns : ℕ) → kind ≤ no_kind → is_opened kind first patterns ≡ has_kind first kind
unfolding is_opened
opened_as_before kind first patterns h = rw (no_text kind h, is_opened) refl

-- and has no place for it.
pub placed_never : (kind patterns : ℕ) → kind ≤ no_kind → is_placed kind patterns ≡ false
unfolding is_placed
placed_never kind patterns h = rw (no_text kind h, is_placed) refl

-- An alternative opens with an outside name as with a word,
pub opened_outside : (first patterns : ℕ) → is_opened outside_kind first patterns ≡ is_opened word_kind first patterns
unfolding is_opened
opened_outside first patterns = refl

-- and has no place for either.
pub placed_outside : (patterns : ℕ) → is_placed outside_kind patterns ≡ is_placed word_kind patterns
unfolding is_placed
placed_outside patterns = refl

module _ (kind : ℕ) (text : no_kind < kind) (variable : kind ≡ outside_kind → ⊥) where
  -- It opens with a variable by an ide that the variable fits,
  pub opened_variable : (first patterns : ℕ) → is_opened kind first patterns ≡ opens_ide patterns (kind - 65)
  unfolding is_opened
  opened_variable first patterns = rw (lt-ltb no_kind kind text, ne_eqb kind outside_kind variable, is_opened) refl

  -- or by a place of its sort.
  pub placed_variable : (patterns : ℕ) → is_placed kind patterns ≡ opens_place patterns (kind - 65)
  unfolding is_placed
  placed_variable patterns = rw (lt-ltb no_kind kind text, ne_eqb kind outside_kind variable, is_placed) refl

-- A search for what no rule passes finds nothing.
pub nothing_found : {test : Rule → Bool} → ((r : Rule) → test r ≡ false) → (nonterminal : ℕ) (rs : List Rule) (other : Choice)
    → first_rule test nonterminal rs other ≡ other
unfolding first_rule
nothing_found none nonterminal [] other = refl
nothing_found {test} none nonterminal (r ∷ rs) other =
    rw (none r, and-false (eqb r.nonterminal nonterminal), first_rule) (nothing_found none nonterminal rs other)

-- document 01's choice: the rule whose first set holds the next token, else the nullable one
abbrev pub choice_of01 : Grammar → ℕ → ℕ → Choice
choice_of01 g n kind = first_rule (λ r. has_kind r.first kind) n g.rules (first_rule (λ r. r.nullable) n g.rules unfit)

-- For a token of a formula the choice is document 01's.
pub choice_as_before : (g : Grammar) (nonterminal kind : ℕ) → kind ≤ no_kind → choice g nonterminal kind ≡ choice_of01 g nonterminal kind
choice_as_before g nonterminal kind h =
    ap
    (λ (test : Rule → Bool).
    first_rule test nonterminal g.rules
    (first_rule (λ r. is_placed kind (g.patterns r.items)) nonterminal g.rules (first_rule (λ r. r.nullable) nonterminal g.rules unfit)))
    (fun_ext (λ r. opened_as_before kind r.first (g.patterns r.items) h))
    ∙ ap (first_rule (λ r. has_kind r.first kind) nonterminal g.rules)
    (nothing_found (λ r. placed_never kind (g.patterns r.items) h) nonterminal g.rules _)
