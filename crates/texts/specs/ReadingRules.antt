-- Reading a text, by rules. Document 02, C-14: Figure 3 over templates as values. What an alternative's template gives under templates is the template with
-- them put in for its variables; a text's own variables are themselves.
use Rattle.std.specs.Prelude.{ℕ, ◌<◌, ◌≤◌, ◌≡◌, true, List, [], ◌∷◌, length}
use Rattle.kinds.specs.Kinds.{word_kind, keyword_kind}
use Rattle.kinds.specs.TextKinds.{variable_kind}
use Rattle.grammar.specs.Limits.{most}
use Rattle.grammar.specs.Sorts.{var, label}
use Rattle.grammar.specs.SortTests.{fits}
use Rattle.grammar.specs.Table.{Template, variable, outside_var, outside_label, unit, none, keyword, ide, place, Item, terminal, call}
use Rattle.terms.specs.Term.{largest_term}
use Rattle.tokens.specs.declared.Token.{Token}
use Rattle.tokens.specs.Tokens.{most_tokens}
use Rattle.tokens.specs.Variables.{variable_name}
use Rattle.tokens.specs.Tiling.{Tiled}
use Rattle.productions.specs.Normal.{Production}
use Rattle.firsts.specs.Rules.{Of, NullItems, First, Reads}
use Rattle.firsts.specs.Patterns.{ReadsAt, ReadsPlace}
use Rattle.expansion.specs.Figure3.{Next, ◌⊢⟨◌∣◌⟩◌⇒⟨◌∣◌⟩◌}
use Rattle.expansion.specs.Costs.{rows_of, rows_in, Affords}
use Rattle.texts.specs.Substitution.{substitute, substitute_all, template_list}
use Rattle.texts.specs.Reading.{TextContext, lexicon_for, rows_left}

-- ------------------------------------------------------------------ the alternative that is taken

-- the next token is of a kind that opens p, or a `$` variable that fits an ide that p opens with
pub data TextOpened (g : List Production) (s : List Token) (p : Production) : Type 0 where
  opened_kind : {k : ℕ}
      → Next s k
      → First g Reads p.items k
      → TextOpened g s p
  opened_ide : (A : ℕ) {B : ℕ}
      → Next s (variable_kind A)
      → First g ReadsAt p.items B
      → fits A B ≡ true
      → TextOpened g s p

-- the next token is a `$` variable of exactly the sort of a pattern place that p opens with
pub record TextPlaced (g : List Production) (s : List Token) (p : Production) : Type 0 where
  pub sort : ℕ
  pub token : Next s (variable_kind sort)
  pub first : First g ReadsPlace p.items sort

-- the alternative of n that opens with the next token; else the one with a place for it; else the nullable one
pub data TextTaken (g : List Production) (n : ℕ) (s : List Token) : Production → Type 0 where
  taken_opened : {p : Production}
      → Of g n p
      → TextOpened g s p
      → TextTaken g n s p
  taken_place : {p : Production}
      → Of g n p
      → ((q : Production) → Of g n q → TextOpened g s q → ⊥)
      → TextPlaced g s p
      → TextTaken g n s p
  taken_nullable : {p : Production}
      → Of g n p
      → ((q : Production) → Of g n q → TextOpened g s q → ⊥)
      → ((q : Production) → Of g n q → TextPlaced g s q → ⊥)
      → NullItems g p.items
      → TextTaken g n s p

-- ------------------------------------------------------------------ terminals and items

-- terminals of a text: a keyword gives Unit; a `$` variable stands at an ide that it fits or at a pattern place of exactly its sort, an outside name at Var or
-- Label. No rule reads a number (26) or a word at a Binder (27), and none makes a fresh name (28): the counter i stays.
pub data TextReads : List Token → ℕ → Item → List Token → ℕ → Template → Type 0 where
  by_keyword : {t : Token} {s : List Token} {i k : ℕ}
      → t.kind ≡ keyword_kind k
      → TextReads (t ∷ s) i (terminal (keyword k)) s i unit
  by_variable : {t : Token} {s : List Token} {i B : ℕ} (A n : ℕ)
      → t.kind ≡ variable_kind A
      → t.value ≡ variable_name n
      → fits A B ≡ true
      → TextReads (t ∷ s) i (terminal (ide B)) s i (variable n)
  by_place : {t : Token} {s : List Token} {i B : ℕ} (n : ℕ)
      → t.kind ≡ variable_kind B
      → t.value ≡ variable_name n
      → TextReads (t ∷ s) i (terminal (place B)) s i (variable n)
  by_global : {t : Token} {s : List Token} {i : ℕ}
      → t.kind ≡ word_kind
      → t.value < most.outsides
      → TextReads (t ∷ s) i (terminal (ide var)) s i (outside_var t.value)
  by_label : {t : Token} {s : List Token} {i : ℕ}
      → t.kind ≡ word_kind
      → t.value < most.outsides
      → TextReads (t ∷ s) i (terminal (ide label)) s i (outside_label t.value)

-- items in sequence, over templates
abbrev pub TextDerives : List Production → List Template → List Token → ℕ → List Item → List Token → ℕ → List Template → Type 0
TextDerives g M s i ps s' i' M' =
    ◌⊢⟨◌∣◌⟩◌⇒⟨◌∣◌⟩◌ Template TextReads (TextTaken g) (λ N t v. v ≡ substitute N t) (λ N ts vs. vs ≡ template_list (substitute_all N ts)) M s i ps s' i' M'

-- ------------------------------------------------------------------ a whole text

-- the text bs, from n, where the alternative's variables have the sorts L, stands for the template t: "It is read whole" by one call of n, which makes no fresh
-- name, within the limits of a formula and the rows that are left
pub record ReadText (P : TextContext) (L : List ℕ) (n : ℕ) (bs : List ℕ) (t : Template) : Type 0 where
  pub tokens : List Token
  pub words : List (List ℕ)
  pub tiled : Tiled (lexicon_for P L n) bs 0 [] tokens (length bs) words
  pub few : length tokens ≤ most_tokens
  pub derived : TextDerives P.productions [] tokens 1 (call n none ∷ []) [] 1 (t ∷ [])
  pub affords : Affords (rows_left P) 0 0 0 derived
  pub small : rows_of t ≤ largest_term

-- the rows that its reading makes
abbrev pub rows_read : {P : TextContext} {L : List ℕ} {n : ℕ} {bs : List ℕ} {t : Template} → ReadText P L n bs t → ℕ
rows_read r = rows_in r.derived
