-- All that the reading of a text is given but the cells, and its tokens as the strict run reads them: words as outside names.
use Prim.Native.Nat.{ℕ, zero, suc, ◌*◌, ◌≤◌, ◌<◌}
use mathlib.Core.Path.{◌≡◌, refl, sym, ap, ◌∙◌}
use mathlib.Core.Bool.{true, false}
use mathlib.Core.List.{List, [], ◌∷◌, map}
use native.Mathlib.Omega.{arith}
use lib.Dec.{eqb}
use lib.ListN.{length, get_or}
use borrow.Author.Tests.{eqb-true, eqb-false, eq-eqb, ne_eqb}
use Rattle.spellings.proofs.BytesLaws.{by_test}
use Rattle.kinds.specs.Kinds.{word_kind, number_kind, no_kind}
use Rattle.kinds.specs.TextKinds.{outside_kind}
use Rattle.grammar.specs.Limits.{most}
use Rattle.grammar.specs.Sorts.{Signature, label}
use Rattle.terms.specs.Cells.{columns, outside_name}
use Rattle.tokens.specs.declared.Token.{Token}
use Rattle.tokens.specs.Tokens.{end_token}
use Rattle.tokens.specs.Variables.{variable_name}
use Rattle.productions.specs.Normal.{Production}
use Rattle.judgements.specs.Scopes.{Scope}
use Rattle.judgements.specs.Judgements.{Newest}
use Rattle.expansion.specs.declared.State.{State}
use Rattle.expansion.specs.TextTokens.{is_outside_kind, ide_value}
use Rattle.expansion.specs.Expansion.{Input}
use Rattle.texts.specs.Reading.{ready_text, as_outside}
use Rattle.texts.proofs.TextSorts.{AllSorted}

-- ------------------------------------------------------------------ what is given

-- A grammar whose productions are sorted, and the tokens of a text that has passed the scan.
pub record TextSetting (G : Scope) (g : List Production) : Type 0 where
  -- the productions are sorted
  pub all : AllSorted G g
  -- keywords are as many as a table's layout has them
  pub few_keywords : G.keywords ≤ most.keywords
  -- nonterminals are below 64, as the layout has them
  pub declared : (n : ℕ) (S : Signature) → Newest G.env n S → n < most.nonterminals
  -- the tokens
  pub tokens : List Token
  -- the rows that there are
  pub rows : ℕ
  -- none is a number
  pub no_number : (at : ℕ) → (get_or tokens at end_token).kind ≡ number_kind → ⊥
  -- words are outside names
  pub known : (at : ℕ) → (get_or tokens at end_token).kind ≡ word_kind → (get_or tokens at end_token).value < most.outsides
  -- the number of a variable
  pub name : ℕ → ℕ
  -- what is behind kind 64 is a variable
  pub named : (at : ℕ) → no_kind < (get_or tokens at end_token).kind → (get_or tokens at end_token).value ≡ variable_name (name at)
  -- and of a sort
  pub small : (at : ℕ) → (get_or tokens at end_token).kind < outside_kind

-- the room: it has the rows, and no more are made
pub record Kept (rows : ℕ) (s : State) (cells : List ℕ) : Type 0 where
  -- the cells hold the rows
  pub room : rows * columns ≤ length cells
  -- no more are made
  pub fits : s.made ≤ rows

-- ------------------------------------------------------------------ words as outside names

-- The token at a place, as the strict run reads it.
pub next_outside : (tokens : List Token) (at : ℕ) → get_or (map as_outside tokens) at end_token ≡ as_outside (get_or tokens at end_token)
next_outside [] zero = refl
next_outside [] (suc at) = refl
next_outside (t ∷ ts) zero = refl
next_outside (t ∷ ts) (suc at) = next_outside ts at

-- They are as many.
pub as_many : (tokens : List Token) → length (map as_outside tokens) ≡ length tokens
as_many [] = refl
as_many (t ∷ ts) = ap suc (as_many ts)

-- A token that is no word stays as it is,
pub kept_token : (t : Token) → (t.kind ≡ word_kind → ⊥) → as_outside t ≡ t
kept_token t h = let e = ne_eqb t.kind word_kind h in rw (e, as_outside) refl

-- and a word becomes an outside name.
pub outside_token : (t : Token) → t.kind ≡ word_kind → (as_outside t).kind ≡ outside_kind
outside_token t h = let e = eq-eqb t.kind word_kind h in rw (e, as_outside) refl

-- Its value stays.
pub same_value : (t : Token) → (as_outside t).value ≡ t.value
same_value t = by_test (eqb t.kind word_kind) (λ e. rw (e, as_outside) refl) (λ e. rw (e, as_outside) refl)

-- A token that has another kind than an outside name's had it before,
pub kind_before : (t : Token) {kind : ℕ} → (as_outside t).kind ≡ kind → (kind ≡ outside_kind → ⊥) → t.kind ≡ kind
kind_before t e h =
    by_test (eqb t.kind word_kind) (λ w. absurd (h (sym e ∙ outside_token t (eqb-true t.kind word_kind w))))
    (λ w. ap (λ u. u.kind) (sym (kept_token t (eqb-false t.kind word_kind w))) ∙ e)

-- one that is an outside name was a word,
pub was_word : (t : Token) → t.kind < outside_kind → (as_outside t).kind ≡ outside_kind → t.kind ≡ word_kind
was_word t l h =
    by_test (eqb t.kind word_kind) (λ w. eqb-true t.kind word_kind w)
    (λ w. absurd (omega (arith, ap (λ u. u.kind) (sym (kept_token t (eqb-false t.kind word_kind w))) ∙ h)))

-- and none is a word any more.
pub no_word : (t : Token) → (as_outside t).kind ≡ word_kind → ⊥
no_word t h =
    by_test (eqb t.kind word_kind) (λ w. omega (arith, sym (outside_token t (eqb-true t.kind word_kind w)) ∙ h))
    (λ w. eqb-false t.kind word_kind w (kind_before t h (λ z. omega arith)))

-- ------------------------------------------------------------------ what an ide gives

-- what an outside name gives at a sort
abbrev pub outside_value : ℕ → ℕ → ℕ
outside_value B v = elim (eqb B label) [ true ↦ v | false ↦ outside_name v ]

-- An outside name is read as a name, at Label as its number,
pub outside_value_lem : (kind B v : ℕ) → is_outside_kind kind ≡ true → ide_value kind B v ≡ outside_value B v
unfolding ide_value
outside_value_lem kind B v o = by_test (eqb B label) (λ e. rw (o, e, ide_value, outside_value) refl) (λ e. rw (o, e, ide_value, outside_value) refl)

-- and a variable as itself.
pub variable_value : (kind B v : ℕ) → is_outside_kind kind ≡ false → ide_value kind B v ≡ v
unfolding ide_value
variable_value kind B v o = rw (o, ide_value) refl

-- ------------------------------------------------------------------ what the run reads

-- What the strict run of a text reads.
abbrev pub strict_input : {G : Scope} {g : List Production} → TextSetting G g → Input
strict_input {g = g} setting = record { grammar = ready_text g; tokens = map as_outside setting.tokens; rows = setting.rows }
