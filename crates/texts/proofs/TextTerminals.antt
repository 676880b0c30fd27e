-- A text's tokens as a run reads them, words as outside names or as they stand, and what terminals take of them.
use Prim.Native.Nat.{ℕ, ◌+◌, ◌<◌}
use mathlib.Core.Path.{◌≡◌, refl, sym, ap, subst, ◌∙◌}
use mathlib.Core.Bool.{Bool, true, false, true≢false, not, ◌&&◌}
use mathlib.Core.List.{List, [], ◌∷◌, map}
use native.Mathlib.Omega.{arith}
use native.Mathlib.Numerals.{add-one}
use lib.Dec.{eqb, ltb}
use lib.ListN.{length, get_or, drop, drop_of_length-le, get_or-eq_default}
use lib.Seq.{drop-cons}
use borrow.Author.Tests.{eqb-true, eqb-false, eq-eqb, ne_eqb, ltb-true, ltb-false, lt-ltb}
use Rattle.spellings.proofs.BytesLaws.{by_test}
use Rattle.kinds.specs.Kinds.{only, word_kind, number_kind, no_kind}
use Rattle.kinds.specs.TextKinds.{variable_kind, outside_kind, sort_of_kind}
use Rattle.grammar.specs.Sorts.{binder}
use Rattle.grammar.specs.SortTests.{fits}
use Rattle.tokens.specs.declared.Token.{Token}
use Rattle.tokens.specs.Tokens.{end_token}
use Rattle.tokens.specs.Variables.{variable_name}
use Rattle.productions.specs.Normal.{Production}
use Rattle.judgements.proofs.TemplateSorts.{both, either}
use Rattle.expansion.specs.declared.State.{State}
use Rattle.expansion.specs.Run.{done}
use Rattle.expansion.specs.TextTokens.{is_text_kind, is_outside_kind, meets_ide}
use Rattle.expansion.specs.Expansion.{Input, next_token, token_taken, misfit, take_token, choice}
use Rattle.expansion.proofs.Choosing.{kind_next}
use Rattle.expansion.proofs.Endings.{Ends}
use Rattle.copying.specs.RowTemplates.{is_variable_name}
use Rattle.texts.specs.Reading.{ready_text, as_outside}
use Rattle.texts.proofs.TextChoice.{TextPicks, choice_picks, strict_picks}
use Rattle.texts.proofs.TextSetting.{next_outside, as_many, kept_token, same_value, kind_before, was_word, no_word}
use Rattle.texts.proofs.TextValues.{Any}

-- ------------------------------------------------------------------ what an ide reads

negated : (b : Bool) → not b ≡ true → b ≡ false
negated true h = absurd (true≢false (sym h))
negated false h = refl

-- a variable that fits, or an outside name that is no Binder
pub data Meets (kind B : ℕ) : Type 0 where
  meets_variable : no_kind < kind → is_outside_kind kind ≡ false → fits (sort_of_kind kind) B ≡ true → Meets kind B
  meets_outside : kind ≡ outside_kind → (B ≡ binder → ⊥) → Meets kind B

-- What an ide of a text reads is one of these.
pub meets_rule : (kind B : ℕ) → meets_ide kind B ≡ true → Meets kind B
unfolding meets_ide
meets_rule kind B h =
    either (is_text_kind kind && not (is_outside_kind kind) && fits (sort_of_kind kind) B) (is_outside_kind kind && not (eqb B binder)) h
    (λ e.
    let k = both (is_text_kind kind && not (is_outside_kind kind)) (fits (sort_of_kind kind) B) e in
    let l = both (is_text_kind kind) (not (is_outside_kind kind)) k.0 in
    meets_variable (ltb-true no_kind kind l.0) (negated (is_outside_kind kind) l.1) k.1)
    (λ e.
    let k = both (is_outside_kind kind) (not (eqb B binder)) e in
    meets_outside (eqb-true kind outside_kind k.0) (eqb-false B binder (negated (eqb B binder) k.1)))

-- A variable that fits is read by an ide,
pub variable_met : (A B : ℕ) → variable_kind A < outside_kind → fits A B ≡ true → meets_ide (variable_kind A) B ≡ true
unfolding meets_ide
variable_met A B l f =
    let e : is_text_kind (variable_kind A) ≡ true = lt-ltb no_kind (variable_kind A) (omega arith) in
    let o : is_outside_kind (variable_kind A) ≡ false = ne_eqb (variable_kind A) outside_kind (λ q. omega arith) in
    let s : sort_of_kind (variable_kind A) ≡ A = omega arith in
    rw (e, o, s, f, meets_ide) refl

-- and an outside name at Var and at Label.
pub outside_met : (B : ℕ) → eqb B 2 ≡ false → meets_ide outside_kind B ≡ true
unfolding meets_ide
outside_met B e = rw (e, meets_ide) refl

-- ------------------------------------------------------------------ tokens as a run reads them

-- a token as a run reads it: a word as it stands, or as an outside name
abbrev pub seen : Bool → Token → Token
seen true t = t
seen false t = as_outside t

-- all tokens so
abbrev pub all_seen : Bool → List Token → List Token
all_seen true ts = ts
all_seen false ts = map as_outside ts

pub next_seen : (binders : Bool) (tokens : List Token) (at : ℕ) → get_or (all_seen binders tokens) at end_token ≡ seen binders (get_or tokens at end_token)
next_seen true tokens at = refl
next_seen false tokens at = next_outside tokens at

-- They are as many.
pub seen_many : (binders : Bool) (tokens : List Token) → length (all_seen binders tokens) ≡ length tokens
seen_many true tokens = refl
seen_many false tokens = as_many tokens

-- a token that is no word stays as it is
pub seen_other : (binders : Bool) (t : Token) → (t.kind ≡ word_kind → ⊥) → seen binders t ≡ t
seen_other true t h = refl
seen_other false t h = kept_token t h

-- one that has another kind than an outside name's had it before
pub seen_kind : (binders : Bool) (t : Token) {kind : ℕ} → (seen binders t).kind ≡ kind → (kind ≡ outside_kind → ⊥) → t.kind ≡ kind
seen_kind true t e h = e
seen_kind false t e h = kind_before t e h

-- an outside name was a word, where words are outside names
pub seen_outside : (binders : Bool) (t : Token) → t.kind < outside_kind → (seen binders t).kind ≡ outside_kind → t.kind ≡ word_kind
seen_outside true t l e = absurd (omega arith)
seen_outside false t l e = was_word t l e

-- and a word is one only where they stand as they are
pub seen_word : (binders : Bool) (t : Token) → (seen binders t).kind ≡ word_kind → (t.kind ≡ word_kind) × (binders ≡ true)
seen_word true t e = (e, refl)
seen_word false t e = absurd (no_word t e)

-- Its value stays.
pub seen_value : (binders : Bool) (t : Token) → (seen binders t).value ≡ t.value
seen_value true t = refl
seen_value false t = same_value t

-- the number of a variable
abbrev pub NamedVariable : ℕ → Type 0
NamedVariable value = (n : ℕ) × (value ≡ variable_name n) × (is_variable_name value ≡ true)

-- What is known of a text's tokens: none is a number, none has the kind of an outside name, and variables have their numbers.
pub record TextTokens (tokens : List Token) : Type 0 where
  -- none is a number
  pub no_number : (at : ℕ) → (get_or tokens at end_token).kind ≡ number_kind → ⊥
  -- kinds are those of a formula's tokens and of variables
  pub small : (at : ℕ) → (get_or tokens at end_token).kind < outside_kind
  -- what is behind kind 64 is a variable
  pub variable : (at : ℕ) → no_kind < (get_or tokens at end_token).kind → NamedVariable (get_or tokens at end_token).value

-- The choice of the run picks what the tokens take.
pub seen_picks : (binders : Bool) (g : List Production) (n : ℕ) → n < 64 → (tokens : List Token) (at : ℕ) → (get_or tokens at end_token).kind < outside_kind
    → TextPicks g n (drop at tokens) (choice (ready_text g) n (get_or (all_seen binders tokens) at end_token).kind)
seen_picks true g n l tokens at small =
    subst (TextPicks g n (drop at tokens)) (sym (ap (choice (ready_text g) n) (kind_next at tokens)))
    (choice_picks g n l (drop at tokens) (omega (arith, kind_next at tokens)))
seen_picks false g n l tokens at small =
    subst (TextPicks g n (drop at tokens)) (sym (ap (λ t. choice (ready_text g) n t.kind) (next_outside tokens at)))
    (strict_picks g n l tokens at small)

-- ------------------------------------------------------------------ the tokens that are left

module _ (tokens : List Token) (s : State) where
  -- the next token
  abbrev pub here : Token
  here = get_or tokens s.at end_token

  -- It is the first of those left, if there is one,
  pub from_here : (here.kind ≡ no_kind → ⊥) → drop s.at tokens ≡ here ∷ drop (s.at + 1) tokens
  from_here h =
      by_test (ltb s.at (length tokens))
      (λ b. let l = ltb-true s.at (length tokens) b in rw (add-one s.at) (drop-cons tokens s.at end_token l))
      (λ b. absurd (h (ap (λ t. t.kind) (get_or-eq_default tokens end_token (ltb-false s.at (length tokens) b)))))

  -- and the first of those left is the next token.
  pub first_left : {t : Token} {ts : List Token} → drop s.at tokens ≡ t ∷ ts → (here ≡ t) × (drop (s.at + 1) tokens ≡ ts)
  first_left {t} {ts} e =
      by_test (ltb s.at (length tokens))
      (λ b.
      let l = ltb-true s.at (length tokens) b in
      let q : here ∷ drop (s.at + 1) tokens ≡ t ∷ ts = rw (add-one s.at) (sym (drop-cons tokens s.at end_token l)) ∙ e in
      (cc, cc))
      (λ b.
      let z : ◌≡◌ {A = List Token} [] (t ∷ ts) = sym (drop_of_length-le tokens {i = s.at} (ltb-false s.at (length tokens) b)) ∙ e in
      absurd (let y : ◌≡◌ {A = ℕ} 0 1 = cc in omega arith))

-- ------------------------------------------------------------------ what is taken of them

module _ (binders : Bool) (tokens : List Token) (input : Input) (tokens_are : input.tokens ≡ all_seen binders tokens) (s : State) where
  -- The next token, as the run reads it,
  pub next_is : next_token input s ≡ seen binders (here tokens s)
  next_is = ap (λ ts. get_or ts s.at end_token) tokens_are ∙ next_seen binders tokens s.at

  -- of its kind,
  pub kind_is : (next_token input s).kind ≡ (seen binders (here tokens s)).kind
  kind_is = ap (λ t. t.kind) next_is

  -- is the first of those left.
  pub next_token_lem : {t : Token} {ts : List Token} → drop s.at tokens ≡ t ∷ ts → next_token input s ≡ seen binders t
  next_token_lem e = next_is ∙ ap (seen binders) (first_left tokens s e).0

  -- What is taken is of the kind asked,
  pub take_ends : (P : ℕ → State → List ℕ → Type 0) (kind : ℕ) (value : ℕ → ℕ) (cells : List ℕ)
      → ((seen binders (here tokens s)).kind ≡ kind → P (value (seen binders (here tokens s)).value) (token_taken s) cells)
      → Ends P Any (take_token input kind value s cells)
  take_ends P kind value cells f = go (eqb (next_token input s).kind kind) refl
    where
      go : (test : Bool) → eqb (next_token input s).kind kind ≡ test
          → Ends P Any (elim test [ true ↦ done (value (next_token input s).value) (token_taken s) cells | false ↦ misfit (only kind) s cells ])
      go true e =
          subst (λ t. P (value t.value) (token_taken s) cells) (sym next_is) (f (sym kind_is ∙ eqb-true (next_token input s).kind kind e))
      go false e = tt

  -- and what is of it is taken.
  pub kind_taken : (cells : List ℕ) (kind : ℕ) (value : ℕ → ℕ) → (next_token input s).kind ≡ kind
      → take_token input kind value s cells ≡ done (value (next_token input s).value) (token_taken s) cells
  kind_taken cells kind value e = let q = eq-eqb (next_token input s).kind kind e in rw (q, take_token) refl
