-- The tokens of a text that passes the scan, with no number and no word but outside names, are as a setting has them.
use Prim.Native.Nat.{ℕ, zero, suc, ◌≤◌, ◌<◌}
use mathlib.Core.Path.{◌≡◌, refl, sym, ap, subst, ◌∙◌}
use mathlib.Core.Bool.{Bool, true, false, true≢false, ◌||◌}
use mathlib.Core.List.{List, [], ◌∷◌}
use native.Mathlib.Omega.{arith}
use lib.Dec.{eqb}
use lib.ListN.{length, get_or, length-append}
use borrow.Author.Tests.{eq-eqb}
use Rattle.spellings.specs.Bytes.{value_of}
use Rattle.kinds.specs.Kinds.{word_kind, number_kind, no_kind}
use Rattle.kinds.specs.TextKinds.{variable_kind, outside_kind}
use Rattle.grammar.specs.Limits.{most}
use Rattle.grammar.specs.Sorts.{Signature}
use Rattle.grammar.specs.Table.{Lexicon}
use Rattle.tokens.specs.declared.Token.{Token}
use Rattle.tokens.specs.Tokens.{end_token}
use Rattle.tokens.specs.Variables.{variable_name}
use Rattle.tokens.specs.Tiling.{Stands, a_keyword, a_keyword_symbol, an_outside_name, a_word_again, a_new_word, a_number, a_symbol, a_variable}
use Rattle.tokens.specs.Tiling.{Tiled, here, past_separator, past_token}
use Rattle.productions.specs.Normal.{Production}
use Rattle.judgements.specs.Scopes.{Scope}
use Rattle.judgements.specs.Judgements.{Has, has_first, has_later, Newest}
use Rattle.texts.specs.Reading.{has_number}
use Rattle.texts.proofs.TextSorts.{Named, AllNamed, named_none, named_more, AllSorted}
use Rattle.texts.proofs.TextSetting.{TextSetting}

-- ------------------------------------------------------------------ one token

-- What is known of a text's token, where N outside names are defined and variables have the sorts L
pub record TextToken (N : ℕ) (L : List ℕ) (t : Token) : Type 0 where
  -- its kind is no outside name's
  pub small : t.kind < outside_kind
  -- a word is an outside name
  pub outside : t.kind ≡ word_kind → t.value < N
  -- the number of a variable
  pub name : ℕ
  -- what is behind kind 64 has its name
  pub named : no_kind < t.kind → t.value ≡ variable_name name
  -- which is that of a variable
  pub below : no_kind < t.kind → name < length L
  -- of the sort that its kind says
  pub kind_is : no_kind < t.kind → t.kind ≡ variable_kind (get_or L name 0)

-- a token of a kind up to 64 that is no word
other_token : {N : ℕ} {L : List ℕ} {t : Token} → t.kind ≤ no_kind → (t.kind ≡ word_kind → ⊥) → TextToken N L t
other_token l h =
    record {
      small = omega arith;
      outside = λ w. absurd (h w);
      name = 0;
      named = λ b. absurd (omega arith);
      below = λ b. absurd (omega arith);
      kind_is = λ b. absurd (omega arith);
    }

module _ (lex : Lexicon) (few_keywords : length lex.keywords ≤ most.keywords)
    (sorts : (n : ℕ) → n < length lex.variables → get_or lex.variables n 0 ≤ 6) where
  -- a token behind which no word but outside names is met
  stands_token : {at : ℕ} {rest : List ℕ} {met met' : List (List ℕ)} {t : Token} → Stands lex at rest met t met' → length met' ≡ 0
      → TextToken (length lex.outsides) lex.variables t
  stands_token (a_keyword w f) e = other_token (omega (arith, f.there)) (λ z. omega arith)
  stands_token (a_keyword_symbol y f) e = other_token (omega (arith, f.there)) (λ z. omega arith)
  stands_token (an_outside_name w n f) e =
      record {
        small = omega arith;
        outside = λ z. f.there;
        name = 0;
        named = λ b. absurd (omega arith);
        below = λ b. absurd (omega arith);
        kind_is = λ b. absurd (omega arith);
      }
  stands_token (a_word_again w n o f) e = absurd (omega (arith, f.there))
  stands_token {met = met} (a_new_word {s = s} w n o f) e = absurd (omega (arith, length-append met (s ∷ []), e))
  stands_token (a_number d) e = other_token (omega arith) (λ z. omega arith)
  stands_token (a_symbol y n) e = other_token (omega arith) (λ z. omega arith)
  stands_token (a_variable {s = s} f) e =
      record {
        small = omega (arith, sorts (value_of s) f.below);
        outside = λ z. absurd (omega arith);
        name = value_of s;
        named = λ b. refl;
        below = λ b. f.below;
        kind_is = λ b. refl;
      }

  -- words met stay met
  stands_more : {at : ℕ} {rest : List ℕ} {met met' : List (List ℕ)} {t : Token} → Stands lex at rest met t met' → length met ≤ length met'
  stands_more (a_keyword w f) = omega arith
  stands_more (a_keyword_symbol y f) = omega arith
  stands_more (an_outside_name w n f) = omega arith
  stands_more (a_word_again w n o f) = omega arith
  stands_more {met = met} (a_new_word {s = s} w n o f) = omega (arith, length-append met (s ∷ []))
  stands_more (a_number d) = omega arith
  stands_more (a_symbol y n) = omega arith
  stands_more (a_variable f) = omega arith

  tiled_more : {formula : List ℕ} {at to : ℕ} {met met' : List (List ℕ)} {ts : List Token} → Tiled lex formula at met ts to met' → length met ≤ length met'
  tiled_more here = omega arith
  tiled_more (past_separator l e d) = tiled_more d
  tiled_more (past_token l h d) = omega (arith, stands_more h, tiled_more d)

  -- ------------------------------------------------------------------ all tokens

  -- Each token is known, and the one past the last.
  pub tokens_known : {formula : List ℕ} {at to : ℕ} {met met' : List (List ℕ)} {ts : List Token} → Tiled lex formula at met ts to met' → length met' ≡ 0
      → (place : ℕ) → TextToken (length lex.outsides) lex.variables (get_or ts place end_token)
  tokens_known here e zero = other_token (omega arith) (λ z. omega arith)
  tokens_known here e (suc place) = other_token (omega arith) (λ z. omega arith)
  tokens_known (past_separator l q d) e place = tokens_known d e place
  tokens_known (past_token l h d) e zero = stands_token h (omega (arith, tiled_more d, e))
  tokens_known (past_token l h d) e (suc place) = tokens_known d e place

  has_at : (L : List ℕ) (index : ℕ) → index < length L → Has L index (get_or L index 0)
  has_at [] index h = absurd (omega arith)
  has_at (B ∷ L) zero h = has_first
  has_at (B ∷ L) (suc index) h = has_later (has_at L index (omega arith))

  token_named : {N : ℕ} {L : List ℕ} (t : Token) → TextToken N L t → Named N L t
  token_named {N} {L} t k =
      record {
        variable_named = λ A n e f.
            let b : no_kind < t.kind = omega arith in
            let q : k.name ≡ n = omega (arith, k.named b, f) in
            let z : get_or L k.name 0 ≡ A = omega (arith, k.kind_is b, e) in
            rw (q) at (subst (Has L k.name) z (has_at L k.name (k.below b)));
        outside_named = λ e l. k.outside e;
      }

  -- The tokens have the names and sorts that the text's variables and outside names have.
  pub tiled_named : {formula : List ℕ} {at to : ℕ} {met met' : List (List ℕ)} {ts : List Token} → Tiled lex formula at met ts to met' → length met' ≡ 0
      → AllNamed (length lex.outsides) lex.variables ts
  tiled_named here e = named_none
  tiled_named (past_separator l q d) e = tiled_named d e
  tiled_named (past_token {t = t} l h d) e = named_more (token_named t (stands_token h (omega (arith, tiled_more d, e)))) (tiled_named d e)

  -- No token is a number.
  pub no_number : (ts : List Token) → has_number ts ≡ false → (place : ℕ) → (get_or ts place end_token).kind ≡ number_kind → ⊥
  unfolding has_number
  no_number [] e zero h = omega arith
  no_number [] e (suc place) h = omega arith
  no_number (t ∷ ts) e zero h = true≢false (sym (ap (λ b. b || has_number ts) (eq-eqb t.kind number_kind h)) ∙ e)
  no_number (t ∷ ts) e (suc place) h = no_number ts (behind (eqb t.kind number_kind) e) place h
    where
      behind : (b : Bool) → (b || has_number ts) ≡ false → has_number ts ≡ false
      behind true q = absurd (true≢false q)
      behind false q = q

  -- What a scan gives is a setting, where the productions are sorted.
  abbrev pub text_setting : {G : Scope} {g : List Production} → AllSorted G g → G.keywords ≤ most.keywords
      → ((n : ℕ) (S : Signature) → Newest G.env n S → n < most.nonterminals) → (rows : ℕ) → length lex.outsides ≤ most.outsides
      → {formula : List ℕ} {ts : List Token} {words : List (List ℕ)} → Tiled lex formula 0 [] ts (length formula) words → length words ≡ 0
      → has_number ts ≡ false → TextSetting G g
  text_setting all few declared rows outsides {ts = ts} d e h =
      record {
        all = all;
        few_keywords = few;
        declared = declared;
        tokens = ts;
        rows = rows;
        no_number = no_number ts h;
        known = λ place w. omega (arith, (tokens_known d e place).outside w);
        name = λ place. (tokens_known d e place).name;
        named = λ place b. (tokens_known d e place).named b;
        small = λ place. (tokens_known d e place).small;
      }
