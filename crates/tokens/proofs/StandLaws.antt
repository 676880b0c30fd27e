-- A step of the scan and the rules of specs/Tiling tell the same token and the same words.
use Rattle.std.specs.Prelude.{Some, None, Option}
use Prim.Native.Nat.{ℕ, zero, suc, ◌+◌, ◌<◌, ◌≤◌}
use mathlib.Core.Path.{◌≡◌, refl, sym, ap, ◌∙◌, subst}
use mathlib.Core.Bool.{true}
use mathlib.Core.List.{List, [], ◌∷◌, ◌++◌}
use native.Mathlib.Omega.{arith}
use lib.ListN.{length, get_or, take, length-take}
use borrow.Author.Tests.{eq-eqb, ne_eqb}
use Rattle.spellings.specs.Bytes.{is_digit, is_word_byte, is_separator, longest_run, value_of}
use Rattle.spellings.proofs.BytesLaws.{run_prefix, run_length}
use Rattle.grammar.specs.Table.{Lexicon}
use Rattle.grammar.specs.Found.{found_in}
use Rattle.kinds.specs.Kinds.{word_kind, number_kind, keyword_kind, no_kind}
use Rattle.tokens.specs.declared.Token.{Token}
use Rattle.tokens.specs.Variables.{dollar_digits, variable_token}
use Rattle.tokens.specs.Scan.{Lexeme, Separator, Word, Number, Variable, Symbol, Fault}
use Rattle.tokens.specs.Scan.{lexeme_of, kind_of, spelling_of, spelled_token, words_with, step_by, step_of}
use Rattle.tokens.specs.declared.Step.{Step}
use Rattle.tokens.specs.declared.Step.TheVariants.{Skip, Stop, Emit}
use Rattle.tokens.specs.Tokens.{token}
use Rattle.tokens.specs.Tiling.{WordFront, NumberFront, SymbolFront, FirstAt, NotIn}
use Rattle.tokens.specs.Tiling.{Stands, a_keyword, a_keyword_symbol, an_outside_name, a_word_again, a_new_word, a_number, a_symbol, a_variable}
use Rattle.tokens.specs.Unscanned.{Faulty}
use Rattle.tokens.proofs.FoundLaws.{first_index, none_index, first_found, none_found, found_by}
use Rattle.tokens.proofs.LexemeLaws.{kind_found, spelling_found}
use Rattle.tokens.proofs.WordLaws.{with_new, with_old}
use Rattle.tokens.proofs.VariableLaws as variables
use Rattle.tokens.proofs.FrontLaws.{lexeme_word, lexeme_number, lexeme_symbol, lexeme_variable}
use Rattle.tokens.proofs.StepLaws.{Fits, lexeme_fits, step_by_lem, token_word, token_other}

-- ------------------------------------------------------------------ the words after a token

module _ (met : List (List ℕ)) (spelling : List ℕ) (read_token : Token) where
  -- no word
  with_other : (read_token.kind ≡ word_kind → ⊥) → words_with met spelling read_token ≡ met
  with_other h = with_old met spelling read_token (rw (ne_eqb read_token.kind word_kind h) refl)

  module _ (is_is_word : read_token.kind ≡ word_kind) where
    -- a word whose number is not the next one
    with_known : (read_token.value ≡ 64 + length met → ⊥) → words_with met spelling read_token ≡ met
    with_known h = with_old met spelling read_token (rw (eq-eqb read_token.kind word_kind is_is_word, ne_eqb read_token.value (64 + length met) h) refl)

    with_next : read_token.value ≡ 64 + length met → words_with met spelling read_token ≡ met ++ (spelling ∷ [])
    with_next h = with_new met spelling read_token (rw (eq-eqb read_token.kind word_kind is_is_word, eq-eqb read_token.value (64 + length met) h) refl)

-- ------------------------------------------------------------------ the token of a spelling, by what is found

-- a token made of a spelling, and the words after it
record Makes (made : Token) (met : List (List ℕ)) (spelling : List ℕ) (read_token : Token) (met' : List (List ℕ)) : Type 0 where
  token_is : read_token ≡ made
  words_are : words_with met spelling read_token ≡ met'

module _ (lex : Lexicon) (few : length lex.outsides ≤ 64) (met : List (List ℕ)) (at : ℕ) (spelling : List ℕ) (other : ℕ) where
  made : Token
  made = spelled_token lex met at spelling (kind_of lex spelling other)

  makes_keyword : {number : ℕ} → FirstAt spelling lex.keywords number → Makes made met spelling (token (keyword_kind number) at (length spelling) 0) met
  unfolding made
  makes_keyword {number} f =
      let none : keyword_kind number ≡ 0 → ⊥ = λ e. omega (arith, e) in
      record {
        token_is = token_other lex met at spelling other (sym (kind_found lex spelling other (Some number) (first_found f))) none;
        words_are = with_other met spelling _ none;
      }

  makes_symbol : (other ≡ 0 → ⊥) → NotIn spelling lex.keywords → Makes made met spelling (token other at (length spelling) 0) met
  unfolding made
  makes_symbol none n =
      record {
        token_is = token_other lex met at spelling other (sym (kind_found lex spelling other None (none_found n))) none;
        words_are = with_other met spelling _ none;
      }

  module _ (word : other ≡ word_kind) (no_keyword : NotIn spelling lex.keywords) where
    kind_word : other ≡ kind_of lex spelling other
    kind_word = sym (kind_found lex spelling other None (none_found no_keyword))

    makes_outside : {number : ℕ} → FirstAt spelling lex.outsides number → Makes made met spelling (token other at (length spelling) number) met
    unfolding made
    makes_outside {number} f =
        record {
          token_is = token_word lex met at spelling other kind_word word (sym (spelling_found lex met spelling (Some number) (first_found f)));
          words_are = with_known met spelling _ word (λ e. omega (arith, e, f.there));
        }

    makes_again : {number : ℕ} → NotIn spelling lex.outsides → FirstAt spelling met number
        → Makes made met spelling (token other at (length spelling) (64 + number)) met
    unfolding made
    makes_again {number} o f =
        record {
          token_is =
              token_word lex met at spelling other kind_word word
              (cc (first_index f, spelling_found lex met spelling None (none_found o)));
          words_are = with_known met spelling _ word (λ e. omega (arith, e, f.there));
        }

    makes_new : NotIn spelling lex.outsides → NotIn spelling met
        → Makes made met spelling (token other at (length spelling) (64 + length met)) (met ++ (spelling ∷ []))
    unfolding made
    makes_new o f =
        record {
          token_is =
              token_word lex met at spelling other kind_word word
              (cc (none_index f, spelling_found lex met spelling None (none_found o)));
          words_are = with_next met spelling _ word refl;
        }

-- ------------------------------------------------------------------ the bytes of a token at the front

-- as many bytes as a word has, from the front, are the word
pub word_taken : {rest spelling : List ℕ} → WordFront rest spelling → take (length spelling) rest ≡ spelling
word_taken {rest} w = cc (w.whole, run_prefix is_word_byte rest)

-- ------------------------------------------------------------------ from a step to the rules

-- a token and the words after it, as a rule tells them
stands_made : {lex : Lexicon} {at : ℕ} {rest : List ℕ} {met met' : List (List ℕ)} {spelling : List ℕ} {read_token other : Token}
    → Stands lex at rest met read_token met' → Makes other met spelling read_token met'
    → Stands lex at rest met other (words_with met spelling other)
stands_made {met = met} {spelling = spelling} st m =
    let w : words_with met spelling _ ≡ _ = ap (words_with met spelling) (sym m.token_is) ∙ m.words_are in
    rw (w, ← m.token_is) st

module _ (lex : Lexicon) (few : length lex.outsides ≤ 64) (met : List (List ℕ)) (at : ℕ) (rest spelling : List ℕ) where
  word_stands : WordFront rest spelling
      → Stands lex at rest met (made lex few met at spelling word_kind) (words_with met spelling (made lex few met at spelling word_kind))
  word_stands w = by_keyword (found_in spelling lex.keywords) refl
    where
      by_met : NotIn spelling lex.keywords → NotIn spelling lex.outsides → (found : Option ℕ) → found ≡ found_in spelling met
          → Stands lex at rest met (made lex few met at spelling word_kind) (words_with met spelling (made lex few met at spelling word_kind))
      by_met n o (Some k) e =
          let f : FirstAt spelling met k = found_by spelling met (Some k) e in
          stands_made (a_word_again w n o f) (makes_again lex few met at spelling word_kind refl n o f)
      by_met n o None e =
          let f : NotIn spelling met = found_by spelling met None e in
          stands_made (a_new_word w n o f) (makes_new lex few met at spelling word_kind refl n o f)

      by_outside : NotIn spelling lex.keywords → (found : Option ℕ) → found ≡ found_in spelling lex.outsides
          → Stands lex at rest met (made lex few met at spelling word_kind) (words_with met spelling (made lex few met at spelling word_kind))
      by_outside n (Some k) e =
          let f : FirstAt spelling lex.outsides k = found_by spelling lex.outsides (Some k) e in
          stands_made (an_outside_name w n f) (makes_outside lex few met at spelling word_kind refl n f)
      by_outside n None e = by_met n (found_by spelling lex.outsides None e) (found_in spelling met) refl

      by_keyword : (found : Option ℕ) → found ≡ found_in spelling lex.keywords
          → Stands lex at rest met (made lex few met at spelling word_kind) (words_with met spelling (made lex few met at spelling word_kind))
      by_keyword (Some k) e =
          let f : FirstAt spelling lex.keywords k = found_by spelling lex.keywords (Some k) e in
          stands_made (a_keyword w f) (makes_keyword lex few met at spelling word_kind f)
      by_keyword None e = by_outside (found_by spelling lex.keywords None e) (found_in spelling lex.outsides) refl

  symbol_stands : SymbolFront (length lex.variables) rest spelling
      → Stands lex at rest met (made lex few met at spelling no_kind) (words_with met spelling (made lex few met at spelling no_kind))
  symbol_stands y = by_keyword (found_in spelling lex.keywords) refl
    where
      by_keyword : (found : Option ℕ) → found ≡ found_in spelling lex.keywords
          → Stands lex at rest met (made lex few met at spelling no_kind) (words_with met spelling (made lex few met at spelling no_kind))
      by_keyword (Some k) e =
          let f : FirstAt spelling lex.keywords k = found_by spelling lex.keywords (Some k) e in
          stands_made (a_keyword_symbol y f) (makes_keyword lex few met at spelling no_kind f)
      by_keyword None e =
          let f : NotIn spelling lex.keywords = found_by spelling lex.keywords None e in
          stands_made (a_symbol y f) (makes_symbol lex few met at spelling no_kind (λ z. omega (arith, z)) f)

-- what a step that emits a token tells of it
pub record Emits (lex : Lexicon) (words : List (List ℕ)) (at : ℕ) (rest : List ℕ) (read_token : Token) : Type 0 where
  -- it stands at the offset
  pub placed : read_token.at ≡ at
  -- it stands there by the rules, with the words met
  pub stands : Stands lex at rest words read_token (words_with words (take read_token.size rest) read_token)
  -- a word's value is its spelling number
  pub valued : read_token.kind ≡ word_kind → read_token.value ≡ spelling_of lex words (take read_token.size rest)

-- what a step tells of the bytes at the front
abbrev pub Told : Lexicon → List (List ℕ) → ℕ → List ℕ → Step → Type 0
Told lex words at rest Skip = is_separator (get_or rest 0 0) ≡ true
Told lex words at rest Stop = Faulty rest
Told lex words at rest (Emit t) = Emits lex words at rest t

told_spelled : (lex : Lexicon) (words : List (List ℕ)) (at : ℕ) (rest : List ℕ) (size kind : ℕ) → size ≤ length rest
    → (spelled_token lex words at (take size rest) kind).kind ≡ word_kind
    → (spelled_token lex words at (take size rest) kind).value ≡ spelling_of lex words (take (length (take size rest)) rest)
told_spelled lex words at rest size kind h e =
    let z : length (take size rest) ≡ size = omega (arith, length-take size rest) in
    cc (eq-eqb kind word_kind e)

take_again : (size : ℕ) (rest : List ℕ) → take (length (take size rest)) rest ≡ take size rest
take_again zero rest = refl
take_again (suc size) [] = refl
take_again (suc size) (b ∷ bs) = cc (take_again size bs)

-- the symbol at the front
pub one_byte : (rest : List ℕ) → 0 < length rest → take 1 rest ≡ get_or rest 0 0 ∷ []
one_byte [] h = absurd (omega arith)
one_byte (b ∷ bs) h = refl

module _ (lex : Lexicon) (few : length lex.outsides ≤ 64) (words : List (List ℕ)) (at : ℕ) (rest : List ℕ) where
  told_by : (lexeme : Lexeme) → 0 < length rest → Fits (length lex.variables) rest lexeme → Told lex words at rest (step_by lex words at rest lexeme)
  unfolding made
  told_by Separator h f = f
  told_by (Word n) h f =
      let k : n ≤ length rest = omega (arith, f.1, run_length is_word_byte rest) in
      let w : WordFront rest (take n rest)
      = record {
        begins = f.0;
        whole = cc (f.1, run_prefix is_word_byte rest);
        short = omega (arith, f.2, length-take n rest);
      } in
      record {
        placed = refl;
        stands = rw (take_again n rest) (word_stands lex few words at rest (take n rest) w);
        valued = told_spelled lex words at rest n (kind_of lex (take n rest) word_kind) k;
      }
  told_by (Number n v) h f =
      let s : NumberFront rest (longest_run is_digit rest) = record { begins = f.0; whole = refl; small = omega (arith, f.2, f.3) } in
      let none : number_kind ≡ word_kind → ⊥ = λ e. omega (arith, e) in
      record {
        placed = refl;
        stands =
            rw (with_other words (take n rest) (token number_kind at n v) none, f.1, f.2) (a_number s);
        valued = λ e. absurd (none e);
      }
  told_by Variable h f =
      let t : Token = variable_token lex.variables at (dollar_digits rest) in
      let none : t.kind ≡ word_kind → ⊥ = λ e. omega (arith, e) in
      record {
        placed = refl;
        stands = rw (with_other words (take t.size rest) t none) (a_variable (variables.variable_front f));
        valued = λ e. absurd (none e);
      }
  told_by Symbol h f =
      let y : SymbolFront (length lex.variables) rest (take 1 rest)
      = record { begins = f.1; unnamed = variables.none_stands f.0; whole = one_byte rest h } in
      record {
        placed = refl;
        stands = rw (take_again 1 rest) (symbol_stands lex few words at rest (take 1 rest) y);
        valued = told_spelled lex words at rest 1 (kind_of lex (take 1 rest) no_kind) h;
      }
  told_by Fault h f = f

  -- the definition's step tells it
  pub step_told : (step : Step) → 0 < length rest → step ≡ step_of lex words at rest → Told lex words at rest step
  step_told step h e =
      let count : ℕ = length lex.variables in
      subst (Told lex words at rest) (step_by_lem lex words at rest refl ∙ sym e)
      (told_by (lexeme_of count rest) h (lexeme_fits count rest (lexeme_of count rest) refl))

-- ------------------------------------------------------------------ from the rules to a step

-- the token that a step emits, and the words after it
pub record Steps (lex : Lexicon) (met : List (List ℕ)) (at : ℕ) (rest : List ℕ) (read_token : Token) (met' : List (List ℕ)) : Type 0 where
  -- the step is this token
  pub emits : Emit read_token ≡ step_of lex met at rest
  -- the words met after it
  pub words : words_with met (take read_token.size rest) read_token ≡ met'

module _ {lex : Lexicon} (few : length lex.outsides ≤ 64) {at : ℕ} {rest : List ℕ} {met : List (List ℕ)} where
  word_steps : {spelling : List ℕ} {read_token : Token} {met' : List (List ℕ)} → WordFront rest spelling → read_token.size ≡ length spelling
      → Makes (made lex few met at spelling word_kind) met spelling read_token met'
      → Steps lex met at rest read_token met'
  unfolding made
  word_steps {spelling} {read_token} w z m =
      let e : take (length (longest_run is_word_byte rest)) rest ≡ spelling = sym (run_prefix is_word_byte rest) ∙ sym w.whole in
      let l = lexeme_word _ rest w.begins (omega (arith, w.short, ap length w.whole)) in
      record {
        emits =
            ap Emit (cc m.token_is)
            ∙ step_by_lem lex met at rest l;
        words = cc (word_taken w, m.words_are);
      }

  symbol_steps : {spelling : List ℕ} {read_token : Token} {met' : List (List ℕ)} → 0 < length rest → SymbolFront (length lex.variables) rest spelling
      → read_token.size ≡ length spelling → Makes (made lex few met at spelling no_kind) met spelling read_token met'
      → Steps lex met at rest read_token met'
  unfolding made
  symbol_steps {spelling} {read_token} h y z m =
      let e : take 1 rest ≡ spelling = one_byte rest h ∙ sym y.whole in
      let n : read_token.size ≡ 1 = z ∙ ap length y.whole in
      record {
        emits =
            ap Emit (cc m.token_is)
            ∙ step_by_lem lex met at rest (lexeme_symbol _ rest (variables.none_found y.unnamed) y.begins);
        words = cc m.words_are;
      }

  -- a token that stands there by the rules is the one that the step emits
  pub stands_steps : {read_token : Token} {met' : List (List ℕ)} → 0 < length rest → Stands lex at rest met read_token met'
      → Steps lex met at rest read_token met'
  stands_steps h (a_keyword {s = s} w f) = word_steps w refl (makes_keyword lex few met at s word_kind f)
  stands_steps h (a_keyword_symbol {s = s} y f) = symbol_steps h y refl (makes_keyword lex few met at s no_kind f)
  stands_steps h (an_outside_name {s = s} w n f) = word_steps w refl (makes_outside lex few met at s word_kind refl n f)
  stands_steps h (a_word_again {s = s} w n o f) = word_steps w refl (makes_again lex few met at s word_kind refl n o f)
  stands_steps h (a_new_word {s = s} w n o f) = word_steps w refl (makes_new lex few met at s word_kind refl n o f)
  stands_steps h (a_number {s = s} d) =
      let l = lexeme_number _ rest d.begins (omega (arith, d.small, ap value_of d.whole)) in
      record {
        emits = rw (← d.whole) at (step_by_lem lex met at rest l);
        words = with_other met (take (length s) rest) _ (λ e. omega (arith, e));
      }
  stands_steps h (a_symbol {s = s} y n) = symbol_steps h y refl (makes_symbol lex few met at s no_kind (λ z. omega (arith, z)) n)
  stands_steps h (a_variable {s = s} f) =
      record {
        emits = rw (← f.front.whole) at (step_by_lem lex met at rest (lexeme_variable _ rest f));
        words = with_other met _ (variable_token lex.variables at s) (λ e. omega (arith, e));
      }
