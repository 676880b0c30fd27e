-- How tokens lie in a formula and what they are, by rules. Document 01, "Formula"; 02, C-14, for `$` variables.
use Rattle.std.specs.Prelude.{ℕ, ◌+◌, ◌<◌, ◌≤◌, length, get_or, drop, take}
use mathlib.Core.{Path.◌≡◌, Bool.true, List.List, List.[], List.◌∷◌, List.◌++◌}
use Rattle.spellings.specs.Bytes.{is_letter, is_digit, is_word_byte, is_separator, is_symbol, longest_run, longest_word, largest, value_of}
use Rattle.kinds.specs.Kinds.{word_kind, number_kind, keyword_kind, no_kind}
use Rattle.grammar.specs.Limits.{most}
use Rattle.grammar.specs.Table.{Lexicon}
use Rattle.tokens.specs.declared.Token.{Token}
use Rattle.tokens.specs.Tokens.{token}
use Rattle.tokens.specs.Variables.{VariableFront, variable_token}

-- a word: a letter, then letters, digits or underscores, the longest run, 31 bytes at most
pub record WordFront (rest s : List ℕ) : Type 0 where
  pub begins : is_letter (get_or rest 0 0) ≡ true
  pub whole : s ≡ longest_run is_word_byte rest
  pub short : length s ≤ longest_word

-- a number: the longest run of digits, not above the largest number
pub record NumberFront (rest s : List ℕ) : Type 0 where
  pub begins : is_digit (get_or rest 0 0) ≡ true
  pub whole : s ≡ longest_run is_digit rest
  pub small : value_of s ≤ largest

-- a symbol: one byte, which begins none of `count` variables
pub record SymbolFront (count : ℕ) (rest s : List ℕ) : Type 0 where
  pub begins : is_symbol (get_or rest 0 0) ≡ true
  pub unnamed : (digits : List ℕ) → VariableFront count rest digits → ⊥
  pub whole : s ≡ get_or rest 0 0 ∷ []

-- spelling k of a list is s, and none before it is
pub record FirstAt (s : List ℕ) (spellings : List (List ℕ)) (k : ℕ) : Type 0 where
  pub there : k < length spellings
  pub equal : get_or spellings k [] ≡ s
  pub none_before : (j : ℕ) → j < k → get_or spellings j [] ≡ s → ⊥

-- no spelling of a list is s
pub record NotIn (s : List ℕ) (spellings : List (List ℕ)) : Type 0 where
  pub none : (j : ℕ) → j < length spellings → get_or spellings j [] ≡ s → ⊥

-- The token at the offset `at`, at the front of what is left, with the words met before it and after it. A token spelled as a
-- keyword is that keyword. Outside names are numbered from 0 in table order, other words from 64 by first appearance.
pub data Stands (lex : Lexicon) (at : ℕ) (rest : List ℕ) (met : List (List ℕ)) : Token → List (List ℕ) → Type 0 where
  a_keyword : {s : List ℕ} {k : ℕ} → WordFront rest s → FirstAt s lex.keywords k → Stands lex at rest met (token (keyword_kind k) at (length s) 0) met
  a_keyword_symbol : {s : List ℕ} {k : ℕ} → SymbolFront (length lex.variables) rest s → FirstAt s lex.keywords k
      → Stands lex at rest met (token (keyword_kind k) at (length s) 0) met
  an_outside_name : {s : List ℕ} {k : ℕ} → WordFront rest s → NotIn s lex.keywords → FirstAt s lex.outsides k
      → Stands lex at rest met (token word_kind at (length s) k) met
  a_word_again : {s : List ℕ} {k : ℕ} → WordFront rest s → NotIn s lex.keywords → NotIn s lex.outsides → FirstAt s met k
      → Stands lex at rest met (token word_kind at (length s) (most.outsides + k)) met
  a_new_word : {s : List ℕ} → WordFront rest s → NotIn s lex.keywords → NotIn s lex.outsides → NotIn s met
      → Stands lex at rest met (token word_kind at (length s) (most.outsides + length met)) (met ++ (s ∷ []))
  a_number : {s : List ℕ} → NumberFront rest s → Stands lex at rest met (token number_kind at (length s) (value_of s)) met
  a_symbol : {s : List ℕ} → SymbolFront (length lex.variables) rest s → NotIn s lex.keywords
      → Stands lex at rest met (token no_kind at (length s) 0) met
  a_variable : {s : List ℕ} → VariableFront (length lex.variables) rest s → Stands lex at rest met (variable_token lex.variables at s) met

-- From an offset to another a formula is these tokens, in their order, with separators before, between and after them and nothing
-- else; the words met before them and after them.
pub data Tiled (lex : Lexicon) (formula : List ℕ) : ℕ → List (List ℕ) → List Token → ℕ → List (List ℕ) → Type 0 where
  here : {at : ℕ} {met : List (List ℕ)} → Tiled lex formula at met [] at met
  past_separator : {at to : ℕ} {met met' : List (List ℕ)} {ts : List Token} → at < length formula
      → is_separator (get_or formula at 0) ≡ true
      → Tiled lex formula (at + 1) met ts to met'
      → Tiled lex formula at met ts to met'
  past_token : {at to : ℕ} {met met₁ met₂ : List (List ℕ)} {t : Token} {ts : List Token} → at < length formula
      → Stands lex at (drop at formula) met t met₁
      → Tiled lex formula (at + t.size) met₁ ts to met₂
      → Tiled lex formula at met (t ∷ ts) to met₂

-- the bytes of a token
abbrev pub bytes_of : List ℕ → Token → List ℕ
bytes_of formula t = take t.size (drop t.at formula)
