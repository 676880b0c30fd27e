-- Scanning: from the bytes of a formula to its tokens, with refusals 14, 15 and 16. Document 01, "Formula"; 02, C-14, for `$` variables.
use Rattle.std.specs.Prelude.{ℕ, zero, suc, ◌+◌, Ok, Err, Some, None}
use mathlib.Core.{Bool.Bool, Bool.true, Bool.false, Bool.◌&&◌, List.List, List.[], List.◌∷◌, List.◌++◌}
use lib.{Dec.eqb, Dec.leb, Dec.ltb, ListN.length, ListN.get_or, ListN.take, ListN.drop}
use Rattle.tokens.specs.declared.Token.{Token}
use Rattle.tokens.specs.declared.Step.{Step, TheVariants.Skip, TheVariants.Stop, TheVariants.Emit}
use Rattle.tokens.specs.Scanned.{Scanned}
use Rattle.spellings.specs.Bytes.{is_letter, is_digit, is_word_byte, is_separator, is_symbol, longest_run, longest_word, index_of, value_of, is_number}
use Rattle.kinds.specs.Kinds.{word_kind, number_kind, keyword_kind, no_kind}
use Rattle.answers.specs.Refusals.{refusal}
use Rattle.grammar.specs.Limits.{most}
use Rattle.grammar.specs.Table.{Lexicon}
use Rattle.grammar.specs.Found.{found_in}
use Rattle.tokens.specs.Tokens.{token, most_tokens, longest_formula}
use Rattle.tokens.specs.Variables.{is_variable, dollar_digits, variable_token}

-- ------------------------------------------------------------------ the lexeme at the front

-- what stands at the front of a run of bytes: a separator, a word or a number (with its length), a variable, one symbol byte, or a fault
pub data Lexeme : Type 0 where
  Separator : Lexeme
  Word : ℕ → Lexeme
  Number : ℕ → ℕ → Lexeme
  Variable : Lexeme
  Symbol : Lexeme
  Fault : Lexeme

-- a word of n bytes, if it is not too long
abbrev pub word_lexeme : ℕ → Lexeme
word_lexeme n = elim (leb n longest_word) [ true ↦ Word n | false ↦ Fault ]

-- the number that a run of digits spells, if it is not too large
abbrev pub number_lexeme : List ℕ → Lexeme
number_lexeme ds = elim (is_number ds) [ true ↦ Number (length ds) (value_of ds) | false ↦ Fault ]

-- a byte that is no separator, letter or digit: it may begin one of `count` variables, also where `$` is a keyword
abbrev pub mark_lexeme : ℕ → List ℕ → Lexeme
mark_lexeme count rest = elim (is_variable count rest) [ true ↦ Variable | false ↦ elim (is_symbol (get_or rest 0 0)) [ true ↦ Symbol | false ↦ Fault ] ]

-- the longest lexeme at the front of what is left of the formula, where there are `count` variables
unfoldable pub lexeme_of : ℕ → List ℕ → Lexeme
lexeme_of count rest =
    elim (is_separator (get_or rest 0 0)) [
      | true ↦ Separator
      | false ↦
          elim (is_letter (get_or rest 0 0)) [
            | true ↦ word_lexeme (length (longest_run is_word_byte rest))
            | false ↦ elim (is_digit (get_or rest 0 0)) [ true ↦ number_lexeme (longest_run is_digit rest) | false ↦ mark_lexeme count rest ]
          ]
    ]

-- ------------------------------------------------------------------ keywords and spelling numbers

-- the kind of a token spelled s that is not a number: a keyword's, if it is one, else the given one
unfoldable pub kind_of : Lexicon → List ℕ → ℕ → ℕ
kind_of lex s other = elim (found_in s lex.keywords) [ Some k ↦ keyword_kind k | None ↦ other ]

-- the spelling number of an outside name, in table order from 0, and of any other word the one given
unfoldable pub number_or : Lexicon → List ℕ → ℕ → ℕ
number_or lex s fresh = elim (found_in s lex.outsides) [ Some k ↦ k | None ↦ fresh ]

-- the spelling number of a word: an outside name's, or from 64 upward by first appearance among `words`
unfoldable pub spelling_of : Lexicon → List (List ℕ) → List ℕ → ℕ
unfolding number_or
spelling_of lex words s = number_or lex s (most.outsides + index_of s words)

-- ------------------------------------------------------------------ tokens

-- the token at the offset `at` that is spelled s and is not a number: a word has its spelling number, any other the value 0
abbrev pub spelled_token : Lexicon → List (List ℕ) → ℕ → List ℕ → ℕ → Token
spelled_token lex words at s kind =
    token kind at (length s) (elim (eqb kind word_kind) [ true ↦ spelling_of lex words s | false ↦ 0 ])

-- what is done at the lexeme that stands at the front of what is left of the formula, at the offset `at`
abbrev pub step_by : Lexicon → List (List ℕ) → ℕ → List ℕ → Lexeme → Step
step_by lex words at rest Separator = Skip
step_by lex words at rest (Word n) = Emit (spelled_token lex words at (take n rest) (kind_of lex (take n rest) word_kind))
step_by lex words at rest (Number n v) = Emit (token number_kind at n v)
step_by lex words at rest Variable = Emit (variable_token lex.variables at (dollar_digits rest))
step_by lex words at rest Symbol = Emit (spelled_token lex words at (take 1 rest) (kind_of lex (take 1 rest) no_kind))
step_by lex words at rest Fault = Stop

unfoldable pub step_of : Lexicon → List (List ℕ) → ℕ → List ℕ → Step
step_of lex words at rest = step_by lex words at rest (lexeme_of (length lex.variables) rest)

-- a token is a word not met before: its spelling number is the next one after those of `count` words
abbrev pub is_new : ℕ → Token → Bool
is_new count t = eqb t.kind word_kind && eqb t.value (most.outsides + count)

-- the words numbered from 64, after a token spelled s
unfoldable pub words_with : List (List ℕ) → List ℕ → Token → List (List ℕ)
words_with words s t = elim (is_new (length words) t) [ true ↦ words ++ (s ∷ []) | false ↦ words ]

-- the tokens found, with the answer and all words numbered from 64
pub record Lexed : Type 0 where
  pub answer : Scanned
  pub tokens : List Token
  pub words : List (List ℕ)

abbrev pub scan_ended : Scanned → List (List ℕ) → Lexed
scan_ended r words = record { answer = r; tokens = []; words = words }

abbrev pub with_token : Token → Lexed → Lexed
with_token t l = record { answer = l.answer; tokens = t ∷ l.tokens; words = l.words }

-- What is left of the formula at the offset `at`, after n tokens and the words met with them; k bounds the bytes left.
-- Refusal 15 comes before 16 at each token.
unfoldable pub lex_from : ℕ → Lexicon → ℕ → List ℕ → ℕ → List (List ℕ) → Lexed
lex_from zero lex at rest n words = scan_ended (Ok (n, length words)) words
lex_from (suc k) lex at [] n words = scan_ended (Ok (n, length words)) words
lex_from (suc k) lex at (b ∷ bs) n words =
    elim (step_of lex words at (b ∷ bs)) [
      | Skip ↦ lex_from k lex (at + 1) bs n words
      | Stop ↦ scan_ended (Err (refusal 15 at 0 0)) words
      | Emit t ↦
          elim (ltb n most_tokens) [
            | false ↦ scan_ended (Err (refusal 16 0 0 0)) words
            | true ↦
                with_token t
                (lex_from k lex (at + t.size) (drop t.size (b ∷ bs)) (n + 1) (words_with words (take t.size (b ∷ bs)) t))
          ]
    ]

-- the whole scan
unfoldable pub scan : Lexicon → List ℕ → Lexed
scan lex formula =
    elim (leb (length formula) longest_formula)
    [ true ↦ lex_from (length formula) lex 0 formula 0 [] | false ↦ scan_ended (Err (refusal 14 0 0 0)) [] ]
