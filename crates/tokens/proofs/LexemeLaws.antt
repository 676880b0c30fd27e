-- Laws of the lexeme at the front, of kinds and of spelling numbers, by the tests that the code makes.
use Rattle.std.specs.Prelude.{Some, None, Option}
use Prim.Native.Nat.{ℕ, ◌+◌, ◌<◌, ◌≤◌}
use mathlib.Core.Path.{◌≡◌, refl, sym, ap, ◌∙◌}
use mathlib.Core.Bool.{Bool, true, false}
use mathlib.Core.List.{List}
use native.Mathlib.Omega.{arith}
use lib.Dec.{leb}
use lib.ListN.{length, get_or, take}
use borrow.Author.Tests.{le-leb, lt-leb}
use Rattle.spellings.specs.Bytes.{is_letter, is_digit, is_word_byte, is_separator, is_symbol, longest_run, index_of, largest, value_of}
use Rattle.spellings.proofs.BytesLaws.{run_prefix, run_length}
use Rattle.spellings.specs.Numbers.{number_of}
use Rattle.grammar.specs.Table.{Lexicon}
use Rattle.grammar.specs.Found.{found_in}
use Rattle.kinds.specs.Kinds.{word_kind, keyword_kind}
use Rattle.tokens.specs.Variables.{is_variable}
use Rattle.tokens.specs.Scan.{Lexeme, Separator, Word, Number, Variable, Symbol, Fault}
use Rattle.tokens.specs.Scan.{word_lexeme, number_lexeme, lexeme_of, kind_of, number_or, spelling_of}

-- ------------------------------------------------------------------ words and numbers

-- a run of at most 31 bytes is a word
pub word_fits : (size : ℕ) → size ≤ 31 → word_lexeme size ≡ Word size
word_fits size h = rw (le-leb size 31 h, word_lexeme) refl

-- a longer one is a fault
pub word_long : (size : ℕ) → 31 < size → word_lexeme size ≡ Fault
word_long size h = rw (lt-leb size 31 h, word_lexeme) refl

-- the lexeme of n digits, by their number
abbrev pub number_by : ℕ → Option ℕ → Lexeme
number_by n (Some v) = Number n v
number_by n None = Fault

number_tests : (ds : List ℕ) (test : Bool) → leb (value_of ds) largest ≡ test → number_lexeme ds ≡ number_by (length ds) (number_of ds)
number_tests ds true e = rw (e, number_lexeme, number_by) refl
number_tests ds false e = rw (e, number_lexeme, number_by) refl

-- the digits as the code has them, a part of what is left
pub number_is_lem : (rest : List ℕ) {size : ℕ} (value : Option ℕ) → size ≡ length (longest_run is_digit rest) → value ≡ number_of (take size rest)
    → number_lexeme (longest_run is_digit rest) ≡ number_by size value
number_is_lem rest {size} value e f =
    let d : take size rest ≡ longest_run is_digit rest = cc (e, run_prefix is_digit rest) in
    number_tests (longest_run is_digit rest) _ refl ∙ rw (← e) refl
    ∙ ap (number_by size) (sym (f ∙ ap number_of d))

-- a run of digits ends inside what is left
pub digits_within : (rest : List ℕ) {size : ℕ} → size ≡ length (longest_run is_digit rest) → size ≤ length rest
digits_within rest e = omega (arith, run_length is_digit rest)

-- ------------------------------------------------------------------ the lexeme by its first byte

-- by the classes of the first byte, and whether it begins a variable
abbrev chosen : List ℕ → Bool → Bool → Bool → Bool → Bool → Lexeme
chosen rest separator letter digit variable symbol =
    elim separator [
      | true ↦ Separator
      | false ↦
          elim letter [
            | true ↦ word_lexeme (length (longest_run is_word_byte rest))
            | false ↦
                elim digit [
                  | true ↦ number_lexeme (longest_run is_digit rest)
                  | false ↦ elim variable [ true ↦ Variable | false ↦ elim symbol [ true ↦ Symbol | false ↦ Fault ] ]
                ]
          ]
    ]

-- the lexeme, by the four tests of the first byte and the test of a variable
pub lexeme_is : (count : ℕ) (rest : List ℕ) {byte : ℕ} (separator letter digit variable symbol : Bool) → byte ≡ get_or rest 0 0
    → is_separator byte ≡ separator → is_letter byte ≡ letter → is_digit byte ≡ digit → is_variable count rest ≡ variable → is_symbol byte ≡ symbol
    → lexeme_of count rest ≡ chosen rest separator letter digit variable symbol
unfolding lexeme_of
lexeme_is count rest {byte} separator letter digit variable symbol e s l d v y =
    cc

-- ------------------------------------------------------------------ kinds and spelling numbers by what a search finds

abbrev kind_by : Option ℕ → ℕ → ℕ
kind_by (Some k) other = keyword_kind k
kind_by None other = other

-- a spelling's kind, by what a search among the keywords finds
pub kind_found : (lex : Lexicon) (spelling : List ℕ) (other : ℕ) (found : Option ℕ) → found ≡ found_in spelling lex.keywords
    → kind_of lex spelling other ≡ kind_by found other
unfolding kind_of
kind_found lex spelling other (Some k) e = rw (← e, kind_of) refl
kind_found lex spelling other None e = rw (← e, kind_of) refl

-- only a word has the kind of a word
pub word_only : (lex : Lexicon) (spelling : List ℕ) (other : ℕ) → (other ≡ word_kind → ⊥) → kind_of lex spelling other ≡ word_kind → ⊥
word_only lex spelling other h e = by_found (found_in spelling lex.keywords) refl
  where
    by_found : (found : Option ℕ) → found ≡ found_in spelling lex.keywords → ⊥
    by_found (Some k) p = omega (arith, sym (kind_found lex spelling other (Some k) p) ∙ e)
    by_found None p = h (sym (kind_found lex spelling other None p) ∙ e)

abbrev number_is : Option ℕ → ℕ → ℕ
number_is (Some k) fresh = k
number_is None fresh = fresh

number_found : (lex : Lexicon) (spelling : List ℕ) (fresh : ℕ) (found : Option ℕ) → found ≡ found_in spelling lex.outsides
    → number_or lex spelling fresh ≡ number_is found fresh
unfolding number_or
number_found lex spelling fresh (Some k) e = rw (← e, number_or) refl
number_found lex spelling fresh None e = rw (← e, number_or) refl

spelling_number : (lex : Lexicon) (words : List (List ℕ)) (spelling : List ℕ)
    → number_or lex spelling (64 + index_of spelling words) ≡ spelling_of lex words spelling
unfolding spelling_of
spelling_number lex words spelling = refl

-- a word's spelling number, by what a search among the outside names finds
pub spelling_found : (lex : Lexicon) (words : List (List ℕ)) (spelling : List ℕ) (found : Option ℕ) → found ≡ found_in spelling lex.outsides
    → spelling_of lex words spelling ≡ number_is found (64 + index_of spelling words)
spelling_found lex words spelling found e = sym (spelling_number lex words spelling) ∙ number_found lex spelling (64 + index_of spelling words) found e
