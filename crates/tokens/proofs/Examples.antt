-- Scans that are worked out: tokens, spelling numbers, refusals.
use Rattle.std.specs.Prelude.{Ok, Err}
use mathlib.Core.Path.{◌≡◌, refl}
use mathlib.Core.Bool.{true, false}
use mathlib.Core.List.{[], ◌∷◌}
use lib.ListN.{replicate}
use Rattle.answers.specs.Refusals.{refusal}
use Rattle.spellings.specs.Bytes.{bytes, longest_run, same, index_of, value_from}
use Rattle.grammar.specs.Table.{Lexicon}
use Rattle.grammar.specs.Found.{found_in}
use Rattle.tokens.specs.Scan.{scan_ended, lexeme_of, kind_of, spelling_of, step_of, words_with, lex_from, scan}
use Rattle.tokens.specs.Tokens.{token}
use Rattle.tokens.specs.Variables.{is_dollar, is_variable, dollars_below}

-- the keywords of document 01's house table, with the outside name T
house : Lexicon
unfolding bytes
house =
    record {
      keywords =
          bytes "(" ∷ bytes ")" ∷ bytes "fun" ∷ bytes "{" ∷ bytes "}" ∷ bytes "=" ∷ bytes "." ∷ [];
      outsides = bytes "T" ∷ [];
      variables = [];
    }

-- keywords, and words numbered by first appearance
abstraction :
    scan house (bytes "fun(p)p(b)")
    ≡ record {
      answer = Ok (8, 2);
      tokens =
          token 4 0 3 0 ∷ token 2 3 1 0 ∷ token 0 4 1 64 ∷ token 3 5 1 0 ∷ token 0 6 1 64 ∷ token 2 7 1 0 ∷ token 0 8 1 65
          ∷ token 3 9 1 0 ∷ [];
      words = bytes "p" ∷ bytes "b" ∷ [];
    }
unfolding house bytes longest_run same index_of found_in is_dollar is_variable lexeme_of kind_of spelling_of step_of words_with lex_from scan
abstraction = refl

-- an outside name, a number, a symbol that is no keyword, separators
mixed :
    scan house (bytes " T.007*ab_1 T\n")
    ≡ record {
      answer = Ok (6, 1);
      tokens =
          token 0 1 1 0 ∷ token 8 2 1 0 ∷ token 1 3 3 7 ∷ token 64 6 1 0 ∷ token 0 7 4 64 ∷ token 0 12 1 0 ∷ [];
      words = bytes "ab_1" ∷ [];
    }
unfolding house bytes longest_run same index_of value_from found_in is_dollar is_variable lexeme_of kind_of spelling_of step_of words_with lex_from scan
mixed = refl

-- a word of 31 bytes passes, one of 32 is refused at its start
long_word : (scan house (32 ∷ replicate 31 97)).answer ≡ Ok (1, 1)
unfolding house bytes longest_run same index_of found_in is_dollar is_variable lexeme_of kind_of spelling_of step_of words_with lex_from scan
long_word = refl

too_long : scan house (32 ∷ replicate 32 97) ≡ scan_ended (Err (refusal 15 1 0 0)) []
unfolding house bytes longest_run same index_of found_in is_dollar is_variable lexeme_of kind_of spelling_of step_of words_with lex_from scan
too_long = refl

-- a number's value is bounded and not its digits; the tokens and words before the fault are kept
large : (scan house (bytes "a 00999999999")).answer ≡ Ok (2, 1)
unfolding house bytes longest_run same index_of value_from found_in is_dollar is_variable lexeme_of kind_of spelling_of step_of words_with lex_from scan
large = refl

too_large :
    scan house (bytes "a 1000000000")
    ≡ record { answer = Err (refusal 15 2 0 0); tokens = token 0 0 1 64 ∷ []; words = bytes "a" ∷ [] }
unfolding house bytes longest_run same index_of value_from found_in is_dollar is_variable lexeme_of kind_of spelling_of step_of words_with lex_from scan
too_large = refl

-- byte 127 is no symbol
bad_byte : (scan house (40 ∷ 127 ∷ [])).answer ≡ Err (refusal 15 1 0 0)
unfolding house bytes longest_run same index_of found_in is_dollar is_variable lexeme_of kind_of spelling_of step_of words_with lex_from scan
bad_byte = refl

-- a table with the keyword `$`, for a text with three variables, and for a formula
text : Lexicon
unfolding bytes
text = record { keywords = bytes "(" ∷ bytes "$" ∷ []; outsides = []; variables = 0 ∷ 3 ∷ 1 ∷ [] }

plain : Lexicon
unfolding bytes
plain = record { keywords = bytes "(" ∷ bytes "$" ∷ []; outsides = []; variables = [] }

-- `$` before digits is the variable; before anything else, and before a number that no variable has, it is the keyword
variables :
    scan text (bytes "$1$ $02 $3x")
    ≡ record {
      answer = Ok (6, 1);
      tokens =
          token 68 0 2 0x4000001 ∷ token 3 2 1 0 ∷ token 66 4 3 0x4000002 ∷ token 3 8 1 0 ∷ token 1 9 1 3 ∷ token 0 10 1 64 ∷ [];
      words = bytes "x" ∷ [];
    }
unfolding text bytes longest_run same index_of value_from found_in is_dollar is_variable lexeme_of kind_of spelling_of step_of words_with lex_from scan
variables = refl

-- in a formula it is always the keyword
without_variables : scan plain (bytes "$1") ≡ record { answer = Ok (2, 0); tokens = token 3 0 1 0 ∷ token 1 1 1 1 ∷ []; words = [] }
unfolding plain bytes longest_run same index_of value_from found_in is_dollar is_variable lexeme_of kind_of spelling_of step_of words_with lex_from scan
without_variables = refl

-- every `$` of a text counts, behind a bad byte too
all_named : dollars_below 3 (bytes "$1$ $02 x$0") ≡ true
unfolding bytes longest_run value_from is_dollar is_variable dollars_below
all_named = refl

one_unnamed : dollars_below 3 (127 ∷ bytes "$1 $3") ≡ false
unfolding bytes longest_run value_from is_dollar is_variable dollars_below
one_unnamed = refl
