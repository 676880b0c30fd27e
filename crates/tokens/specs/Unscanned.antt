-- Where a scan stops, by rules: refusals 14, 15 and 16 with their values. Document 01, "Formula" and "Causes, by number".
use Rattle.std.specs.Prelude.{ℕ, ◌≤◌, ◌<◌, ◌≡◌, true, false, List, [], length, get_or, drop}
use Rattle.answers.specs.declared.Refusal.{Refusal}
use Rattle.answers.specs.Refusals.{refusal}
use Rattle.spellings.specs.Bytes.{is_letter, is_digit, is_word_byte, is_separator, longest_run, longest_word, largest, value_of}
use Rattle.grammar.specs.Table.{Lexicon}
use Rattle.tokens.specs.declared.Token.{Token}
use Rattle.tokens.specs.Tokens.{most_tokens, longest_formula}
use Rattle.tokens.specs.Tiling.{Stands, Tiled}

-- what stands at the front is a bad byte, a long word or a large number
pub data Faulty (rest : List ℕ) : Type 0 where
  bad_byte : is_separator (get_or rest 0 0) ≡ false → (33 ≤ get_or rest 0 0 → get_or rest 0 0 ≤ 126 → ⊥) → Faulty rest
  long_word : is_letter (get_or rest 0 0) ≡ true → longest_word < length (longest_run is_word_byte rest) → Faulty rest
  large_number : is_digit (get_or rest 0 0) ≡ true → largest < value_of (longest_run is_digit rest) → Faulty rest

-- 14; else, after tokens and separators only, 15 where a fault stands and at most 4,096 tokens are before it, or 16 where a token
-- stands and 4,096 are before it.
pub data Unscans (lex : Lexicon) (formula : List ℕ) : Refusal → Type 0 where
  formula_too_long : longest_formula < length formula → Unscans lex formula (refusal 14 0 0 0)
  a_fault : {at : ℕ} {ts : List Token} {met : List (List ℕ)} → length formula ≤ longest_formula → Tiled lex formula 0 [] ts at met
      → length ts ≤ most_tokens
      → at < length formula
      → Faulty (drop at formula)
      → Unscans lex formula (refusal 15 at 0 0)
  too_many_tokens : {at : ℕ} {ts : List Token} {met met' : List (List ℕ)} {t : Token} → length formula ≤ longest_formula
      → Tiled lex formula 0 [] ts at met
      → length ts ≡ most_tokens
      → at < length formula
      → Stands lex at (drop at formula) met t met'
      → Unscans lex formula (refusal 16 0 0 0)
