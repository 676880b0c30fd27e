-- Document 01's number and values of a scan's answer, and what a scan promises. Document 01, "Formula" and "Causes, by number".
use Rattle.std.specs.Prelude.{ℕ, ◌≤◌, ◌≡◌, List, [], length, Ok, Err}
use Rattle.answers.specs.declared.Refusal.{Refusal}
use Rattle.answers.specs.Refusals.{refusal}
use Rattle.grammar.specs.Table.{Lexicon}
use Rattle.tokens.specs.declared.Token.{Token}
use Rattle.tokens.specs.Scanned.{Scanned}
use Rattle.tokens.specs.Tokens.{most_tokens, longest_formula}
use Rattle.tokens.specs.Tiling.{Tiled}
use Rattle.tokens.specs.Unscanned.{Unscans}
use Rattle.scanner.specs.Rooms.{filled, scan_into}

-- the number and values of each answer: those of its refusal, else 0 and none
abbrev pub numbered_scan : Scanned → Refusal
numbered_scan (Ok (n, count)) = refusal 0 0 0 0
numbered_scan (Err r) = r

-- The number and values that the rules give a formula: 0 where it has at most 65,535 bytes and is separators and at most 4,096 tokens, else 14, 15 or 16.
pub data Numbers (lex : Lexicon) (formula : List ℕ) : Refusal → Type 0 where
  no_refusal : {ts : List Token} {words : List (List ℕ)} → length formula ≤ longest_formula
      → Tiled lex formula 0 [] ts (length formula) words
      → length ts ≤ most_tokens
      → Numbers lex formula (refusal 0 0 0 0)
  a_refusal : {r : Refusal} → Unscans lex formula r → Numbers lex formula r

-- The answer and both rooms are those of the definition, and the answer's number and values are those of the rules.
pub record Scans (lex : Lexicon) (formula tokens words : List ℕ) (r : Scanned) (tokens' words' : List ℕ) : Type 0 where
  pub fills : filled r tokens' words' ≡ scan_into lex formula tokens words
  pub numbered_is : Numbers lex formula (numbered_scan r)
