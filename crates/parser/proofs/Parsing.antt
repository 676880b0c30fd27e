-- What a parse with lent rooms gives, case by case.
use Rattle.std.specs.Prelude.{Ok, Err}
use Prim.Native.Nat.{ℕ}
use mathlib.Core.Path.{◌≡◌}
use mathlib.Core.List.{List}
use Rattle.answers.specs.declared.Refusal.{Refusal}
use Rattle.tokens.specs.Scan.{scan}
use Rattle.scanner.specs.Rooms.{Filled, filled, scan_into}
use Rattle.checker.specs.Syntax.{Syntax}
use Rattle.expansion.specs.Outcome.{Outcome}
use Rattle.expansion.specs.Outcomes.{ran}
use Rattle.expansion.specs.Expansion.{input_of, run}
use Rattle.parser.specs.declared.Parsed.{Parsed}
use Rattle.parser.specs.Parse.{parsed_into, halted_parse, parse_filled, parse_into}

module _ (syntax : Syntax) (formula tokens words cells : List ℕ) where
  into_filled : {given_filled : Filled} → given_filled ≡ scan_into syntax.lexicon formula tokens words
      → parse_into syntax formula tokens words cells ≡ parse_filled syntax (scan syntax.lexicon formula) given_filled cells
  unfolding parse_into
  into_filled e = rw (← e)

  -- A formula that the scan refuses.
  pub into_unscanned : {tokens' words' : List ℕ} {refusal : Refusal} {parsed : Parsed}
      → filled (Err refusal) tokens' words' ≡ scan_into syntax.lexicon formula tokens words
      → parsed ≡ halted_parse refusal → parsed_into parsed tokens' words' cells ≡ parse_into syntax formula tokens words cells
  into_unscanned e eq = rw (eq, into_filled e)

  -- A formula whose tokens are run.
  pub into_run : {tokens' words' : List ℕ} {many word_count : ℕ} (outcome : Outcome) {cells' : List ℕ}
      → filled (Ok (many, word_count)) tokens' words' ≡ scan_into syntax.lexicon formula tokens words
      → ran outcome cells' ≡ run (input_of syntax.productions (scan syntax.lexicon formula).tokens cells) syntax.root cells
      → parsed_into (record { outcome = outcome; words = word_count }) tokens' words' cells' ≡ parse_into syntax formula tokens words cells
  into_run (Ok (v, s)) e er = rw (into_filled e, ← er)
  into_run (Err r) e er = rw (into_filled e, ← er)
