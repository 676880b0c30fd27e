-- What a scan gives, for every lexicon with at most 64 outside names, as every table's is, and every formula. Each statement has one
-- sentence above it; the proofs cite the laws.
use Rattle.std.specs.Prelude.{Ok, Err}
use Prim.Native.Nat.{ℕ, ◌≤◌}
use mathlib.Core.Path.{◌≡◌, refl, sym, ap, ◌∙◌}
use mathlib.Core.Logic.{◌↔◌}
use mathlib.Core.Bool.{true, false}
use mathlib.Core.List.{List, []}
use native.Mathlib.Omega.{arith}
use lib.Dec.{leb, ltb}
use lib.ListN.{length, get_or, get_or-eq_default}
use borrow.Author.Tests.{leb-true, leb-false, ltb-true, ltb-false}
use Rattle.spellings.specs.Bytes.{is_letter, is_digit, is_word_byte, is_separator, is_symbol, longest_run, is_word}
use Rattle.spellings.proofs.BytesLaws.{by_test}
use Rattle.kinds.specs.Kinds.{word_kind, no_kind}
use Rattle.answers.specs.declared.Refusal.{Refusal}
use Rattle.answers.specs.Refusals.{refusal}
use Rattle.grammar.specs.Table.{Lexicon}
use Rattle.grammar.specs.Limits.{most}
use Rattle.tokens.specs.declared.Token.{Token}
use Rattle.tokens.specs.Scan.{Separator, Symbol, Fault, word_lexeme, number_lexeme, lexeme_of, spelling_of, scan}
use Rattle.tokens.specs.Tokens.{end_token, most_tokens, longest_formula, spelled}
use Rattle.tokens.specs.Tiling.{bytes_of, Tiled}
use Rattle.tokens.specs.Unscanned.{Unscans}
use Rattle.tokens.proofs.LexemeLaws.{lexeme_is}
use Rattle.tokens.proofs.VariableLaws.{no_variables}
use Rattle.tokens.proofs.LexLaws.{scan_long}
use Rattle.tokens.proofs.TilingLaws.{scan_tiled, scan_counted}
use Rattle.tokens.proofs.FollowLaws.{tiled_scanned, answer_unscans, unscans_answer}
use Rattle.tokens.proofs.FormulaKinds.{scan_kinds}
use Rattle.tokens.proofs.SpellingLaws.{Spelled, every_at, scan_spelled, spelled_number}

-- token i; past the last there is one of no kind
abbrev pub token_at : List Token → ℕ → Token
token_at ts i = get_or ts i end_token

module _ (lex : Lexicon) (few : length lex.outsides ≤ 64) (formula : List ℕ) where
  -- a scan that is not refused is of a formula that is not too long
  not_long : {many count : ℕ} → (scan lex formula).answer ≡ Ok (many, count) → length formula ≤ longest_formula
  not_long {many} {count} e =
      by_test (leb (length formula) longest_formula) (λ h. leb-true (length formula) longest_formula h)
      (λ h.
      let l : (scan lex formula).answer ≡ Err (refusal 14 0 0 0)
      = cc (scan_long lex formula (leb-false (length formula) longest_formula h)) in
      let z : ◌≡◌ {A = ℕ} 0 1 = cc in
      absurd (omega arith))

  -- A scan gives these tokens and words exactly if the formula has at most 65,535 bytes and is, by the rules, these tokens, at most
  -- 4,096 of them, with separators between them, and these words.
  pub accepted_exactly : (ts : List Token) (words : List (List ℕ))
      → (scan lex formula ≡ record { answer = Ok (length ts, length words); tokens = ts; words = words })
      ↔ ((length formula ≤ longest_formula) × Tiled lex formula 0 [] ts (length formula) words × (length ts ≤ most_tokens))
  accepted_exactly ts words = (
    λ e.
        let a : (scan lex formula).answer ≡ Ok (length ts, length words) = cc in
        let d : Tiled lex formula 0 [] ts (length formula) words
        = rw (e) at (scan_tiled lex few formula a) in
        (not_long a, d, omega (arith, (scan_counted lex few formula a).2)),
    λ t. tiled_scanned lex few formula t.0 t.1 t.2,
  )

  -- A scan gives a refusal exactly if the rules for 14, 15 and 16 do.
  pub refused_exactly : (cause : Refusal) → ((scan lex formula).answer ≡ Err cause) ↔ Unscans lex formula cause
  refused_exactly cause = (answer_unscans lex few formula, unscans_answer lex few formula)

  -- The answer counts the tokens, of which there are at most 4,096, and the words that are neither keywords nor outside names.
  pub tokens_counted : {many count : ℕ} → (scan lex formula).answer ≡ Ok (many, count)
      → (many ≡ length (scan lex formula).tokens) × (count ≡ length (scan lex formula).words) × (many ≤ most_tokens)
  tokens_counted e = scan_counted lex few formula e

  -- token `place`, if it is a word
  word_at : (place : ℕ) → (token_at (scan lex formula).tokens place).kind ≡ word_kind
      → Spelled lex formula (scan lex formula).words (token_at (scan lex formula).tokens place)
  word_at place k =
      by_test (ltb place (length (scan lex formula).tokens))
      (λ e. every_at _ (scan lex formula).tokens place _ (scan_spelled lex few formula) (ltb-true place _ e) k)
      (λ e.
      let z : token_at (scan lex formula).tokens place ≡ end_token
      = get_or-eq_default (scan lex formula).tokens end_token (ltb-false place _ e) in
      absurd (omega (arith, sym (ap (λ (t : Token). t.kind) z) ∙ k)))

  -- The bytes of a word token are a word.
  pub words_are_words : (place : ℕ) → (token_at (scan lex formula).tokens place).kind ≡ word_kind
      → is_word (bytes_of formula (token_at (scan lex formula).tokens place)) ≡ true
  words_are_words place k = (word_at place k).is_word

  -- A word token's spelling number, below 64 an outside name's and from 64 on a word's by first appearance, stands for its bytes.
  pub numbers_spell : (place : ℕ) → (token_at (scan lex formula).tokens place).kind ≡ word_kind
      → spelled lex (scan lex formula).words (token_at (scan lex formula).tokens place).value
      ≡ bytes_of formula (token_at (scan lex formula).tokens place)
  numbers_spell place k = spelled_number lex few formula _ _ (word_at place k)

  -- Two word tokens have the same spelling number exactly if their bytes are equal.
  pub same_number : (place other : ℕ) → (token_at (scan lex formula).tokens place).kind ≡ word_kind
      → (token_at (scan lex formula).tokens other).kind ≡ word_kind
      → ((token_at (scan lex formula).tokens place).value ≡ (token_at (scan lex formula).tokens other).value)
      ↔ (bytes_of formula (token_at (scan lex formula).tokens place) ≡ bytes_of formula (token_at (scan lex formula).tokens other))
  same_number place other ki kj = (
    λ e. sym (numbers_spell place ki) ∙ ap (spelled lex (scan lex formula).words) e ∙ numbers_spell other kj,
    λ e.
        (word_at place ki).numbered ∙ ap (spelling_of lex (scan lex formula).words) e ∙ sym (word_at other kj).numbered,
  )

-- Where there are no variables, as in a formula, the lexeme at the front is told by document 01 alone.
pub formula_lexeme : (rest : List ℕ)
    → lexeme_of 0 rest
    ≡ elim (is_separator (get_or rest 0 0)) [
      | true ↦ Separator
      | false ↦
          elim (is_letter (get_or rest 0 0)) [
            | true ↦ word_lexeme (length (longest_run is_word_byte rest))
            | false ↦
                elim (is_digit (get_or rest 0 0))
                [ true ↦ number_lexeme (longest_run is_digit rest) | false ↦ elim (is_symbol (get_or rest 0 0)) [ true ↦ Symbol | false ↦ Fault ] ]
          ]
    ]
formula_lexeme rest = lexeme_is 0 rest _ _ _ false _ refl refl refl refl (no_variables rest) refl

-- No token of a formula is a variable: its kind is one of a set, or the one that is in no set.
pub formula_kinds : (lex : Lexicon) → length lex.outsides ≤ 64 → length lex.keywords ≤ most.keywords → lex.variables ≡ [] → (formula : List ℕ)
    (place : ℕ)
    → (token_at (scan lex formula).tokens place).kind ≤ no_kind
formula_kinds lex few keywords none formula place =
    by_test (ltb place (length (scan lex formula).tokens))
    (λ e. every_at _ (scan lex formula).tokens place _ (scan_kinds lex few keywords none formula) (ltb-true place _ e))
    (λ e.
    let z : token_at (scan lex formula).tokens place ≡ end_token
    = get_or-eq_default (scan lex formula).tokens end_token (ltb-false place _ e) in
    omega (arith, ap (λ (t : Token). t.kind) z))
