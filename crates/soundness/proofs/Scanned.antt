-- A scan gives tokens whose words have small numbers: outside names below 64, then one number for each token at most.
use Rattle.std.specs.Prelude.{Err}
use Prim.Native.Nat.{ℕ, zero, suc, ◌+◌, ◌≤◌}
use mathlib.Core.Path.{◌≡◌, refl}
use mathlib.Core.Bool.{Bool, true, false}
use mathlib.Core.List.{List, [], ◌∷◌, ◌++◌}
use native.Mathlib.Omega.{arith}
use lib.Dec.{ltb, leb}
use lib.ListN.{length, take, drop, length-append}
use borrow.Author.Tests.{ltb-true}
use Rattle.answers.specs.Refusals.{refusal}
use Rattle.grammar.specs.Table.{Lexicon}
use Rattle.tokens.specs.declared.Token.{Token}
use Rattle.tokens.specs.declared.Step.{Step}
use Rattle.tokens.specs.declared.Step.TheVariants.{Skip, Emit, Stop}
use Rattle.tokens.specs.Scan.{Lexed, is_new, words_with, scan_ended, with_token, step_of, lex_from, scan}
use Rattle.tokens.specs.Tokens.{most_tokens, longest_formula, end_token}
use Rattle.tokens.proofs.SpellingLaws.{every_at, scan_spelled}
use Rattle.expansion.specs.Parsing.{SmallWords}
use Rattle.soundness.proofs.Sound.{token_before}

-- a token adds one word at most
one_more : (words : List (List ℕ)) (spelling : List ℕ) (token : Token) → length (words_with words spelling token) ≤ length words + 1
unfolding words_with
one_more words spelling token = go (is_new (length words) token)
  where
    go : (test : Bool) → length {A = List ℕ} (elim test as (λ x. List (List ℕ)) [ true ↦ words ++ (spelling ∷ []) | false ↦ words ]) ≤ length words + 1
    go true = omega (arith, length-append words (spelling ∷ []))
    go false = omega arith

few_from : (fuel : ℕ) (lex : Lexicon) (at : ℕ) (rest : List ℕ) (before : ℕ) (words : List (List ℕ)) → before ≤ most_tokens
    → length (lex_from fuel lex at rest before words).words + before ≤ length words + most_tokens
unfolding lex_from
few_from zero lex at rest before words l = omega arith
few_from (suc fuel) lex at [] before words l = omega arith
few_from (suc fuel) lex at (b ∷ bs) before words l =
    go (step_of lex words at (b ∷ bs)) (few_from fuel lex (at + 1) bs before words l)
    (λ t h. few_from fuel lex (at + t.size) (drop t.size (b ∷ bs)) (before + 1) (words_with words (take t.size (b ∷ bs)) t) h)
  where
    emitted : Token → Lexed
    emitted t = with_token t (lex_from fuel lex (at + t.size) (drop t.size (b ∷ bs)) (before + 1) (words_with words (take t.size (b ∷ bs)) t))

    limited : (token : Token) (test : Bool) → ltb before most_tokens ≡ test
        → (before + 1 ≤ most_tokens → length (emitted token).words + (before + 1) ≤ length (words_with words (take token.size (b ∷ bs)) token) + most_tokens)
        → length (elim test as (λ x. Lexed) [ false ↦ scan_ended (Err (refusal 16 0 0 0)) words | true ↦ emitted token ]).words + before ≤ length
        words + most_tokens
    limited token false e h = omega arith
    limited token true e h = omega (arith, h (omega (arith, ltb-true before most_tokens e)), one_more words (take token.size (b ∷ bs)) token)

    go : (step : Step) → length (lex_from fuel lex (at + 1) bs before words).words + before ≤ length words + most_tokens
        → ((token : Token) → before + 1 ≤ most_tokens → length (emitted token).words + (before + 1) ≤ length
        (words_with words (take token.size (b ∷ bs)) token) + most_tokens)
        → length
        (elim step as (λ x. Lexed) [
          | Skip ↦ lex_from fuel lex (at + 1) bs before words
          | Stop ↦ scan_ended (Err (refusal 15 at 0 0)) words
          | Emit t ↦ elim (ltb before most_tokens) as (λ x. Lexed) [ false ↦ scan_ended (Err (refusal 16 0 0 0)) words | true ↦ emitted t ]
        ]).words + before ≤ length words + most_tokens
    go Skip h f = h
    go Stop h f = omega arith
    go (Emit t) h f = limited t (ltb before most_tokens) refl (f t)

few_words : (lex : Lexicon) (formula : List ℕ) → length (scan lex formula).words ≤ most_tokens
unfolding scan
few_words lex formula = go (leb (length formula) longest_formula)
  where
    go : (test : Bool)
        → length
        (elim test as (λ x. Lexed) [ true ↦ lex_from (length formula) lex 0 formula 0 [] | false ↦ scan_ended (Err (refusal 14 0 0 0)) [] ]).words ≤
        most_tokens
    go true = omega (arith, few_from (length formula) lex 0 formula 0 [] (omega arith))
    go false = omega arith

-- the words of a scan have numbers that a name can hold
pub scanned_small : (lex : Lexicon) → length lex.outsides ≤ 64 → (formula : List ℕ) → SmallWords (scan lex formula).tokens
scanned_small lex few formula at k =
    let s = every_at _ (scan lex formula).tokens at end_token (scan_spelled lex few formula) (token_before (scan lex formula).tokens at k (omega arith)) k in
    omega (arith, s.known, few_words lex formula)
