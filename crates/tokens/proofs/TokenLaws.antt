-- What holds of all tokens of a scan, by recursion on what is left of the formula.
use Rattle.std.specs.Prelude.{Ok, Err}
use Prim.Native.Nat.{ℕ, zero, suc, ◌+◌, ◌<◌, ◌≤◌}
use mathlib.Core.Path.{◌≡◌, refl, sym, ap, ◌∙◌, subst}
use mathlib.Core.Bool.{true}
use mathlib.Core.List.{List, []}
use native.Mathlib.Omega.{arith}
use lib.Dec.{ltb, leb}
use lib.ListN.{length, get_or, take, drop, length-drop, drop_of_length-le}
use lib.Seq.{drop-drop}
use borrow.Author.Tests.{ltb-true, ltb-false, leb-true, leb-false}
use Rattle.answers.specs.declared.Refusal.{Refusal}
use Rattle.answers.specs.Refusals.{refusal}
use Rattle.spellings.specs.Bytes.{is_separator}
use Rattle.spellings.proofs.BytesLaws.{by_test}
use Rattle.grammar.specs.Table.{Lexicon}
use Rattle.tokens.specs.declared.Token.{Token}
use Rattle.tokens.specs.declared.Step.{Step}
use Rattle.tokens.specs.declared.Step.TheVariants.{Skip, Stop, Emit}
use Rattle.tokens.specs.Scan.{Lexed, scan_ended, with_token, words_with, step_of, lex_from, scan}
use Rattle.tokens.specs.Tokens.{most_tokens, longest_formula}
use Rattle.tokens.specs.Unscanned.{Faulty}
use Rattle.tokens.proofs.StepLaws.{front_byte, Lies, step_lies}
use Rattle.tokens.proofs.StandLaws.{Emits, Told, step_told}
use Rattle.tokens.proofs.LexLaws.{emitted, after, lex_step, lex_end, scan_short, scan_long}

-- ------------------------------------------------------------------ one recursion for all facts

-- why a scan stops at an offset, after `many` tokens and the words met
pub data Halts (lex : Lexicon) (formula : List ℕ) (at many : ℕ) (words : List (List ℕ)) : Refusal → Type 0 where
  at_once : longest_formula < length formula → Halts lex formula at many words (refusal 14 0 0 0)
  at_fault : at < length formula → many ≤ most_tokens → Faulty (drop at formula) → Halts lex formula at many words (refusal 15 at 0 0)
  at_token : {token : Token} → at < length formula → many ≡ most_tokens → Emits lex words at (drop at formula) token
      → Halts lex formula at many words (refusal 16 0 0 0)

-- A fact of what is left at an offset, after n tokens and the words met, that each step hands on.
pub record Kept (lex : Lexicon) (formula : List ℕ) (P : ℕ → ℕ → List (List ℕ) → Lexed → Type 0) : Type 0 where
  -- it holds at the end
  pub ends : (many : ℕ) (words : List (List ℕ)) → many ≤ most_tokens → P (length formula) many words (scan_ended (Ok (many, length words)) words)
  -- it holds where a scan stops
  pub stops : (at many : ℕ) (words : List (List ℕ)) (cause : Refusal) → Halts lex formula at many words cause
      → P at many words (scan_ended (Err cause) words)
  -- it holds before a separator, if it holds behind it
  pub skips : (at many : ℕ) (words : List (List ℕ)) (lexed : Lexed) → at < length formula → is_separator (get_or formula at 0) ≡ true
      → P (at + 1) many words lexed
      → P at many words lexed
  -- it holds before a token, if it holds behind it
  pub emits : (at many : ℕ) (words : List (List ℕ)) (token : Token) (lexed : Lexed) → at < length formula → many < most_tokens
      → Emits lex words at (drop at formula) token
      → (0 < token.size) × (at + token.size ≤ length formula)
      → P (at + token.size) (many + 1) (words_with words (take token.size (drop at formula)) token) lexed
      → P at many words (with_token token lexed)

module _ (lex : Lexicon) (few : length lex.outsides ≤ 64) (formula : List ℕ) (P : ℕ → ℕ → List (List ℕ) → Lexed → Type 0)
    (keeps : Kept lex formula P) where
  at-end : (fuel at many : ℕ) (words : List (List ℕ)) → many ≤ most_tokens → at ≡ length formula
      → P at many words (lex_from fuel lex at (drop at formula) many words)
  at-end fuel at many words h e =
      let past : length formula ≤ at = omega arith in
      let none : drop at formula ≡ [] = drop_of_length-le formula past in
      subst (P at many words)
      (sym (ap (λ (r : List ℕ). lex_from fuel lex at r many words) none ∙ lex_end fuel lex at many words))
      (rw (e) (keeps.ends many words h))

  kept_emit : (fuel at many : ℕ) (words : List (List ℕ)) (token : Token) → at < length formula → ltb many most_tokens ≡ true
      → Emits lex words at (drop at formula) token
      → (0 < token.size) × (at + token.size ≤ length formula)
      → P (at + token.size) (many + 1) (words_with words (take token.size (drop at formula)) token)
      (lex_from fuel lex (at + token.size) (drop (at + token.size) formula) (many + 1) (words_with words (take token.size (drop at formula)) token))
      → P at many words (emitted fuel lex at (drop at formula) many words token true)
  kept_emit fuel at many words token h e told inside p =
      keeps.emits at many words token _ h (ltb-true many most_tokens e) told inside
      (subst
      (λ (r : List ℕ).
      P (at + token.size) (many + 1) (words_with words (take token.size (drop at formula)) token)
      (lex_from fuel lex (at + token.size) r (many + 1) (words_with words (take token.size (drop at formula)) token)))
      (sym (drop-drop token.size at formula))
      p)

  kept_step : (fuel at many : ℕ) (words : List (List ℕ)) (step : Step) → at < length formula → many ≤ most_tokens → length formula ≤ at + suc fuel
      → step ≡ step_of lex words at (drop at formula)
      → Told lex words at (drop at formula) step
      → Lies at (drop at formula) step
      → ((offset before : ℕ) (ws : List (List ℕ)) → length formula ≤ offset + fuel → offset ≤ length formula → before ≤ most_tokens
      → P offset before ws (lex_from fuel lex offset (drop offset formula) before ws))
      → P at many words (after fuel lex at (drop at formula) many words step)
  kept_step fuel at many words Skip h m enough e told lies rec =
      let z : get_or (drop at formula) 0 0 ≡ get_or formula at 0 = front_byte formula at in
      keeps.skips at many words _ h (ap is_separator (sym z) ∙ told)
      (rw (drop-drop 1 at formula) (rec (at + 1) many words (omega arith) (omega arith) m))
  kept_step fuel at many words Stop h m enough e told lies rec = keeps.stops at many words (refusal 15 at 0 0) (at_fault h m told)
  kept_step fuel at many words (Emit t) h m enough e told lies rec =
      by_test (ltb many most_tokens)
      (λ more.
      rw (more) (kept_emit fuel at many words t h more told (lies.1, omega (arith, lies.2, length-drop at formula))
      (rec (at + t.size) (many + 1) _ (omega (arith, lies.1)) (omega (arith, lies.2, length-drop at formula))
      (omega (arith, ltb-true many most_tokens more)))))
      (λ more.
      rw (more) (keeps.stops at many words (refusal 16 0 0 0) (at_token h (omega (arith, ltb-false many most_tokens more)) told)))

  kept : (fuel at many : ℕ) (words : List (List ℕ)) → length formula ≤ at + fuel → at ≤ length formula → many ≤ most_tokens
      → P at many words (lex_from fuel lex at (drop at formula) many words)
  kept zero at many words enough h m = at-end zero at many words m (omega arith)
  kept (suc fuel) at many words enough h m =
      by_test (ltb at (length formula))
      (λ more.
      let l : at < length formula = ltb-true at (length formula) more in
      let some : 0 < length (drop at formula) = omega (arith, length-drop at formula) in
      subst (P at many words) (sym (lex_step fuel lex at (drop at formula) many words _ some refl))
      (kept_step fuel at many words (step_of lex words at (drop at formula)) l m enough refl
      (step_told lex few words at (drop at formula) _ some refl)
      (step_lies lex words at (drop at formula) _ some refl)
      (kept fuel)))
      (λ none. at-end (suc fuel) at many words m (omega (arith, ltb-false at (length formula) none)))

  -- a fact that each step hands on holds of the whole scan
  pub scan_kept : P 0 0 [] (scan lex formula)
  scan_kept =
      by_test (leb (length formula) longest_formula)
      (λ fits.
      subst (P 0 0 []) (sym (scan_short lex formula (leb-true (length formula) longest_formula fits)))
      (kept (length formula) 0 0 [] (omega arith) (omega arith) (omega arith)))
      (λ over.
      let long : longest_formula < length formula = leb-false (length formula) longest_formula over in
      subst (P 0 0 []) (sym (scan_long lex formula long)) (keeps.stops 0 0 [] (refusal 14 0 0 0) (at_once long)))
