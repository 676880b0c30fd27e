-- What is left of a formula, by the step at its front; and a scan, by the formula's length.
use Rattle.std.specs.Prelude.{Ok, Err}
use Prim.Native.Nat.{ℕ, zero, suc, ◌+◌, ◌<◌, ◌≤◌}
use mathlib.Core.Path.{◌≡◌, refl}
use mathlib.Core.Bool.{Bool, true, false}
use mathlib.Core.List.{List, [], ◌∷◌}
use native.Mathlib.Omega.{arith}
use lib.Dec.{ltb}
use lib.ListN.{length, take, drop}
use borrow.Author.Tests.{le-leb, lt-leb}
use Rattle.answers.specs.Refusals.{refusal}
use Rattle.grammar.specs.Table.{Lexicon}
use Rattle.tokens.specs.declared.Token.{Token}
use Rattle.tokens.specs.declared.Step.{Step}
use Rattle.tokens.specs.declared.Step.TheVariants.{Skip, Stop, Emit}
use Rattle.tokens.specs.Scan.{Lexed, scan_ended, with_token, words_with, step_of, lex_from, scan}
use Rattle.tokens.specs.Tokens.{most_tokens, longest_formula}

-- ------------------------------------------------------------------ what one step does to what is left

-- what is left after a token, by whether there may be one more
abbrev pub emitted : ℕ → Lexicon → ℕ → List ℕ → ℕ → List (List ℕ) → Token → Bool → Lexed
emitted k lex at rest n words t more =
    elim more [
      | false ↦ scan_ended (Err (refusal 16 0 0 0)) words
      | true ↦
          with_token t (lex_from k lex (at + t.size) (drop t.size rest) (n + 1) (words_with words (take t.size rest) t))
    ]

-- what is left, by the step at its front
abbrev pub after : ℕ → Lexicon → ℕ → List ℕ → ℕ → List (List ℕ) → Step → Lexed
after k lex at rest n words Skip = lex_from k lex (at + 1) (drop 1 rest) n words
after k lex at rest n words Stop = scan_ended (Err (refusal 15 at 0 0)) words
after k lex at rest n words (Emit t) = emitted k lex at rest n words t (ltb n most_tokens)

lex_by : (fuel : ℕ) (lex : Lexicon) (at byte : ℕ) (bs : List ℕ) (many : ℕ) (words : List (List ℕ)) (step : Step)
    → step ≡ step_of lex words at (byte ∷ bs)
    → lex_from (suc fuel) lex at (byte ∷ bs) many words ≡ after fuel lex at (byte ∷ bs) many words step
unfolding lex_from
lex_by fuel lex at byte bs many words Skip e = rw (← e, lex_from) refl
lex_by fuel lex at byte bs many words Stop e = rw (← e, lex_from) refl
lex_by fuel lex at byte bs many words (Emit t) e = rw (← e, lex_from) refl

-- what is left gives what the step at its front makes of it
pub lex_step : (fuel : ℕ) (lex : Lexicon) (at : ℕ) (rest : List ℕ) (many : ℕ) (words : List (List ℕ)) (step : Step) → 0 < length rest
    → step ≡ step_of lex words at rest
    → lex_from (suc fuel) lex at rest many words ≡ after fuel lex at rest many words step
lex_step fuel lex at [] many words step h e = absurd (omega arith)
lex_step fuel lex at (b ∷ bs) many words step h e = lex_by fuel lex at b bs many words step e

-- where nothing is left, the tokens counted are accepted
pub lex_end : (fuel : ℕ) (lex : Lexicon) (at many : ℕ) (words : List (List ℕ))
    → lex_from fuel lex at [] many words ≡ scan_ended (Ok (many, length words)) words
unfolding lex_from
lex_end zero lex at many words = refl
lex_end (suc fuel) lex at many words = refl

-- a formula of at most 65,535 bytes is scanned from its front
pub scan_short : (lex : Lexicon) (formula : List ℕ) → length formula ≤ longest_formula → scan lex formula ≡ lex_from (length formula) lex 0 formula 0 []
unfolding scan
scan_short lex formula h = rw (le-leb (length formula) longest_formula h, scan) refl

-- a longer one is refused with 14
pub scan_long : (lex : Lexicon) (formula : List ℕ) → longest_formula < length formula → scan lex formula ≡ scan_ended (Err (refusal 14 0 0 0)) []
unfolding scan
scan_long lex formula h = rw (lt-leb (length formula) longest_formula h, scan) refl
