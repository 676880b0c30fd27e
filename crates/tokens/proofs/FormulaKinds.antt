-- The kinds of a formula's tokens: it has no variables.
use Prim.Native.Nat.{ℕ, ◌≤◌}
use mathlib.Core.Path.{◌≡◌, ap}
use mathlib.Core.List.{List, []}
use native.Mathlib.Omega.{arith}
use lib.ListN.{length}
use Rattle.kinds.specs.Kinds.{no_kind}
use Rattle.grammar.specs.Limits.{most}
use Rattle.grammar.specs.Table.{Lexicon}
use Rattle.tokens.specs.declared.Token.{Token}
use Rattle.tokens.specs.Scan.{Lexed, scan}
use Rattle.tokens.specs.Tiling.{Stands, a_keyword, a_keyword_symbol, an_outside_name, a_word_again, a_new_word, a_number, a_symbol, a_variable}
use Rattle.tokens.proofs.SpellingLaws.{Every}
use Rattle.tokens.proofs.TokenLaws.{Kept, scan_kept}

module _ (lex : Lexicon) (few : length lex.outsides ≤ 64) (keywords : length lex.keywords ≤ most.keywords) (none : lex.variables ≡ [])
    (formula : List ℕ) where
  stands_kind : {at : ℕ} {rest : List ℕ} {met met' : List (List ℕ)} {token : Token} → Stands lex at rest met token met' → token.kind ≤ no_kind
  stands_kind (a_keyword w f) = omega (arith, f.there)
  stands_kind (a_keyword_symbol y f) = omega (arith, f.there)
  stands_kind (an_outside_name w n f) = omega arith
  stands_kind (a_word_again w n o f) = omega arith
  stands_kind (a_new_word w n o f) = omega arith
  stands_kind (a_number d) = omega arith
  stands_kind (a_symbol y n) = omega arith
  stands_kind (a_variable f) = absurd (omega (arith, f.below, ap length none))

  KindsFrom : ℕ → ℕ → List (List ℕ) → Lexed → Type 0
  KindsFrom at many words lexed = Every (λ t. t.kind ≤ no_kind) lexed.tokens

  kinds_kept : Kept lex formula KindsFrom
  unfolding KindsFrom
  kinds_kept =
      record {
        ends = λ many words h. tt;
        stops = λ at many words cause h. tt;
        skips = λ at many words lexed h s p. p;
        emits = λ at many words token lexed h m told inside p. (stands_kind told.stands, p);
      }

  -- The kinds of a formula's tokens are at most the one that is in no set.
  pub scan_kinds : Every (λ t. t.kind ≤ no_kind) (scan lex formula).tokens
  unfolding KindsFrom
  scan_kinds = scan_kept lex few formula KindsFrom kinds_kept
