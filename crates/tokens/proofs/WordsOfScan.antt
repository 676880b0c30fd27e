-- The words of a scan: each is a word, none stands twice, and none is a keyword or an outside name.
use Prim.Native.Nat.{ℕ, ◌+◌, ◌<◌, ◌≤◌}
use mathlib.Core.Path.{◌≡◌, sym, ap, ◌∙◌}
use mathlib.Core.Bool.{true}
use mathlib.Core.List.{List, [], ◌∷◌, ◌++◌}
use native.Mathlib.Omega.{arith}
use lib.Dec.{ltb}
use lib.ListN.{length, get_or, length-append, get_or-append}
use lib.Seq.{get_or_at}
use borrow.Author.Tests.{ltb-true, ltb-false}
use Rattle.spellings.specs.Bytes.{is_word}
use Rattle.spellings.proofs.BytesLaws.{by_test}
use Rattle.grammar.specs.Table.{Lexicon}
use Rattle.tokens.specs.declared.Token.{Token}
use Rattle.tokens.specs.Scan.{Lexed, scan}
use Rattle.tokens.specs.Tiling.{NotIn, Stands, a_keyword, a_keyword_symbol, an_outside_name, a_word_again, a_new_word, a_number, a_symbol, a_variable}
use Rattle.tokens.proofs.TokenLaws.{Kept, scan_kept}
use Rattle.tokens.proofs.SpellingLaws.{front_word}

-- words of a formula's own, each once, and none a name of the table
pub record PlainWords (lex : Lexicon) (words : List (List ℕ)) : Type 0 where
  -- each is a word
  pub are_words : (index : ℕ) → index < length words → is_word (get_or words index []) ≡ true
  -- none stands twice
  pub once : (index other : ℕ) → index < length words → other < length words → get_or words index [] ≡ get_or words other [] → index ≡ other
  -- none is a keyword
  pub no_keyword : (index other : ℕ) → index < length lex.keywords → other < length words → get_or lex.keywords index [] ≡ get_or words other [] → ⊥
  -- none is an outside name
  pub no_outside : (index other : ℕ) → index < length lex.outsides → other < length words → get_or lex.outsides index [] ≡ get_or words other [] → ⊥

no_words : (lex : Lexicon) → PlainWords lex []
no_words lex =
    record {
      are_words = λ i l. absurd (omega arith);
      once = λ i j l m e. absurd (omega arith);
      no_keyword = λ i j l m e. absurd (omega arith);
      no_outside = λ i j l m e. absurd (omega arith);
    }

-- one more word, that stands nowhere yet
module _ {lex : Lexicon} {words : List (List ℕ)} {spelling : List ℕ} (plain_words : PlainWords lex words) (is_is_word : is_word spelling ≡ true)
    (no_keyword_there : NotIn spelling lex.keywords) (not_outside : NotIn spelling lex.outsides) (not_met : NotIn spelling words) where
  longer : length (words ++ (spelling ∷ [])) ≡ length words + 1
  longer = length-append words (spelling ∷ [])

  front : (index : ℕ) → index < length words → get_or (words ++ (spelling ∷ [])) index [] ≡ get_or words index []
  front index l = get_or-append words (spelling ∷ []) [] index l

  last : (index : ℕ) → index < length (words ++ (spelling ∷ [])) → length words ≤ index → get_or (words ++ (spelling ∷ [])) index [] ≡ spelling
  last index l d = let z : length words ≡ index = omega (arith, longer) in get_or_at words spelling [] [] index z

  by_place : {A : Type 0} (index : ℕ) → (index < length words → A) → (length words ≤ index → A) → A
  by_place index a b =
      by_test (ltb index (length words)) (λ e. a (ltb-true index (length words) e)) (λ e. b (ltb-false index (length words) e))

  one_word_more : PlainWords lex (words ++ (spelling ∷ []))
  one_word_more =
      record {
        are_words = λ i b. by_place i (λ l. ap is_word (front i l) ∙ plain_words.are_words i l) (λ l. ap is_word (last i b l) ∙ is_is_word);
        once =
            λ i j a b e.
            by_place i
            (λ l.
            by_place j (λ m. plain_words.once i j l m (sym (front i l) ∙ e ∙ front j m))
            (λ m. absurd (not_met.none i l (sym (front i l) ∙ e ∙ last j b m))))
            (λ l.
            by_place j (λ m. absurd (not_met.none j m (sym (front j m) ∙ sym e ∙ last i a l))) (λ m. omega (arith, longer)));
        no_keyword =
            λ i j a b e.
            by_place j (λ m. plain_words.no_keyword i j a m (e ∙ front j m)) (λ m. no_keyword_there.none i a (e ∙ last j b m));
        no_outside =
            λ i j a b e.
            by_place j (λ m. plain_words.no_outside i j a m (e ∙ front j m)) (λ m. not_outside.none i a (e ∙ last j b m));
      }

stands_plain : {lex : Lexicon} {at : ℕ} {rest : List ℕ} {met met' : List (List ℕ)} {token : Token} → Stands lex at rest met token met'
    → PlainWords lex met
    → PlainWords lex met'
stands_plain (a_keyword w f) p = p
stands_plain (a_keyword_symbol y f) p = p
stands_plain (an_outside_name w n f) p = p
stands_plain (a_word_again w n o f) p = p
stands_plain (a_new_word w n o f) p = one_word_more p (front_word w) n o f
stands_plain (a_number d) p = p
stands_plain (a_symbol y n) p = p
stands_plain (a_variable f) p = p

module _ (lex : Lexicon) (few : length lex.outsides ≤ 64) (formula : List ℕ) where
  PlainFrom : ℕ → ℕ → List (List ℕ) → Lexed → Type 0
  PlainFrom at n words l = PlainWords lex words → PlainWords lex l.words

  plain_kept : Kept lex formula PlainFrom
  unfolding PlainFrom
  plain_kept =
      record {
        ends = λ n words h p. p;
        stops = λ at n words r h p. p;
        skips = λ at n words l h s q. q;
        emits = λ at n words t l h m told inside q p. q (stands_plain told.stands p);
      }

  -- The words of a scan are words, stand once each, and are neither keywords nor outside names.
  pub scan_plain : PlainWords lex (scan lex formula).words
  unfolding PlainFrom
  scan_plain = scan_kept lex few formula PlainFrom plain_kept (no_words lex)
