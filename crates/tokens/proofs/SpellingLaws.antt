-- A word token's value is the spelling number of its bytes by all words of the scan, and every word token is a word.
use Rattle.std.specs.Prelude.{Some, None, Option}
use Prim.Native.Nat.{ℕ, zero, suc, ◌+◌, ◌-◌, ◌<◌, ◌≤◌}
use mathlib.Core.Path.{◌≡◌, refl, sym, ap, ◌∙◌}
use mathlib.Core.Bool.{true, false}
use mathlib.Core.List.{List, [], ◌∷◌, ◌++◌, append_assoc, append-nil}
use native.Mathlib.Nat.{add-zero}
use native.Mathlib.Omega.{arith}
use lib.Dec.{ltb}
use lib.ListN.{length, get_or, take, drop, length-append}
use borrow.Author.Tests.{ltb-true, ltb-false, le-leb, le-ltb, lt-ltb, ne_eqb, eq-eqb}
use Rattle.spellings.specs.Bytes.{is_letter, is_word_byte, longest_run, is_word, index_of}
use Rattle.spellings.proofs.BytesLaws.{by_test, run_taken, every_run, letter_word_byte, index_le, index_found, index_front, index_rest, index_self}
use Rattle.grammar.specs.Table.{Lexicon}
use Rattle.grammar.specs.Found.{found_in}
use Rattle.grammar.proofs.LookupLaws.{found_within, found_spells}
use Rattle.kinds.specs.Kinds.{word_kind}
use Rattle.tokens.specs.declared.Token.{Token}
use Rattle.tokens.specs.Scan.{Lexed, is_new, words_with, spelling_of, scan}
use Rattle.tokens.specs.Tiling.{WordFront, bytes_of}
use Rattle.tokens.specs.Tiling.{Stands, a_keyword, a_keyword_symbol, an_outside_name, a_word_again, a_new_word, a_number, a_symbol, a_variable}
use Rattle.tokens.specs.Tokens.{spelled}
use Rattle.tokens.proofs.LexemeLaws.{spelling_found}
use Rattle.tokens.proofs.WordLaws.{with_new, with_old}
use Rattle.tokens.proofs.StandLaws.{word_taken, Emits}
use Rattle.tokens.proofs.TokenLaws.{Kept, scan_kept}

-- ------------------------------------------------------------------ words

-- the run of word bytes after a letter is a word, if it is not too long
run_word : (rest : List ℕ) → is_letter (get_or rest 0 0) ≡ true → length (longest_run is_word_byte rest) ≤ 31 → is_word (longest_run is_word_byte rest) ≡ true
run_word [] l h = let z : ◌≡◌ {A = ℕ} 0 1 = cc in absurd (omega arith)
run_word (b ∷ bs) l h =
    let r : longest_run is_word_byte (b ∷ bs) ≡ b ∷ longest_run is_word_byte bs = run_taken is_word_byte b bs (letter_word_byte b l) in
    let n : suc (length (longest_run is_word_byte bs)) ≤ 31 = omega (arith, ap length r) in
    ap is_word r ∙ rw (l, every_run is_word_byte bs, le-leb _ 31 n) refl

-- the word at the front is a word
pub front_word : {rest spelling : List ℕ} → WordFront rest spelling → is_word spelling ≡ true
front_word {rest} w = rw w.whole (run_word rest w.begins (omega (arith, w.short, ap length w.whole)))

stands_word : {lex : Lexicon} {at : ℕ} {rest : List ℕ} {met met' : List (List ℕ)} {token : Token} → Stands lex at rest met token met'
    → token.kind ≡ word_kind
    → is_word (take token.size rest) ≡ true
stands_word (a_keyword w f) e = absurd (omega (arith, e))
stands_word (a_keyword_symbol y f) e = absurd (omega (arith, e))
stands_word (an_outside_name w n f) e = rw (word_taken w) (front_word w)
stands_word (a_word_again w n o f) e = rw (word_taken w) (front_word w)
stands_word (a_new_word w n o f) e = rw (word_taken w) (front_word w)
stands_word (a_number d) e = absurd (omega (arith, e))
stands_word (a_symbol y n) e = absurd (omega (arith, e))
stands_word (a_variable f) e = absurd (omega (arith, e))

-- ------------------------------------------------------------------ spelling numbers

-- a word token, by the words `listed` of the whole scan
pub record Spelled (lex : Lexicon) (formula : List ℕ) (listed : List (List ℕ)) (token : Token) : Type 0 where
  -- its bytes are a word
  pub is_word : is_word (bytes_of formula token) ≡ true
  -- its value is the spelling number of its bytes
  pub numbered : token.value ≡ spelling_of lex listed (bytes_of formula token)
  -- its value is that of an outside name or of a word met
  pub known : token.value < 64 + length listed

-- a fact of every token
abbrev pub Every : (Token → Type 0) → List Token → Type 0
Every P [] = Unit {0}
Every P (t ∷ ts) = P t × Every P ts

-- a fact of every token is one of each
pub every_at : (P : Token → Type 0) (ts : List Token) (place : ℕ) (default : Token) → Every P ts → place < length ts → P (get_or ts place default)
every_at P [] place default p h = absurd (omega arith)
every_at P (t ∷ ts) zero default p h = p.0
every_at P (t ∷ ts) (suc place) default p h = every_at P ts place default p.1 (omega arith)

-- a word that is met has a place among the words then met, which stays
record Placed (words words' : List (List ℕ)) (spelling : List ℕ) : Type 0 where
  same_place : index_of spelling words' ≡ index_of spelling words
  there : index_of spelling words' < length words'

new_is : (count : ℕ) (token : Token) → token.kind ≡ word_kind → token.value ≡ 64 + count → is_new count token ≡ true
new_is count token k v = rw (eq-eqb token.kind word_kind k, eq-eqb token.value (64 + count) v) refl

old_is : (count : ℕ) (token : Token) → token.kind ≡ word_kind → (token.value ≡ 64 + count → ⊥) → is_new count token ≡ false
old_is count token k v = rw (eq-eqb token.kind word_kind k, ne_eqb token.value (64 + count) v) refl

placed : (words : List (List ℕ)) (spelling : List ℕ) (token : Token) → token.kind ≡ word_kind → token.value ≡ 64 + index_of spelling words
    → Placed words (words_with words spelling token) spelling
placed words spelling token k v = by_test (ltb (index_of spelling words) (length words)) old new
  where
    old : ltb (index_of spelling words) (length words) ≡ true → Placed words (words_with words spelling token) spelling
    old e =
        let h : index_of spelling words < length words = ltb-true (index_of spelling words) (length words) e in
        let w : words_with words spelling token ≡ words = with_old words spelling token (old_is (length words) token k (λ z. omega (arith, z, v))) in
        record { same_place = ap (index_of spelling) w; there = rw w h }

    new : ltb (index_of spelling words) (length words) ≡ false → Placed words (words_with words spelling token) spelling
    new e =
        let z : index_of spelling words ≡ length words = omega (arith, ltb-false (index_of spelling words) (length words) e, index_le spelling words) in
        let w : words_with words spelling token ≡ words ++ (spelling ∷ []) = with_new words spelling token (new_is (length words) token k (cc)) in
        let i : index_of spelling (words ++ (spelling ∷ [])) ≡ length words
        = cc (index_rest spelling words (spelling ∷ []) z, index_self spelling, add-zero (length words)) in
        record { same_place = ap (index_of spelling) w ∙ i ∙ sym z; there = rw w (omega (arith, i, length-append words (spelling ∷ []))) }

-- a word's spelling number by the words then met is its spelling number by all words
module _ (lex : Lexicon) (few : length lex.outsides ≤ 64) where
  stays : (words more : List (List ℕ)) (spelling : List ℕ) (token : Token) (found : Option ℕ) → found ≡ found_in spelling lex.outsides → token.kind ≡ word_kind
      → token.value ≡ spelling_of lex words spelling
      → (token.value ≡ spelling_of lex (words_with words spelling token ++ more) spelling)
      × (token.value < 64 + length (words_with words spelling token ++ more))
  stays words more spelling token (Some i) e k v =
      let a : token.value ≡ i = v ∙ spelling_found lex words spelling (Some i) e in (
        a ∙ sym (spelling_found lex (words_with words spelling token ++ more) spelling (Some i) e),
        omega (arith, a, found_within spelling lex.outsides e),
      )
  stays words more spelling token None e k v =
      let a : token.value ≡ 64 + index_of spelling words = v ∙ spelling_found lex words spelling None e in
      let p : Placed words (words_with words spelling token) spelling = placed words spelling token k a in
      let i : index_of spelling (words_with words spelling token ++ more) ≡ index_of spelling words = index_front spelling (words_with words spelling token) more
      p.there ∙ p.same_place in (
        a ∙ sym (cc (spelling_found lex (words_with words spelling token ++ more) spelling None e)),
        omega (arith, a, p.there, p.same_place, length-append (words_with words spelling token) more),
      )

  grown : (words : List (List ℕ)) (spelling : List ℕ) (token : Token) → (extra : List (List ℕ)) × (words_with words spelling token ≡ words ++ extra)
  grown words spelling token =
      by_test (is_new (length words) token) (λ e. (spelling ∷ [], with_new words spelling token e))
      (λ e. ([], with_old words spelling token e ∙ sym (append-nil words)))

  module _ (formula : List ℕ) where
    SpelledFrom : ℕ → ℕ → List (List ℕ) → Lexed → Type 0
    SpelledFrom at n words l =
        (more : List (List ℕ))
        × (l.words ≡ words ++ more)
        × Every (λ t. t.kind ≡ word_kind → Spelled lex formula l.words t) l.tokens

    spelled_token : (at : ℕ) (words more : List (List ℕ)) (token : Token) (listed : List (List ℕ)) → Emits lex words at (drop at formula) token
        → listed ≡ words_with words (take token.size (drop at formula)) token ++ more
        → token.kind ≡ word_kind
        → Spelled lex formula listed token
    spelled_token at words more token listed told w k =
        let b : bytes_of formula token ≡ take token.size (drop at formula) = cc told.placed in
        let p = stays words more (take token.size (drop at formula)) token _ refl k (told.valued k) in
        record {
          is_word = ap is_word b ∙ stands_word told.stands k;
          numbered = rw (b, w) p.0;
          known = rw w p.1;
        }

    spelled_kept : Kept lex formula SpelledFrom
    unfolding SpelledFrom
    spelled_kept =
        record {
          ends = λ n words h. ([], sym (append-nil words), tt);
          stops = λ at n words r h. ([], sym (append-nil words), tt);
          skips = λ at n words l h s p. p;
          emits =
              λ at n words t l h m told inside p.
              let g = grown words (take t.size (drop at formula)) t in (
                g.0 ++ p.0,
                cc (p.1, g.1, append_assoc words g.0 p.0),
                (spelled_token at words p.0 t l.words told p.1, p.2),
              );
        }

    -- each word token of a scan is spelled as its number says
    pub scan_spelled : Every (λ t. t.kind ≡ word_kind → Spelled lex formula (scan lex formula).words t) (scan lex formula).tokens
    unfolding SpelledFrom
    scan_spelled = (scan_kept lex few formula SpelledFrom spelled_kept).2

    -- what a word token's number stands for
    pub spelled_number : (listed : List (List ℕ)) (token : Token) → Spelled lex formula listed token → spelled lex listed token.value ≡ bytes_of formula token
    spelled_number listed token w = by_found (found_in (bytes_of formula token) lex.outsides) refl
      where
        by_found : (found : Option ℕ) → found ≡ found_in (bytes_of formula token) lex.outsides → spelled lex listed token.value ≡ bytes_of formula token
        by_found (Some k) e =
            let a : token.value ≡ k = w.numbered ∙ spelling_found lex listed (bytes_of formula token) (Some k) e in
            let h : k < length lex.outsides = found_within (bytes_of formula token) lex.outsides e in
            ap (spelled lex listed) a ∙ rw (lt-ltb k 64 (omega arith), spelled) (found_spells (bytes_of formula token) lex.outsides e)
        by_found None e =
            let a : token.value ≡ 64 + index_of (bytes_of formula token) listed = w.numbered ∙ spelling_found lex listed (bytes_of formula token) None e in
            let z : 64 + index_of (bytes_of formula token) listed - 64 ≡ index_of (bytes_of formula token) listed = omega arith in
            ap (spelled lex listed) a
            ∙ rw (le-ltb (64 + index_of (bytes_of formula token) listed) 64 (omega arith), spelled)
            (cc (index_found (bytes_of formula token) listed (omega (arith, a, w.known))))
