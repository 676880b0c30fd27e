-- What `emit` asks of spellings, from what is known of the lists of names and words.
use Prim.Native.Nat.{ℕ, suc, ◌+◌, ◌-◌, ◌<◌, ◌≤◌}
use mathlib.Core.Path.{◌≡◌, refl, sym, ap, ◌∙◌}
use mathlib.Core.Bool.{true, true≢false, ◌&&◌, and-eq-true_iff}
use mathlib.Core.List.{List, [], ◌∷◌}
use native.Mathlib.Omega.{arith}
use lib.Dec.{ltb, leb}
use lib.ListN.{length, get_or}
use borrow.Author.Tests.{lt-ltb, le-ltb, ltb-true, ltb-false, leb-true}
use Rattle.spellings.specs.Bytes.{is_word, is_letter, is_word_byte, every}
use Rattle.spellings.proofs.BytesLaws.{by_test}
use Rattle.grammar.specs.Table.{Lexicon}
use Rattle.grammar.specs.Lookup.{lexicon_of}
use Rattle.grammar.proofs.ReaderLaws.{get_d_past}
use Rattle.tokens.specs.Tokens.{spelled}
use Rattle.terms.specs.Names.{Distinct}
use Rattle.writer.specs.Pool.{spelling_room}
use Rattle.writer.specs.Pool.{first_word}
use Rattle.spellings.specs.Bytes.{longest_word}
use Rattle.writer.specs.Pool.{one_of, Words, spelled_by}
use Rattle.writer.proofs.PoolLaws.{further, filled_end}

-- the empty spelling is no word
no_word : is_word [] ≡ true → ⊥
no_word e = true≢false (sym e)

-- a word fits the room of a spelling
pub word_length : (spelling : List ℕ) → is_word spelling ≡ true → length spelling < spelling_room
word_length [] e = absurd (no_word e)
word_length (b ∷ bs) e =
    omega (arith, leb-true (suc (length bs)) longest_word ((and-eq-true_iff (is_letter b && every is_word_byte bs) (leb (suc (length bs)) longest_word)).0 e).1)

-- a spelling number of a word is that of an outside name or of one of so many words
pub spelled_below : (table formula words : List ℕ) (count number : ℕ) → is_word (spelled_by table formula words count number) ≡ true
    → number < first_word + count
spelled_below table formula words count number w =
    by_test (ltb number (first_word + count)) (λ e. ltb-true number (first_word + count) e)
    (λ e.
    let far : first_word + count ≤ number = ltb-false number (first_word + count) e in
    absurd (no_word (rw (further (lexicon_of table).outsides formula words count number (omega arith) (omega arith)) at w)))

-- spellings that are words are short enough for the room
pub short_words : (words : List (List ℕ)) → ((number : ℕ) → number < length words → is_word (get_or words number []) ≡ true) → (number : ℕ)
    → length (one_of words number) < spelling_room
short_words words h number =
    by_test (ltb number (length words)) (λ e. word_length (get_or words number []) (h number (ltb-true number (length words) e)))
    (λ e. rw (get_d_past words number [] (omega (arith, ltb-false number (length words) e))) (omega arith))

-- a list has a spelling once
abbrev pub Once : List (List ℕ) → Type 0
Once l = (i j : ℕ) → i < length l → j < length l → get_or l i [] ≡ get_or l j [] → i ≡ j

inside : (words : List (List ℕ)) (index : ℕ) → is_word (get_or words index []) ≡ true → index < length words
inside words index w =
    by_test (ltb index (length words)) (λ e. ltb-true index (length words) e)
    (λ e. absurd (no_word (ap is_word (sym (get_d_past words index [] (omega (arith, ltb-false index (length words) e)))) ∙ w)))

module _ (lex : Lexicon) (words : List (List ℕ)) (once_outs : Once lex.outsides) (once_words : Once words)
    (other : (index later : ℕ) → index < length lex.outsides → later < length words → get_or lex.outsides index [] ≡ get_or words later [] → ⊥) where
  near : (number : ℕ) → number < first_word → spelled lex words number ≡ get_or lex.outsides number []
  near number h = rw (lt-ltb number first_word h, spelled) refl

  far : (number : ℕ) → first_word ≤ number → spelled lex words number ≡ get_or words (number - first_word) []
  far number h = rw (le-ltb number first_word h, spelled) refl

  abbrev S : ℕ → List ℕ
  S = spelled lex words

  one : (number second : ℕ) → number < first_word → second < first_word → is_word (S number) ≡ true → S number ≡ S second → number ≡ second
  one number second a b w e =
      let e' : get_or lex.outsides number [] ≡ get_or lex.outsides second [] = sym (near number a) ∙ e ∙ near second b in
      let wm : is_word (get_or lex.outsides number []) ≡ true = ap is_word (sym (near number a)) ∙ w in
      once_outs number second (inside lex.outsides number wm) (inside lex.outsides second (ap is_word (sym e') ∙ wm)) e'

  two : (number second : ℕ) → number < first_word → first_word ≤ second → is_word (S number) ≡ true → S number ≡ S second → ⊥
  two number second a b w e =
      let e' : get_or lex.outsides number [] ≡ get_or words (second - first_word) [] = sym (near number a) ∙ e ∙ far second b in
      let wm : is_word (get_or lex.outsides number []) ≡ true = ap is_word (sym (near number a)) ∙ w in
      other number (second - first_word) (inside lex.outsides number wm) (inside words (second - first_word) (ap is_word (sym e') ∙ wm)) e'

  both : (number second : ℕ) → first_word ≤ number → first_word ≤ second → is_word (S number) ≡ true → S number ≡ S second → number ≡ second
  both number second a b w e =
      let e' : get_or words (number - first_word) [] ≡ get_or words (second - first_word) [] = sym (far number a) ∙ e ∙ far second b in
      let wm : is_word (get_or words (number - first_word) []) ≡ true = ap is_word (sym (far number a)) ∙ w in
      let z : number - first_word ≡ second - first_word = once_words (number - first_word) (second - first_word) (inside words (number - first_word) wm)
      (inside words (second - first_word) (ap is_word (sym e') ∙ wm)) e' in
      omega arith

  -- Words have one number each, if no list has a spelling twice and the two share none.
  pub apart_lists : Distinct (spelled lex words)
  apart_lists m n w e =
      by_test (ltb m first_word)
      (λ p.
      by_test (ltb n first_word) (λ q. one m n (ltb-true m first_word p) (ltb-true n first_word q) w e)
      (λ q. absurd (two m n (ltb-true m first_word p) (omega (arith, ltb-false n first_word q)) w e)))
      (λ p.
      by_test (ltb n first_word)
      (λ q. absurd (two n m (ltb-true n first_word q) (omega (arith, ltb-false m first_word p)) (ap is_word (sym e) ∙ w) (sym e)))
      (λ q. both m n (omega (arith, ltb-false m first_word p)) (omega (arith, ltb-false n first_word q)) w e))

-- The spellings that `fill` stores are those of the lists.
pub spelled_lists : (table formula room : List ℕ) {count : ℕ} (list : List (List ℕ)) → Words formula room count list
    → spelled_by table formula room count ≡ spelled (lexicon_of table) list
spelled_lists table formula room list w = λ i m. filled_end (lexicon_of table) formula room list w m i
