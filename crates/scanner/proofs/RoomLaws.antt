-- What stands in the rooms after a scan: token i in row i, and the places of the words. For those who read the rooms.
use Prim.Native.Nat.{ℕ, zero, suc, ◌+◌, ◌*◌, ◌<◌, ◌≤◌}
use mathlib.Core.Path.{◌≡◌, refl, sym, ap, ◌∙◌}
use mathlib.Core.List.{List, [], ◌∷◌}
use native.Mathlib.Nat.{add-zero, zero-add}
use native.Mathlib.Numerals.{add-one, add-two, add-three}
use native.Mathlib.Omega.{arith}
use lib.ListN.{length, get_or, set, take, drop, length-set}
use lib.Seq.{sets, length-sets, get_or-set_same, get_or-set_other}
use Rattle.grammar.specs.Table.{Lexicon}
use Rattle.tokens.specs.declared.Token.{Token}
use Rattle.tokens.specs.Scan.{Lexed, with_token, is_new, words_with, scan}
use Rattle.tokens.specs.Tokens.{token, end_token, most_tokens}
use Rattle.scanner.specs.Rooms.{row_then, token_rows, row_of, tokens_from, tokens_in, place_then, count_with, word_places, words_from, words_in}
use Rattle.scanner.proofs.StoreLaws.{words_stored}
use Rattle.lexicon.proofs.PlaceLaws.{words_length}
use Rattle.scanner.proofs.ScanLoop.{fill_rows, fill_places, count_grows}
use Rattle.tokens.proofs.TokenLaws.{Kept, scan_kept}

-- ------------------------------------------------------------------ tokens

-- stores behind an index leave it
sets_front : (vs room : List ℕ) (place before : ℕ) → before < place → get_or (sets room place vs) before 0 ≡ get_or room before 0
sets_front [] room place before h = refl
sets_front (v ∷ vs) room place before h =
    sets_front vs (set room place v) (suc place) before (omega arith) ∙ get_or-set_other room place before v 0 (λ e. omega (arith, e))

row_front : (vs room : List ℕ) (place row : ℕ) → row * 4 + 4 ≤ place → row_of (sets room place vs) row ≡ row_of room row
row_front vs room place row h =
    rw (
      sets_front vs room place (row * 4) (omega arith),
      sets_front vs room place (row * 4 + 1) (omega arith),
      sets_front vs room place (row * 4 + 2) (omega arith),
      sets_front vs room place (row * 4 + 3) (omega arith),
    )
    refl

sets_at : (vs room : List ℕ) (place value : ℕ) → place < length room → get_or (sets room place (value ∷ vs)) place 0 ≡ value
sets_at vs room place value h = sets_front vs (set room place value) (suc place) place (omega arith) ∙ get_or-set_same room place value 0 h

-- the row that is stored
four_stored : (room : List ℕ) (place first second third fourth : ℕ) → place + 4 ≤ length room
    → token (get_or (sets room place (first ∷ second ∷ third ∷ fourth ∷ [])) place 0)
    (get_or (sets room place (first ∷ second ∷ third ∷ fourth ∷ [])) (place + 1) 0) (get_or (sets room place (first ∷ second ∷ third ∷ fourth ∷ [])) (place + 2) 0)
    (get_or (sets room place (first ∷ second ∷ third ∷ fourth ∷ [])) (place + 3) 0)
    ≡ token first second third fourth
four_stored room place first second third fourth h =
    let l₁ : length (set room place first) ≡ length room = length-set room place first in
    let l₂ : length (set (set room place first) (suc place) second) ≡ length (set room place first) = length-set (set room place first) (suc place) second in
    let l₃ : length (set (set (set room place first) (suc place) second) (suc (suc place)) third) ≡ length (set (set room place first) (suc place) second)
    = length-set (set (set room place first) (suc place) second) (suc (suc place)) third in
    rw (
      add-one place,
      add-two place,
      add-three place,
      sets_at (second ∷ third ∷ fourth ∷ []) room place first (omega arith),
      sets_at (third ∷ fourth ∷ []) (set room place first) (suc place) second (omega arith),
      sets_at (fourth ∷ []) (set (set room place first) (suc place) second) (suc (suc place)) third (omega arith),
      sets_at [] (set (set (set room place first) (suc place) second) (suc (suc place)) third) (suc (suc (suc place))) fourth (omega arith),
    )
    refl

row_stored : (room : List ℕ) (row : ℕ) (read_token : Token) → row * 4 + 4 ≤ length room → row_of (sets room (row * 4) (row_then read_token [])) row ≡ read_token
row_stored room row read_token h = four_stored room (row * 4) read_token.kind read_token.at read_token.size read_token.value h

-- Token `index` of those that are stored from row `start` on stands in row `start` + `index`.
pub row_at : (ts : List Token) (room : List ℕ) (start index : ℕ) (default : Token) → index < length ts → (start + length ts) * 4 ≤ length room
    → row_of (sets room (start * 4) (token_rows ts)) (start + index) ≡ get_or ts index default
row_at [] room start index default h k = absurd (omega arith)
row_at (t ∷ ts) room start zero default h k =
    let z : start + 0 ≡ start = omega arith in
    cc (
      fill_rows start room t ts,
      row_front (token_rows ts) (sets room (start * 4) (row_then t [])) ((start + 1) * 4) start (omega arith),
      row_stored room start t (omega arith),
    )
row_at (t ∷ ts) room start (suc index) default h k =
    let z : start + suc index ≡ start + 1 + index = omega arith in
    cc (
      fill_rows start room t ts,
      row_at ts (sets room (start * 4) (row_then t [])) (start + 1) index default (omega arith) (omega (arith, length-sets room (start * 4) (row_then t []))),
    )

-- the tokens of a room, row by row
tokens_by_row : (ts : List Token) (room : List ℕ) (start : ℕ) → ((index : ℕ) → index < length ts → row_of room (start + index) ≡ get_or ts index end_token)
    → tokens_from (length ts) room start ≡ ts
unfolding tokens_from
tokens_by_row [] room start h = refl
tokens_by_row (t ∷ ts) room start h =
    cc (
      add-zero start,
      h 0 (omega arith),
      tokens_by_row ts room (start + 1) (λ i l. let z : start + 1 + i ≡ start + suc i = omega arith in ap (row_of room) z ∙ h (suc i) (omega arith)),
    )

-- The tokens that are stored are those that the room holds.
pub tokens_stored : (ts : List Token) (room : List ℕ) → length ts * 4 ≤ length room → tokens_in (sets room 0 (token_rows ts)) (length ts) ≡ ts
tokens_stored ts room h =
    tokens_by_row ts (sets room 0 (token_rows ts)) 0 (λ i l. row_at ts room 0 i end_token l (omega arith))

module _ (room : List ℕ) where
  token_from : (count start at : ℕ) → at < count → get_or (tokens_from count room start) at end_token ≡ row_of room (start + at)
  unfolding tokens_from
  token_from zero start at h = absurd (omega arith)
  token_from (suc count) start zero h = ap (row_of room) (sym (add-zero start))
  token_from (suc count) start (suc at) h =
      let z : start + 1 + at ≡ start + suc at = omega arith in
      token_from count (start + 1) at (omega arith) ∙ ap (row_of room) z

  past_from : (count start at : ℕ) → count ≤ at → get_or (tokens_from count room start) at end_token ≡ end_token
  unfolding tokens_from
  past_from zero start at h = refl
  past_from (suc count) start zero h = absurd (omega arith)
  past_from (suc count) start (suc at) h = past_from count (start + 1) at (omega arith)

  -- a token that a room holds, and the end of the tokens
  pub token_in : (count at : ℕ) → at < count → row_of room at ≡ get_or (tokens_in room count) at end_token
  token_in count at h = ap (row_of room) (sym (zero-add at)) ∙ sym (token_from count 0 at h)

  -- past the tokens of a room there is the end
  pub token_past : (count at : ℕ) → count ≤ at → end_token ≡ get_or (tokens_in room count) at end_token
  token_past count at h = sym (past_from count 0 at h)

-- ------------------------------------------------------------------ words

module _ (lex : Lexicon) (few : length lex.outsides ≤ 64) (formula : List ℕ) where
  NamedFrom : ℕ → ℕ → List (List ℕ) → Lexed → Type 0
  NamedFrom at n words l =
      (room : List ℕ) (count : ℕ) → ((m : ℕ) → m ≤ length formula → m ≤ most_tokens → m * 2 ≤ length room) → n ≤ at → count ≤ n
      → words_in formula room count ≡ words
      → words_in formula (sets room (count * 2) (word_places count l.tokens)) (length l.words) ≡ l.words

  named_none : (room : List ℕ) (count : ℕ) (words : List (List ℕ)) → words_in formula room count ≡ words
      → words_in formula (sets room (count * 2) (word_places count [])) (length words) ≡ words
  unfolding word_places
  named_none room count words e =
      let z : length words ≡ count = sym (ap length e) ∙ words_length count formula room 0 in
      ap (words_in formula room) z ∙ e

  named_token : (at before : ℕ) (words : List (List ℕ)) (read_token : Token) (lexed : Lexed) → at < length formula → before < most_tokens → 0 < read_token.size
      → read_token.at ≡ at
      → NamedFrom (at + read_token.size) (before + 1) (words_with words (take read_token.size (drop at formula)) read_token) lexed
      → NamedFrom at before words (with_token read_token lexed)
  unfolding NamedFrom
  named_token at before words read_token lexed h m some a p room count long later fewer e =
      let room₁ : List ℕ = sets room (count * 2) (place_then count read_token []) in
      let w : words_in formula room₁ (count_with count read_token) ≡ words_with words (take read_token.size (drop at formula)) read_token
      = cc (words_stored formula room count read_token (omega (arith, long (before + 1) (omega arith) (omega arith)))) in
      cc (
        fill_places count room read_token lexed.tokens,
        p room₁ (count_with count read_token) (λ j b d. omega (arith, long j b d, length-sets room (count * 2) (place_then count read_token []))) (omega arith)
            (omega (arith, count_grows count read_token (is_new count read_token) refl)) w,
      )

  named_kept : Kept lex formula NamedFrom
  unfolding NamedFrom
  named_kept =
      record {
        ends = λ n words h room count long later fewer e. named_none room count words e;
        stops = λ at n words r h room count long later fewer e. named_none room count words e;
        skips = λ at n words l h s p room count long later. p room count long (omega arith);
        emits = λ at n words t l h m told inside p. named_token at n words t l h m inside.0 told.placed p;
      }

  -- The places that a scan stores name its words in the formula.
  pub words_named : (room : List ℕ) → ((many : ℕ) → many ≤ length formula → many ≤ most_tokens → many * 2 ≤ length room)
      → words_in formula (sets room 0 (word_places 0 (scan lex formula).tokens)) (length (scan lex formula).words) ≡ (scan lex formula).words
  unfolding NamedFrom words_from
  words_named room long = scan_kept lex few formula NamedFrom named_kept room 0 long (omega arith) (omega arith) refl
