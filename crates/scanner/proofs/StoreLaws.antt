-- Laws of the rooms: stores of a token and of a word's place, and the words after them.
use Prim.Native.Nat.{ℕ, ◌+◌, ◌*◌, ◌<◌}
use mathlib.Core.Path.{◌≡◌, refl, sym, ap, ◌∙◌}
use mathlib.Core.Bool.{Bool, true, false}
use mathlib.Core.List.{List, [], ◌∷◌, ◌++◌}
use native.Mathlib.Numerals.{add-one, add-two, add-three}
use lib.ListN.{length, set, take, drop}
use lib.Seq.{sets}
use Rattle.lexicon.proofs.PlaceLaws.{place_stored, words_length, words_added}
use Rattle.tokens.specs.declared.Token.{Token}
use Rattle.tokens.specs.Scan.{is_new, words_with}
use Rattle.scanner.specs.Rooms.{row_then, place_then, count_with, words_in}

-- ------------------------------------------------------------------ stores

-- four stores side by side are a token's row
pub token_stored : (room : List ℕ) (place : ℕ) (token : Token)
    → set (set (set (set room place token.kind) (place + 1) token.at) (place + 2) token.size) (place + 3) token.value
    ≡ sets room place (row_then token [])
token_stored room place token = rw (add-one, add-two, add-three) refl

module _ (room : List ℕ) (count : ℕ) (token : Token) where
  -- a new word's two stores are its place
  pub place_new : is_new count token ≡ true → set (set room (count * 2) token.at) (count * 2 + 1) token.size
      ≡ sets room (count * 2) (place_then count token [])
  place_new e =
      let p : place_then count token [] ≡ token.at ∷ token.size ∷ [] = rw (e, place_then) refl in
      place_stored room (count * 2) token.at token.size ∙ sym (ap (sets room (count * 2)) p)

  -- a token that is no new word stores no place
  pub place_old : is_new count token ≡ false → room ≡ sets room (count * 2) (place_then count token [])
  place_old e = let p : place_then count token [] ≡ [] = rw (e, place_then) refl in sym (ap (sets room (count * 2)) p)

  -- a new word is counted
  pub count_new : is_new count token ≡ true → count + 1 ≡ count_with count token
  count_new e = rw (e, count_with) refl

  -- a token that is no new word is not counted
  pub count_old : is_new count token ≡ false → count ≡ count_with count token
  count_old e = rw (e, count_with) refl

-- ------------------------------------------------------------------ the words after a store

words_by : (formula room : List ℕ) (count : ℕ) (token : Token) (new : Bool) → count * 2 + 1 < length room
    → words_in formula (sets room (count * 2) (elim new [ true ↦ token.at ∷ token.size ∷ [] | false ↦ [] ]))
    (elim new [ true ↦ count + 1 | false ↦ count ])
    ≡ elim new [ true ↦ words_in formula room count ++ (take token.size (drop token.at formula) ∷ []) | false ↦ words_in formula room count ]
words_by formula room count token true h = words_added formula room count token.at token.size h
words_by formula room count token false h = refl

-- the words after a token is stored
pub words_stored : (formula room : List ℕ) (count : ℕ) (token : Token) → count * 2 + 1 < length room
    → words_in formula (sets room (count * 2) (place_then count token [])) (count_with count token)
    ≡ words_with (words_in formula room count) (take token.size (drop token.at formula)) token
unfolding words_with
words_stored formula room count token h =
    words_by formula room count token (is_new count token) h
    ∙ ap
    (λ (k : ℕ).
    elim (is_new k token)
    [ true ↦ words_in formula room count ++ (take token.size (drop token.at formula) ∷ []) | false ↦ words_in formula room count ])
    (sym (words_length count formula room 0))
