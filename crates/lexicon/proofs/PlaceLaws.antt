-- Laws of the places of spellings: stores, and the spellings that a room of places names.
use Prim.Native.Nat.{ℕ, zero, suc, ◌+◌, ◌*◌, ◌<◌, ◌≤◌}
use mathlib.Core.Path.{◌≡◌, refl, sym, ap, ◌∙◌}
use mathlib.Core.Bool.{Bool}
use mathlib.Core.List.{List, [], ◌∷◌, ◌++◌}
use native.Mathlib.Nat.{add-zero}
use native.Mathlib.Numerals.{add-one}
use native.Mathlib.Omega.{arith}
use lib.ListN.{length, get_or, set, take, drop, length-set}
use lib.Seq.{sets, get_or-set_same, get_or-set_other}
use Rattle.spellings.specs.Bytes.{same}
use Rattle.lexicon.specs.Places.{word_at, words_from, words_in}

-- two stores side by side are one of two numbers
pub place_stored : (room : List ℕ) (place start size : ℕ) → set (set room place start) (place + 1) size ≡ sets room place (start ∷ size ∷ [])
place_stored room place start size = rw add-one refl

-- `count` places name `count` words
pub words_length : (count : ℕ) (formula room : List ℕ) (from : ℕ) → length (words_from count formula room from) ≡ count
unfolding words_from
words_length zero formula room from = refl
words_length (suc count) formula room from = ap suc (words_length count formula room (from + 1))

words_at : (count : ℕ) (formula room : List ℕ) (from index : ℕ) → index < count
    → get_or (words_from count formula room from) index [] ≡ take (get_or room ((from + index) * 2 + 1) 0) (drop (get_or room ((from + index) * 2) 0) formula)
unfolding words_from
words_at zero formula room from index h = absurd (omega arith)
words_at (suc count) formula room from zero h = rw add-zero refl
words_at (suc count) formula room from (suc index) h =
    let z : from + 1 + index ≡ from + suc index = omega arith in
    cc (words_at count formula room (from + 1) index (omega arith))

-- word `index` of the list is the one at place `index`
pub word_listed : (count : ℕ) (text room : List ℕ) (index : ℕ) → index < count → get_or (words_in text room count) index [] ≡ word_at text room index
word_listed count text room index h = let z : 0 + index ≡ index = omega arith in words_at count text room 0 index h ∙ ap (word_at text room) z

-- a word as the code reads it
pub word_read : (text room sought : List ℕ) (place : ℕ) {at size : ℕ} {word : List ℕ} {test : Bool} → at ≡ get_or room (place * 2) 0
    → size ≡ get_or room (place * 2 + 1) 0 → word ≡ take size (drop at text)
    → test ≡ same word sought
    → test ≡ same (word_at text room place) sought
word_read text room sought place ea es ev eb = eb ∙ ap (λ (w : List ℕ). same w sought) (ev ∙ rw (ea, es) refl)

-- word `place` as the code compares it
pub word_same : (formula room sought : List ℕ) (count place : ℕ) {at size : ℕ} {test : Bool} → place < count → at ≡ get_or room (place * 2) 0
    → size ≡ get_or room (place * 2 + 1) 0
    → same (take size (drop at formula)) sought ≡ test
    → same (get_or (words_in formula room count) place []) sought ≡ test
word_same formula room sought count place h a n e =
    let z : 0 + place ≡ place = omega arith in
    ap (λ (v : List ℕ). same v sought)
    (words_at count formula room 0 place h
    ∙ ap (λ (j : ℕ). take (get_or room (j * 2 + 1) 0) (drop (get_or room (j * 2) 0) formula)) z)
    ∙ rw (← a, ← n) e

-- one word more at the end
words_snoc : (count : ℕ) (formula room : List ℕ) (from : ℕ)
    → words_from (suc count) formula room from
    ≡ words_from count formula room from ++ (take (get_or room ((from + count) * 2 + 1) 0) (drop (get_or room ((from + count) * 2) 0) formula) ∷ [])
unfolding words_from
words_snoc zero formula room from = rw add-zero refl
words_snoc (suc count) formula room from =
    let z : from + 1 + count ≡ from + suc count = omega arith in
    cc (words_snoc count formula room (from + 1))

-- a store behind the words leaves them
words_same : (count : ℕ) (formula room : List ℕ) (from behind stored : ℕ) → (from + count) * 2 ≤ behind
    → words_from count formula (set room behind stored) from ≡ words_from count formula room from
unfolding words_from
words_same zero formula room from behind stored h = refl
words_same (suc count) formula room from behind stored h =
    let a : get_or (set room behind stored) (from * 2 + 1) 0 ≡ get_or room (from * 2 + 1) 0 = get_or-set_other room behind (from * 2 + 1) stored 0 (omega arith) in
    let b : get_or (set room behind stored) (from * 2) 0 ≡ get_or room (from * 2) 0 = get_or-set_other room behind (from * 2) stored 0 (omega arith) in
    rw (a, b, words_same count formula room (from + 1) behind stored (omega arith)) refl

-- rooms with the same places have the same words
pub words_alike : (count : ℕ) (text room room' : List ℕ) (from : ℕ) → ((index : ℕ) → index < (from + count) * 2 → get_or room' index 0 ≡ get_or room index 0)
    → words_from count text room' from ≡ words_from count text room from
unfolding words_from
words_alike zero text room room' from h = refl
words_alike (suc count) text room room' from h =
    rw (h (from * 2 + 1) (omega arith), h (from * 2) (omega arith), words_alike count text room room' (from + 1) (λ j l. h j (omega arith))) refl

-- the words after the place of one more is stored behind them
pub words_added : (formula room : List ℕ) (count at size : ℕ) → count * 2 + 1 < length room
    → words_in formula (sets room (count * 2) (at ∷ size ∷ [])) (count + 1)
    ≡ words_in formula room count ++ (take size (drop at formula) ∷ [])
words_added formula room count at size h =
    let room₁ : List ℕ = set room (count * 2) at in
    let room₂ : List ℕ = set room₁ (count * 2 + 1) size in
    let e : sets room (count * 2) (at ∷ size ∷ []) ≡ room₂ = sym (place_stored room (count * 2) at size) in
    let z : 0 + count ≡ count = omega arith in
    let a : get_or room₂ (count * 2) 0 ≡ at
    = get_or-set_other room₁ (count * 2 + 1) (count * 2) size 0 (omega arith)
    ∙ get_or-set_same room (count * 2) at 0 (omega arith) in
    let b : get_or room₂ (count * 2 + 1) 0 ≡ size
    = get_or-set_same room₁ (count * 2 + 1) size 0 (omega (arith, length-set room (count * 2) at)) in
    let w : words_from count formula room₂ 0 ≡ words_from count formula room 0
    = words_same count formula room₁ 0 (count * 2 + 1) size (omega arith)
    ∙ words_same count formula room 0 (count * 2) at (omega arith) in
    rw (e, add-one count, words_snoc count formula room₂ 0, z, a, b, w) refl
