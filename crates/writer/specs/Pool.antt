-- The spellings of a table's outside names and of a formula's words, by their numbers in a room.
-- Nobody needs this to believe `expand`.
use Rattle.std.specs.Prelude.{ℕ, zero, suc, ◌+◌, ◌-◌, ◌*◌, ◌<◌, ◌≤◌, ◌≡◌, true, false, List, [], ◌∷◌, ltb, length, get_or, take, drop}
use Rattle.std.proofs.lemmas.List.Edits.{sets}
use Rattle.grammar.specs.Limits.{most}
use Rattle.grammar.specs.Lookup.{lexicon_of}
use Rattle.tokens.specs.Tokens.{most_tokens}
use Rattle.spellings.specs.Bytes.{longest_word}

-- the bytes of a spelling number in a room: the length of a spelling, and the longest spelling
abbrev pub spelling_room : ℕ
spelling_room = longest_word + 1

-- spellings as they lie in a room
unfoldable pub spell_in : List ℕ → ℕ → List ℕ
spell_in pool n = take (get_or pool (n * spelling_room) 0) (drop (n * spelling_room + 1) pool)

-- the spelling number of a formula's first word: those below are of outside names
abbrev pub first_word : ℕ
first_word = most.outsides

-- the word whose offset and length are the i-th two numbers of a room
abbrev pub spanned : List ℕ → List ℕ → ℕ → List ℕ
spanned formula room i = take (get_or room (i * 2 + 1) 0) (drop (get_or room (i * 2) 0) formula)

-- no spelling of a room is longer than a word may be
abbrev pub ShortSpellings : List ℕ → Type 0
ShortSpellings pool = (m : ℕ) → get_or pool (m * spelling_room) 0 < spelling_room

-- a room has the spelling S n at each number n
pub record Pooled (pool : List ℕ) (S : ℕ → List ℕ) : Type 0 where
  pub small : ShortSpellings pool
  pub spelled : (m : ℕ) → spell_in pool m ≡ S m

abbrev pub none_of : ℕ → List ℕ
none_of m = []

abbrev pub one_of : List (List ℕ) → ℕ → List ℕ
one_of vs m = get_or vs m []

-- a room with spellings stored at the numbers from i on: the length of each, then its bytes
unfoldable pub stored_from : List ℕ → ℕ → List (List ℕ) → List ℕ
stored_from pool i [] = pool
stored_from pool i (s ∷ ss) = stored_from (sets pool (i * spelling_room) (length s ∷ s)) (suc i) ss

-- so many words of a formula, from the i-th on
unfoldable pub words_from : List ℕ → List ℕ → ℕ → ℕ → List (List ℕ)
words_from formula room i zero = []
words_from formula room i (suc n) = spanned formula room i ∷ words_from formula room (suc i) n

-- a room with the outside names of a table stored, and a formula's words behind them
unfoldable pub filled : List ℕ → List ℕ → List ℕ → ℕ → List ℕ → List ℕ
filled table formula room count pool = stored_from (stored_from pool 0 (lexicon_of table).outsides) first_word (words_from formula room 0 count)

-- the words of a formula as a list
pub record Words (formula room : List ℕ) (count : ℕ) (words : List (List ℕ)) : Type 0 where
  pub many : length words ≡ count
  pub each : (i : ℕ) → i < count → get_or words i [] ≡ spanned formula room i

-- the spellings of the outside names and of the first i words, by their numbers
unfoldable pub filled_to : List (List ℕ) → List ℕ → List ℕ → ℕ → ℕ → List ℕ
filled_to outsides formula room i m =
    elim (ltb m first_word) [ true ↦ get_or outsides m [] | false ↦ elim (ltb (m - first_word) i) [ true ↦ spanned formula room (m - first_word) | false ↦ [] ] ]

-- the spelling of a spelling number, by a table, a formula and the places of its words
abbrev pub spelled_by : List ℕ → List ℕ → List ℕ → ℕ → ℕ → List ℕ
spelled_by table formula words count = filled_to (lexicon_of table).outsides formula words count

-- what filling a room asks: room for all spellings, each short enough, and the words' places
pub record Fillable (table formula words : List ℕ) (count : ℕ) (pool : List ℕ) : Type 0 where
  pub room : (first_word + count) * spelling_room ≤ length pool
  pub few : count ≤ most_tokens
  pub lie : count * 2 ≤ length words
  pub outsides_fit : (m : ℕ) → length (one_of (lexicon_of table).outsides m) < spelling_room
  pub words_fit : (j : ℕ) → j < count → length (spanned formula words j) < spelling_room
