-- Spellings by their places in a text: two numbers each, offset and length. Nobody needs this to believe `expand`.
use Rattle.std.specs.Prelude.{ℕ, zero, suc, ◌+◌, ◌*◌, List, [], ◌∷◌, get_or, take, drop}

-- the words that a room of places names in a text: word i, k of them from word i on, and the first
abbrev pub word_at : List ℕ → List ℕ → ℕ → List ℕ
word_at text room i = take (get_or room (i * 2 + 1) 0) (drop (get_or room (i * 2) 0) text)

unfoldable pub words_from : ℕ → List ℕ → List ℕ → ℕ → List (List ℕ)
words_from zero text room i = []
words_from (suc k) text room i = word_at text room i ∷ words_from k text room (i + 1)

abbrev pub words_in : List ℕ → List ℕ → ℕ → List (List ℕ)
words_in text room count = words_from count text room 0
