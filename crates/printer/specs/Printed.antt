-- The whole text of a term, by the numbers of new names at its places. Nobody needs this to believe `expand`.
use Rattle.std.specs.Prelude.{ℕ, ◌*◌, ◌<◌, ◌≤◌, ◌≡◌, List, length}
use Rattle.spellings.specs.Buffers.{written_into}
use Rattle.grammar.specs.Lookup.{lexicon_of}
use Rattle.tokens.specs.Tokens.{most_tokens}
use Rattle.terms.specs.Term.{largest_term}
use Rattle.terms.specs.Rows.{term_at}
use Rattle.terms.specs.Print.{print}
use Rattle.terms.specs.Labelled.{labelled}
use Rattle.rows.specs.Sizes.{size_at}
use Rattle.writer.specs.Pool.{spelling_room, one_of, spanned, ShortSpellings}

-- the text of the term at a row, by a number of a new name for each place
unfoldable pub text_by : (ℕ → List ℕ) → List ℕ → List ℕ → ℕ → ℕ → List ℕ
text_by spell cells numbers made root = print (labelled numbers 0 (term_at made spell cells root))

-- the answer is a text's length, and the text stands at the front of the buffer if it fits
pub record Prints (out text text' : List ℕ) (r : ℕ) : Type 0 where
  pub needed : r ≡ length out
  pub placed : text' ≡ written_into out text

-- what printing asks: few words, spellings that fit the room, and a number for each constructor of the term, not too many
pub record Printable (table formula words : List ℕ) (count : ℕ) (cells : List ℕ) (made root : ℕ) (numbers : List ℕ) : Type 0 where
  pub few : count ≤ most_tokens
  pub lie : count * 2 ≤ length words
  pub outsides_fit : (m : ℕ) → length (one_of (lexicon_of table).outsides m) < spelling_room
  pub words_fit : (j : ℕ) → j < count → length (spanned formula words j) < spelling_room
  pub marked : size_at cells made root ≤ length numbers
  pub small : length numbers ≤ largest_term

-- and with all spellings in a room
pub record PrintableBy (pool cells : List ℕ) (made root : ℕ) (numbers : List ℕ) : Type 0 where
  pub short : ShortSpellings pool
  pub marked : size_at cells made root ≤ length numbers
  pub small : length numbers ≤ largest_term
