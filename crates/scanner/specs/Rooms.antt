-- How a scan fills the rooms that are lent to it. Nobody needs this to believe `expand`, which leaves these rooms behind; `parser::parse` lends them
-- to its caller.
use Rattle.std.specs.Prelude.{ℕ, zero, suc, ◌+◌, ◌*◌, ◌^◌, ◌<◌, ◌≤◌, true, false, List, [], ◌∷◌, length, get_or}
use Rattle.std.proofs.lemmas.List.Edits.{sets}
use Rattle.tokens.specs.declared.Token.{Token}
use Rattle.tokens.specs.Scanned.{Scanned}
use Rattle.grammar.specs.Table.{Lexicon}
use Rattle.tokens.specs.Scan.{is_new, scan}
use Rattle.tokens.specs.Tokens.{token, most_tokens}
use Rattle.grammar.specs.Variables.{most_variables}
pub use Rattle.lexicon.specs.Places.{word_at, words_in}
unfoldable pub use Rattle.lexicon.specs.Places.{words_from}

-- ------------------------------------------------------------------ tokens and words as numbers

-- a token is four numbers
abbrev pub row_then : Token → List ℕ → List ℕ
row_then t follow = t.kind ∷ t.at ∷ t.size ∷ t.value ∷ follow

unfoldable pub token_rows : List Token → List ℕ
token_rows [] = []
token_rows (t ∷ ts) = row_then t (token_rows ts)

-- token i of a room, k tokens from token i on, and the first n
abbrev pub row_of : List ℕ → ℕ → Token
row_of room i = token (get_or room (i * 4) 0) (get_or room (i * 4 + 1) 0) (get_or room (i * 4 + 2) 0) (get_or room (i * 4 + 3) 0)

unfoldable pub tokens_from : ℕ → List ℕ → ℕ → List Token
tokens_from zero room i = []
tokens_from (suc k) room i = row_of room i ∷ tokens_from k room (i + 1)

abbrev pub tokens_in : List ℕ → ℕ → List Token
tokens_in room n = tokens_from n room 0

-- a word not met before is two numbers, its offset and its length; `count` words were met before this token
abbrev pub place_then : ℕ → Token → List ℕ → List ℕ
place_then count t follow = elim (is_new count t) [ true ↦ t.at ∷ t.size ∷ follow | false ↦ follow ]

-- how many words there are after it
abbrev pub count_with : ℕ → Token → ℕ
count_with count t = elim (is_new count t) [ true ↦ count + 1 | false ↦ count ]

unfoldable pub word_places : ℕ → List Token → List ℕ
word_places count [] = []
word_places count (t ∷ ts) = place_then count t (word_places (count_with count t) ts)

-- ------------------------------------------------------------------ how long the rooms are

-- There is room for as many tokens and words as the formula has bytes, up to 4,096.
pub record RoomFor (formula tokens words : List ℕ) : Type 0 where
  pub for_tokens : (n : ℕ) → n ≤ length formula → n ≤ most_tokens → n * 4 ≤ length tokens
  pub for_words : (n : ℕ) → n ≤ length formula → n ≤ most_tokens → n * 2 ≤ length words

-- What a scan asks of what it is given: the offsets of a table fit a number of a room, the variables are no more than an alternative's, and there is room.
pub record LentToScan (table sorts formula tokens words : List ℕ) : Type 0 where
  pub short : length table < 2 ^ 32
  pub few : length sorts ≤ most_variables
  pub room : RoomFor formula tokens words

-- What those who read n tokens off a room ask: they lie in it, they are at most 4,096, and each value leaves room for a name's class.
pub record TokensFit (room : List ℕ) (n : ℕ) : Type 0 where
  pub long : n * 4 ≤ length room
  pub few : n ≤ most_tokens
  pub values : (i : ℕ) → i < n → get_or room (i * 4 + 3) 0 < 2 ^ 30

-- ------------------------------------------------------------------ the rooms after a scan

-- an answer with what the two rooms then hold
pub data Filled : Type 0 where
  filled : Scanned → List ℕ → List ℕ → Filled

-- A scan's answer, its tokens stored in a room from the front, and the places of its words in another; what lies behind them
-- stays. `sets room i ns` is the room with the numbers ns stored from index i on.
unfoldable pub scan_into : Lexicon → List ℕ → List ℕ → List ℕ → Filled
scan_into lex formula tokens words =
    filled (scan lex formula).answer (sets tokens 0 (token_rows (scan lex formula).tokens))
    (sets words 0 (word_places 0 (scan lex formula).tokens))
