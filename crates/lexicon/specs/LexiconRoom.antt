-- The rooms that hold a table's keywords and outside names during a scan. Nobody needs these definitions to believe `scan`: its contract
-- does not cite them.
use Rattle.std.specs.Prelude.{ℕ, ◌+◌, ◌*◌, ◌^◌, ◌<◌, ◌≤◌, ◌≡◌, List, [], ◌∷◌, ◌++◌, length, get_or, take, drop, Some, None}
use Rattle.grammar.specs.Limits.{most}
use Rattle.grammar.specs.Variables.{most_variables}
use Rattle.grammar.specs.Table.{Lexicon}
use Rattle.grammar.specs.Lookup.{lexicon_of}
use Rattle.grammar.specs.Found.{found_in}
use Rattle.keywords.specs.KeptSpellings.{spellings_kept}
use Rattle.kinds.specs.Kinds.{keyword_kind, no_kind}
use Rattle.lexicon.specs.Places.{words_in}
use Rattle.lexicon.specs.Trees.{SearchTree}

-- the most spellings of a table, keywords and outside names
abbrev pub most_spellings : ℕ
most_spellings = most.keywords + most.outsides

-- one more than the largest byte of a symbol
abbrev pub symbol_end : ℕ
symbol_end = 128

-- where a room has the kinds of symbols, behind two numbers for each spelling; the number of keywords; the number of spellings; the number of variables, and
-- their sorts
abbrev pub symbols_at : ℕ
symbols_at = most_spellings * 2

abbrev pub keyword_count_at : ℕ
keyword_count_at = symbols_at + symbol_end

abbrev pub spelling_count_at : ℕ
spelling_count_at = keyword_count_at + 1

abbrev pub variable_count_at : ℕ
variable_count_at = spelling_count_at + 1

abbrev pub variables_at : ℕ
variables_at = variable_count_at + 1

abbrev pub lexicon_size : ℕ
lexicon_size = variables_at + most_variables

-- the trees of the spellings are one more than this
abbrev pub tree_mask : ℕ
tree_mask = 127

abbrev pub tree_size : ℕ
tree_size = tree_mask + 1 + most_spellings * 2

-- the numbers behind the places stay
abbrev pub SameBehind : List ℕ → List ℕ → Type 0
SameBehind room room' = (i : ℕ) → symbols_at ≤ i → get_or room' i 0 ≡ get_or room i 0

-- `count` spellings are entered
pub record Spelled (table room links : List ℕ) (count : ℕ) : Type 0 where
  pub long : length room ≡ lexicon_size
  pub wide : length links ≡ tree_size
  pub tree : SearchTree tree_mask (words_in table room count) links

-- `first` spellings are entered, and there is room for some more
pub record Enters (table room links : List ℕ) (first more : ℕ) : Type 0 where
  pub short : length table < 2 ^ 32
  pub enough : first + more ≤ most_spellings
  pub spelled : Spelled table room links first

-- these are entered
pub record SpellingsEntered (table room room' links' : List ℕ) (count : ℕ) (spellings : List (List ℕ)) : Type 0 where
  pub few : count ≤ most_spellings
  pub listed : words_in table room' count ≡ spellings
  pub spelled : Spelled table room' links' count
  pub behind : SameBehind room room'

-- the kind of a symbol by the keywords from keyword k on
unfoldable pub kind_from : ℕ → List (List ℕ) → List ℕ → ℕ
kind_from k spellings s = elim (found_in s spellings) [ Some j ↦ keyword_kind (k + j) | None ↦ no_kind ]

-- the symbol that is spelled s has the kind of keyword k, and the others stay
pub record Marked (room room' s : List ℕ) (k : ℕ) : Type 0 where
  pub this : (b : ℕ) → b < symbol_end → s ≡ b ∷ [] → get_or room' (symbols_at + b) 0 ≡ keyword_kind k
  pub others : (b : ℕ) → b < symbol_end → (s ≡ b ∷ [] → ⊥) → get_or room' (symbols_at + b) 0 ≡ get_or room (symbols_at + b) 0
  pub before : (i : ℕ) → i < symbols_at → get_or room' i 0 ≡ get_or room i 0
  pub same_length : length room' ≡ length room

-- each symbol has its kind by the spellings from spelling k on
abbrev pub Symbols : List (List ℕ) → ℕ → List ℕ → Type 0
Symbols spellings k room = (b : ℕ) → b < symbol_end → get_or room (symbols_at + b) 0 ≡ kind_from k (drop k spellings) (b ∷ [])

pub record SamePlaces (room room' : List ℕ) : Type 0 where
  pub same : (i : ℕ) → i < symbols_at → get_or room' i 0 ≡ get_or room i 0
  pub same_length : length room' ≡ length room

-- no symbol has a kind yet
abbrev pub Unmarked : List ℕ → Type 0
Unmarked room = (b : ℕ) → b < symbol_end → get_or room (symbols_at + b) 0 ≡ no_kind

-- nothing is entered yet
pub record Blank (room links : List ℕ) : Type 0 where
  pub long : length room ≡ lexicon_size
  pub wide : length links ≡ tree_size
  pub unmarked : Unmarked room
  pub unlinked : (i : ℕ) → get_or links i 0 ≡ 0

-- the keywords and outside names that any bytes begin with, where only keywords among some kinds count, with variables of some sorts
abbrev pub lexicon_by : ℕ → List ℕ → List ℕ → Lexicon
lexicon_by kinds sorts bs = record { keywords = spellings_kept kinds 0 (lexicon_of bs).keywords; outsides = (lexicon_of bs).outsides; variables = sorts }

-- the rooms hold the spellings of a lexicon, which stand in a table
pub record Lexical (lex : Lexicon) (table room links : List ℕ) : Type 0 where
  pub long : length room ≡ lexicon_size
  pub wide : length links ≡ tree_size
  pub few_keywords : length lex.keywords ≤ most.keywords
  pub few_outsides : length lex.outsides ≤ most.outsides
  pub keywords : get_or room keyword_count_at 0 ≡ length lex.keywords
  pub spellings : get_or room spelling_count_at 0 ≡ length lex.keywords + length lex.outsides
  pub spelled : words_in table room (get_or room spelling_count_at 0) ≡ lex.keywords ++ lex.outsides
  pub symbols : (b : ℕ) → b < symbol_end → get_or room (symbols_at + b) 0 ≡ kind_from 0 lex.keywords (b ∷ [])
  pub tree : SearchTree tree_mask (lex.keywords ++ lex.outsides) links

-- the sorts of variables that a room holds
abbrev pub sorts_in : List ℕ → List ℕ
sorts_in room = take (get_or room variable_count_at 0) (drop variables_at room)

-- they are no more than an alternative's, and each is a byte
pub record SortsFit (room : List ℕ) : Type 0 where
  pub few : get_or room variable_count_at 0 ≤ most_variables
  pub small : (n : ℕ) → n < get_or room variable_count_at 0 → get_or room (variables_at + n) 0 < 256

-- the sorts of variables are stored in a room, which is the same before them
pub record SortsEntered (sorts room room' : List ℕ) : Type 0 where
  pub before : (i : ℕ) → i < variable_count_at → get_or room' i 0 ≡ get_or room i 0
  pub counted : get_or room' variable_count_at 0 ≡ length sorts
  pub each : (n : ℕ) → n < length sorts → get_or room' (variables_at + n) 0 ≡ get_or sorts n 0
  pub small : (n : ℕ) → n < length sorts → get_or sorts n 0 < 256
  pub same_length : length room' ≡ length room

-- the lexicon that rooms hold: what a scan by these rooms goes by
abbrev pub lexicon_in : List ℕ → List ℕ → Lexicon
lexicon_in table room =
    record {
      keywords = take (get_or room keyword_count_at 0) (words_in table room (get_or room spelling_count_at 0));
      outsides = drop (get_or room keyword_count_at 0) (words_in table room (get_or room spelling_count_at 0));
      variables = sorts_in room;
    }

-- so the rooms hold the lexicon that they have
pub record LexicalIn (table room links : List ℕ) : Type 0 where
  pub held : Lexical (lexicon_in table room) table room links
  pub sorts_fit : SortsFit room
