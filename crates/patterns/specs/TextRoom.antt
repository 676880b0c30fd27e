-- What the functions that make a room one for a text ask, and what they read off it. These mirror code: nobody needs them to believe `expand`.
use Rattle.std.specs.Prelude.{ℕ, zero, suc, ◌+◌, ◌*◌, ◌<◌, ◌≤◌, ◌≡◌, List, length, get_or}
use Rattle.kinds.specs.Kinds.{only}
use Rattle.grammar.specs.Limits.{most}
use Rattle.grammar.specs.Lookup.{fields_at}
use Rattle.productions.specs.Index.{items_of, places_in, places_of}
use Rattle.productions.specs.Room.{nullable_in, room_size, links_at, patterns_base, patterns_most}
use Rattle.firsts.specs.FirstSets.{gather}
use Rattle.firsts.specs.Patterns.{pattern_of}
use Rattle.firsts.specs.Room.{HoldsGrammar, WholeIndex}
use Rattle.firsts.specs.SetCalls.{joined_if}

-- the nonterminals of those of the first j productions that the room has as nullable
unfoldable pub nulls_in : ℕ → List ℕ → List ℕ → ℕ
nulls_in zero owners room = 0
nulls_in (suc j) owners room = joined_if (nullable_in room j) (nulls_in j owners room) (only (get_or owners j 0))

-- what reads a variable first in the production with a number
abbrev pub pattern_at : List ℕ → List ℕ → ℕ → List ℕ → ℕ → ℕ
pattern_at bs starts nulls sets j = gather pattern_of nulls sets (items_of (fields_at bs (get_or starts j 0))) 0

-- a whole room, of whose first m productions no link has anything that reads a variable, and sets that fit a link
pub record MayAdd (m : ℕ) (sets room : List ℕ) : Type 0 where
  pub size : length room ≡ room_size
  pub few : m ≤ most.alternatives
  pub free : (j : ℕ) → j < m → get_or room (links_at + 2 * j) 0 < patterns_base
  pub small : (n : ℕ) → get_or sets n 0 < patterns_most

-- a room that holds the grammar of a table for a formula, with the index of its productions
pub record RoomAndIndex (bs : List ℕ) (m : ℕ) (owners starts room : List ℕ) : Type 0 where
  pub grammar : HoldsGrammar bs room
  pub index : WholeIndex bs m owners starts
  pub entries : places_in m owners starts ≡ places_of bs
