-- How the grammar of a table lies in one lent room of 641 numbers. The room mirrors code: nobody needs it to believe `expand`.
--
--   0            the kinds that occur in the alternatives that the root reaches (document 02, C-13)
--   1 + n        the first set of nonterminal n
--   65 + n       the place of its first production, and 512 times that of its nullable one
--   129 + 2 j    the first set of production j
--   130 + 2 j    the offset of its first item, 2^16 times the place of the next production of its nonterminal, 2^25 if it is nullable, and 2^26 times
--                what reads a `$` variable first in it (document 02, C-14), which only the room for a text has
--
-- A place that is not there is 256.
use Rattle.std.specs.Prelude.{ℕ, zero, suc, ◌+◌, ◌*◌, ◌/◌, ◌%◌, ◌<◌, ◌≤◌, ◌≡◌, Bool, true, false, ◌&&◌, List, [], ◌∷◌, ◌++◌, eqb, length, get_or, set, drop}
use Rattle.grammar.specs.Limits.{most}

-- a production in the room: its nonterminal, the offset of its first item or result, its first set, whether it is nullable, and what reads a variable first
pub record Entry : Type 0 where
  pub nonterminal : ℕ
  pub start : ℕ
  pub first : ℕ
  pub nullable : Bool
  pub patterns : ℕ

-- where the room has the first sets of nonterminals, the places of their productions, and the first set and the link of each production
abbrev pub sets_at : ℕ
sets_at = 1

abbrev pub places_at : ℕ
places_at = sets_at + most.nonterminals

abbrev pub productions_at : ℕ
productions_at = places_at + most.nonterminals

abbrev pub links_at : ℕ
links_at = productions_at + 1

abbrev pub room_size : ℕ
room_size = productions_at + 2 * most.alternatives

-- places, with the one that is no production's, are below this, and offsets below the next
abbrev pub place_base : ℕ
place_base = 512

abbrev pub start_base : ℕ
start_base = 65536

abbrev pub nullable_base : ℕ
nullable_base = start_base * place_base

abbrev pub patterns_base : ℕ
patterns_base = nullable_base * 2

abbrev pub no_place : ℕ
no_place = most.alternatives

-- of a nonterminal that has neither a production nor a nullable one
abbrev pub no_places : ℕ
no_places = no_place + place_base * no_place

-- the place of the first entry that passes a test, where the entries stand from place j on
unfoldable pub place_from : (Entry → Bool) → List Entry → ℕ → ℕ
place_from test [] j = no_place
place_from test (e ∷ es) j = elim (test e) [ true ↦ j | false ↦ place_from test es (j + 1) ]

abbrev pub is_of : ℕ → Entry → Bool
is_of n e = eqb e.nonterminal n

abbrev pub is_nullable_of : ℕ → Entry → Bool
is_nullable_of n e = eqb e.nonterminal n && e.nullable

-- the values of f at k numbers from n on
unfoldable pub values_of : (ℕ → ℕ) → ℕ → ℕ → List ℕ
values_of f zero n = []
values_of f (suc k) n = f n ∷ values_of f k (n + 1)

-- where the productions of nonterminal n are
abbrev pub places_number : List Entry → ℕ → ℕ
places_number es n = place_from (is_of n) es 0 + place_base * place_from (is_nullable_of n) es 0

abbrev pub flag_number : Bool → ℕ
flag_number true = 1
flag_number false = 0

-- an entry at place j, before the entries es
abbrev pub link_number : Entry → List Entry → ℕ → ℕ
link_number e es j =
    e.start + start_base * place_from (is_of e.nonterminal) es (j + 1) + nullable_base * flag_number e.nullable + patterns_base * e.patterns

unfoldable pub entry_numbers : List Entry → ℕ → List ℕ
entry_numbers [] j = []
entry_numbers (e ∷ es) j = e.first ∷ link_number e es j ∷ entry_numbers es (j + 1)

-- the room of some entries, with the kinds that are reached and the first sets of the nonterminals
unfoldable pub room_of : ℕ → List ℕ → List Entry → List ℕ
room_of kinds sets es =
    kinds ∷ (values_of (λ n. get_or sets n 0) most.nonterminals 0 ++ (values_of (places_number es) most.nonterminals 0 ++ entry_numbers es 0))

-- numbers written at the front of a room
abbrev pub overwritten : List ℕ → List ℕ → List ℕ
overwritten new old = new ++ drop (length new) old

-- a room begun: the kinds, the first sets and no places
unfoldable pub begun : ℕ → List ℕ → List ℕ → List ℕ
begun kinds sets room =
    kinds ∷ (values_of (λ n. get_or sets n 0) most.nonterminals 0 ++ (values_of (places_number []) most.nonterminals 0 ++ drop productions_at room))

-- a whole room, with a first set for each nonterminal
pub record RoomAndSets (room sets : List ℕ) : Type 0 where
  pub size : length room ≡ room_size
  pub many : length sets ≡ most.nonterminals

-- a whole room, and a place that there may be, of a nonterminal
pub record RoomAt (j owner : ℕ) (room : List ℕ) : Type 0 where
  pub size : length room ≡ room_size
  pub near : j < most.alternatives
  pub small : owner < most.nonterminals

-- an entry laid at place j, in front of those behind it
unfoldable pub laid : Entry → ℕ → List ℕ → List ℕ
laid e j room =
    set
    (set (set room (productions_at + 2 * j) e.first) (links_at + 2 * j)
    (e.start + start_base * (get_or room (places_at + e.nonterminal) 0 % place_base) + nullable_base * flag_number e.nullable + patterns_base * e.patterns))
    (places_at + e.nonterminal)
    (j + place_base * (elim e.nullable [ true ↦ j | false ↦ get_or room (places_at + e.nonterminal) 0 / place_base ]))

-- what reads a variable first, by bits, is below this: bits 1 to 3 are ides, bits 8 to 14 pattern places (document 02, C-14)
abbrev pub patterns_most : ℕ
patterns_most = 32768

-- a whole room, a place that there may be, whose link has nothing that reads a variable, and what is to be added
pub record PatternsAt (j patterns : ℕ) (room : List ℕ) : Type 0 where
  pub size : length room ≡ room_size
  pub near : j < most.alternatives
  pub free : get_or room (links_at + 2 * j) 0 < patterns_base
  pub small : patterns < patterns_most

-- what reads a variable first in the production at place j, added to its link
abbrev pub patterned : ℕ → ℕ → List ℕ → List ℕ
patterned j patterns room = set room (links_at + 2 * j) (get_or room (links_at + 2 * j) 0 + patterns_base * patterns)

-- the links before place `index` have what `pattern` gives; all else is as before
pub record Patterned (pattern : ℕ → ℕ) (room₀ : List ℕ) (index : ℕ) (room : List ℕ) : Type 0 where
  -- the room has its size
  pub size : length room ≡ room_size
  -- a link that is past
  pub done : (place : ℕ) → place < index → get_or room (links_at + 2 * place) 0 ≡ get_or room₀ (links_at + 2 * place) 0 + patterns_base * pattern place
  -- any other number
  pub left : (at_place : ℕ) → ((place : ℕ) → place < index → at_place ≡ links_at + 2 * place → ⊥) → get_or room at_place 0 ≡ get_or room₀ at_place 0

-- what stands past the last entry
abbrev pub no_entry : Entry
no_entry = record { nonterminal = 0; start = 0; first = 0; nullable = false; patterns = 0 }

-- a room with some entries at its front, as many as there may be, each at an offset that fits
pub record HoldsEntries (sets : List ℕ) (es : List Entry) (room : List ℕ) : Type 0 where
  pub kinds : ℕ
  pub rest : List ℕ
  pub held : room ≡ room_of kinds sets es ++ rest
  pub few : length es ≤ most.alternatives
  pub near : (j : ℕ) → (get_or es j no_entry).start < start_base

-- ------------------------------------------------------------------ what is read off a room

abbrev pub kinds_in : List ℕ → ℕ
kinds_in room = get_or room 0 0

abbrev pub first_set_in : List ℕ → ℕ → ℕ
first_set_in room n = get_or room (sets_at + n) 0

abbrev pub first_place_in : List ℕ → ℕ → ℕ
first_place_in room n = get_or room (places_at + n) 0 % place_base

abbrev pub nullable_place_in : List ℕ → ℕ → ℕ
nullable_place_in room n = get_or room (places_at + n) 0 / place_base

abbrev pub first_in : List ℕ → ℕ → ℕ
first_in room j = get_or room (productions_at + 2 * j) 0

abbrev pub start_in : List ℕ → ℕ → ℕ
start_in room j = get_or room (links_at + 2 * j) 0 % start_base

abbrev pub next_place_in : List ℕ → ℕ → ℕ
next_place_in room j = get_or room (links_at + 2 * j) 0 / start_base % place_base

abbrev pub nullable_in : List ℕ → ℕ → Bool
nullable_in room j = eqb (get_or room (links_at + 2 * j) 0 / nullable_base % 2) 1

abbrev pub patterns_in : List ℕ → ℕ → ℕ
patterns_in room j = get_or room (links_at + 2 * j) 0 / patterns_base
