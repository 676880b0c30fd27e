-- What the room of a table holds, for any bytes: the productions in it, with their first sets and nullability, and the kinds that are reached; for a
-- text (document 02, C-14) what reads a variable first in each, for a formula 0. The room mirrors code: nobody needs it to believe `expand`.
use Rattle.std.specs.Prelude.{ℕ, ◌≤◌, ◌≡◌, true, List, ◌++◌, map, length}
use Rattle.grammar.specs.Limits.{most}
use Rattle.grammar.specs.Lookup.{fields_at}
use Rattle.grammar.specs.Table.{Item}
use Rattle.decoding.specs.Within.{Each}
use Rattle.productions.specs.Normal.{Production}
use Rattle.productions.specs.Index.{items_of, Place, places_of, productions_at, root_in, whole_body, places_in, Whole}
use Rattle.productions.specs.Room.{Entry, room_of}
use Rattle.firsts.specs.FirstSets.{nullables, first_sets, all_nullable, opening_of, gather}
use Rattle.firsts.specs.Reach.{kinds_reached}

-- a production at a place, with the sets of its grammar and what `patterns` gives of its items
abbrev pub entry_for : (List Item → ℕ) → List ℕ → ℕ → List ℕ → Place → Entry
entry_for patterns bs nulls sets p =
    record {
      nonterminal = p.nonterminal;
      start = p.start;
      first = gather opening_of nulls sets (items_of (fields_at bs p.start)) 0;
      nullable = all_nullable nulls (items_of (fields_at bs p.start));
      patterns = patterns (items_of (fields_at bs p.start));
    }

-- for a formula
abbrev pub entry_at : List ℕ → ℕ → List ℕ → Place → Entry
entry_at bs nulls sets p = entry_for (λ is. 0) bs nulls sets p

abbrev pub room_by : List ℕ → List Place → ℕ → ℕ → List ℕ → List ℕ
room_by bs places kinds nulls sets = room_of kinds sets (map (entry_at bs nulls sets) places)

-- the productions of a table's bytes
abbrev pub productions_in : List ℕ → List Production
productions_in bs = productions_at bs (places_of bs)

-- the room of the productions at places, with the kinds that are reached from the table's root
abbrev pub grammar_room : List ℕ → List Place → List ℕ
grammar_room bs places =
    room_by bs places (kinds_reached (productions_at bs places) (root_in bs)) (nullables (productions_at bs places))
    (first_sets (nullables (productions_at bs places)) (productions_at bs places))

-- the room of a table's bytes
unfoldable pub table_room_for : (List Item → ℕ) → List ℕ → List ℕ
table_room_for patterns bs =
    room_of (kinds_reached (productions_in bs) (root_in bs)) (first_sets (nullables (productions_in bs)) (productions_in bs))
    (map (entry_for patterns bs (nullables (productions_in bs)) (first_sets (nullables (productions_in bs)) (productions_in bs))) (places_of bs))

-- for a formula
abbrev pub table_room : List ℕ → List ℕ
table_room bs = table_room_for (λ is. 0) bs

-- a room that holds the grammar of a table, each production a whole alternative
pub record HoldsFor (patterns : List Item → ℕ) (bs room : List ℕ) : Type 0 where
  pub small : length bs ≤ most.bytes
  pub few : length (places_of bs) ≤ most.alternatives
  pub rest : List ℕ
  pub held : room ≡ table_room_for patterns bs ++ rest
  pub whole : Each (λ (p : Place). whole_body (fields_at bs p.start) ≡ true) (places_of bs)

-- for a formula
abbrev pub HoldsGrammar : List ℕ → List ℕ → Type 0
HoldsGrammar bs room = HoldsFor (λ is. 0) bs room

-- ------------------------------------------------------------------ what the functions that read an index ask

-- an index of few productions, each a whole alternative of a table that is not too long
pub record WholeIndex (bs : List ℕ) (m : ℕ) (owners starts : List ℕ) : Type 0 where
  pub short : length bs ≤ most.bytes
  pub few : m ≤ most.alternatives
  pub whole : Each (Whole bs) (places_in m owners starts)
