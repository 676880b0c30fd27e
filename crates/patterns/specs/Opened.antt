-- What the items of a production give where the room of a grammar is filled. These mirror code: nobody needs them to believe `expand`.
use Rattle.std.specs.Prelude.{ℕ, List, []}
use Rattle.grammar.specs.SortTests.{is_sort}
use Rattle.grammar.specs.Table.{keyword, ide, number, place, Item, terminal, local, call}
use Rattle.firsts.specs.FirstSets.{is_nullable, all_nullable, opening_of, joined, gather}
use Rattle.firsts.specs.Patterns.{only_if, place_bit}
use Rattle.patterns.specs.declared.Opening.{Opening}

-- the pattern place that an item is
abbrev pub place_of : Item → ℕ
place_of (terminal (keyword k)) = 0
place_of (terminal (ide s)) = 0
place_of (terminal number) = 0
place_of (terminal (place s)) = only_if (is_sort s) (place_bit s)
place_of local = 0
place_of (call n ts) = 0

-- the pattern places among the items up to the first that is not nullable, with that one; what calls give is left out
abbrev pub places_first : ℕ → List Item → ℕ
places_first nulls is = gather place_of nulls [] is 0

-- what is found with an item behind what was found before it, and whether the item may read nothing
abbrev pub with_item : ℕ → List ℕ → Item → Opening → Opening
with_item nulls sets i found =
    record { kinds = joined opening_of sets i found.kinds; places = joined place_of [] i found.places; nullable = is_nullable nulls i }

-- what the items of a production give
abbrev pub opening_by : ℕ → List ℕ → List Item → Opening
opening_by nulls sets is = record { kinds = gather opening_of nulls sets is 0; places = places_first nulls is; nullable = all_nullable nulls is }
