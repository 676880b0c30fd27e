-- The search for a clash by the links of a room: over the productions of each nonterminal, place by place. Where the room holds a grammar it is
-- the search over the productions themselves. These mirror code: nobody needs them to believe `expand`.
use Rattle.std.specs.Prelude.{ℕ, min, zero, suc, ◌-◌, ◌<◌, ◌≤◌, ◌≡◌, Bool, true, false, ◌&&◌, ◌||◌, List, [], ◌∷◌, ltb, get_or}
use Rattle.std.specs.Int.Bits.{bit_and, bit_or}
use Rattle.std.specs.Int.Count.{count_trailing_zeros}
use Rattle.answers.specs.Refusals.{refusal}
use Rattle.answers.specs.Checked.{Checked, ok, bad}
use Rattle.grammar.specs.Limits.{most}
use Rattle.kinds.specs.Kinds.{has_kind}
use Rattle.productions.specs.Room.{no_place, first_place_in, first_in, next_place_in, nullable_in}
use Rattle.clashes.specs.declared.Seen.{Seen}
use Rattle.clashes.specs.Openings.{lowest_of}
use Rattle.clashes.specs.CheckFirsts.{lowest, any_pair, join_pairs}

-- the place that the link at place i leads to; a link that does not lead on ends the search
abbrev pub after_in : List ℕ → ℕ → ℕ
after_in room i = elim (ltb i (next_place_in room i)) [ true ↦ next_place_in room i | false ↦ no_place ]

-- the places that are linked from place i on, k at most
unfoldable pub linked_from : ℕ → List ℕ → ℕ → List ℕ
linked_from zero room i = []
linked_from (suc k) room i = elim (ltb i no_place) [ true ↦ i ∷ linked_from k room (after_in room i) | false ↦ [] ]

abbrev pub linked : List ℕ → ℕ → List ℕ
linked room i = linked_from (no_place - i) room i

-- the kinds that two productions share
abbrev pub shared_in : List ℕ → ℕ → ℕ → ℕ
shared_in room i j = bit_and (first_in room i) (first_in room j)

-- two productions share a kind, or are both nullable
abbrev pub clash_in : List ℕ → ℕ → ℕ → Bool
clash_in room i j = ltb 0 (shared_in room i j) || (nullable_in room i && nullable_in room j)

-- what productions give together, with one more
abbrev pub seen_with : List ℕ → Seen → ℕ → Seen
seen_with room seen i = record { kinds = bit_or seen.kinds (first_in room i); nullable = seen.nullable || nullable_in room i }

-- a production clashes with what others give together
abbrev pub clash_seen : List ℕ → Seen → ℕ → Bool
clash_seen room seen i = ltb 0 (bit_and seen.kinds (first_in room i)) || (seen.nullable && nullable_in room i)

-- where a production's pairs are looked for: from the first place on if it clashes with what those before it give, else nowhere
abbrev pub other_from : List ℕ → ℕ → ℕ → Seen → ℕ
other_from room start i seen = elim (clash_seen room seen i) [ true ↦ start | false ↦ i ]

-- the nonterminals from `many` on have no production
pub record PlacesBelow (many : ℕ) (room : List ℕ) : Type 0 where
  pub small : many ≤ most.nonterminals
  pub none : (n : ℕ) → many ≤ n → n < most.nonterminals → first_place_in room n ≡ no_place

-- the lowest nonterminal below `many` of which two productions clash, `many` if there is none
abbrev pub clashing_below : ℕ → List ℕ → ℕ
clashing_below many room = lowest many (λ n. any_pair (clash_in room) (linked room (first_place_in room n))) 0

abbrev pub clashing_in : List ℕ → ℕ
clashing_in room = clashing_below most.nonterminals room

-- the lowest nonterminal below `many` that reaches itself by left calls, `many` if none does; `left_recursive` is that of all 64
abbrev pub recursive_below : ℕ → List ℕ → ℕ
recursive_below many calls = lowest many (λ n. has_kind (get_or calls n 0) n) 0

-- what any two productions of n share, together
abbrev pub all_shared_in : List ℕ → ℕ → ℕ
all_shared_in room n = join_pairs (shared_in room) (linked room (first_place_in room n)) 0

-- refusal 13, by the room
unfoldable pub no_clash_in : List ℕ → Checked (Unit {0})
no_clash_in room =
    let n : ℕ = clashing_in room in
    elim (ltb n most.nonterminals) [ true ↦ bad (refusal 13 n (count_trailing_zeros 64 (all_shared_in room n)) 0) | false ↦ ok tt ]

-- the same with the sorts of pattern places (document 02, C-14): the room `sorts` has them for the kinds, and no production in it is nullable
unfoldable pub no_clash_with : List ℕ → List ℕ → Checked (Unit {0})
no_clash_with room sorts =
    let n : ℕ = min (clashing_in room) (clashing_in sorts) in
    elim (ltb n most.nonterminals) [ true ↦ bad (refusal 13 n (lowest_of (all_shared_in room n) (all_shared_in sorts n)) 0) | false ↦ ok tt ]
