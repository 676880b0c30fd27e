-- Nullable nonterminals, first sets (document 01's openings) and left calls, as 64-bit sets. Document 01, "Phrase table".
-- Each set is the least that its rules give: rounds over all productions, 64 of them, settle it.
use Rattle.std.specs.Prelude.{ℕ, zero, suc, Bool, true, false, ◌&&◌, List, [], ◌∷◌}
use lib.{ListN.get_or, ListN.set, ListN.replicate, Bits.bit_or}
use Rattle.kinds.specs.Kinds.{has_kind, only}
use Rattle.grammar.specs.Limits.{most}
use Rattle.grammar.specs.Table.{kind_of, Item, terminal, local, call}
use Rattle.productions.specs.Normal.{Production}

-- k rounds of f
unfoldable pub rounds : {A : Type 0} → ℕ → (A → A) → A → A
rounds zero f x = x
rounds (suc k) f x = rounds k f (f x)

-- one round: a step for each production, in order
unfoldable pub over_all : {A : Type 0} → (Production → A → A) → List Production → A → A
over_all f [] x = x
over_all f (p ∷ g) x = over_all f g (f p x)

-- an item that may read nothing: a local, or a call of a nullable nonterminal
abbrev pub is_nullable : ℕ → Item → Bool
is_nullable nulls (terminal t) = false
is_nullable nulls local = true
is_nullable nulls (call n ts) = has_kind nulls n

unfoldable pub all_nullable : ℕ → List Item → Bool
all_nullable nulls [] = true
all_nullable nulls (i ∷ is) = is_nullable nulls i && all_nullable nulls is

unfoldable pub null_step : Production → ℕ → ℕ
null_step p nulls = elim (all_nullable nulls p.items) [ true ↦ bit_or nulls (only p.nonterminal) | false ↦ nulls ]

-- the nullable nonterminals of a grammar, bit n for nonterminal n
unfoldable pub nullables : List Production → ℕ
nullables g = rounds most.nonterminals (over_all null_step g) 0

-- what an item gives by itself to a first set: the kind that it reads
abbrev pub opening_of : Item → ℕ
opening_of (terminal t) = only (kind_of t)
opening_of local = 0
opening_of (call n ts) = 0

-- to the left calls: the nonterminal that it calls
abbrev pub call_of : Item → ℕ
call_of (terminal t) = 0
call_of local = 0
call_of (call n ts) = only n

-- what a call gives through its nonterminal, whose sets are `sets`
abbrev pub through : List ℕ → Item → ℕ
through sets (terminal t) = 0
through sets local = 0
through sets (call n ts) = get_or sets n 0

-- found, what an item gives by itself, and what a call gives
abbrev pub joined : (Item → ℕ) → List ℕ → Item → ℕ → ℕ
joined own sets i found = bit_or (bit_or found (own i)) (through sets i)

-- what the items give up to the first that is not nullable, with that one, where `own` is what an item gives by itself
unfoldable pub gather : (Item → ℕ) → ℕ → List ℕ → List Item → ℕ → ℕ
gather own nulls sets [] found = found
gather own nulls sets (i ∷ is) found =
    elim (is_nullable nulls i) [ true ↦ gather own nulls sets is (joined own sets i found) | false ↦ joined own sets i found ]

unfoldable pub first_step : (Item → ℕ) → ℕ → Production → List ℕ → List ℕ
first_step own nulls p sets =
    set sets p.nonterminal (bit_or (get_or sets p.nonterminal 0) (gather own nulls sets p.items 0))

-- a set for each of the 64 nonterminals
unfoldable pub sets_of : (Item → ℕ) → ℕ → List Production → List ℕ
sets_of own nulls g = rounds most.nonterminals (over_all (first_step own nulls) g) (replicate most.nonterminals 0)

-- the first sets: bit 0 a word, bit 1 a number, bit k + 2 keyword k
abbrev pub first_sets : ℕ → List Production → List ℕ
first_sets nulls g = sets_of opening_of nulls g

-- the nonterminals that a nonterminal reaches by calls preceded only by nullable items
abbrev pub left_calls : ℕ → List Production → List ℕ
left_calls nulls g = sets_of call_of nulls g

-- the first set of one production
abbrev pub first_of : ℕ → List ℕ → Production → ℕ
first_of nulls firsts p = gather opening_of nulls firsts p.items 0
