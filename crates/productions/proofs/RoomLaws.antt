-- What each reader gives of the room of some entries, whatever stands behind it.
use Prim.Native.Nat.{ℕ, zero, suc, ◌+◌, ◌*◌, ◌-◌, ◌/◌, ◌%◌, ◌<◌, ◌≤◌}
use mathlib.Core.Path.{◌≡◌, refl, sym, ap, ◌∙◌}
use mathlib.Core.Bool.{Bool, true, false}
use mathlib.Core.List.{List, [], ◌∷◌, ◌++◌, append_assoc}
use native.Mathlib.Decide.{dec_lt}
use native.Mathlib.Omega.{arith}
use lib.Dec.{eqb}
use lib.ListN.{length, get_or, drop, length-append, length-drop, get_or-append}
use lib.Seq.{get_or-append-add, ext_get_or}
use Rattle.grammar.specs.Limits.{most}
use Rattle.productions.specs.Room.{Entry, no_entry, HoldsEntries, place_from, is_of, is_nullable_of, values_of, places_number, flag_number}
use Rattle.productions.specs.Room.{link_number, entry_numbers, room_of, first_set_in, first_place_in, nullable_place_in}
use Rattle.productions.specs.Room.{sets_at, places_at, productions_at, links_at, nullable_base}
use Rattle.productions.specs.Room.{kinds_in, first_in, start_in, next_place_in, nullable_in, patterns_in}

-- ------------------------------------------------------------------ values

-- as many values as were asked for
pub length-values : (first : ℕ → ℕ) (count from : ℕ) → length (values_of first count from) ≡ count
unfolding values_of
length-values first zero from = refl
length-values first (suc count) from = ap suc (length-values first count (from + 1))

-- value `place`
pub get_d_values : (first : ℕ → ℕ) (count from place : ℕ) → place < count → get_or (values_of first count from) place 0 ≡ first (from + place)
unfolding values_of
get_d_values first zero from place h = absurd (omega arith)
get_d_values first (suc count) from zero h = ap first (omega arith)
get_d_values first (suc count) from (suc place) h =
    let z : from + 1 + place ≡ from + suc place = omega arith in
    get_d_values first count (from + 1) place (omega arith) ∙ ap first z

-- ------------------------------------------------------------------ places

-- a place that is found is among the entries, one that is not is 256
pub place_small : (test : Entry → Bool) (es : List Entry) (place : ℕ) → place + length es ≤ most.alternatives → place_from test es place ≤ most.alternatives
unfolding place_from
place_small test [] place h = omega arith
place_small test (e ∷ es) place h = by (test e) (place_small test es (place + 1) (omega arith))
  where
    by : (answer : Bool) → place_from test es (place + 1) ≤ most.alternatives
        → (elim answer as (λ x. ℕ) [ true ↦ place | false ↦ place_from test es (place + 1) ]) ≤ most.alternatives
    by true l = omega arith
    by false l = l

-- ------------------------------------------------------------------ entries

-- the first number of an entry
pub entry_first : (es : List Entry) (start index : ℕ) → index < length es → get_or (entry_numbers es start) (2 * index) 0 ≡ (get_or es index no_entry).first
unfolding entry_numbers
entry_first [] start index h = absurd (omega arith)
entry_first (e ∷ es) start zero h = refl
entry_first (e ∷ es) start (suc index) h =
    let z : 2 * suc index ≡ suc (suc (2 * index)) = omega arith in
    rw z (entry_first es (start + 1) index (omega arith))

-- and its second
pub entry_link : (es : List Entry) (start index : ℕ) → index < length es
    → get_or (entry_numbers es start) (2 * index + 1) 0 ≡ link_number (get_or es index no_entry) (drop (index + 1) es) (start + index)
unfolding entry_numbers
entry_link [] start index h = absurd (omega arith)
entry_link (e ∷ es) start zero h = ap (link_number e es) (omega arith)
entry_link (e ∷ es) start (suc index) h =
    let z : 2 * suc index + 1 ≡ suc (suc (2 * index + 1)) = omega arith in
    let y : suc index + 1 ≡ suc (index + 1) = omega arith in
    let x : start + 1 + index ≡ start + suc index = omega arith in
    rw (z, y, ← x) (entry_link es (start + 1) index (omega arith))

-- two numbers an entry
pub length-entries : (es : List Entry) (start : ℕ) → length (entry_numbers es start) ≡ 2 * length es
unfolding entry_numbers
length-entries [] start = refl
length-entries (e ∷ es) start = omega (arith, length-entries es (start + 1))

-- ------------------------------------------------------------------ a room in four parts

module _ (total : ℕ) (first second : ℕ → ℕ) (tail : List ℕ) where
  -- a count, 64 values, 64 more, and the rest
  abbrev pub four_parts : List ℕ
  four_parts = total ∷ (values_of first most.nonterminals 0 ++ (values_of second most.nonterminals 0 ++ tail))

  -- behind the count
  behind_count : (place : ℕ)
      → get_or four_parts (1 + place) 0 ≡ get_or (values_of first most.nonterminals 0 ++ (values_of second most.nonterminals 0 ++ tail)) place 0
  behind_count place =
      let z : 1 + place ≡ suc place = omega arith in
      rw z refl

  -- behind the first values
  behind_first : (place : ℕ) → get_or four_parts (places_at + place) 0 ≡ get_or (values_of second most.nonterminals 0 ++ tail) place 0
  behind_first place =
      let z : places_at + place ≡ 1 + (length (values_of first most.nonterminals 0) + place) = omega (arith, length-values first most.nonterminals 0) in
      cc (
        behind_count (length (values_of first most.nonterminals 0) + place),
        get_or-append-add (values_of first most.nonterminals 0)
            (values_of second most.nonterminals 0 ++ tail) place 0,
      )

  -- the first 64
  pub first_part : (nonterminal : ℕ) → nonterminal < most.nonterminals → get_or four_parts (sets_at + nonterminal) 0 ≡ first nonterminal
  first_part nonterminal h =
      let y : 0 + nonterminal ≡ nonterminal = omega arith in
      behind_count nonterminal
      ∙ get_or-append (values_of first most.nonterminals 0) (values_of second most.nonterminals 0 ++ tail) 0 nonterminal
      (omega (arith, length-values first most.nonterminals 0))
      ∙ get_d_values first most.nonterminals 0 nonterminal h
      ∙ ap first y

  -- the others
  pub second_part : (nonterminal : ℕ) → nonterminal < most.nonterminals → get_or four_parts (places_at + nonterminal) 0 ≡ second nonterminal
  second_part nonterminal h =
      let y : 0 + nonterminal ≡ nonterminal = omega arith in
      behind_first nonterminal
      ∙ get_or-append (values_of second most.nonterminals 0) tail 0 nonterminal (omega (arith, length-values second most.nonterminals 0))
      ∙ get_d_values second most.nonterminals 0 nonterminal h
      ∙ ap second y

  -- and the rest
  pub last_part : (place : ℕ) → get_or four_parts (productions_at + place) 0 ≡ get_or tail place 0
  last_part place =
      let z : productions_at + place ≡ places_at + (length (values_of second most.nonterminals 0) + place) =
      omega (arith, length-values second most.nonterminals 0) in
      cc (behind_first (length (values_of second most.nonterminals 0) + place), get_or-append-add (values_of second most.nonterminals 0) tail place 0)

  -- the length of all
  pub length_parts : length four_parts ≡ productions_at + length tail
  length_parts =
      omega (
        arith,
        length-append (values_of first most.nonterminals 0) (values_of second most.nonterminals 0 ++ tail),
        length-append (values_of second most.nonterminals 0) tail,
        length-values first most.nonterminals 0,
        length-values second most.nonterminals 0,
      )

  -- A room is these parts if each of its numbers is.
  module _ (room : List ℕ) (many : length room ≡ productions_at + length tail) (head : get_or room 0 0 ≡ total)
      (firsts : (nonterminal : ℕ) → nonterminal < most.nonterminals → get_or room (sets_at + nonterminal) 0 ≡ first nonterminal)
      (seconds : (nonterminal : ℕ) → nonterminal < most.nonterminals → get_or room (places_at + nonterminal) 0 ≡ second nonterminal)
      (lasts : (place : ℕ) → get_or room (productions_at + place) 0 ≡ get_or tail place 0) where
    moved : (place count : ℕ) → place ≡ count → get_or room count 0 ≡ get_or four_parts count 0 → get_or room place 0 ≡ get_or four_parts place 0
    moved place count z e = rw z e

    same_number : (place : ℕ) → Dec (place < 1) → Dec (place < places_at) → Dec (place < productions_at) → get_or room place 0 ≡ get_or four_parts place 0
    same_number place (yes a) b d = moved place 0 (omega arith) head
    same_number place (no a) (yes b) d =
        moved place (1 + (place - 1)) (omega arith) (firsts (place - 1) (omega arith) ∙ sym (first_part (place - 1) (omega arith)))
    same_number place (no a) (no b) (yes d) =
        moved place (places_at + (place - places_at)) (omega arith) (seconds (place - places_at) (omega arith)
        ∙ sym (second_part (place - places_at) (omega arith)))
    same_number place (no a) (no b) (no d) =
        moved place (productions_at + (place - productions_at)) (omega arith) (lasts (place - productions_at) ∙ sym (last_part (place - productions_at)))

    -- a room with these numbers
    pub parts_are : room ≡ four_parts
    parts_are = ext_get_or 0 room four_parts (many ∙ sym length_parts) (λ i h. same_number i (dec_lt i 1) (dec_lt i places_at) (dec_lt i productions_at))

-- the length of a room
pub length_room : (kinds : ℕ) (sets : List ℕ) (es : List Entry) → length (room_of kinds sets es) ≡ productions_at + 2 * length es
unfolding room_of
length_room kinds sets es =
    length_parts kinds (λ n. get_or sets n 0) (places_number es) (entry_numbers es 0) ∙ rw (length-entries es 0) refl

-- ------------------------------------------------------------------ the numbers of a room

module _ {sets : List ℕ} {es : List Entry} {room : List ℕ} (holds_entries : HoldsEntries sets es room) where
  abbrev set_of : ℕ → ℕ
  set_of n = get_or sets n 0

  -- its parts in order
  parts : room ≡ four_parts holds_entries.kinds set_of (places_number es) (entry_numbers es 0 ++ holds_entries.rest)
  unfolding room_of
  parts = holds_entries.held ∙ simp append_assoc

  at_entries : (place : ℕ) → get_or room (productions_at + place) 0 ≡ get_or (entry_numbers es 0 ++ holds_entries.rest) place 0
  at_entries place = rw parts (last_part holds_entries.kinds set_of (places_number es) (entry_numbers es 0 ++ holds_entries.rest) place)

  -- The kinds that are reached.
  pub kinds_in_lem : kinds_in room ≡ holds_entries.kinds
  unfolding room_of
  kinds_in_lem = rw holds_entries.held refl

  -- ------------------------------------------------------------------ of a nonterminal

  module _ (nonterminal : ℕ) (small : nonterminal < most.nonterminals) where
    -- Its first set.
    pub first_set_in_lem : first_set_in room nonterminal ≡ get_or sets nonterminal 0
    first_set_in_lem =
        rw parts (first_part holds_entries.kinds set_of (places_number es) (entry_numbers es 0 ++ holds_entries.rest) nonterminal small)

    -- Where its productions are, in one number.
    pub places_in : get_or room (places_at + nonterminal) 0 ≡ places_number es nonterminal
    places_in =
        rw parts (second_part holds_entries.kinds set_of (places_number es) (entry_numbers es 0 ++ holds_entries.rest) nonterminal small)

    -- Where its first production is.
    pub first_place_in_lem : first_place_in room nonterminal ≡ place_from (is_of nonterminal) es 0
    first_place_in_lem =
        omega (arith, places_in, place_small (is_of nonterminal) es 0 (omega (arith, holds_entries.few)))

    -- Where its nullable production is.
    pub nullable_place_in_lem : nullable_place_in room nonterminal ≡ place_from (is_nullable_of nonterminal) es 0
    nullable_place_in_lem =
        omega (arith, places_in, place_small (is_of nonterminal) es 0 (omega (arith, holds_entries.few)))

  -- ------------------------------------------------------------------ of the production at a place

  module _ (place : ℕ) (inside : place < length es) where
    -- Its first set.
    pub first_in_lem : first_in room place ≡ (get_or es place no_entry).first
    first_in_lem =
        at_entries (2 * place)
        ∙ get_or-append (entry_numbers es 0) _ 0 (2 * place) (omega (arith, length-entries es 0))
        ∙ entry_first es 0 place inside

    -- Its offset, the next place, its nullability and what reads a variable first in it, in one number.
    pub link_in : get_or room (links_at + 2 * place) 0 ≡ link_number (get_or es place no_entry) (drop (place + 1) es) place
    link_in =
        let z : links_at + 2 * place ≡ productions_at + (2 * place + 1) = omega arith in
        let y : 0 + place ≡ place = omega arith in
        rw z (at_entries (2 * place + 1))
        ∙ get_or-append (entry_numbers es 0) holds_entries.rest 0 (2 * place + 1) (omega (arith, length-entries es 0))
        ∙ entry_link es 0 place inside
        ∙ ap (link_number (get_or es place no_entry) (drop (place + 1) es)) y

    -- The next place is one that there may be, or none.
    pub next_small : place_from (is_of (get_or es place no_entry).nonterminal) (drop (place + 1) es) (place + 1) ≤ most.alternatives
    next_small = place_small _ (drop (place + 1) es) (place + 1) (omega (arith, holds_entries.few, length-drop (place + 1) es))

    -- The offset of its first item, or of its result.
    pub start_in_lem : start_in room place ≡ (get_or es place no_entry).start
    start_in_lem = omega (arith, link_in, holds_entries.near place)

    -- Where the next production of its nonterminal is.
    pub next_place_in_lem : next_place_in room place ≡ place_from (is_of (get_or es place no_entry).nonterminal) (drop (place + 1) es) (place + 1)
    next_place_in_lem = omega (arith, link_in, holds_entries.near place, next_small)

    flag_test : (test : Bool) → eqb (flag_number test) 1 ≡ test
    flag_test true = refl
    flag_test false = refl

    flag_small : (test : Bool) → flag_number test < 2
    flag_small true = omega arith
    flag_small false = omega arith

    -- Whether it is nullable.
    pub nullable_in_lem : nullable_in room place ≡ (get_or es place no_entry).nullable
    nullable_in_lem =
        let z : link_number (get_or es place no_entry) (drop (place + 1) es) place / nullable_base % 2 ≡ flag_number (get_or es place no_entry).nullable =
        omega (arith, holds_entries.near place, next_small, flag_small (get_or es place no_entry).nullable) in
        rw (link_in, z) (flag_test (get_or es place no_entry).nullable)

    -- What reads a variable first in it.
    pub patterns_in_lem : patterns_in room place ≡ (get_or es place no_entry).patterns
    patterns_in_lem = omega (arith, link_in, holds_entries.near place, next_small, flag_small (get_or es place no_entry).nullable)
