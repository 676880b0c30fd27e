-- Laws of the writers of a room: the loop that begins it, and an entry laid in front of others.
use Prim.Native.Nat.{ℕ, suc, ◌+◌, ◌*◌, ◌-◌, ◌/◌, ◌%◌, ◌<◌, ◌≤◌}
use mathlib.Core.Path.{◌≡◌, refl, sym, ap, ◌∙◌}
use mathlib.Core.Bool.{Bool, true, false}
use mathlib.Core.List.{List, [], ◌∷◌, ◌++◌, append_assoc}
use native.Mathlib.Decide.{ℕ_discrete, dec_lt}
use native.Mathlib.Nat.{add-zero}
use native.Mathlib.Omega.{arith}
use lib.ListN.{length, get_or, set, drop, length-append, length-set, length-drop, get_or-append}
use lib.Seq.{drop-cons, get_or-append-add, get_or-set_same, get_or-set_other, get_or-drop, drop-set-lt, drop-length, drop-append-add, drop-drop}
use borrow.Author.Tests.{eq-eqb, ne_eqb}
use Rattle.grammar.specs.Limits.{most}
use Rattle.productions.specs.Room.{Entry, no_entry, places_number, flag_number, link_number, place_from, is_of, is_nullable_of, entry_numbers, room_of}
use Rattle.productions.specs.Room.{overwritten, values_of, begun, laid, RoomAndSets, RoomAt}
use Rattle.productions.specs.Room.{sets_at, places_at, productions_at, links_at, room_size, place_base, start_base, nullable_base, patterns_base, no_places}
use Rattle.productions.proofs.RoomLaws.{length-values, length_room, place_small, entry_first, entry_link, length-entries, first_part}
use Rattle.productions.proofs.RoomLaws.{second_part, length_parts, parts_are}

-- ------------------------------------------------------------------ the room is begun

-- the first sets before number `nonterminal` are written, and the nonterminals before it have no place
pub record Beginning (kinds : ℕ) (sets room₀ : List ℕ) (nonterminal : ℕ) (room : List ℕ) : Type 0 where
  -- `nonterminal` is a nonterminal or the end
  pub small : nonterminal ≤ most.nonterminals
  -- the room has its size
  pub size : length room ≡ room_size
  -- so had the room before
  pub many : length room₀ ≡ room_size
  -- there is a first set for each nonterminal
  pub sets_many : length sets ≡ most.nonterminals
  -- the kinds stand in front
  pub head : get_or room 0 0 ≡ kinds
  -- the sets written are those given
  pub set_in : (at_place : ℕ) → at_place < nonterminal → get_or room (sets_at + at_place) 0 ≡ get_or sets at_place 0
  -- a nonterminal has no production yet, and no nullable one
  pub place_in : (at_place : ℕ) → at_place < nonterminal → get_or room (places_at + at_place) 0 ≡ no_places
  -- the numbers behind are as before
  pub tail : (at_place : ℕ) → get_or room (productions_at + at_place) 0 ≡ get_or room₀ (productions_at + at_place) 0

-- the kinds are written first
pub beginning_start : (kinds : ℕ) (sets room : List ℕ) → RoomAndSets room sets → Beginning kinds sets (set room 0 kinds) 0 (set room 0 kinds)
beginning_start kinds sets room h =
    record {
      small = omega arith;
      size = length-set room 0 kinds ∙ h.size;
      many = length-set room 0 kinds ∙ h.size;
      sets_many = h.many;
      head = get_or-set_same room 0 kinds 0 (omega (arith, h.size));
      set_in = λ i l. absurd (omega arith);
      place_in = λ i l. absurd (omega arith);
      tail = λ i. refl;
    }

module _ {kinds : ℕ} {sets room₀ : List ℕ} {nonterminal : ℕ} {room : List ℕ} (beginning : Beginning kinds sets room₀ nonterminal room) where
  module _ (under : nonterminal < most.nonterminals) where
    untouched : (at_place : ℕ) → (at_place ≡ 1 + nonterminal → ⊥) → (at_place ≡ places_at + nonterminal → ⊥)
        → get_or (set (set room (sets_at + nonterminal) (get_or sets nonterminal 0)) (places_at + nonterminal) no_places) at_place 0 ≡ get_or room at_place 0
    untouched at_place a b =
        get_or-set_other (set room (sets_at + nonterminal) (get_or sets nonterminal 0)) (places_at + nonterminal) at_place no_places 0 b
        ∙ get_or-set_other room (sets_at + nonterminal) at_place (get_or sets nonterminal 0) 0 a

    set_next : (at_place : ℕ) → at_place < nonterminal + 1 → Dec (at_place ≡ nonterminal)
        → get_or (set (set room (sets_at + nonterminal) (get_or sets nonterminal 0)) (places_at + nonterminal) no_places) (sets_at + at_place) 0 ≡ get_or sets at_place 0
    set_next at_place l (yes e) =
        rw e
        (get_or-set_other (set room (sets_at + nonterminal) (get_or sets nonterminal 0)) (places_at + nonterminal) (sets_at + nonterminal) no_places 0
        (λ q. omega arith)
        ∙ get_or-set_same room (sets_at + nonterminal) (get_or sets nonterminal 0) 0 (omega (arith, beginning.size)))
    set_next at_place l (no e) = untouched (sets_at + at_place) (λ q. e (omega arith)) (λ q. omega arith) ∙ beginning.set_in at_place (omega (arith, below e l))
      where
        below : (at_place ≡ nonterminal → ⊥) → at_place < nonterminal + 1 → at_place < nonterminal
        below e l = omega arith

    place_next : (at_place : ℕ) → at_place < nonterminal + 1 → Dec (at_place ≡ nonterminal)
        → get_or (set (set room (sets_at + nonterminal) (get_or sets nonterminal 0)) (places_at + nonterminal) no_places) (places_at + at_place) 0 ≡ no_places
    place_next at_place l (yes e) =
        rw e
        (get_or-set_same (set room (sets_at + nonterminal) (get_or sets nonterminal 0)) (places_at + nonterminal) no_places 0
        (omega (arith, beginning.size, length-set room (sets_at + nonterminal) (get_or sets nonterminal 0))))
    place_next at_place l (no e) = untouched (places_at + at_place) (λ q. omega arith) (λ q. e (omega arith)) ∙ beginning.place_in at_place (below e l)
      where
        below : (at_place ≡ nonterminal → ⊥) → at_place < nonterminal + 1 → at_place < nonterminal
        below e l = omega arith

    -- two numbers for each nonterminal
    pub beginning_next : Beginning kinds sets room₀ (nonterminal + 1)
        (set (set room (sets_at + nonterminal) (get_or sets nonterminal 0)) (places_at + nonterminal) no_places)
    beginning_next =
        record {
          small = omega arith;
          size = length-set (set room (sets_at + nonterminal) (get_or sets nonterminal 0)) (places_at + nonterminal) no_places
              ∙ length-set room (sets_at + nonterminal)
              (get_or sets nonterminal 0) ∙ beginning.size;
          many = beginning.many;
          sets_many = beginning.sets_many;
          head = untouched 0 (λ q. omega arith) (λ q. omega arith) ∙ beginning.head;
          set_in = λ i l. set_next i l (ℕ_discrete i nonterminal);
          place_in = λ i l. place_next i l (ℕ_discrete i nonterminal);
          tail = λ i. untouched (productions_at + i) (λ q. omega arith) (λ q. omega arith) ∙ beginning.tail i;
        }

  begun_here : most.nonterminals ≤ nonterminal → room ≡ begun kinds sets room₀
  unfolding begun place_from
  begun_here h =
      parts_are kinds (λ i. get_or sets i 0) (places_number []) (drop productions_at room₀) room
      (omega (arith, beginning.size, beginning.many, length-drop productions_at room₀))
      beginning.head
      (λ i l. beginning.set_in i (omega arith)) (λ i l. beginning.place_in i (omega arith)) (λ i. beginning.tail i ∙ sym (get_or-drop productions_at room₀ i 0))

-- the kinds stand in front of what is kept
pub beginning_end : {kinds : ℕ} (sets room₀ : List ℕ) {nonterminal : ℕ} {room : List ℕ} → Beginning kinds sets (set room₀ 0 kinds) nonterminal room
    → most.nonterminals ≤ nonterminal → room ≡ begun kinds sets room₀
unfolding begun
beginning_end {kinds} sets room₀ c h = begun_here c h ∙ rw (drop-set-lt productions_at room₀ 0 kinds (omega arith)) refl

-- ------------------------------------------------------------------ an entry is laid

module _ (entry : Entry) (index : ℕ) {room : List ℕ} (at : RoomAt index entry.nonterminal room) where
  abbrev one : List ℕ
  one = set room (productions_at + 2 * index) entry.first

  abbrev linking : ℕ
  linking =
      entry.start + start_base * (get_or room (places_at + entry.nonterminal) 0 % place_base) + nullable_base * flag_number entry.nullable
      + patterns_base * entry.patterns

  abbrev two : List ℕ
  two = set one (links_at + 2 * index) linking

  abbrev number : ℕ
  number = index + place_base * (elim entry.nullable [ true ↦ index | false ↦ get_or room (places_at + entry.nonterminal) 0 / place_base ])

  -- the room stays as long
  pub length_laid : length (laid entry index room) ≡ room_size
  unfolding laid
  length_laid = length-set two (places_at + entry.nonterminal) number ∙ length-set one (links_at + 2 * index) _
      ∙ length-set room (productions_at + 2 * index) _ ∙ at.size

  -- other numbers stay
  pub laid_other : (at_place : ℕ) → (at_place ≡ productions_at + 2 * index → ⊥) → (at_place ≡ links_at + 2 * index → ⊥)
      → (at_place ≡ places_at + entry.nonterminal → ⊥)
      → get_or (laid entry index room) at_place 0 ≡ get_or room at_place 0
  unfolding laid
  laid_other at_place a b d =
      get_or-set_other two (places_at + entry.nonterminal) at_place number 0 d
      ∙ get_or-set_other one (links_at + 2 * index) at_place _ 0 b
      ∙ get_or-set_other room (productions_at + 2 * index) at_place entry.first 0 a

  -- the first set of the entry
  pub laid_first : get_or (laid entry index room) (productions_at + 2 * index) 0 ≡ entry.first
  unfolding laid
  laid_first =
      get_or-set_other two (places_at + entry.nonterminal) (productions_at + 2 * index) number 0 (λ q. omega (arith, at.small))
      ∙ get_or-set_other one (links_at + 2 * index) (productions_at + 2 * index) _ 0 (λ q. omega arith)
      ∙ get_or-set_same room (productions_at + 2 * index) entry.first 0 (omega (arith, at.size, at.near))

  -- its offset, link and flag
  pub laid_second : get_or (laid entry index room) (links_at + 2 * index) 0 ≡ linking
  unfolding laid
  laid_second =
      get_or-set_other two (places_at + entry.nonterminal) (links_at + 2 * index) number 0 (λ q. omega (arith, at.small))
      ∙ get_or-set_same one (links_at + 2 * index) _ 0 (omega (arith, at.size, at.near, length-set room (productions_at + 2 * index) entry.first))

  -- where the productions of its nonterminal are
  pub laid_own : get_or (laid entry index room) (places_at + entry.nonterminal) 0 ≡ number
  unfolding laid
  laid_own =
      get_or-set_same two (places_at + entry.nonterminal) number 0
      (omega (arith, at.size, at.small, length-set one (links_at + 2 * index) linking, length-set room (productions_at + 2 * index) entry.first))

-- An entry of a room for a formula has no patterns to add.
pub laid_plain : (owner start first : ℕ) (nullable : Bool) (index : ℕ) (room : List ℕ)
    → set
    (set (set room (productions_at + 2 * index) first) (links_at + 2 * index)
    (start + start_base * (get_or room (places_at + owner) 0 % place_base) + nullable_base * flag_number nullable))
    (places_at + owner)
    (index + place_base * (elim nullable [ true ↦ index | false ↦ get_or room (places_at + owner) 0 / place_base ]))
    ≡ laid (record { nonterminal = owner; start = start; first = first; nullable = nullable; patterns = 0 }) index room
unfolding laid
laid_plain owner start first nullable index room =
    rw (add-zero (start + start_base * (get_or room (places_at + owner) 0 % place_base) + nullable_base * flag_number nullable)) refl

-- ------------------------------------------------------------------ entries laid from the last to the first

-- The entries behind number `index` are laid. `es` has all of them.
pub record Filling (kinds : ℕ) (sets : List ℕ) (es : List Entry) (room₀ : List ℕ) (index : ℕ) (room : List ℕ) : Type 0 where
  -- `index` is at most the number of entries
  pub low : index ≤ length es
  -- there are at most 256 entries
  pub few : length es ≤ most.alternatives
  -- the room has its size
  pub size : length room ≡ room_size
  -- so had the room before
  pub old_size : length room₀ ≡ room_size
  -- the kinds stand in front
  pub head : get_or room 0 0 ≡ kinds
  -- each nonterminal has its first set
  pub set_in : (nonterminal : ℕ) → nonterminal < most.nonterminals → get_or room (sets_at + nonterminal) 0 ≡ get_or sets nonterminal 0
  -- each nonterminal has the places of its first and its nullable entry among those laid
  pub places : (nonterminal : ℕ) → nonterminal < most.nonterminals
      → get_or room (places_at + nonterminal) 0
      ≡ place_from (is_of nonterminal) (drop index es) index + place_base * place_from (is_nullable_of nonterminal) (drop index es) index
  -- each entry laid has its first set
  pub first : (at_place : ℕ) → index ≤ at_place → at_place < length es → get_or room (productions_at + 2 * at_place) 0 ≡ (get_or es at_place no_entry).first
  -- each entry laid has its offset, its next entry, its flag and what reads a variable first
  pub link : (at_place : ℕ) → index ≤ at_place → at_place < length es
      → get_or room (links_at + 2 * at_place) 0 ≡ link_number (get_or es at_place no_entry) (drop (at_place + 1) es) at_place
  -- the numbers behind all entries are as before
  pub tail : (at_place : ℕ) → productions_at + 2 * length es ≤ at_place → get_or room at_place 0 ≡ get_or room₀ at_place 0

-- begun: no entry is laid
pub filling_start : (kinds : ℕ) (sets : List ℕ) (es : List Entry) (room₀ : List ℕ) → length es ≤ most.alternatives → length room₀ ≡ room_size
    → Filling kinds sets es (begun kinds sets room₀) (length es) (begun kinds sets room₀)
unfolding begun place_from
filling_start kinds sets es room₀ few size =
    let whole : length (begun kinds sets room₀) ≡ room_size =
    length_parts kinds set_of (places_number []) (drop productions_at room₀) ∙ omega (arith, length-drop productions_at room₀) in
    record {
      low = omega arith;
      few = few;
      size = whole;
      old_size = whole;
      head = refl;
      set_in = first_part kinds set_of (places_number []) (drop productions_at room₀);
      places = λ n h. second_part kinds set_of (places_number []) (drop productions_at room₀) n h ∙ rw (drop-length es) refl;
      first = λ i l u. absurd (omega arith);
      link = λ i l u. absurd (omega arith);
      tail = λ i l. refl;
    }
  where
    set_of : ℕ → ℕ
    set_of n = get_or sets n 0

-- what lies behind the places of the nonterminals is kept
drop_begun : (kinds : ℕ) (sets room : List ℕ) (from : ℕ) → drop (productions_at + from) (begun kinds sets room) ≡ drop (productions_at + from) room
unfolding begun
drop_begun kinds sets room from =
    let z : productions_at + from ≡ suc (length A + (length B + from)) =
    omega (arith, length-values set_of most.nonterminals 0, length-values (places_number []) most.nonterminals 0) in
    rw z refl
    ∙ drop-append-add A (B ++ drop productions_at room) (length B + from)
    ∙ drop-append-add B (drop productions_at room) from
    ∙ drop-drop from productions_at room
  where
    set_of : ℕ → ℕ
    set_of n = get_or sets n 0

    A : List ℕ
    A = values_of set_of most.nonterminals 0

    B : List ℕ
    B = values_of (places_number []) most.nonterminals 0

place_cons : (test : Entry → Bool) (entry : Entry) (follow : List Entry) (from : ℕ) (answer : Bool) → test entry ≡ answer
    → place_from test (entry ∷ follow) from ≡ elim answer [ true ↦ from | false ↦ place_from test follow (from + 1) ]
unfolding place_from
place_cons test entry follow from answer h = rw (h, place_from) refl

module _ {kinds : ℕ} {sets : List ℕ} {es : List Entry} {room₀ : List ℕ} {index : ℕ} {room : List ℕ} (filling : Filling kinds sets es room₀ index room) where
  module _ (positive : 0 < index) {entry : Entry} (here : entry ≡ get_or es (index - 1) no_entry) (small : entry.nonterminal < most.nonterminals) where
    -- the entries behind number `index` are the old ones
    opened : drop (index - 1) es ≡ entry ∷ drop index es
    opened =
        let z : suc (index - 1) ≡ index = omega arith in
        drop-cons es (index - 1) no_entry (omega (arith, filling.low)) ∙ rw (sym here, z) refl

    later : (test : Entry → Bool) → place_from test (drop index es) (index - 1 + 1) ≡ place_from test (drop index es) index
    later test =
        let z : index - 1 + 1 ≡ index = omega arith in
        ap (place_from test (drop index es)) z

    old_place : (nonterminal : ℕ) → place_from (is_of nonterminal) (drop index es) index ≤ most.alternatives
    old_place nonterminal = place_small (is_of nonterminal) (drop index es) index (omega (arith, filling.low, filling.few, length-drop index es))

    place : (test : Entry → Bool) (answer : Bool) → test entry ≡ answer
        → place_from test (drop (index - 1) es) (index - 1) ≡ elim answer [ true ↦ index - 1 | false ↦ place_from test (drop index es) index ]
    place test true h = rw opened (place_cons test entry (drop index es) (index - 1) true h)
    place test false h = rw opened (place_cons test entry (drop index es) (index - 1) false h ∙ later test)

    at : RoomAt (index - 1) entry.nonterminal room
    at = record { size = filling.size; near = omega (arith, filling.low, filling.few); small = small }

    own_number : (test : Bool) → entry.nullable ≡ test
        → index - 1 + place_base * (elim entry.nullable [ true ↦ index - 1 | false ↦ get_or room (places_at + entry.nonterminal) 0 / place_base ])
        ≡ place_from (is_of entry.nonterminal) (drop (index - 1) es) (index - 1)
        + place_base * place_from (is_nullable_of entry.nonterminal) (drop (index - 1) es) (index - 1)
    own_number true h =
        rw (
          place (is_of entry.nonterminal) true (eq-eqb entry.nonterminal entry.nonterminal refl),
          place (is_nullable_of entry.nonterminal) true (rw (eq-eqb entry.nonterminal entry.nonterminal refl) h),
          h,
        ) refl
    own_number false h =
        let o : place_from (is_of entry.nonterminal) (drop (index - 1) es) (index - 1) ≡ index - 1 = place (is_of entry.nonterminal) true
        (eq-eqb entry.nonterminal entry.nonterminal refl) in
        let n : place_from (is_nullable_of entry.nonterminal) (drop (index - 1) es) (index - 1)
        ≡ place_from (is_nullable_of entry.nonterminal) (drop index es) index =
        place (is_nullable_of entry.nonterminal) false (rw (eq-eqb entry.nonterminal entry.nonterminal refl) h) in
        rw h (omega (arith, o, n, filling.places entry.nonterminal small, old_place entry.nonterminal))

    places_next : (nonterminal : ℕ) → nonterminal < most.nonterminals → Dec (entry.nonterminal ≡ nonterminal)
        → get_or (laid entry (index - 1) room) (places_at + nonterminal) 0
        ≡ place_from (is_of nonterminal) (drop (index - 1) es) (index - 1) + place_base * place_from (is_nullable_of nonterminal) (drop (index - 1) es) (index - 1)
    places_next nonterminal h (yes q) = rw (sym q) (laid_own entry (index - 1) at ∙ own_number entry.nullable refl)
    places_next nonterminal h (no q) =
        laid_other entry (index - 1) at (places_at + nonterminal) (λ r. omega arith) (λ r. omega arith) (λ r. q (omega arith))
        ∙ filling.places nonterminal h
        ∙ sym
        (rw (
          place (is_of nonterminal) false (ne_eqb entry.nonterminal nonterminal q),
          place (is_nullable_of nonterminal) false (rw (ne_eqb entry.nonterminal nonterminal q) refl),
        ) refl)

    first_next : (at_place : ℕ) → index - 1 ≤ at_place → at_place < length es → Dec (at_place ≡ index - 1)
        → get_or (laid entry (index - 1) room) (productions_at + 2 * at_place) 0 ≡ (get_or es at_place no_entry).first
    first_next at_place l u (yes q) = rw (q, sym here) (laid_first entry (index - 1) at)
    first_next at_place l u (no q) =
        laid_other entry (index - 1) at (productions_at + 2 * at_place) (λ r. q (omega arith)) (λ r. omega arith) (λ r. omega arith)
        ∙ filling.first at_place (apart q) u
      where
        apart : (at_place ≡ index - 1 → ⊥) → index ≤ at_place
        apart q = omega arith

    link_next : (at_place : ℕ) → index - 1 ≤ at_place → at_place < length es → Dec (at_place ≡ index - 1)
        → get_or (laid entry (index - 1) room) (links_at + 2 * at_place) 0 ≡ link_number (get_or es at_place no_entry) (drop (at_place + 1) es) at_place
    link_next at_place l u (yes q) =
        let z : index - 1 + 1 ≡ index = omega arith in
        let p : get_or room (places_at + entry.nonterminal) 0 % place_base ≡ place_from (is_of entry.nonterminal) (drop (index - 1 + 1) es) (index - 1 + 1) =
        rw z (omega (arith, filling.places entry.nonterminal small, old_place entry.nonterminal)) in
        rw (q, sym here) (laid_second entry (index - 1) at ∙ rw p refl)
    link_next at_place l u (no q) =
        laid_other entry (index - 1) at (links_at + 2 * at_place) (λ r. omega arith) (λ r. q (omega arith)) (λ r. omega arith)
        ∙ filling.link at_place (apart q) u
      where
        apart : (at_place ≡ index - 1 → ⊥) → index ≤ at_place
        apart q = omega arith

    -- one entry more, in front of the others
    pub filling_next : Filling kinds sets es room₀ (index - 1) (laid entry (index - 1) room)
    filling_next =
        record {
          low = omega (arith, filling.low);
          few = filling.few;
          size = length_laid entry (index - 1) at;
          old_size = filling.old_size;
          head = laid_other entry (index - 1) at 0 (λ r. omega arith) (λ r. omega arith) (λ r. omega arith) ∙ filling.head;
          set_in = λ n h. laid_other entry (index - 1) at (sets_at + n) (λ r. omega arith) (λ r. omega arith) (λ r. omega arith) ∙ filling.set_in n h;
          places = λ n h. places_next n h (ℕ_discrete entry.nonterminal n);
          first = λ i l u. first_next i l u (ℕ_discrete i (index - 1));
          link = λ i l u. link_next i l u (ℕ_discrete i (index - 1));
          tail = λ i l. laid_other entry (index - 1) at i (λ r. omega (arith, filling.low)) (λ r. omega (arith, filling.low)) (λ r. omega arith)
              ∙ filling.tail i l;
        }

  module _ (ended : index ≡ 0) where
    abbrev rest : List ℕ
    rest = drop (productions_at + 2 * length es) room₀

    number_in : (at_place : ℕ) → Dec (at_place < 2 * length es) → Dec (at_place % 2 ≡ 0)
        → get_or room (productions_at + at_place) 0 ≡ get_or (entry_numbers es 0 ++ rest) at_place 0
    number_in at_place (no l) d =
        let z : at_place ≡ length (entry_numbers es 0) + (at_place - 2 * length es) = omega (arith, length-entries es 0) in
        let y : productions_at + 2 * length es + (at_place - 2 * length es) ≡ productions_at + at_place = omega arith in
        cc (
          filling.tail (productions_at + at_place) (omega arith),
          get_or-append-add (entry_numbers es 0) rest (at_place - 2 * length es) 0,
          get_or-drop (productions_at + 2 * length es) room₀ (at_place - 2 * length es) 0,
        )
    number_in at_place (yes l) (yes d) =
        let z : at_place ≡ 2 * (at_place / 2) = omega arith in
        List-at l
        (cc (filling.first (at_place / 2) (omega arith) (omega arith), entry_first es 0 (at_place / 2) (omega arith)))
      where
        List-at : at_place < 2 * length es → get_or room (productions_at + at_place) 0 ≡ get_or (entry_numbers es 0) at_place 0
            → get_or room (productions_at + at_place) 0 ≡ get_or (entry_numbers es 0 ++ rest) at_place 0
        List-at l e = e ∙ sym (get_or-append (entry_numbers es 0) rest 0 at_place (omega (arith, length-entries es 0)))
    number_in at_place (yes l) (no d) =
        let z : at_place ≡ 2 * (at_place / 2) + 1 = omega arith in
        let y : productions_at + at_place ≡ links_at + 2 * (at_place / 2) = omega arith in
        let x : 0 + at_place / 2 ≡ at_place / 2 = omega arith in
        cc (
          filling.link (at_place / 2) (omega arith) (omega arith),
          entry_link es 0 (at_place / 2) (omega arith),
          get_or-append (entry_numbers es 0) rest 0 at_place (omega (arith, length-entries es 0)),
        )

    -- All entries, before what was there.
    pub filled : room ≡ room_of kinds sets es ++ drop (productions_at + 2 * length es) room₀
    unfolding room_of
    filled =
        parts_are kinds (λ n. get_or sets n 0) (places_number es) (entry_numbers es 0 ++ rest) room
        (filling.size
        ∙ omega (
          arith,
          filling.few,
          filling.old_size,
          length-append (entry_numbers es 0) rest,
          length-entries es 0,
          length-drop
              (productions_at + 2 * length es) room₀,
        ))
        filling.head
        filling.set_in
        (λ n h. rw ended at (filling.places n h))
        (λ i. number_in i (dec_lt i (2 * length es)) (ℕ_discrete (i % 2) 0))
        ∙ simp append_assoc

-- The entries of a room that was begun, before what was there.
pub filling_end : {kinds : ℕ} {sets : List ℕ} {es : List Entry} (room₀ : List ℕ) {index : ℕ} {room : List ℕ}
    → Filling kinds sets es (begun kinds sets room₀) index room → index ≡ 0 → room ≡ overwritten (room_of kinds sets es) room₀
filling_end {kinds} {sets} {es} room₀ c h =
    cc (filled c h, drop_begun kinds sets room₀ (2 * length es), length_room kinds sets es)
