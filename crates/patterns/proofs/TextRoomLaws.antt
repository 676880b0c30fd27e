-- Laws of making a room one for a text: the nullable nonterminals that the room has, the links, and the room at the end.
use Prim.Native.Nat.{ℕ, zero, suc, ◌+◌, ◌*◌, ◌<◌, ◌≤◌}
use mathlib.Core.Path.{◌≡◌, refl, sym, ap, ◌∙◌}
use mathlib.Core.Bool.{Bool, true, false, false≢true}
use mathlib.Core.Logic.{⊎_elim}
use mathlib.Core.List.{List, ◌++◌, map}
use native.Mathlib.Decide.{ℕ_discrete}
use native.Mathlib.Omega.{arith}
use lib.Bits.{bit_or}
use lib.ListN.{length, get_or, drop, length-map}
use Rattle.spellings.proofs.BytesLaws.{by_test}
use Rattle.kinds.specs.Kinds.{has_kind, only}
use Rattle.kinds.proofs.KindsLaws.{has_none, has_join, has_own}
use Rattle.grammar.specs.Lookup.{fields_at}
use Rattle.decoding.specs.Within.{Each}
use Rattle.productions.specs.Normal.{Production}
use Rattle.productions.specs.Index.{items_of, Place, places_of, root_in, production_at, productions_by, Whole}
use Rattle.productions.specs.Room.{productions_at, room_of}
use Rattle.productions.specs.Room.{Entry, no_entry, HoldsEntries, nullable_in, room_size, links_at, patterns_base, patterned, Patterned, PatternsAt}
use Rattle.productions.proofs.IndexLaws.{place_at, map_at, place_among, among_place, length-places}
use Rattle.productions.proofs.RoomLaws.{kinds_in_lem, nullable_in_lem, link_in, next_small}
use Rattle.productions.proofs.RoomPatterns.{patterning_start, patterning_here, patterning_next, patterned_as, patterning_end}
use Rattle.firsts.specs.FirstSets.{all_nullable, nullables, gather}
use Rattle.firsts.specs.Patterns.{pattern_of, pattern_sets, patterns_in}
use Rattle.firsts.specs.Reach.{kinds_reached}
use Rattle.firsts.specs.Room.{entry_at, productions_in, table_room_for, HoldsFor}
use Rattle.firsts.specs.Rules.{Nullable}
use Rattle.firsts.specs.SetCalls.{joined_if}
use Rattle.firsts.proofs.EqualSets.{both_in}
use Rattle.firsts.proofs.FirstSetsExactly.{only_has}
use Rattle.firsts.proofs.NullablesExactly.{nullable_exactly, null_items_exactly}
use Rattle.firsts.proofs.Rounds.{or_left, or_right, or_split}
use Rattle.firsts.proofs.StepLaws.{length-sets}
use Rattle.firsts.proofs.RoomEntries.{table_sets, table_entries, table_entries_lem}
use Rattle.patterns.proofs.FitLaws.{gather_fits, sets_fit}
use Rattle.patterns.specs.TextRoom.{nulls_in, pattern_at, MayAdd, RoomAndIndex}

-- There is a set for each nonterminal.
pub sets_size : (nulls : ℕ) (g : List Production) {sets : List ℕ} → sets ≡ pattern_sets nulls g → 64 ≡ length sets
sets_size nulls g e = sym (ap length e ∙ length-sets pattern_of nulls g)

-- ------------------------------------------------------------------ the nullable nonterminals that the room has

-- A nonterminal is joined where its production is nullable,
pub owner_joined : (nulls owner : ℕ) {nullable : Bool} → nullable ≡ true → {own_set : ℕ} → own_set ≡ only owner → {more : ℕ} → more ≡ bit_or nulls own_set
    → more ≡ joined_if nullable nulls (only owner)
owner_joined nulls owner t e em = rw (t, em, e) refl

-- else not.
pub owner_left : (nulls owner : ℕ) {nullable : Bool} → nullable ≡ false → nulls ≡ joined_if nullable nulls (only owner)
owner_left nulls owner t = rw t refl

-- those of the productions before number `turn`
pub record Nulling (owners : List ℕ) (many : ℕ) (room : List ℕ) (turn nulls : ℕ) : Type 0 where
  -- no more productions than there are
  pub within : turn ≤ many
  -- the set so far
  pub done : nulls ≡ nulls_in turn owners room

-- Of no production.
pub nulling_start : (owners : List ℕ) (many : ℕ) (room : List ℕ) → Nulling owners many room 0 0
unfolding nulls_in
nulling_start owners many room = record { within = omega arith; done = refl }

module _ {owners : List ℕ} {many : ℕ} {room : List ℕ} {turn nulls : ℕ} (nulling : Nulling owners many room turn nulls) where
  -- One production more.
  pub nulling_next : turn < many → {nullable : Bool} → nullable ≡ nullable_in room turn → {owner : ℕ} → owner ≡ get_or owners turn 0 → {more : ℕ}
      → more ≡ joined_if nullable nulls (only owner) → Nulling owners many room (turn + 1) more
  unfolding nulls_in
  nulling_next l en eo em =
      let z : turn + 1 ≡ suc turn = omega arith in
      record { within = omega arith; done = rw z (em ∙ rw (en, eo, nulling.done) refl) }

  -- Of all.
  pub nulling_end : many ≤ turn → nulls ≡ nulls_in many owners room
  nulling_end l =
      let z : turn ≡ many = omega (arith, nulling.within) in
      rw z at nulling.done

-- a production that the room has as nullable
record NullAt (owners : List ℕ) (many : ℕ) (room : List ℕ) (nonterminal : ℕ) : Type 0 where
  place : ℕ
  inside : place < many
  owned : get_or owners place 0 ≡ nonterminal
  small : nonterminal < 64
  nullable : nullable_in room place ≡ true

module _ (owners room : List ℕ) (nonterminal : ℕ) where
  further : {many : ℕ} → NullAt owners many room nonterminal → NullAt owners (suc many) room nonterminal
  further n = record { place = n.place; inside = omega (arith, n.inside); owned = n.owned; small = n.small; nullable = n.nullable }

  nulls_have : (many : ℕ) → has_kind (nulls_in many owners room) nonterminal ≡ true → NullAt owners many room nonterminal
  unfolding nulls_in
  nulls_have zero h = absurd (false≢true (sym (has_none nonterminal) ∙ h))
  nulls_have (suc many) h =
      by_test (nullable_in room many)
      (λ t. ⊎_elim (λ k. further (nulls_have many k)) (own t)
      (or_split _ (sym (has_join (nulls_in many owners room) (only (get_or owners many 0)) nonterminal) ∙ (rw (t, nulls_in) at h))))
      (λ t. further (nulls_have many (rw (t, nulls_in) at h)))
    where
      own : nullable_in room many ≡ true → has_kind (only (get_or owners many 0)) nonterminal ≡ true → NullAt owners (suc many) room nonterminal
      own t k =
          let o = only_has (get_or owners many 0) nonterminal k in
          record { place = many; inside = omega arith; owned = sym o.0; small = o.1; nullable = t }

  has_nulls : (many : ℕ) → NullAt owners many room nonterminal → has_kind (nulls_in many owners room) nonterminal ≡ true
  unfolding nulls_in
  has_nulls zero n = absurd (omega (arith, n.inside))
  has_nulls (suc many) n = by (has_nulls many) (ℕ_discrete n.place many)
    where
      joined_has : (test : Bool) → has_kind (nulls_in many owners room) nonterminal ≡ true
          → has_kind (joined_if test (nulls_in many owners room) (only (get_or owners many 0))) nonterminal ≡ true
      joined_has true k = has_join (nulls_in many owners room) _ nonterminal ∙ or_left _ k
      joined_has false k = k

      before : (n.place ≡ many → ⊥) → n.place < suc many → n.place < many
      before e l = omega arith

      by : (NullAt owners many room nonterminal → has_kind (nulls_in many owners room) nonterminal ≡ true) → Dec (n.place ≡ many)
          → has_kind (nulls_in (suc many) owners room) nonterminal ≡ true
      by earlier (yes e) =
          let t : nullable_in room many ≡ true = rw e at n.nullable in
          let o : get_or owners many 0 ≡ nonterminal = rw e at n.owned in
          rw (t, o, nulls_in)
          (has_join (nulls_in many owners room) (only nonterminal) nonterminal
          ∙ or_right (has_kind (nulls_in many owners room) nonterminal) (has_own nonterminal n.small))
      by earlier (no e) =
          joined_has (nullable_in room many)
          (earlier
          (record { place = n.place; inside = before e n.inside; owned = n.owned; small = n.small; nullable = n.nullable }))

-- ------------------------------------------------------------------ the links

-- the links before number `turn` have what `pattern` gives
pub record Adding (pattern : ℕ → ℕ) (many : ℕ) (room₀ : List ℕ) (turn : ℕ) (room : List ℕ) : Type 0 where
  -- no more productions than there are
  pub within : turn ≤ many
  -- the room so far
  pub done : Patterned pattern room₀ turn room

-- No link is past at first.
pub adding_start : {pattern : ℕ → ℕ} {many : ℕ} {sets room : List ℕ} → MayAdd many sets room → Adding pattern many room 0 room
adding_start {pattern} may = record { within = omega arith; done = patterning_start pattern may.size }

module _ (bs starts : List ℕ) (nulls : ℕ) {many : ℕ} {sets room₀ : List ℕ} {turn : ℕ} {room : List ℕ} (may : MayAdd many sets room₀)
    (adding : Adding (pattern_at bs starts nulls sets) many room₀ turn room) (under : turn < many) {start : ℕ} (start_is : start ≡ get_or starts turn 0)
    {found : ℕ} (found_is : found ≡ gather pattern_of nulls sets (items_of (fields_at bs start)) 0) where
  -- The next link has nothing, and what is found fits it.
  pub adding_here : PatternsAt turn found room
  adding_here =
      record {
        size = adding.done.size;
        near = omega (arith, may.few);
        free = rw (patterning_here adding.done) (may.free turn under);
        small = rw found_is (gather_fits nulls sets may.small (items_of (fields_at bs start)) 0 (omega arith));
      }

  -- One link more.
  pub adding_next : {room' : List ℕ} → room' ≡ patterned turn found room → Adding (pattern_at bs starts nulls sets) many room₀ (turn + 1) room'
  adding_next e =
      record { within = omega arith; done = patterning_next adding.done (omega (arith, may.few)) (found_is ∙ rw start_is refl) e }

-- All links.
pub adding_end : {pattern : ℕ → ℕ} {many : ℕ} {room₀ : List ℕ} {turn : ℕ} {room : List ℕ} → Adding pattern many room₀ turn room → many ≤ turn
    → Patterned pattern room₀ many room
adding_end {many = many} {turn = turn} adding l =
    let z : turn ≡ many = omega (arith, adding.within) in
    rw z at adding.done

-- ------------------------------------------------------------------ the room of a table

module _ {bs : List ℕ} {many : ℕ} {owners starts room : List ℕ} (lent : RoomAndIndex bs many owners starts room) where
  abbrev g : List Production
  g = productions_in bs

  abbrev nulls : ℕ
  nulls = nullables g

  abbrev entry : Place → Entry
  entry = entry_at bs nulls (table_sets bs)

  abbrev production : Place → Production
  production p = production_at bs p.nonterminal p.start

  places_whole : Each (Whole bs) (places_of bs)
  places_whole = rw lent.entries at lent.index.whole

  entries_held : HoldsEntries (table_sets bs) (table_entries bs (λ is. 0)) room
  entries_held = table_entries_lem lent.grammar places_whole

  count_is : length (places_of bs) ≡ many
  count_is = ap length (sym lent.entries) ∙ length-places many owners starts 0

  entries_many : length (table_entries bs (λ is. 0)) ≡ many
  entries_many = length-map (places_of bs) entry ∙ count_is

  entry_is : (place : ℕ) → place < many → get_or (table_entries bs (λ is. 0)) place no_entry ≡ entry (place_at owners starts place)
  entry_is place l =
      let z : 0 + place ≡ place = omega arith in
      ap (λ (ps : List Place). get_or (map entry ps) place no_entry) (sym lent.entries)
      ∙ map_at no_entry entry many owners starts 0 place l
      ∙ ap (λ (at : ℕ). entry (place_at owners starts at)) z

  -- what the room says of a production is what its items say
  null_is : (place : ℕ) → place < many → nullable_in room place ≡ all_nullable nulls (production (place_at owners starts place)).items
  unfolding production_at
  null_is place l = nullable_in_lem entries_held place (omega (arith, entries_many)) ∙ ap (λ (e : Entry). e.nullable) (entry_is place l)

  -- The nullable nonterminals that the room has are those of the grammar.
  pub nulls_are : nulls_in many owners room ≡ nullables (productions_in bs)
  unfolding production_at
  nulls_are = both_in _ _ (λ n h. (nullable_exactly g n).1 (by_room n (nulls_have owners room n many h)))
      (λ n h. has_nulls owners room n many (by_rule n ((nullable_exactly g n).0 h)))
    where
      by_room : (nonterminal : ℕ) → NullAt owners many room nonterminal → Nullable g nonterminal
      by_room nonterminal n =
          let z : 0 + n.place ≡ n.place = omega arith in
          record {
            production = production (place_at owners starts (0 + n.place));
            of =
                record {
                  member = rw lent.entries at (place_among production many owners starts 0 n.place n.inside);
                  owned = rw z n.owned;
                  small = n.small;
                };
            items = (null_items_exactly g _).0 (rw z (sym (null_is n.place n.inside) ∙ n.nullable));
          }

      by_rule : (nonterminal : ℕ) → Nullable g nonterminal → NullAt owners many room nonterminal
      by_rule nonterminal n =
          let at = among_place production many owners starts 0 (rw (← lent.entries) at n.of.member) in
          let z : 0 + at.place ≡ at.place = omega arith in
          let e : n.production ≡ production (place_at owners starts at.place) = at.equal ∙ rw z refl in
          record {
            place = at.place;
            inside = at.inside;
            owned = sym (ap (λ (p : Production). p.nonterminal) e) ∙ n.of.owned;
            small = n.of.small;
            nullable = null_is at.place at.inside
                ∙ (null_items_exactly g _).1 (rw e at n.items);
          }

  -- The links have nothing that reads a variable, and the sets fit.
  pub may_add : length room ≡ room_size → (found : ℕ) {sets : List ℕ} → sets ≡ pattern_sets found (productions_by many bs owners starts) → MayAdd many sets room
  may_add size found e =
      record {
        size = size;
        few = lent.index.few;
        free = λ j l. free j l;
        small = λ n. rw e (sets_fit found (productions_by many bs owners starts) n);
      }
    where
      flag_small : (test : Bool) → (elim test as (λ x. ℕ) [ true ↦ 1 | false ↦ 0 ]) < 2
      flag_small true = omega arith
      flag_small false = omega arith

      free : (place : ℕ) → place < many → get_or room (links_at + 2 * place) 0 < patterns_base
      free place l =
          let i : place < length (table_entries bs (λ is. 0)) = omega (arith, entries_many) in
          let p : (get_or (table_entries bs (λ is. 0)) place no_entry).patterns ≡ 0 = ap (λ (e : Entry). e.patterns) (entry_is place l) in
          omega (
            arith,
            link_in entries_held place i,
            entries_held.near place,
            next_small entries_held place i,
            flag_small (get_or (table_entries bs (λ is. 0)) place no_entry).nullable,
            p,
          )

  kinds_are : entries_held.kinds ≡ kinds_reached g (root_in bs)
  unfolding table_room_for room_of
  kinds_are = sym (kinds_in_lem entries_held) ∙ rw lent.grammar.held refl

  -- what reads a variable first in the production at a place
  abbrev own : Place → ℕ
  own p = patterns_in g (items_of (fields_at bs p.start))

  -- With what reads a variable first in all links, the room holds the grammar for a text.
  pub text_room : length room ≡ room_size → {found : ℕ} → found ≡ nulls_in many owners room → {sets : List ℕ}
      → sets ≡ pattern_sets found (productions_by many bs owners starts) → {room' : List ℕ} → Patterned (pattern_at bs starts found sets) room many room'
      → HoldsFor (patterns_in (productions_in bs)) bs room'
  unfolding table_room_for
  text_room size {found} en {sets} es patterns-laid =
      record {
        small = lent.grammar.small;
        few = lent.grammar.few;
        rest = rest;
        held = patterning_end entry (λ p. refl) own (places_of bs) entries_held size (patterned_as same patterns-laid) (sym count_is)
            ∙ ap (λ (kinds : ℕ). room_of kinds (table_sets bs) (table_entries bs (patterns_in g)) ++ rest) kinds_are;
        whole = lent.grammar.whole;
      }
    where
      rest : List ℕ
      rest = drop (productions_at + 2 * length (table_entries bs (patterns_in g))) room

      same : (place : ℕ) → place < many → pattern_at bs starts found sets place ≡ get_or (map own (places_of bs)) place 0
      same place l =
          let z : 0 + place ≡ place = omega arith in
          let at : get_or (map own (places_of bs)) place 0 ≡ own (place_at owners starts place) =
          ap (λ (ps : List Place). get_or (map own ps) place 0) (sym lent.entries)
          ∙ map_at 0 own many owners starts 0 place l
          ∙ ap (λ (at : ℕ). own (place_at owners starts at)) z in
          rw (at, es, en, nulls_are, lent.entries) refl
