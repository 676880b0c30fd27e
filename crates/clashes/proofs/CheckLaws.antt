-- Laws of the check of first sets: what the room holds, and the verdicts of 12 and 13.
use Rattle.std.specs.Prelude.{Ok, Err}
use Prim.Native.Nat.{ℕ, zero, suc, ◌+◌, ◌<◌, ◌≤◌}
use mathlib.Core.Path.{◌≡◌, refl, sym, ap, ◌∙◌}
use mathlib.Core.Bool.{Bool, true, false}
use mathlib.Core.List.{List, map}
use mathlib.Core.Logic.{dite}
use native.Mathlib.Decide.{ℕ_discrete}
use native.Mathlib.Omega.{arith}
use lib.Count.{count_trailing_zeros}
use lib.Dec.{eqb, ltb}
use lib.ListN.{length, get_or, replicate, length-replicate}
use borrow.Author.Tests.{lt-ltb, le-ltb, ne_eqb}
use Rattle.answers.specs.Refusals.{refusal}
use Rattle.answers.specs.Checked.{Checked, ok, bad, ◌>>◌, verdict}
use Rattle.answers.specs.declared.Refusal.{Refusal}
use Rattle.answers.specs.Refusals.{Verdict}
use Rattle.productions.specs.Normal.{Production}
use Rattle.grammar.specs.Lookup.{fields_at}
use Rattle.decoding.specs.Within.{Each, each_none, each_more}
use Rattle.productions.specs.Index.{items_of, Place, places_from, places_in, production_at, productions_at, root_in, Whole}
use Rattle.productions.specs.Room.{Entry, no_entry, start_base, room_size, room_of, overwritten, place_from, is_of, first_place_in, HoldsEntries}
use Rattle.productions.proofs.IndexLaws.{place_at}
use Rattle.productions.proofs.RoomLaws.{first_place_in_lem}
use Rattle.kinds.specs.Kinds.{has_kind}
use Rattle.kinds.proofs.KindsLaws.{has_none}
use Rattle.clashes.specs.CheckFirsts.{left_recursive, any_pair, no_left_recursion, no_clash, check_firsts}
use Rattle.firsts.specs.FirstSets.{opening_of, call_of, nullables, first_sets, left_calls}
use Rattle.clashes.specs.Pairs.{linked, clash_in, PlacesBelow, clashing_below, clashing_in, recursive_below, all_shared_in, no_clash_in, no_clash_with}
use Rattle.firsts.specs.SetCalls.{OwnersBelow, BothSets}
use Rattle.reach.proofs.Exactly.{notes_many}
use Rattle.firsts.specs.Needs.{NullablesNoted}
use Rattle.firsts.specs.Reach.{kinds_by, kinds_reached}
use Rattle.firsts.specs.Patterns.{pattern_of, pattern_sets}
use Rattle.firsts.specs.Room.{entry_at, WholeIndex}
use Rattle.patterns.specs.Opened.{places_first}
use Rattle.clashes.specs.declared.Preparation.{Preparation}
use Rattle.clashes.specs.Openings.{openings_of}
use Rattle.clashes.specs.CheckCalls.{FillRoom, OwnersSmall, BoundIndex, Filled, Prepared, sorts_at, sorts_filled, sorts_room}
use Rattle.clashes.proofs.FillLaws.{length-entries, owner_small, each_place}
use Rattle.clashes.proofs.BothRooms.{with_sorts, without_sorts}
use Rattle.clashes.proofs.SortsLaws.{none_opened}
use Rattle.clashes.proofs.PairsLaws.{lowest_within, lowest_beyond, linked_none}
use Rattle.firsts.proofs.StepLaws.{length-sets, sets_below}

-- ------------------------------------------------------------------ the sets

-- there are 64 sets of each
module _ {nulls : ℕ} {g : List Production} {kinds calls : List ℕ} (both_sets : BothSets nulls g kinds calls) where
  -- as many first sets as nonterminals
  pub kinds_many : length kinds ≡ 64
  kinds_many = ap length both_sets.kinds_are ∙ length-sets opening_of nulls g

  -- the same, as a slice asks for it
  pub kinds_size : 64 ≡ length kinds
  kinds_size = sym kinds_many

  -- and as many sets of left calls
  pub calls_size : 64 ≡ length calls
  calls_size = sym (ap length both_sets.calls_are ∙ length-sets call_of nulls g)

module _ {g : List Production} {nulls : ℕ} {reading calling : List ℕ} (noted : NullablesNoted g nulls reading calling) where
  -- as many sets of what is read are noted as there are nonterminals
  pub reading_size : 64 ≡ length reading
  reading_size = sym (ap length noted.noted.kinds_are ∙ notes_many opening_of g)

  -- and as many of what is called
  pub calling_size : 64 ≡ length calling
  calling_size = sym (ap length noted.noted.calls_are ∙ notes_many call_of g)

abbrev refused_if : Bool → Refusal → Checked (Unit {0})
refused_if b r = elim b [ true ↦ bad r | false ↦ ok tt ]

-- left recursion and the room, from what was computed
pub prepared : (bs : List ℕ) (many : ℕ) (owners starts : List ℕ) {below : ℕ} {room₀ room : List ℕ} {nulls : ℕ} {reading calling : List ℕ}
    → NullablesNoted (productions_at bs (places_in many owners starts)) nulls reading calling → {root kinds : ℕ} → root ≡ root_in bs
    → kinds ≡ kinds_by reading calling root → {sets calls : List ℕ} → BothSets nulls (productions_at bs (places_in many owners starts)) sets calls
    → {told : ℕ} → Filled bs many owners starts kinds nulls sets room₀ room told → {nonterminal : ℕ} → nonterminal ≡ recursive_below below calls
    → Prepared below bs (places_in many owners starts) room₀ room (record { recursive = nonterminal; nulls = nulls; places = told })
unfolding kinds_reached production_at
prepared bs many owners starts {nulls = nulls} en et ek e er el =
    record {
      recursive = el ∙ rw (e.calls_are, en.nullables_are) refl;
      nulls_are = en.nullables_are;
      none_opens = λ t. none_opened (productions_at bs (places_in many owners starts))
          (each_place (λ p. production_at bs p.nonterminal p.start) many owners starts 0
          (λ place l. first-none (omega arith) (er.none_first t place l)));
      held = er.room_is ∙ rw (ek, et, en.noted.kinds_are, en.noted.calls_are, e.kinds_are, en.nullables_are) refl;
    }
  where
    first-none : {place at : ℕ} → place ≡ at → places_first nulls (items_of (fields_at bs (get_or starts place 0))) ≡ 0
        → places_first (nullables (productions_at bs (places_in many owners starts))) (items_of (fields_at bs (get_or starts at 0))) ≡ 0
    first-none e f = rw (← e, ← en.nullables_are) f

-- ------------------------------------------------------------------ the nonterminals that have productions

-- the owners of an index are nonterminals
pub owners_small : {bs : List ℕ} {many : ℕ} {owners starts : List ℕ} → WholeIndex bs many owners starts → OwnersSmall many owners
owners_small w = record { few = w.few; each = owner_small w }

-- those of the first `turn` productions lie below `below`
pub record Bounding (many : ℕ) (owners : List ℕ) (below turn : ℕ) : Type 0 where
  -- no more productions than there are
  pub within : turn ≤ many
  -- which is at most 64
  pub small : below ≤ 64
  -- each of them
  pub so_far : (place : ℕ) → place < turn → get_or owners place 0 < below

-- of no production
pub bounding_start : {many : ℕ} {owners : List ℕ} → Bounding many owners 0 0
bounding_start = record { within = omega arith; small = omega arith; so_far = λ place l. absurd (omega arith) }

module _ {many : ℕ} {owners : List ℕ} {below turn : ℕ} (owners_are : OwnersSmall many owners) (bounding : Bounding many owners below turn)
    (left : turn < many) where
  next : (new : ℕ) → new ≤ 64 → below ≤ new → get_or owners turn 0 < new → Bounding many owners new (turn + 1)
  next new h l e =
      record {
        within = omega arith;
        small = h;
        so_far = λ place k. dite (ℕ_discrete place turn) (λ z. rw z e) (λ z. omega (arith, bounding.so_far place (omega arith)));
      }

  -- a higher one
  pub bounding_higher : below ≤ get_or owners turn 0 → Bounding many owners (get_or owners turn 0 + 1) (turn + 1)
  bounding_higher h = next (get_or owners turn 0 + 1) (omega (arith, owners_are.each turn left)) (omega arith) (omega arith)

  -- another
  pub bounding_lower : get_or owners turn 0 < below → Bounding many owners below (turn + 1)
  bounding_lower h = next below bounding.small (omega arith) h

-- of all
pub bounding_end : {many : ℕ} {owners : List ℕ} {below turn : ℕ} → Bounding many owners below turn → many ≤ turn → OwnersBelow below many owners
bounding_end b h = record { small = b.small; each = λ place l. b.so_far place (omega arith) }

-- ------------------------------------------------------------------ the rooms

module _ {bs : List ℕ} {below many : ℕ} {owners starts : List ℕ} (bound_index : BoundIndex below bs many owners starts) where
  abbrev places : List Place
  places = places_in many owners starts

  abbrev g : List Production
  g = productions_at bs places

  -- `image` is an entry for a place, of the nonterminal and the offset there
  module _ (image : Place → Entry) (owned : (p : Place) → (image p).nonterminal ≡ p.nonterminal) (starting : (p : Place) → (image p).start ≡ p.start) where
    near : {ps : List Place} → Each (Whole bs) ps → (place : ℕ) → (get_or (map image ps) place no_entry).start < start_base
    near each_none place = omega arith
    near (each_more {x = p} w ws) zero = omega (arith, starting p, w.inside, bound_index.index.short)
    near (each_more w ws) (suc place) = near ws place

    entries_held : (kinds : ℕ) (room₀ : List ℕ) {sets room : List ℕ} → room ≡ overwritten (room_of kinds sets (map image places)) room₀
        → HoldsEntries sets (map image places) room
    entries_held kinds room₀ e =
        record {
          kinds = kinds;
          rest = _;
          held = e;
          few = omega (arith, bound_index.index.few, length-entries image many owners starts);
          near = near bound_index.index.whole;
        }

    no_entry_lem : (number : ℕ) → below ≤ number → (count from turn : ℕ) → from + count ≤ many
        → place_from (is_of number) (map image (places_from count owners starts from)) turn ≡ 256
    unfolding place_from places_from
    no_entry_lem number h zero from turn l = refl
    no_entry_lem number h (suc count) from turn l =
        let other : eqb (image (place_at owners starts from)).nonterminal number ≡ false =
        ne_eqb _ number (λ e. omega (arith, owned (place_at owners starts from), bound_index.owned.each from (omega arith))) in
        rw (other, place_from) (no_entry_lem number h count (from + 1) (turn + 1) (omega arith))

    -- a nonterminal without a production has no place in the room
    entries_below : {sets room : List ℕ} → HoldsEntries sets (map image places) room → PlacesBelow below room
    entries_below held =
        record {
          small = bound_index.owned.small;
          none = λ n h l. first_place_in_lem held n l ∙ no_entry_lem n h many 0 0 (omega arith);
        }

  -- In the room of the sorts a nonterminal without a production has no place.
  pub sorts_below : (nulls : ℕ) (sets room₀ : List ℕ) {room : List ℕ} → room ≡ sorts_filled bs many owners starts nulls sets room₀ → PlacesBelow below room
  sorts_below nulls sets room₀ e =
      entries_below (sorts_at bs nulls sets) (λ p. refl) (λ p. refl) (entries_held (sorts_at bs nulls sets) (λ p. refl) (λ p. refl) 0 room₀ e)

  abbrev entry : Place → Entry
  entry = entry_at bs (nullables g) (first_sets (nullables g) g)

  module _ {room₀ room : List ℕ} {found : Preparation} (given_prepared : Prepared below bs places room₀ room found) where
    -- a room over what was there holds the entries of the grammar
    holds_entries : HoldsEntries (first_sets (nullables g) g) (map entry places) room
    holds_entries = entries_held entry (λ p. refl) (λ p. refl) (kinds_reached g (root_in bs)) room₀ given_prepared.held

    -- a nonterminal without a production has no place in it
    pub places_below : PlacesBelow below room
    places_below = entries_below entry (λ p. refl) (λ p. refl) holds_entries

    -- ---------------------------------------------------------------- verdicts

    none_reached : (number : ℕ) → below ≤ number → number < 64 → has_kind (get_or (left_calls (nullables g) g) number 0) number ≡ false
    none_reached number h l = rw ((sets_below bound_index.owned call_of (nullables g) bs starts).none number h) (has_none number)

    check_tests : (number : ℕ) → number ≡ left_recursive (left_calls (nullables g) g) → (test : Bool) → ltb number 64 ≡ test
        → verdict (refused_if test (refusal 12 number 0 0) >> no_clash (openings_of g) g) ≡ verdict (check_firsts g)
    unfolding no_left_recursion check_firsts
    check_tests number e test f = rw (← f, e) refl

    -- a nonterminal that reaches itself is refused
    pub check_recursive : found.recursive < below → {cause : Refusal} → cause ≡ refusal 12 found.recursive 0 0 → Err cause ≡ verdict (check_firsts g)
    check_recursive h er =
        ap Err er
        ∙ check_tests found.recursive (lowest_within bound_index.owned.small none_reached given_prepared.recursive h) true
        (lt-ltb found.recursive 64 (omega (arith, bound_index.owned.small)))

    module _ (not_recursive : below ≤ found.recursive) where
      no_recursion : verdict (no_clash (openings_of g) g) ≡ verdict (check_firsts g)
      no_recursion =
          check_tests 64 (lowest_beyond bound_index.owned.small none_reached given_prepared.recursive not_recursive) false (le-ltb 64 64 (omega arith))

      -- where 12 is not given and no pattern place opens a production, the room decides 13
      pub check_clashes : found.places ≡ 0 → verdict (no_clash_in room) ≡ verdict (check_firsts g)
      unfolding production_at
      check_clashes e =
          ap verdict (without_sorts bs (openings_of g) places holds_entries (given_prepared.none_opens e)) ∙ no_recursion

      both_are : no_clash_with room (sorts_room bs places found.nulls) ≡ no_clash (openings_of g) g
      unfolding production_at
      both_are =
          rw given_prepared.nulls_are
          (with_sorts bs (openings_of g) places holds_entries
          (entries_held (sorts_at bs (nullables g) (pattern_sets (nullables g) g)) (λ p. refl) (λ p. refl) 0 (replicate room_size 0) refl))

      -- where one does, the room and that of the sorts do
      pub check_both : verdict (no_clash_with room (sorts_room bs places found.nulls)) ≡ verdict (check_firsts g)
      check_both = ap verdict both_are ∙ no_recursion

-- The room of the sorts is lent empty, with the sets that are worked out.
pub sorts_lent : {bs : List ℕ} {below many : ℕ} {owners starts : List ℕ} → BoundIndex below bs many owners starts → (nulls : ℕ) {sets : List ℕ}
    → sets ≡ pattern_sets nulls (productions_at bs (places_in many owners starts)) → FillRoom bs many owners starts sets (replicate room_size 0)
sorts_lent bound_index nulls e =
    record {
      index = bound_index.index;
      lent = record { size = length-replicate {A = ℕ} room_size 0; many = ap length e ∙ length-sets pattern_of nulls _ };
    }

-- What both rooms give is what the room of the sorts gives that was filled.
pub sorts_checked : (bs : List ℕ) (many : ℕ) (owners starts : List ℕ) (nulls : ℕ) (sets room : List ℕ) {sorts : List ℕ} {given : Verdict}
    → sets ≡ pattern_sets nulls (productions_at bs (places_in many owners starts)) → sorts ≡ sorts_filled bs many owners starts nulls sets (replicate room_size 0)
    → given ≡ verdict (no_clash_with room sorts) → given ≡ verdict (no_clash_with room (sorts_room bs (places_in many owners starts) nulls))
sorts_checked bs many owners starts nulls sets room e f h = h ∙ rw (f, e) refl

-- refusal 13 with the lowest of the kinds in a set
abbrev clash_of : ℕ → ℕ → Refusal
clash_of n s = refusal 13 n (count_trailing_zeros 64 s) 0

-- refusal 13 or none, by the lowest nonterminal with a clash
module _ {room : List ℕ} {below nonterminal : ℕ} (places_are : PlacesBelow below room) (equal : nonterminal ≡ clashing_below below room) where
  none_clashes : (number : ℕ) → below ≤ number → number < 64 → any_pair (clash_in room) (linked room (first_place_in room number)) ≡ false
  unfolding any_pair
  none_clashes number h l = rw (places_are.none number h l, linked_none room 256 (omega arith)) refl

  clash_tests : (number : ℕ) → number ≡ clashing_in room → (test : Bool) → ltb number 64 ≡ test
      → verdict (refused_if test (clash_of number (all_shared_in room number))) ≡ verdict (no_clash_in room)
  unfolding no_clash_in
  clash_tests number e test f = rw (← f, e) refl

  -- a nonterminal with a clash is refused
  pub clash_refused : nonterminal < below → {shared kind : ℕ} → shared ≡ all_shared_in room nonterminal → kind ≡ count_trailing_zeros 64 shared → {cause : Refusal}
      → cause ≡ refusal 13 nonterminal kind 0 → Err cause ≡ verdict (no_clash_in room)
  clash_refused h es ek er =
      rw (er, ek, es)
      (clash_tests nonterminal (lowest_within places_are.small none_clashes equal h) true (lt-ltb nonterminal 64 (omega (arith, places_are.small))))

  -- without one the table passes
  pub clash_passed : below ≤ nonterminal → Ok tt ≡ verdict (no_clash_in room)
  clash_passed h = clash_tests 64 (lowest_beyond places_are.small none_clashes equal h) false (le-ltb 64 64 (omega arith))
