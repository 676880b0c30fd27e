-- Laws of filling the room of a grammar.
use Prim.Native.Nat.{ℕ, zero, suc, ◌+◌, ◌-◌, ◌/◌, ◌<◌, ◌≤◌}
use mathlib.Core.Path.{◌≡◌, refl, sym, ap, ◌∙◌, subst}
use mathlib.Core.Bool.{false}
use mathlib.Core.List.{List, map}
use mathlib.Core.Logic.{dite}
use native.Mathlib.Decide.{ℕ_discrete}
use native.Mathlib.Nat.{add-zero, zero-add}
use native.Mathlib.Omega.{arith}
use lib.Bits.{bit_or, or_add_and, and_le_r}
use lib.ListN.{length, get_or, length-map}
use Rattle.grammar.specs.Lookup.{fields_at}
use Rattle.decoding.specs.Within.{Each, each_none, each_more}
use Rattle.productions.specs.Index.{items_of, Place, places_from, places_in, Whole}
use Rattle.productions.specs.Room.{Entry, no_entry, begun, laid, room_of, overwritten, RoomAt}
use Rattle.productions.proofs.IndexLaws.{place_at, length-places, map_at, each_at}
use Rattle.productions.proofs.RoomWriting.{Filling, filling_start, filling_next, filling_end}
use Rattle.firsts.specs.FirstSets.{gather}
use Rattle.firsts.specs.Patterns.{pattern_of}
use Rattle.firsts.specs.Room.{entry_at, WholeIndex}
use Rattle.patterns.specs.declared.Opening.{Opening as Opened}
use Rattle.patterns.specs.Opened.{places_first, opening_by}
use Rattle.clashes.specs.CheckCalls.{FillRoom, Filled, sorts_at, sorts_filled}

-- ------------------------------------------------------------------ the entries of an index

-- as many entries as places
pub length-entries : (entry_at_lem : Place → Entry) (all : ℕ) (owners starts : List ℕ) → length (map entry_at_lem (places_in all owners starts)) ≡ all
length-entries entry_at_lem all owners starts = length-map (places_in all owners starts) entry_at_lem ∙ length-places all owners starts 0

-- an owner is a nonterminal
pub owner_small : {bs : List ℕ} {all : ℕ} {owners starts : List ℕ} → WholeIndex bs all owners starts → (place : ℕ) → place < all → get_or owners place 0 < 64
owner_small {bs} {all} {owners} {starts} w place h =
    let p : Whole bs (place_at owners starts (0 + place)) = each_at all owners starts 0 place w.whole h in
    rw zero-add at p.small

-- what holds at each number holds of each that stands for a place
pub each_place : {B : Type 0} {P : B → Type 0} (image : Place → B) (count : ℕ) (owners starts : List ℕ) (from : ℕ)
    → ((place : ℕ) → place < count → P (image (place_at owners starts (from + place)))) → Each P (map image (places_from count owners starts from))
unfolding places_from
each_place image zero owners starts from holds = each_none
each_place {P = P} image (suc count) owners starts from holds =
    each_more (rw add-zero at (holds 0 (omega arith)))
    (each_place image count owners starts (from + 1)
    (λ place l. let z : from + suc place ≡ from + 1 + place = omega arith in rw z at (holds (suc place) (omega arith))))

-- ------------------------------------------------------------------ the loop

-- `entry` is what is laid for a place, of the nonterminal there
module _ {bs : List ℕ} {all : ℕ} {owners starts sets room₀ : List ℕ} (pre : FillRoom bs all owners starts sets room₀) (kinds : ℕ) (entry : Place → Entry)
    (owned : (p : Place) → (entry p).nonterminal ≡ p.nonterminal) where
  abbrev entries : List Entry
  entries = map entry (places_in all owners starts)

  many : length entries ≡ all
  many = length-entries entry all owners starts

  -- a room that is begun has no entry yet
  begin_fill : {room : List ℕ} → room ≡ begun kinds sets room₀ → Filling kinds sets entries room all room
  begin_fill {room} e =
      let f : Filling kinds sets entries (begun kinds sets room₀) (length entries) (begun kinds sets room₀) =
      filling_start kinds sets entries room₀ (omega (arith, many, pre.index.few)) pre.lent.size in
      rw e (rw many at f)

  module _ {room₁ : List ℕ} {place : ℕ} {room : List ℕ} (filling : Filling kinds sets entries room₁ place room) (positive : 0 < place) where
    -- the next entry has room
    entry_at_lem : RoomAt (place - 1) (get_or owners (place - 1) 0) room
    entry_at_lem =
        record {
          size = filling.size;
          near = omega (arith, filling.low, filling.few);
          small = owner_small pre.index (place - 1) (omega (arith, filling.low, many));
        }

    -- the entry that the code has
    one_more : {here : Entry} → here ≡ entry (place_at owners starts (place - 1)) → {room' : List ℕ} → room' ≡ laid here (place - 1) room
        → Filling kinds sets entries room₁ (place - 1) room'
    one_more eh er =
        let z : 0 + (place - 1) ≡ place - 1 = omega arith in
        let stands : entry (place_at owners starts (place - 1)) ≡ get_or entries (place - 1) no_entry =
        sym (map_at no_entry entry all owners starts 0 (place - 1) (omega (arith, filling.low, many)) ∙ rw z refl) in
        let f : Filling kinds sets entries room₁ (place - 1) (laid (entry (place_at owners starts (place - 1))) (place - 1) room) =
        filling_next filling positive stands
        (rw (owned (place_at owners starts (place - 1))) (owner_small pre.index (place - 1) (omega (arith, filling.low, many)))) in
        subst (Filling kinds sets entries room₁ (place - 1)) (sym (er ∙ rw eh refl)) f

  -- with all entries the room is that of the index
  all_filled : {room₁ : List ℕ} → room₁ ≡ begun kinds sets room₀ → {place : ℕ} {room : List ℕ} → Filling kinds sets entries room₁ place room → place ≤ 0
      → room ≡ overwritten (room_of kinds sets entries) room₀
  all_filled e {place} {room} c h =
      let f : Filling kinds sets entries (begun kinds sets room₀) place room = rw e at c in
      filling_end room₀ f (omega arith)

-- ------------------------------------------------------------------ the room of the kinds

-- the entries behind number `place` are laid; if no pattern places are told, none of those productions has one first
pub record Opening (bs : List ℕ) (all : ℕ) (owners starts : List ℕ) (kinds nulls : ℕ) (sets room₀ : List ℕ) (place : ℕ) (room : List ℕ) (told : ℕ)
    : Type 0 where
  -- the room so far
  pub filling : Filling kinds sets (map (entry_at bs nulls sets) (places_in all owners starts)) room₀ place room
  -- what is told so far
  pub none_first : told ≡ 0 → (at : ℕ) → place ≤ at → at < all → places_first nulls (items_of (fields_at bs (get_or starts at 0))) ≡ 0

-- two sets that are empty together are empty
both_empty : (set other : ℕ) → bit_or set other ≡ 0 → (set ≡ 0) × (other ≡ 0)
both_empty set other e =
    let z : set ≡ 0 = omega (arith, or_add_and set other, and_le_r set other) in
    (z, rw z at e)

module _ {bs : List ℕ} {all : ℕ} {owners starts sets room₀ : List ℕ} (pre : FillRoom bs all owners starts sets room₀) (kinds nulls : ℕ) where
  -- Nothing is laid at first, and nothing told.
  pub fill_start : {room : List ℕ} → room ≡ begun kinds sets room₀ → Opening bs all owners starts kinds nulls sets room all room 0
  fill_start e =
      record { filling = begin_fill pre kinds (entry_at bs nulls sets) (λ p. refl) e; none_first = λ t at l u. absurd (omega arith) }

  module _ {room₁ : List ℕ} {place : ℕ} {room : List ℕ} {told : ℕ} (filling : Opening bs all owners starts kinds nulls sets room₁ place room told)
      (positive : 0 < place) where
    -- The next entry has room.
    pub fill_at : RoomAt (place - 1) (get_or owners (place - 1) 0) room
    fill_at = entry_at_lem pre kinds (entry_at bs nulls sets) (λ p. refl) filling.filling positive

    -- One entry more, with what opens the production.
    pub fill_next : {start : ℕ} → start ≡ get_or starts (place - 1) 0 → {found : Opened} → found ≡ opening_by nulls sets (items_of (fields_at bs start))
        → {room' : List ℕ}
        → room'
        ≡ laid
        (record { nonterminal = get_or owners (place - 1) 0; start = get_or starts (place - 1) 0; first = found.kinds; nullable = found.nullable; patterns = 0 })
        (place - 1) room → {told' : ℕ} → told' ≡ bit_or told found.places
        → Opening bs all owners starts kinds nulls sets room₁ (place - 1) room' told'
    fill_next es {found} ef er et =
        record {
          filling = one_more pre kinds (entry_at bs nulls sets) (λ p. refl) filling.filling positive (rw (ef, es) refl) er;
          none_first = λ t at l u.
              let both = both_empty told found.places (sym et ∙ t) in
              dite (ℕ_discrete at (place - 1))
              (λ e. rw (e, ← es) (sym (ap (λ (o : Opened). o.places) ef) ∙ both.1))
              (λ e. filling.none_first both.0 at (later e l) u);
        }
      where
        later : {at : ℕ} → (at ≡ place - 1 → ⊥) → place - 1 ≤ at → place ≤ at
        later e l = omega arith

  -- With all entries the room is that of the index.
  pub fill_end : {room₁ : List ℕ} → room₁ ≡ begun kinds sets room₀ → {place : ℕ} {room : List ℕ} {told : ℕ}
      → Opening bs all owners starts kinds nulls sets room₁ place room told → place ≤ 0 → Filled bs all owners starts kinds nulls sets room₀ room told
  fill_end e c h =
      record {
        room_is = all_filled pre kinds (entry_at bs nulls sets) (λ p. refl) e c.filling h;
        none_first = λ t at u. c.none_first t at (omega arith) u;
      }

-- ------------------------------------------------------------------ the room of the sorts

module _ {bs : List ℕ} {all : ℕ} {owners starts sets room₀ : List ℕ} (pre : FillRoom bs all owners starts sets room₀) (nulls : ℕ) where
  abbrev sorted : List Entry
  sorted = map (sorts_at bs nulls sets) (places_in all owners starts)

  -- Nothing is laid at first.
  pub sorts_start : {room : List ℕ} → room ≡ begun 0 sets room₀ → Filling 0 sets sorted room all room
  sorts_start = begin_fill pre 0 (sorts_at bs nulls sets) (λ p. refl)

  module _ {room₁ : List ℕ} {place : ℕ} {room : List ℕ} (filling : Filling 0 sets sorted room₁ place room) (positive : 0 < place) where
    -- The next entry has room.
    pub sorts_at_lem : RoomAt (place - 1) (get_or owners (place - 1) 0) room
    sorts_at_lem = entry_at_lem pre 0 (sorts_at bs nulls sets) (λ p. refl) filling positive

    -- One entry more, with the sorts of the places that open the production.
    pub sorts_next : {start : ℕ} → start ≡ get_or starts (place - 1) 0 → {found : ℕ} → found ≡ gather pattern_of nulls sets (items_of (fields_at bs start)) 0
        → {room' : List ℕ}
        → room'
        ≡ laid (record { nonterminal = get_or owners (place - 1) 0; start = get_or starts (place - 1) 0; first = found / 256; nullable = false; patterns = 0 })
        (place - 1) room → Filling 0 sets sorted room₁ (place - 1) room'
    sorts_next es ef er = one_more pre 0 (sorts_at bs nulls sets) (λ p. refl) filling positive (rw (ef, es) refl) er

  -- With all entries the room is that of the index.
  pub sorts_end : {room₁ : List ℕ} → room₁ ≡ begun 0 sets room₀ → {place : ℕ} {room : List ℕ} → Filling 0 sets sorted room₁ place room → place ≤ 0
      → room ≡ sorts_filled bs all owners starts nulls sets room₀
  sorts_end = all_filled pre 0 (sorts_at bs nulls sets) (λ p. refl)
