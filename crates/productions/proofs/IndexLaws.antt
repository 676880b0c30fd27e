-- Laws of the index of a table: a place laid behind others, those of a nonterminal dropped, and the walk over a table's fields.
use Prim.Native.Nat.{ℕ, zero, suc, ◌+◌, ◌-◌, ◌<◌, ◌≤◌}
use mathlib.Core.Path.{◌≡◌, refl, sym, ap, ◌∙◌}
use mathlib.Core.Bool.{Bool, true, false}
use mathlib.Core.List.{List, [], ◌∷◌, ◌++◌, map, append-nil}
use native.Mathlib.Nat.{sub-zero, zero-add, add-zero}
use native.Mathlib.Numerals.{add-one}
use native.Mathlib.Omega.{arith}
use lib.Dec.{eqb}
use lib.ListN.{length, get_or, set, take, drop, length-set, take-append-drop}
use lib.Seq.{get_or-set_same, get_or-set_other, append_snoc, drop-cons, drop-drop, drop-set-lt}
use borrow.Author.Tests.{eq-eqb, ne_eqb}
use Rattle.grammar.specs.Fields.{RawFields, next, fields_of}
use Rattle.grammar.specs.declared.FieldSpan.{FieldSpan}
use Rattle.grammar.specs.Lookup.{field_at, value_in, fields_at}
use Rattle.grammar.proofs.LookupLaws.{fields_of_lem, field_lies, Walk, walk_field, walk_end}
use Rattle.decoding.specs.Decode.{mode_of}
use Rattle.decoding.specs.Within.{Each, each_more, Among, among_first, among_later}
use Rattle.productions.specs.Index.{Place, places_from, places_in, places_by, places_of, places_without, places_kept, alternative_fields}
use Rattle.productions.specs.IndexCalls.{IndexRoomFor, LaidIndex, Arrays, arrays, laid_over, arrays_by, BuiltIndex, FitsIndex}
use Rattle.grammar.specs.Limits.{most}

-- ------------------------------------------------------------------ a walk over places

-- the place with a number
abbrev pub place_at : List ℕ → List ℕ → ℕ → Place
place_at owners starts j = record { nonterminal = get_or owners j 0; start = get_or starts j 0 }

module _ (owners starts : List ℕ) (many from : ℕ) where
  -- the places from number `from` on are that one and those behind it
  pub places_next : from < many
      → places_from (many - from) owners starts from ≡ place_at owners starts from ∷ places_from (many - (from + 1)) owners starts (from + 1)
  unfolding places_from
  places_next h =
      let z : many - from ≡ suc (many - (from + 1)) = omega arith in
      rw z refl

  -- no place is left
  pub places_none : many ≤ from → places_from (many - from) owners starts from ≡ []
  unfolding places_from
  places_none h =
      let z : many - from ≡ 0 = omega arith in
      rw z refl

-- as many as were asked for
pub length-places : (count : ℕ) (owners starts : List ℕ) (from : ℕ) → length (places_from count owners starts from) ≡ count
unfolding places_from
length-places zero owners starts from = refl
length-places (suc count) owners starts from = ap suc (length-places count owners starts (from + 1))

-- ------------------------------------------------------------------ places by number

-- what stands for a place
pub map_at : {B : Type 0} (other : B) (image : Place → B) (count : ℕ) (owners starts : List ℕ) (from place : ℕ) → place < count
    → get_or (map image (places_from count owners starts from)) place other ≡ image (place_at owners starts (from + place))
unfolding places_from
map_at other image zero owners starts from place h = absurd (omega arith)
map_at other image (suc count) owners starts from zero h = rw add-zero refl
map_at other image (suc count) owners starts from (suc place) h =
    let z : from + 1 + place ≡ from + suc place = omega arith in
    rw z at (map_at other image count owners starts (from + 1) place (omega arith))

-- what holds of each place
pub each_at : {P : Place → Type 0} (count : ℕ) (owners starts : List ℕ) (from place : ℕ) → Each P (places_from count owners starts from) → place < count
    → P (place_at owners starts (from + place))
unfolding places_from
each_at zero owners starts from place e h = absurd (omega arith)
each_at (suc count) owners starts from zero (each_more p ps) h = rw add-zero p
each_at {P} (suc count) owners starts from (suc place) (each_more p ps) h =
    let z : from + 1 + place ≡ from + suc place = omega arith in
    rw z at (each_at count owners starts (from + 1) place ps (omega arith))

-- what stands for a place is among what stands for all,
pub place_among : {B : Type 0} (image : Place → B) (count : ℕ) (owners starts : List ℕ) (from place : ℕ) → place < count
    → Among (map image (places_from count owners starts from)) (image (place_at owners starts (from + place)))
unfolding places_from
place_among image zero owners starts from place h = absurd (omega arith)
place_among image (suc count) owners starts from zero h = rw add-zero among_first
place_among image (suc count) owners starts from (suc place) h =
    let z : from + 1 + place ≡ from + suc place = omega arith in
    among_later (rw z at (place_among image count owners starts (from + 1) place (omega arith)))

-- the place that something stands for
pub record Numbered {B : Type 0} (image : Place → B) (count : ℕ) (owners starts : List ℕ) (from : ℕ) (one : B) : Type 0 where
  pub place : ℕ
  pub inside : place < count
  pub equal : one ≡ image (place_at owners starts (from + place))

-- and what is among them stands for one.
pub among_place : {B : Type 0} (image : Place → B) (count : ℕ) (owners starts : List ℕ) (from : ℕ) {one : B}
    → Among (map image (places_from count owners starts from)) one → Numbered image count owners starts from one
unfolding places_from
among_place image zero owners starts from x = elim x [ ]
among_place image (suc count) owners starts from among_first = record { place = 0; inside = omega arith; equal = rw add-zero refl }
among_place image (suc count) owners starts from (among_later a) =
    let n = among_place image count owners starts (from + 1) a in
    let z : from + 1 + n.place ≡ from + suc n.place = omega arith in
    record { place = suc n.place; inside = omega (arith, n.inside); equal = rw z at n.equal }

-- ------------------------------------------------------------------ one entry written

module _ (owners starts : List ℕ) where
  places_snoc : (count from : ℕ)
      → places_from (suc count) owners starts from ≡ places_from count owners starts from ++ (place_at owners starts (from + count) ∷ [])
  unfolding places_from
  places_snoc zero from = rw add-zero refl
  places_snoc (suc count) from =
      let z : from + 1 + count ≡ from + suc count = omega arith in
      ap (◌∷◌ (place_at owners starts from)) (rw z at (places_snoc count (from + 1)))

module _ (owners starts : List ℕ) (written owner start : ℕ) where
  -- the entries at other places stay
  places_stay : (count from : ℕ) → ((place : ℕ) → from ≤ place → place < from + count → place ≡ written → ⊥)
      → places_from count (set owners written owner) (set starts written start) from ≡ places_from count owners starts from
  unfolding places_from
  places_stay zero from h = refl
  places_stay (suc count) from h =
      let off : from ≡ written → ⊥ = h from (omega arith) (omega arith) in
      rw (get_or-set_other owners written from owner 0 off, get_or-set_other starts written from start 0 off)
      (ap (◌∷◌ (place_at owners starts from)) (places_stay count (from + 1) (λ i l u. h i (omega arith) (omega arith))))

  push_entries : IndexRoomFor (written + 1) owners starts
      → places_in (written + 1) (set owners written owner) (set starts written start)
      ≡ places_in written owners starts ++ (record { nonterminal = owner; start = start } ∷ [])
  push_entries room =
      ap (λ (k : ℕ). places_in k (set owners written owner) (set starts written start)) (add-one written)
      ∙ places_snoc (set owners written owner) (set starts written start) written 0
      ∙ rw (
        zero-add written,
        get_or-set_same owners written owner 0 (omega (arith, room.owners_room)),
        get_or-set_same starts written start 0 (omega (arith, room.starts_room)),
      )
      (ap (λ (g : List Place). g ++ (record { nonterminal = owner; start = start } ∷ [])) (places_stay written 0 (λ i a b. omega arith)))

  -- an entry behind the first `written` is one place more
  pub push_is : IndexRoomFor (written + 1) owners starts
      → LaidIndex (places_in written owners starts ++ (record { nonterminal = owner; start = start } ∷ [])) (written + 1) (written + 1) owners starts
      (set owners written owner) (set starts written start)
  push_is room =
      record {
        entries = push_entries room;
        few = omega arith;
        owners_stay = drop-set-lt (written + 1) owners written owner (omega arith);
        starts_stay = drop-set-lt (written + 1) starts written start (omega arith);
      }

-- ------------------------------------------------------------------ the places of a nonterminal dropped

without_one : (nonterminal : ℕ) (place : Place) (places : List Place) (owned : Bool) → eqb place.nonterminal nonterminal ≡ owned
    → places_without nonterminal (place ∷ places) ≡ elim owned [ true ↦ places_without nonterminal places | false ↦ place ∷ places_without nonterminal places ]
unfolding places_without
without_one nonterminal place places owned e = rw (e, places_without) refl

-- of the first `count`, those before `place` are dropped or lie below `written`
pub record Dropping (nonterminal count : ℕ) (owners₀ starts₀ : List ℕ) (place written : ℕ) (owners starts : List ℕ) : Type 0 where
  -- no more places are kept than were looked at
  pub low : written ≤ place
  -- no more are looked at than there are
  pub high : place ≤ count
  -- the array of owners has room for all
  pub owner_room : count ≤ length owners
  -- the array of offsets has room for all
  pub start_room : count ≤ length starts
  -- the array of owners keeps its length
  pub owners_many : length owners ≡ length owners₀
  -- the array of offsets keeps its length
  pub starts_many : length starts ≡ length starts₀
  -- the owners behind the places kept are as they were
  pub owners_stay : drop written owners ≡ drop written owners₀
  -- so are the offsets
  pub starts_stay : drop written starts ≡ drop written starts₀
  -- the places kept, and those left without `nonterminal`'s, are all without `nonterminal`'s
  pub rest : places_in written owners starts ++ places_without nonterminal (places_from (count - place) owners starts place)
      ≡ places_without nonterminal (places_in count owners₀ starts₀)

-- all places are left at first
pub dropping_start : (nonterminal count : ℕ) (owners₀ starts₀ : List ℕ) → IndexRoomFor count owners₀ starts₀
    → Dropping nonterminal count owners₀ starts₀ 0 0 owners₀ starts₀
unfolding places_from
dropping_start nonterminal count owners₀ starts₀ room =
    record {
      low = omega arith;
      high = omega arith;
      owner_room = room.owners_room;
      start_room = room.starts_room;
      owners_many = refl;
      starts_many = refl;
      owners_stay = refl;
      starts_stay = refl;
      rest = rw sub-zero refl;
    }

-- a number behind the first `written` is overwritten
stays : (old new : List ℕ) (written number : ℕ) → drop written new ≡ drop written old → drop (written + 1) (set new written number) ≡ drop (written + 1) old
stays old new written number e =
    drop-set-lt (written + 1) new written number (omega arith)
    ∙ sym (drop-drop 1 written new)
    ∙ ap (drop 1) e
    ∙ drop-drop 1 written old

module _ {nonterminal count : ℕ} {owners₀ starts₀ : List ℕ} {place written : ℕ} {owners starts : List ℕ}
    (dropping : Dropping nonterminal count owners₀ starts₀ place written owners starts) where
  -- with the place at `place` in front of the others
  dropping_one : place < count → (owned : Bool) → eqb (get_or owners place 0) nonterminal ≡ owned
      → places_in written owners starts
      ++ (elim owned [
        | true ↦ places_without nonterminal (places_from (count - (place + 1)) owners starts (place + 1))
        | false ↦ place_at owners starts place ∷ places_without nonterminal (places_from (count - (place + 1)) owners starts (place + 1))
      ])
      ≡ places_without nonterminal (places_in count owners₀ starts₀)
  dropping_one h owned e =
      cc (
        places_next owners starts count place h,
        without_one nonterminal (place_at owners starts place) (places_from (count - (place + 1)) owners starts (place + 1)) owned e,
        dropping.rest,
      )

  -- a place of `nonterminal` is dropped
  pub dropping_dropped : place < count → get_or owners place 0 ≡ nonterminal → Dropping nonterminal count owners₀ starts₀ (place + 1) written owners starts
  dropping_dropped h e =
      record {
        low = omega (arith, dropping.low);
        high = omega arith;
        owner_room = dropping.owner_room;
        start_room = dropping.start_room;
        owners_many = dropping.owners_many;
        starts_many = dropping.starts_many;
        owners_stay = dropping.owners_stay;
        starts_stay = dropping.starts_stay;
        rest = dropping_one h true (eq-eqb (get_or owners place 0) nonterminal e);
      }

  -- another moves down
  pub dropping_kept : place < count → (get_or owners place 0 ≡ nonterminal → ⊥)
      → Dropping nonterminal count owners₀ starts₀ (place + 1) (written + 1) (set owners written (get_or owners place 0))
      (set starts written (get_or starts place 0))
  dropping_kept h e =
      let low = dropping.low in
      let o : ℕ = get_or owners place 0 in
      let s : ℕ = get_or starts place 0 in
      let room : IndexRoomFor (written + 1) owners starts =
      record { owners_room = omega (arith, dropping.owner_room); starts_room = omega (arith, dropping.start_room) } in
      record {
        low = omega arith;
        high = omega arith;
        owner_room = omega (arith, dropping.owner_room, length-set owners written o);
        start_room = omega (arith, dropping.start_room, length-set starts written s);
        owners_many = length-set owners written o ∙ dropping.owners_many;
        starts_many = length-set starts written s ∙ dropping.starts_many;
        owners_stay = stays owners₀ owners written o dropping.owners_stay;
        starts_stay = stays starts₀ starts written s dropping.starts_stay;
        rest =
            rw (push_entries owners starts written o s room, places_stay owners starts written o s (count - (place + 1)) (place + 1) (λ j a b. omega arith))
            (append_snoc (places_in written owners starts) (place_at owners starts place)
            (places_without nonterminal (places_from (count - (place + 1)) owners starts (place + 1)))
            ∙ dropping_one h false (ne_eqb (get_or owners place 0) nonterminal e));
      }

  -- no place is left
  pub dropping_end : count ≤ place
      → LaidIndex (places_without nonterminal (places_in count owners₀ starts₀)) count written owners₀ starts₀ owners starts
  unfolding places_without
  dropping_end h =
      record {
        entries =
            rw (places_none owners starts count place h, append-nil (places_in written owners starts)) at dropping.rest;
        few = omega (arith, dropping.low, dropping.high);
        owners_stay = dropping.owners_stay;
        starts_stay = dropping.starts_stay;
      }

-- ------------------------------------------------------------------ the head of a definition

kept_update : (mode nonterminal : ℕ) (places : List Place) → mode ≡ 2 → places_kept (mode_of mode) nonterminal places ≡ places_without nonterminal places
kept_update mode nonterminal places e = rw e refl

kept_other : (mode nonterminal : ℕ) (places : List Place) → (mode ≡ 2 → ⊥) → places_kept (mode_of mode) nonterminal places ≡ places
kept_other zero nonterminal places e = refl
kept_other (suc zero) nonterminal places e = refl
kept_other (suc (suc zero)) nonterminal places e = absurd (e refl)
kept_other (suc (suc (suc m))) nonterminal places e = refl

module _ (head owners starts : List ℕ) {count mode : ℕ} (em : mode ≡ get_or head 1 0) where
  -- an update drops the places of its nonterminal
  pub redefine_update : mode ≡ 2 → {nonterminal : ℕ} → nonterminal ≡ get_or head 0 0 → {kept_count : ℕ} {owners' starts' : List ℕ}
      → LaidIndex (places_without nonterminal (places_in count owners starts)) count kept_count owners starts owners' starts'
      → LaidIndex (places_kept (mode_of (get_or head 1 0)) (get_or head 0 0) (places_in count owners starts)) count kept_count owners starts owners' starts'
  redefine_update t en f =
      record {
        entries =
            cc (f.entries, kept_update (get_or head 1 0) (get_or head 0 0) (places_in count owners starts) (sym em ∙ t));
        few = f.few;
        owners_stay = f.owners_stay;
        starts_stay = f.starts_stay;
      }

  -- other heads keep all
  pub redefine_other : (mode ≡ 2 → ⊥)
      → LaidIndex (places_kept (mode_of (get_or head 1 0)) (get_or head 0 0) (places_in count owners starts)) count count owners starts owners starts
  redefine_other t =
      record {
        entries = sym (kept_other (get_or head 1 0) (get_or head 0 0) (places_in count owners starts) (λ q. t (em ∙ q)));
        few = omega arith;
        owners_stay = refl;
        starts_stay = refl;
      }

-- ------------------------------------------------------------------ the fields of a table

module _ (at tag : ℕ) (value : List ℕ) (fs : RawFields) where
  places_head : tag ≡ 4 → (nonterminal : ℕ) (places : List Place)
      → places_by (next at tag value fs) nonterminal places ≡ places_by fs (get_or value 0 0) (places_kept (mode_of (get_or value 1 0)) (get_or value 0 0) places)
  unfolding places_by
  places_head e nonterminal places = rw (eq-eqb tag 4 e, places_by) refl

  places_alternative : tag ≡ 5 → (nonterminal : ℕ) (places : List Place)
      → places_by (next at tag value fs) nonterminal places
      ≡ places_by fs nonterminal (places ++ (record { nonterminal = nonterminal; start = at + 3 + length value } ∷ []))
  unfolding places_by
  places_alternative e nonterminal places = rw e refl

  places_other : (tag ≡ 4 → ⊥) → (tag ≡ 5 → ⊥) → (nonterminal : ℕ) (places : List Place)
      → places_by (next at tag value fs) nonterminal places ≡ places_by fs nonterminal places
  unfolding places_by
  places_other e f nonterminal places = rw (ne_eqb tag 4 e, ne_eqb tag 5 f, places_by) refl

  arrays_head : tag ≡ 4 → (nonterminal : ℕ) (places kept : List Place) (old : Arrays)
      → kept ≡ places_kept (mode_of (get_or value 1 0)) (get_or value 0 0) places
      → arrays_by (next at tag value fs) nonterminal places old ≡ arrays_by fs (get_or value 0 0) kept (laid_over kept old)
  unfolding arrays_by
  arrays_head e nonterminal places kept old k = rw (eq-eqb tag 4 e, k, arrays_by) refl

  arrays_alternative : tag ≡ 5 → (nonterminal : ℕ) (places more : List Place) (old : Arrays)
      → more ≡ places ++ (record { nonterminal = nonterminal; start = at + 3 + length value } ∷ [])
      → arrays_by (next at tag value fs) nonterminal places old ≡ arrays_by fs nonterminal more (laid_over more old)
  unfolding arrays_by
  arrays_alternative e nonterminal places more old k = rw (e, k) refl

  arrays_other : (tag ≡ 4 → ⊥) → (tag ≡ 5 → ⊥) → (nonterminal : ℕ) (places : List Place) (old : Arrays)
      → arrays_by (next at tag value fs) nonterminal places old ≡ arrays_by fs nonterminal places old
  unfolding arrays_by
  arrays_other e f nonterminal places old = rw (ne_eqb tag 4 e, ne_eqb tag 5 f, arrays_by) refl

  fields_alternative : tag ≡ 5 → alternative_fields (next at tag value fs) ≡ suc (alternative_fields fs)
  unfolding alternative_fields
  fields_alternative e = rw (eq-eqb tag 5 e, alternative_fields) refl

  fields_other : (tag ≡ 5 → ⊥) → alternative_fields (next at tag value fs) ≡ alternative_fields fs
  unfolding alternative_fields
  fields_other e = rw (ne_eqb tag 5 e, alternative_fields) refl

places_walk : (nonterminal : ℕ) (places : List Place) → Walk (λ fs. places_by fs nonterminal places) places
unfolding places_by
places_walk nonterminal places = record { at-end = λ at. refl; at_cut = λ at. refl; at_none = λ at to. refl }

alternatives_walk : Walk alternative_fields 0
unfolding alternative_fields
alternatives_walk = record { at-end = λ at. refl; at_cut = λ at. refl; at_none = λ at to. refl }

arrays_walk : (nonterminal : ℕ) (places : List Place) (old : Arrays) → Walk (λ fs. arrays_by fs nonterminal places old) old
unfolding arrays_by
arrays_walk nonterminal places old = record { at-end = λ at. refl; at_cut = λ at. refl; at_none = λ at to. refl }

-- the numbers of places are those of the arrays
numbers_are : (owners starts numbers : List ℕ) (select : Place → ℕ) → ((place : ℕ) → select (place_at owners starts place) ≡ get_or numbers place 0)
    → (count from : ℕ) → from + count ≤ length numbers → map select (places_from count owners starts from) ≡ take count (drop from numbers)
unfolding places_from
numbers_are owners starts numbers select e zero from h = refl
numbers_are owners starts numbers select e (suc count) from h =
    cc (e from, drop-cons numbers from 0 (omega arith), add-one from, numbers_are owners starts numbers select e count (from + 1) (omega arith))

-- places that are laid in two arrays lie over what was there
laid_is : {places : List Place} {room count : ℕ} {owners starts owners' starts' : List ℕ} → LaidIndex places room count owners starts owners' starts'
    → count ≤ length owners' → count ≤ length starts' → laid_over places (arrays owners starts) ≡ arrays owners' starts'
laid_is {places} {count = count} {owners} {starts} {owners'} {starts'} laid ho hs =
    let many : length places ≡ count = sym (ap length laid.entries) ∙ length-places count owners' starts' 0 in
    let first : map (λ p. p.nonterminal) places ++ drop (length places) owners ≡ owners' =
    cc (
      laid.entries,
      numbers_are owners' starts' owners' (λ p. p.nonterminal) (λ j. refl) count 0 (omega arith),
      laid.owners_stay,
      take-append-drop count owners',
    ) in
    let second : map (λ p. p.start) places ++ drop (length places) starts ≡ starts' =
    cc (
      laid.entries,
      numbers_are owners' starts' starts' (λ p. p.start) (λ j. refl) count 0 (omega arith),
      laid.starts_stay,
      take-append-drop count starts',
    ) in
    cc

-- the fields before `at` gave the first `count` entries, and `nonterminal` is the nonterminal of the alternatives to come
pub record Building (bs owners₀ starts₀ : List ℕ) (at nonterminal count : ℕ) (owners starts : List ℕ) : Type 0 where
  -- the table is not too long
  pub short : length bs ≤ most.bytes
  -- there is room for the alternatives left
  pub room : count + alternative_fields (fields_at bs at) ≤ 256
  -- the fields left, after the places entered, give the places of the whole table
  pub rest : places_by (fields_at bs at) nonterminal (places_in count owners starts) ≡ places_of bs
  -- and the arrays
  pub laid : arrays_by (fields_at bs at) nonterminal (places_in count owners starts) (arrays owners starts) ≡ arrays_by (fields_of bs) 0 [] (arrays owners₀ starts₀)

-- at the first field
pub building_start : (bs owners starts : List ℕ) → FitsIndex bs → Building bs owners starts 0 0 0 owners starts
unfolding places_from
building_start bs owners starts h =
    record {
      short = h.short;
      room = omega (arith, h.few, ap alternative_fields (fields_of_lem bs));
      rest = cc (fields_of_lem bs);
      laid = cc (fields_of_lem bs);
    }

module _ {bs owners₀ starts₀ : List ℕ} {at nonterminal count : ℕ} {owners starts : List ℕ}
    (building : Building bs owners₀ starts₀ at nonterminal count owners starts) where
  abbrev places : List Place
  places = places_in count owners starts

  -- there are few places
  pub building_few : count ≤ 256
  building_few = omega (arith, building.room)

  -- no field is left
  pub building_end : length bs ≤ at → BuiltIndex bs count owners₀ starts₀ owners starts
  building_end h =
      record {
        index = record { entries = sym (walk_end (places_walk nonterminal places) bs at h) ∙ building.rest; few = building_few };
        arrays_are = sym (walk_end (arrays_walk nonterminal places (arrays owners starts)) bs at h) ∙ building.laid;
      }

  module _ {field : FieldSpan} (equal : field ≡ field_at bs at) where
    value : List ℕ
    value = value_in bs field

    behind : RawFields
    behind = fields_at bs field.to

    rest_here : places_by (next at field.tag value behind) nonterminal places ≡ places_of bs
    unfolding value behind
    rest_here = sym (walk_field (places_walk nonterminal places) bs at equal) ∙ building.rest

    laid_here : arrays_by (next at field.tag value behind) nonterminal places (arrays owners starts) ≡ arrays_by (fields_of bs) 0 [] (arrays owners₀ starts₀)
    unfolding value behind
    laid_here = sym (walk_field (arrays_walk nonterminal places (arrays owners starts)) bs at equal) ∙ building.laid

    count_here : alternative_fields (fields_at bs at) ≡ alternative_fields (next at field.tag value behind)
    unfolding value behind
    count_here = walk_field alternatives_walk bs at equal

    -- an alternative has room
    pub building_room : field.tag ≡ 5 → count < 256
    building_room t = omega (arith, building.room, count_here, fields_alternative at field.tag value behind t)

    module _ {owners' starts' : List ℕ} (owners_many : length owners' ≡ 256) (starts_many : length starts' ≡ 256) where
      -- behind the head of a definition
      pub building_head : field.tag ≡ 4 → {many : ℕ} → many ≡ get_or (value_in bs field) 0 0 → {kept_count : ℕ}
          → LaidIndex (places_kept (mode_of (get_or (value_in bs field) 1 0)) (get_or (value_in bs field) 0 0) places) count kept_count owners starts owners' starts'
          → Building bs owners₀ starts₀ field.to many kept_count owners' starts'
      unfolding value behind
      building_head t em f =
          let low = building_few in
          record {
            short = building.short;
            room = omega (arith, building.room, count_here, fields_other at field.tag value behind (λ q. omega arith), f.few);
            rest = rw (f.entries, em) (sym (places_head at field.tag value behind t nonterminal places) ∙ rest_here);
            laid =
                cc (
                  laid_is f (omega (arith, f.few)) (omega (arith, f.few)),
                  f.entries,
                  arrays_head at field.tag value behind t nonterminal places (places_kept (mode_of (get_or value 1 0)) (get_or value 0 0) places)
                      (arrays owners starts) refl,
                  laid_here,
                );
          }

      -- behind the begin of an alternative
      pub building_alternative : field.tag ≡ 5
          → LaidIndex (places ++ (record { nonterminal = nonterminal; start = field.to } ∷ [])) (count + 1) (count + 1) owners starts owners' starts'
          → Building bs owners₀ starts₀ field.to nonterminal (count + 1) owners' starts'
      unfolding value behind
      building_alternative t f =
          let ends : field.to ≡ at + 3 + length value = (field_lies bs at equal).whole (λ z. omega arith) in
          let more : List Place = places ++ (record { nonterminal = nonterminal; start = field.to } ∷ []) in
          let low = building_room t in
          record {
            short = building.short;
            room = omega (arith, building.room, count_here, fields_alternative at field.tag value behind t);
            rest = cc (f.entries, places_alternative at field.tag value behind t nonterminal places, rest_here);
            laid =
                cc (
                  laid_is f (omega arith) (omega arith),
                  f.entries,
                  arrays_alternative at field.tag value behind t nonterminal places more (arrays owners starts) (cc),
                  laid_here,
                );
          }

    -- other fields change nothing
    pub building_other : (field.tag ≡ 4 → ⊥) → (field.tag ≡ 5 → ⊥) → Building bs owners₀ starts₀ field.to nonterminal count owners starts
    unfolding behind
    building_other t u =
        record {
          short = building.short;
          room = omega (arith, building.room, count_here, fields_other at field.tag value behind u);
          rest = sym (places_other at field.tag value behind t u nonterminal places) ∙ rest_here;
          laid = sym (arrays_other at field.tag value behind t u nonterminal places (arrays owners starts)) ∙ laid_here;
        }
