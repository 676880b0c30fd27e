-- In a room that holds a grammar, the search for a clash by the links is the search over the productions themselves.
use Prim.Native.Nat.{ℕ, zero, suc, ◌+◌, ◌-◌, ◌<◌, ◌≤◌}
use mathlib.Core.Path.{◌≡◌, refl, sym, ap, ◌∙◌}
use mathlib.Core.Bool.{Bool, true, false, ◌&&◌, ◌||◌, and-false}
use mathlib.Core.List.{List, [], ◌∷◌, map}
use native.Mathlib.Omega.{arith}
use lib.Bits.{bit_or, or_zero_r}
use lib.Dec.{eqb, ltb}
use lib.ListN.{length, get_or, drop, length-drop}
use lib.Seq.{drop-cons}
use borrow.Author.Tests.{eqb-true, lt-ltb}
use Rattle.spellings.proofs.BytesLaws.{by_test}
use Rattle.productions.specs.Normal.{Production}
use Rattle.productions.specs.Index.{Place, production_at, productions_at}
use Rattle.productions.specs.Room.{Entry, no_entry, HoldsEntries, place_from, is_of, first_place_in, first_in, next_place_in, nullable_in}
use Rattle.productions.proofs.RoomLaws.{first_place_in_lem, first_in_lem, next_place_in_lem, nullable_in_lem}
use Rattle.clashes.specs.CheckFirsts.{both_of, shared_by, lowest, any_with, any_pair, join_with, join_pairs}
use Rattle.clashes.specs.Pairs.{after_in, linked, shared_in, clash_in, clashing_in, all_shared_in}
use Rattle.clashes.proofs.PairsLaws.{linked_next, linked_none}

-- ------------------------------------------------------------------ the places of a nonterminal's productions

-- the places of the entries of n, where they stand from place j on
unfoldable own_places : ℕ → List Entry → ℕ → List ℕ
own_places n [] j = []
own_places n (e ∷ es) j = elim (is_of n e) [ true ↦ j ∷ own_places n es (j + 1) | false ↦ own_places n es (j + 1) ]

-- a place is not before where the entries stand
place_from_lem : (test : Entry → Bool) (es : List Entry) (place : ℕ) → place + length es ≤ 256 → place ≤ place_from test es place
unfolding place_from
place_from_lem test [] place h = omega arith
place_from_lem test (e ∷ es) place h = by (test e) (place_from_lem test es (place + 1) (omega arith))
  where
    by : (answer : Bool) → place + 1 ≤ place_from test es (place + 1)
        → place ≤ (elim answer as (λ x. ℕ) [ true ↦ place | false ↦ place_from test es (place + 1) ])
    by true l = omega arith
    by false l = omega arith

module _ {sets : List ℕ} {es : List Entry} {room : List ℕ} (held : HoldsEntries sets es room) where
  -- what stands first of the entries from `place` on
  front : (entries : List Entry) (found : Entry) (place : ℕ) → drop place es ≡ found ∷ entries
      → (place < length es) × (get_or es place no_entry ≡ found) × (drop (place + 1) es ≡ entries)
  front entries found place h =
      let long : suc (length entries) ≡ length es - place = sym (ap length h) ∙ length-drop place es in
      let inside : place < length es = omega arith in
      let z : place + 1 ≡ suc place = omega arith in
      let opened : get_or es place no_entry ∷ drop (suc place) es ≡ found ∷ entries = sym (drop-cons es place no_entry inside) ∙ h in
      (inside, cc, cc)

  -- the links of `nonterminal` lead over its own entries
  linked_own : (nonterminal : ℕ) (entries : List Entry) (place : ℕ) → drop place es ≡ entries
      → linked room (place_from (is_of nonterminal) entries place) ≡ own_places nonterminal entries place
  unfolding place_from own_places
  linked_own nonterminal [] place h = linked_none room 256 (omega arith)
  linked_own nonterminal (e ∷ entries) place h =
      let at = front entries e place h in
      by_test (is_of nonterminal e)
      (λ t. rw (t, place_from, own_places)
      (cc (linked_next room place (omega (arith, at.0, held.few)), after nonterminal at t, linked_own nonterminal entries (place + 1) at.2)))
      (λ t. rw (t, place_from, own_places) (linked_own nonterminal entries (place + 1) at.2))
    where
      after : (nonterminal : ℕ) → (place < length es) × (get_or es place no_entry ≡ e) × (drop (place + 1) es ≡ entries) → is_of nonterminal e ≡ true
          → after_in room place ≡ place_from (is_of nonterminal) entries (place + 1)
      after nonterminal at t =
          let o : (get_or es place no_entry).nonterminal ≡ nonterminal = rw at.1 (eqb-true e.nonterminal nonterminal t) in
          let p : next_place_in room place ≡ place_from (is_of nonterminal) entries (place + 1) = next_place_in_lem held place at.0 ∙ rw (o, at.2) refl in
          let long : length (drop (place + 1) es) ≡ length entries = ap length at.2 in
          let m : place < place_from (is_of nonterminal) entries (place + 1) =
          omega (arith, place_from_lem (is_of nonterminal) entries (place + 1) (omega (arith, held.few, at.0, length-drop (place + 1) es))) in
          rw (p, lt-ltb place (place_from (is_of nonterminal) entries (place + 1)) m, after_in) p

-- ------------------------------------------------------------------ two productions

-- the entry of the production at a place, with the set and the nullability that are given for it
abbrev pub entry_by : List ℕ → (Production → ℕ) → (Production → Bool) → Place → Entry
entry_by bs set_of null_of p =
    record {
      nonterminal = p.nonterminal;
      start = p.start;
      first = set_of (production_at bs p.nonterminal p.start);
      nullable = null_of (production_at bs p.nonterminal p.start);
      patterns = 0;
    }

-- two productions of n share something of these sets, or are both nullable
abbrev pub clash_by : (Production → ℕ) → (Production → Bool) → ℕ → Production → Production → Bool
clash_by set_of null_of n p q = both_of n p q && (ltb 0 (shared_by set_of n p q) || (null_of p && null_of q))

module _ (bs : List ℕ) (set_of : Production → ℕ) (null_of : Production → Bool) {sets : List ℕ} {es : List Entry} {room : List ℕ}
    (held : HoldsEntries sets es room) where
  abbrev entry : Place → Entry
  entry = entry_by bs set_of null_of

  abbrev production : Place → Production
  production p = production_at bs p.nonterminal p.start

  -- the production at a place of the room
  record At (row : ℕ) (place : Place) : Type 0 where
    inside : row < length es
    here : get_or es row no_entry ≡ entry_by bs set_of null_of place

  read_first : {row : ℕ} {place : Place} → At row place → first_in room row ≡ (entry place).first
  read_first {row} a = first_in_lem held row a.inside ∙ rw a.here refl

  read_nullable : {row : ℕ} {place : Place} → At row place → nullable_in room row ≡ (entry place).nullable
  read_nullable {row} a = nullable_in_lem held row a.inside ∙ rw a.here refl

  module _ (nonterminal : ℕ) where
    module _ {row place : ℕ} {at_place other : Place} (at_first : At row at_place) (at_other : At place other)
        (own : eqb at_place.nonterminal nonterminal ≡ true) (own' : eqb other.nonterminal nonterminal ≡ true) where
      shared_own : shared_in room row place ≡ shared_by set_of nonterminal (production at_place) (production other)
      unfolding production_at
      shared_own = rw (own, own', shared_by) (rw (read_first at_first, read_first at_other) refl)

      clash_own : clash_in room row place ≡ clash_by set_of null_of nonterminal (production at_place) (production other)
      unfolding production_at
      clash_own = rw (own, own', shared_by) (rw (read_first at_first, read_first at_other, read_nullable at_first, read_nullable at_other) refl)

    shared_off : (place other : Place) → eqb other.nonterminal nonterminal ≡ false
        → shared_by set_of nonterminal (production place) (production other) ≡ 0
    unfolding production_at
    shared_off place other e = rw (e, and-false (eqb place.nonterminal nonterminal), shared_by) refl

    clash_off : (place other : Place) → eqb other.nonterminal nonterminal ≡ false
        → clash_by set_of null_of nonterminal (production place) (production other) ≡ false
    unfolding production_at
    clash_off place other e = rw (e, and-false (eqb place.nonterminal nonterminal)) refl

    shared_none : (place : Place) (other : Production) → eqb place.nonterminal nonterminal ≡ false
        → shared_by set_of nonterminal (production place) other ≡ 0
    unfolding production_at
    shared_none place other e = rw (e, shared_by) refl

    clash_none : (place : Place) (other : Production) → eqb place.nonterminal nonterminal ≡ false
        → clash_by set_of null_of nonterminal (production place) other ≡ false
    unfolding production_at
    clash_none place other e = rw e refl

    none_with : (test : Production → Bool) → ((other : Production) → test other ≡ false) → (g : List Production) → any_with test g ≡ false
    unfolding any_with
    none_with test e [] = refl
    none_with test e (q ∷ g) = rw (e q) (none_with test e g)

    nothing_with : (set_of : Production → ℕ) → ((other : Production) → set_of other ≡ 0) → (g : List Production) (found : ℕ) → join_with set_of g found ≡ found
    unfolding join_with
    nothing_with set_of e [] found = refl
    nothing_with set_of e (q ∷ g) found = ap (join_with set_of g) (ap (bit_or found) (e q) ∙ or_zero_r found) ∙ nothing_with set_of e g found

    -- the place of the first of some places, and the places behind it
    here_at : (other : Place) (ps : List Place) (place : ℕ) → drop place es ≡ map entry (other ∷ ps) → At place other × (drop (place + 1) es ≡ map entry ps)
    here_at other ps place h = let f = front held (map entry ps) (entry other) place h in (record { inside = f.0; here = f.1 }, f.2)

    module _ {row : ℕ} {place : Place} (at_place : At row place) (own : eqb place.nonterminal nonterminal ≡ true) where
      any_with_lem : (ps : List Place) (index : ℕ) → drop index es ≡ map entry ps
          → any_with (clash_in room row) (own_places nonterminal (map entry ps) index) ≡ any_with (clash_by set_of null_of nonterminal (production place))
          (productions_at bs ps)
      unfolding any_with own_places
      any_with_lem [] index h = refl
      any_with_lem (q ∷ ps) index h =
          let f = here_at q ps index h in
          let rest = any_with_lem ps (index + 1) f.1 in
          by_test (eqb q.nonterminal nonterminal)
          (λ t. rw (t, own_places)
          (rw (clash_own at_place f.0 own t, rest) refl))
          (λ t. rw (t, own_places, clash_off place q t) rest)

      join_with_lem : (ps : List Place) (index found : ℕ) → drop index es ≡ map entry ps
          → join_with (shared_in room row) (own_places nonterminal (map entry ps) index) found
          ≡ join_with (shared_by set_of nonterminal (production place)) (productions_at bs ps) found
      unfolding join_with own_places
      join_with_lem [] index found h = refl
      join_with_lem (q ∷ ps) index found h =
          let f = here_at q ps index h in
          by_test (eqb q.nonterminal nonterminal)
          (λ t. rw (t, own_places)
          (rw (shared_own at_place f.0 own t) (join_with_lem ps (index + 1) _ f.1)))
          (λ t. rw (t, own_places)
          (join_with_lem ps (index + 1) found f.1
          ∙ ap (join_with (shared_by set_of nonterminal (production place)) (productions_at bs ps))
          (sym (ap (bit_or found) (shared_off place q t) ∙ or_zero_r found))))

    -- ------------------------------------------------------------------ all pairs

    any_pairs : (ps : List Place) (place : ℕ) → drop place es ≡ map entry ps
        → any_pair (clash_in room) (own_places nonterminal (map entry ps) place) ≡ any_pair (clash_by set_of null_of nonterminal) (productions_at bs ps)
    unfolding any_pair own_places
    any_pairs [] place h = refl
    any_pairs (q ∷ ps) place h =
        let f = here_at q ps place h in
        let rest = any_pairs ps (place + 1) f.1 in
        by_test (eqb q.nonterminal nonterminal)
        (λ t. rw (t, own_places)
        (rw (any_with_lem f.0 t ps (place + 1) f.1, rest) refl))
        (λ t. rw (t, own_places, none_with (clash_by set_of null_of nonterminal (production q)) (λ r. clash_none q r t) (productions_at bs ps)) rest)

    join_pairs_lem : (ps : List Place) (place found : ℕ) → drop place es ≡ map entry ps
        → join_pairs (shared_in room) (own_places nonterminal (map entry ps) place) found ≡ join_pairs (shared_by set_of nonterminal) (productions_at bs ps) found
    unfolding join_pairs own_places
    join_pairs_lem [] place found h = refl
    join_pairs_lem (q ∷ ps) place found h =
        let f = here_at q ps place h in
        by_test (eqb q.nonterminal nonterminal)
        (λ t. rw (t, own_places)
        (join_pairs_lem ps (place + 1) (join_with (shared_in room place) (own_places nonterminal (map entry ps) (place + 1)) found) f.1
        ∙ ap (join_pairs (shared_by set_of nonterminal) (productions_at bs ps)) (join_with_lem f.0 t ps (place + 1) found f.1)))
        (λ t. rw (t, own_places)
        (join_pairs_lem ps (place + 1) found f.1
        ∙ ap (join_pairs (shared_by set_of nonterminal) (productions_at bs ps))
        (sym (nothing_with (shared_by set_of nonterminal (production q)) (λ r. shared_none q r t) (productions_at bs ps) found))))

    -- the productions of `nonterminal`, by its links
    own_linked : nonterminal < 64 → linked room (first_place_in room nonterminal) ≡ own_places nonterminal es 0
    own_linked small = ap (linked room) (first_place_in_lem held nonterminal small) ∙ linked_own held nonterminal es 0 refl

lowest_same : (count start : ℕ) (test other : ℕ → Bool) → ((number : ℕ) → number < start + count → test number ≡ other number)
    → lowest count test start ≡ lowest count other start
unfolding lowest
lowest_same zero start test other h = refl
lowest_same (suc count) start test other h =
    let rest = lowest_same count (start + 1) test other (λ i l. h i (omega arith)) in
    by_test (other start) (λ t. rw (h start (omega arith), t, lowest) refl) (λ t. rw (h start (omega arith), t, lowest) rest)

-- ------------------------------------------------------------------ all productions

module _ (bs : List ℕ) (set_of : Production → ℕ) (null_of : Production → Bool) (places : List Place) {sets room : List ℕ}
    (held : HoldsEntries sets (map (entry_by bs set_of null_of) places) room) where
  -- The lowest nonterminal with a clash by the links is the lowest one by the productions,
  pub clashing_is : clashing_in room ≡ lowest 64 (λ n. any_pair (clash_by set_of null_of n) (productions_at bs places)) 0
  clashing_is =
      lowest_same 64 0 _ _
      (λ n small. ap (any_pair (clash_in room)) (own_linked bs set_of null_of held n small) ∙ any_pairs bs set_of null_of held n places 0 refl)

  -- and so is what any two productions of a nonterminal share.
  pub shared_is : (nonterminal : ℕ) → nonterminal < 64 → all_shared_in room nonterminal ≡ join_pairs (shared_by set_of nonterminal) (productions_at bs places) 0
  shared_is nonterminal small =
      rw (own_linked bs set_of null_of held nonterminal small) (join_pairs_lem bs set_of null_of held nonterminal places 0 0 refl)
