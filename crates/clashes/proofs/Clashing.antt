-- The tests of refusals 12 and 13 pass exactly if the rules say so: two productions of one nonterminal share a kind or the sort of a pattern place, or are
-- both nullable.
use Prim.Native.Nat.{ℕ, ◌/◌, ◌^◌, ◌<◌}
use mathlib.Core.Path.{◌≡◌, refl, sym, ◌∙◌}
use mathlib.Core.Bool.{Bool, true, false, ◌&&◌, ◌||◌, and-eq-true_iff}
use mathlib.Core.Logic.{◌↔◌, inl, inr, ⊎_elim}
use mathlib.Core.List.{List}
use native.Mathlib.Nat.{div-div-eq-div-mul}
use native.Mathlib.Omega.{arith}
use lib.Dec.{eqb, ltb}
use lib.Pow.{pow-add}
use borrow.Author.Tests.{lt-ltb, ltb-true, eq-eqb, eqb-true}
use Rattle.kinds.specs.Kinds.{has_kind}
use Rattle.kinds.proofs.KindsLaws.{has_none, has_meet}
use Rattle.grammar.specs.Table.{Item}
use Rattle.productions.specs.Normal.{Production}
use Rattle.firsts.specs.FirstSets.{opening_of, nullables, all_nullable}
use Rattle.firsts.specs.Patterns.{place_bit, patterns_in, ReadsPlace, reads_place}
use Rattle.firsts.specs.Rules.{First, Reads, reads}
use Rattle.clashes.specs.Openings.{Openings, place_sorts, openings_of}
use Rattle.clashes.specs.CheckFirsts.{both_of, shared_by, clash, any_pair, join_pairs}
use Rattle.clashes.specs.Clashes.{Before, Two, SharesBy, Shares, SharesPlace, Clashes}
use Rattle.firsts.proofs.EqualSets.{some_kind, kind_positive}
use Rattle.firsts.proofs.Rounds.{or_left, or_right, or_split}
use Rattle.firsts.proofs.NullablesExactly.{null_items_exactly}
use Rattle.firsts.proofs.FirstSetsExactly.{items_exactly, reads_exactly, first_holds, places_exactly}
use Rattle.clashes.proofs.Searches.{FoundPair, pair_exactly, pairs_seen}

-- A kind that stands first is one of the 64,
pub kind_small : {g : List Production} {is : List Item} {kind : ℕ} → First g Reads is kind → kind < 64
kind_small f = first_holds by f
  where
    by : {kind : ℕ} (item : Item) → Reads item kind → kind < 64
    by _ (reads l) = l

-- and so is the sort of a place.
pub sort_small : {g : List Production} {is : List Item} {sort : ℕ} → First g ReadsPlace is sort → sort < 64
sort_small f = first_holds by f
  where
    by : {sort : ℕ} (item : Item) → ReadsPlace item sort → sort < 64
    by _ (reads_place l) = omega arith

-- ------------------------------------------------------------------ what two productions share

-- a set without its 8 lowest numbers
pub has_behind : (set sort : ℕ) → has_kind (set / 2 ^ place_bit 0) sort ≡ has_kind set (place_bit sort)
unfolding has_kind
has_behind set sort = cc (pow-add 2 8 sort, div-div-eq-div-mul set (2 ^ 8) (2 ^ sort))

shared_seen : (set_of : Production → ℕ) (nonterminal : ℕ) (p other : Production) (kind : ℕ)
    → has_kind (shared_by set_of nonterminal p other) kind ≡ (both_of nonterminal p other && (has_kind (set_of p) kind && has_kind (set_of other) kind))
shared_seen set_of nonterminal p other kind = by (both_of nonterminal p other) refl
  where
    by : (test : Bool) → both_of nonterminal p other ≡ test
        → has_kind (shared_by set_of nonterminal p other) kind ≡ (both_of nonterminal p other && (has_kind (set_of p) kind && has_kind (set_of other) kind))
    by true e = rw (e, shared_by) (has_meet (set_of p) (set_of other) kind)
    by false e = rw (e, shared_by) (has_none kind)

module _ (g : List Production) where
  abbrev openings : Openings
  openings = openings_of g

  two_sound : {nonterminal : ℕ} {p other : Production} → nonterminal < 64 → Before g p other → both_of nonterminal p other ≡ true → Two g nonterminal p other
  two_sound {nonterminal} {p} {other} l apart e =
      let o = (and-eq-true_iff (eqb p.nonterminal nonterminal) (eqb other.nonterminal nonterminal)).0 e in
      record {
        apart = apart;
        first_owned = eqb-true p.nonterminal nonterminal o.0;
        second_owned = eqb-true other.nonterminal nonterminal o.1;
        small = l;
      }

  two_complete : {nonterminal : ℕ} {p other : Production} → Two g nonterminal p other → both_of nonterminal p other ≡ true
  two_complete {nonterminal} {p} {other} w =
      (and-eq-true_iff _ _).1 (eq-eqb p.nonterminal nonterminal w.first_owned, eq-eqb other.nonterminal nonterminal w.second_owned)

  -- ---------------------------------------------------------------- what is shared

  -- a number of `set_of` of a production is what the rules say of its items
  module _ (Own : Item → ℕ → Type 0) (set_of : Production → ℕ)
      (exactly : (p : Production) (kind : ℕ) → (has_kind (set_of p) kind ≡ true) ↔ First g Own p.items kind) where
    share_sound : {nonterminal kind : ℕ} {p other : Production} → nonterminal < 64 → Before g p other
        → has_kind (shared_by set_of nonterminal p other) kind ≡ true → SharesBy Own g nonterminal kind
    share_sound {nonterminal} {kind} {p} {other} l apart e =
        let o = (and-eq-true_iff (both_of nonterminal p other) _).0 (sym (shared_seen set_of nonterminal p other kind) ∙ e) in
        let f = (and-eq-true_iff (has_kind (set_of p) kind) (has_kind (set_of other) kind)).0 o.1 in
        record {
          one = p;
          other = other;
          two = two_sound l apart o.0;
          one_first = (exactly p kind).0 f.0;
          other_first = (exactly other kind).0 f.1;
        }

    share_complete : {nonterminal kind : ℕ} (shares : SharesBy Own g nonterminal kind)
        → has_kind (shared_by set_of nonterminal shares.one shares.other) kind ≡ true
    share_complete {nonterminal} {kind} shares =
        shared_seen set_of nonterminal shares.one shares.other kind
        ∙ (and-eq-true_iff _ _).1 (
          two_complete shares.two,
          (and-eq-true_iff _ _).1 ((exactly shares.one kind).1 shares.one_first, (exactly shares.other kind).1 shares.other_first),
        )

    -- what any two productions of `nonterminal` share, together
    all_shared : (nonterminal : ℕ) → nonterminal < 64 → (kind : ℕ) → (has_kind (join_pairs (shared_by set_of nonterminal) g 0) kind ≡ true)
        ↔ SharesBy Own g nonterminal kind
    all_shared nonterminal l kind = (
      λ e. let r = (pair_exactly gives g).0 (sym joined ∙ e) in share_sound l r.apart r.passes,
      λ s. joined ∙ (pair_exactly gives g).1 (record { one = s.one; other = s.other; apart = s.two.apart; passes = share_complete s }),
    )
      where
        gives : Production → Production → Bool
        gives p q = has_kind (shared_by set_of nonterminal p q) kind

        joined : has_kind (join_pairs (shared_by set_of nonterminal) g 0) kind ≡ any_pair gives g
        joined = rw (has_none kind) at (pairs_seen (shared_by set_of nonterminal) g 0 kind)

    -- two productions share something exactly if the set is not empty
    some_shared : {nonterminal : ℕ} {p other : Production} → nonterminal < 64 → Before g p other → ltb 0 (shared_by set_of nonterminal p other) ≡ true
        → (kind : ℕ) × SharesBy Own g nonterminal kind
    some_shared {nonterminal} {p} {other} l apart h =
        let k = some_kind (shared_by set_of nonterminal p other) (ltb-true 0 _ h) in (k.0, share_sound l apart k.1)

    shared_some : {nonterminal kind : ℕ} (shares : SharesBy Own g nonterminal kind) → ltb 0 (shared_by set_of nonterminal shares.one shares.other) ≡ true
    shared_some {kind = kind} shares = lt-ltb 0 _ (kind_positive _ kind (share_complete shares))

  kinds_are : (p : Production) (kind : ℕ) → (has_kind (openings.kinds p) kind ≡ true) ↔ First g Reads p.items kind
  kinds_are p = items_exactly opening_of Reads reads_exactly g p.items

  -- The sorts of the places that open a production are those that the rules give.
  pub sorts_are : (p : Production) (sort : ℕ) → (has_kind (place_sorts g p) sort ≡ true) ↔ First g ReadsPlace p.items sort
  sorts_are p sort = (
    λ e. (places_exactly g p.items sort).0 (sym (has_behind (patterns_in g p.items) sort) ∙ e),
    λ f. has_behind (patterns_in g p.items) sort ∙ (places_exactly g p.items sort).1 f,
  )

  -- the kinds that any two productions of `nonterminal` share
  pub shared_exactly : (nonterminal : ℕ) → nonterminal < 64 → (kind : ℕ) → (has_kind (join_pairs (shared_by openings.kinds nonterminal) g 0) kind ≡ true)
      ↔ Shares g nonterminal kind
  shared_exactly = all_shared Reads openings.kinds kinds_are

  -- and the sorts of pattern places
  pub places_shared_exactly : (nonterminal : ℕ) → nonterminal < 64 → (sort : ℕ)
      → (has_kind (join_pairs (shared_by openings.sorts nonterminal) g 0) sort ≡ true) ↔ SharesPlace g nonterminal sort
  places_shared_exactly = all_shared ReadsPlace openings.sorts sorts_are

  -- ---------------------------------------------------------------- a clash

  clash_sound : (nonterminal : ℕ) → nonterminal < 64 → {p other : Production} → Before g p other → clash openings nonterminal p other ≡ true
      → Clashes g nonterminal
  clash_sound nonterminal l {p} {other} apart e =
      let o = (and-eq-true_iff (both_of nonterminal p other) _).0 e in
      ⊎_elim
      (λ h. ⊎_elim
      (λ k. inl (some_shared Reads openings.kinds kinds_are l apart k))
      (λ k. inr (inl (some_shared ReadsPlace openings.sorts sorts_are l apart k)))
      (or_split (ltb 0 (shared_by openings.kinds nonterminal p other)) h))
      (λ h.
      let m = (and-eq-true_iff (all_nullable (nullables g) p.items) (all_nullable (nullables g) other.items)).0 h in
      inr
      (inr
      (record {
        one = p;
        other = other;
        two = two_sound l apart o.0;
        one_null = (null_items_exactly g p.items).0 m.0;
        other_null = (null_items_exactly g other.items).0 m.1;
      })))
      (or_split (ltb 0 (shared_by openings.kinds nonterminal p other) || ltb 0 (shared_by openings.sorts nonterminal p other)) o.1)

  clash_complete : (nonterminal : ℕ) → Clashes g nonterminal → FoundPair (clash openings nonterminal) g
  clash_complete nonterminal (inl (b, s)) =
      record {
        one = s.one;
        other = s.other;
        apart = s.two.apart;
        passes = (and-eq-true_iff _ _).1 (
          two_complete s.two,
          or_left _ (or_left _ (shared_some Reads openings.kinds kinds_are s)),
        );
      }
  clash_complete nonterminal (inr (inl (b, s))) =
      record {
        one = s.one;
        other = s.other;
        apart = s.two.apart;
        passes = (and-eq-true_iff _ _).1 (
          two_complete s.two,
          or_left _
              (or_right (ltb 0 (shared_by openings.kinds nonterminal s.one s.other))
              (shared_some ReadsPlace openings.sorts sorts_are s)),
        );
      }
  clash_complete nonterminal (inr (inr z)) =
      record {
        one = z.one;
        other = z.other;
        apart = z.two.apart;
        passes = (and-eq-true_iff _ _).1 (
          two_complete z.two,
          or_right (ltb 0 (shared_by openings.kinds nonterminal z.one z.other) || ltb 0 (shared_by openings.sorts nonterminal z.one z.other))
              ((and-eq-true_iff _ _).1 ((null_items_exactly g z.one.items).1 z.one_null, (null_items_exactly g z.other.items).1 z.other_null)),
        );
      }

  -- the test for a clash passes exactly if two productions of `nonterminal` clash
  pub clash_exactly : (nonterminal : ℕ) → nonterminal < 64 → (any_pair (clash openings nonterminal) g ≡ true) ↔ Clashes g nonterminal
  clash_exactly nonterminal l = (
    λ e. let r = (pair_exactly (clash openings nonterminal) g).0 e in clash_sound nonterminal l r.apart r.passes,
    λ c. (pair_exactly (clash openings nonterminal) g).1 (clash_complete nonterminal c),
  )

  -- a clash is of a nonterminal
  pub clash_small : {nonterminal : ℕ} → Clashes g nonterminal → nonterminal < 64
  clash_small (inl (b, s)) = s.two.small
  clash_small (inr (inl (b, s))) = s.two.small
  clash_small (inr (inr z)) = z.two.small
