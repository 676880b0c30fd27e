-- Laws of refusal 13 where pattern places open productions (document 02, C-14), and of when none does.
use Rattle.std.specs.Prelude.{Ok, Err}
use Prim.Native.Nat.{ℕ, min, ◌+◌, ◌<◌, ◌≤◌}
use mathlib.Core.Path.{◌≡◌, refl, sym, ◌∙◌}
use mathlib.Core.Bool.{Bool, true, false, false≢true}
use mathlib.Core.List.{List, []}
use mathlib.Core.Logic.{dite}
use native.Mathlib.Decide.{dec_lt}
use native.Mathlib.Omega.{arith}
use lib.Count.{count_trailing_zeros}
use lib.Dec.{ltb}
use borrow.Author.Tests.{lt-ltb, le-ltb, le-leb}
use Rattle.spellings.proofs.BytesLaws.{by_test}
use Rattle.answers.specs.Refusals.{refusal}
use Rattle.answers.specs.Checked.{Checked, ok, bad, verdict}
use Rattle.answers.specs.declared.Refusal.{Refusal}
use Rattle.kinds.specs.Kinds.{has_kind}
use Rattle.kinds.proofs.KindsLaws.{has_none, has_own}
use Rattle.grammar.specs.Table.{Item}
use Rattle.decoding.specs.Within.{Each, each_none, each_more, Among, among_first, among_later}
use Rattle.productions.specs.Normal.{Production}
use Rattle.productions.specs.Room.{first_place_in}
use Rattle.firsts.specs.FirstSets.{nullables}
use Rattle.firsts.specs.Patterns.{place_bit, ReadsPlace, reads_place}
use Rattle.firsts.specs.Rules.{First, first_own, first_call, first_past}
use Rattle.firsts.proofs.EqualSets.{same_set}
use Rattle.firsts.proofs.FirstSetsExactly.{bit_of_all, given, first_in, items_seen}
use Rattle.firsts.proofs.NullablesExactly.{null_item_exactly}
use Rattle.firsts.proofs.Rounds.{or_left, or_right}
use Rattle.patterns.specs.Opened.{place_of, places_first}
use Rattle.clashes.specs.Openings.{place_sorts, lowest_of}
use Rattle.clashes.specs.CheckFirsts.{any_pair}
use Rattle.clashes.specs.CheckCalls.{PlacesBelowBoth}
use Rattle.clashes.specs.Pairs.{linked, clash_in, PlacesBelow, clashing_below, clashing_in, all_shared_in, no_clash_with}
use Rattle.clashes.proofs.BothRooms.{lower_left, lower_right}
use Rattle.clashes.proofs.Clashing.{sorts_are}
use Rattle.clashes.proofs.PairsLaws.{lowest_within, lowest_beyond, linked_none}

-- ------------------------------------------------------------------ where no production has a place first, none is opened by one

each_among : {A : Type 0} {P : A → Type 0} {xs : List A} {item : A} → Each P xs → Among xs item → P item
each_among (each_more x xs) among_first = x
each_among (each_more x xs) (among_later a) = each_among xs a
each_among each_none x = elim x [ ]

each_map : {A : Type 0} {P R : A → Type 0} {xs : List A} → ((item : A) → P item → R item) → Each P xs → Each R xs
each_map f each_none = each_none
each_map f (each_more {x = x} p ps) = each_more (f x p) (each_map f ps)

module _ (g : List Production) (none : Each (λ (p : Production). places_first (nullables g) p.items ≡ 0) g) where
  -- an item that gives a place, behind some that may read nothing
  first_place : {sort : ℕ} {is : List Item} → First g ReadsPlace is sort
      → first_in place_of (nullables g) (place_bit sort) (bit_of_all (place_bit sort) []) is ≡ true
  unfolding first_in
  first_place (first_own o) = or_left _ (or_left _ (own o))
    where
      own : {item : Item} {sort : ℕ} → ReadsPlace item sort → has_kind (place_of item) (place_bit sort) ≡ true
      own (reads_place {s = s} l) = rw (le-leb s 6 l) (has_own (place_bit s) (omega arith))
  first_place {sort = sort} (first_call {p = p} o f) =
      let e : has_kind (places_first (nullables g) p.items) (place_bit sort) ≡ true =
      items_seen place_of (nullables g) (place_bit sort) [] p.items ∙ first_place f in
      absurd (false≢true (sym (has_none (place_bit sort)) ∙ (rw (each_among none o.member) at e)))
  first_place {sort = sort} (first_past {i = i} n f) =
      or_right (given place_of (place_bit sort) (bit_of_all (place_bit sort) []) i) (rw ((null_item_exactly g i).1 n) (first_place f))

  no_sort : (p : Production) → places_first (nullables g) p.items ≡ 0 → place_sorts g p ≡ 0
  no_sort p e = same_set (place_sorts g p) 0 (λ sort. by_test (has_kind (place_sorts g p) sort) (λ t. absurd (has sort t)) (λ t. t ∙ sym (has_none sort)))
    where
      has : (sort : ℕ) → has_kind (place_sorts g p) sort ≡ true → ⊥
      has sort t =
          let f : has_kind (places_first (nullables g) p.items) (place_bit sort) ≡ true =
          items_seen place_of (nullables g) (place_bit sort) [] p.items ∙ first_place ((sorts_are g p sort).0 t) in
          false≢true (sym (has_none (place_bit sort)) ∙ (rw e at f))

  -- No production is opened by a place.
  pub none_opened : Each (λ (p : Production). place_sorts g p ≡ 0) g
  none_opened = each_map no_sort none

-- ------------------------------------------------------------------ what 13 names

-- The lowest kind,
pub name_kind : (kinds sorts : ℕ) → 0 < kinds → {low : ℕ} → low ≡ count_trailing_zeros 64 kinds → low ≡ lowest_of kinds sorts
name_kind kinds sorts h e = rw (lt-ltb 0 kinds h, lowest_of) e

-- else the lowest sort,
pub name_sort : (kinds sorts : ℕ) → kinds ≤ 0 → 0 < sorts → {low : ℕ} → low ≡ count_trailing_zeros 64 sorts → 65 + low ≡ lowest_of kinds sorts
name_sort kinds sorts h l e = rw (le-ltb 0 kinds h, lt-ltb 0 sorts l, lowest_of, e) refl

-- else neither.
pub name_neither : (kinds sorts : ℕ) → kinds ≤ 0 → sorts ≤ 0 → 64 ≡ lowest_of kinds sorts
name_neither kinds sorts h l = rw (le-ltb 0 kinds h, le-ltb 0 sorts l, lowest_of) refl

-- ------------------------------------------------------------------ both rooms

module _ {room : List ℕ} {below : ℕ} (places_are : PlacesBelow below room) where
  none_clashes : (number : ℕ) → below ≤ number → number < 64 → any_pair (clash_in room) (linked room (first_place_in room number)) ≡ false
  unfolding any_pair
  none_clashes number h l = rw (places_are.none number h l, linked_none room 256 (omega arith)) refl

  within : clashing_below below room < below → clashing_below below room ≡ clashing_in room
  within h = lowest_within places_are.small none_clashes refl h

  beyond : below ≤ clashing_below below room → 64 ≡ clashing_in room
  beyond h = lowest_beyond places_are.small none_clashes refl h

module _ {room sorts : List ℕ} {below : ℕ} (places_are : PlacesBelowBoth below room sorts) {one other : ℕ} (one_is : one ≡ clashing_below below room)
    (other_is : other ≡ clashing_below below sorts) {nonterminal : ℕ} (lower_is : nonterminal ≡ min one other) where
  one_within : one < below → one ≡ clashing_in room
  one_within h = one_is ∙ within places_are.kinds_below (rw one_is at h)

  one_beyond : below ≤ one → 64 ≡ clashing_in room
  one_beyond h = beyond places_are.kinds_below (rw one_is at h)

  other_within : other < below → other ≡ clashing_in sorts
  other_within h = other_is ∙ within places_are.sorts_below (rw other_is at h)

  other_beyond : below ≤ other → 64 ≡ clashing_in sorts
  other_beyond h = beyond places_are.sorts_below (rw other_is at h)

  small : below ≤ 64
  small = places_are.kinds_below.small

  lower_within : nonterminal < below → nonterminal ≡ min (clashing_in room) (clashing_in sorts)
  lower_within h = by (dec_lt one below) (dec_lt other below)
    where
      by : Dec (one < below) → Dec (other < below) → nonterminal ≡ min (clashing_in room) (clashing_in sorts)
      by (yes a) (yes b) = rw (← (one_within a), ← (other_within b)) lower_is
      by (yes a) (no b) =
          rw (← (one_within a), ← (other_beyond (omega arith)))
          (lower_is ∙ lower_left one other (omega arith) ∙ sym (lower_left one 64 (omega (arith, small))))
      by (no a) (yes b) =
          rw (← (one_beyond (omega arith)), ← (other_within b))
          (lower_is ∙ lower_right one other (omega arith) ∙ sym (lower_right 64 other (omega (arith, small))))
      by (no a) (no b) =
          dite (dec_lt one other) (λ l. absurd (omega (arith, lower_is ∙ lower_left one other (omega arith))))
          (λ l. absurd (omega (arith, lower_is ∙ lower_right one other (omega arith))))

  lower_beyond : below ≤ nonterminal → 64 ≡ min (clashing_in room) (clashing_in sorts)
  lower_beyond h = by (dec_lt one other)
    where
      by : Dec (one < other) → 64 ≡ min (clashing_in room) (clashing_in sorts)
      by (yes l) =
          let e : nonterminal ≡ one = lower_is ∙ lower_left one other (omega arith) in
          rw (← (one_beyond (omega arith)), ← (other_beyond (omega arith))) (sym (lower_left 64 64 (omega arith)))
      by (no l) =
          let e : nonterminal ≡ other = lower_is ∙ lower_right one other (omega arith) in
          rw (← (one_beyond (omega arith)), ← (other_beyond (omega arith))) (sym (lower_left 64 64 (omega arith)))

  abbrev told : Bool → ℕ → Checked (Unit {0})
  told test number = elim test [ true ↦ bad (refusal 13 number (lowest_of (all_shared_in room number) (all_shared_in sorts number)) 0) | false ↦ ok tt ]

  tests : (number : ℕ) → number ≡ min (clashing_in room) (clashing_in sorts) → (test : Bool) → ltb number 64 ≡ test
      → verdict (told test number) ≡ verdict (no_clash_with room sorts)
  unfolding no_clash_with
  tests number e test f = rw (← f, e) refl

  -- A nonterminal with a clash is refused,
  pub both_refused : nonterminal < below → {kinds shared name : ℕ} → kinds ≡ all_shared_in room nonterminal → shared ≡ all_shared_in sorts nonterminal
      → name ≡ lowest_of kinds shared → {cause : Refusal} → cause ≡ refusal 13 nonterminal name 0 → Err cause ≡ verdict (no_clash_with room sorts)
  both_refused h ek es en er =
      rw (er, en, ek, es) (tests nonterminal (lower_within h) true (lt-ltb nonterminal 64 (omega (arith, small))))

  -- and without one the table passes.
  pub both_passed : below ≤ nonterminal → Ok tt ≡ verdict (no_clash_with room sorts)
  both_passed h = tests 64 (lower_beyond h) false (le-ltb 64 64 (omega arith))
