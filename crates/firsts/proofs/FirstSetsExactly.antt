-- A bit of the computed first sets, and of the computed left calls, is set exactly if the rules give it.
-- Both are one computation and one relation, told apart by what an item gives by itself (`own`).
-- Bit b of all sets together is a set of nonterminals, and each such set settles by itself.
use Prim.Native.Nat.{ℕ, ◌≤◌, ◌<◌}
use mathlib.Core.Path.{◌≡◌, refl, sym, ap, ap₂, subst, ◌∙◌, fun_ext}
use mathlib.Core.Bool.{Bool, true, false, ◌&&◌, ◌||◌, false≢true, and-eq-true_iff, and-true, and-false, or-false, or_assoc}
use mathlib.Core.Logic.{◌↔◌, ⊎_elim}
use mathlib.Core.List.{List, [], ◌∷◌}
use native.Mathlib.Decide.{dec_lt, ℕ_discrete}
use native.Mathlib.Omega.{arith}
use lib.Dec.{eqb, ltb, leb}
use lib.Bits.{bit_or}
use lib.ListN.{length, get_or, replicate, length-set, length-replicate, get_or-replicate, get_or-eq_default}
use lib.Seq.{set_out, get_or-set_same, get_or-set_other}
use borrow.Author.Tests.{lt-ltb, le-ltb, eq-eqb, ne_eqb, eqb-true, ltb-true, leb-true, le-leb}
use Rattle.kinds.specs.Kinds.{has_kind, only}
use Rattle.kinds.proofs.KindsLaws.{has_none, has_join, has_only, has_own}
use Rattle.grammar.specs.Sorts.{label}
use Rattle.grammar.specs.SortTests.{is_sort, is_ide_sort}
use Rattle.grammar.specs.Table.{keyword, ide, number, place, kind_of, Item, terminal, local, call}
use Rattle.productions.specs.Normal.{Production}
use Rattle.firsts.specs.FirstSets.{over_all, is_nullable, nullables, opening_of, call_of, through, joined, gather, first_step, sets_of}
use Rattle.firsts.specs.Patterns.{only_if, place_bit, pattern_of, ReadsAt, reads_at, ReadsPlace, reads_place, PatternBit, ide_bit, placed_bit}
use Rattle.firsts.specs.Rules.{Of, First, first_own, first_call, first_past, FirstOf, Reads, reads, Calls, calls}
use Rattle.firsts.proofs.Rounds.{Numbers, same_at, nothing, Within, Each, admit, least, least_within, least_closed, least_seen, over_seen}
use Rattle.firsts.proofs.Rounds.{or_left, or_right, or_split}
use Rattle.firsts.proofs.NullablesExactly.{null_item_exactly}

-- ------------------------------------------------------------------ the test of items, with bit b of all sets as a set

-- the nonterminals whose set has b
abbrev pub bit_of_all : ℕ → List ℕ → Numbers
bit_of_all b sets n = has_kind (get_or sets n 0) b

-- an item calls a nonterminal of the set
abbrev pub called : Numbers → Item → Bool
called s (terminal t) = false
called s local = false
called s (call n ts) = s n

-- an item gives b, by itself or by its nonterminal
abbrev pub given : (Item → ℕ) → ℕ → Numbers → Item → Bool
given own b s i = has_kind (own i) b || called s i

-- an item gives b, and those before it are passed
unfoldable pub first_in : (Item → ℕ) → ℕ → ℕ → Numbers → List Item → Bool
first_in own nulls b s [] = false
first_in own nulls b s (i ∷ is) = given own b s i || (is_nullable nulls i && first_in own nulls b s is)

called_seen : (kind : ℕ) (sets : List ℕ) (item : Item) → has_kind (through sets item) kind ≡ called (bit_of_all kind sets) item
called_seen kind sets (terminal t) = has_none kind
called_seen kind sets local = has_none kind
called_seen kind sets (call n ts) = refl

-- a larger set is called by no fewer items
pub called_more : (numbers others : Numbers) → Within numbers others → (item : Item) → called numbers item ≡ true → called others item ≡ true
called_more numbers others h (terminal t) e = e
called_more numbers others h local e = e
called_more numbers others h (call n ts) e = h n e

or_more : (first : Bool) {second third : Bool} → (second ≡ true → third ≡ true) → (first || second) ≡ true → (first || third) ≡ true
or_more true h e = refl
or_more false h e = h e

and_more : (first : Bool) {second third : Bool} → (second ≡ true → third ≡ true) → (first && second) ≡ true → (first && third) ≡ true
and_more true h e = h e
and_more false h e = e

-- ------------------------------------------------------------------ the computed sets are the least, bit by bit

module _ (own : Item → ℕ) (nulls kind : ℕ) where
  -- and gives no less
  pub first_more : (numbers others : Numbers) → Within numbers others → (is : List Item) → first_in own nulls kind numbers is ≡ true
      → first_in own nulls kind others is ≡ true
  unfolding first_in
  first_more numbers others h [] e = e
  first_more numbers others h (i ∷ is) e =
      ⊎_elim (λ a. or_left _ (or_more (has_kind (own i) kind) (called_more numbers others h i) a))
      (λ a. or_right (given own kind others i) (and_more (is_nullable nulls i) (first_more numbers others h is) a)) (or_split (given own kind numbers i) e)

  joined_seen : (sets : List ℕ) (item : Item) (found : ℕ)
      → has_kind (joined own sets item found) kind ≡ (has_kind found kind || given own kind (bit_of_all kind sets) item)
  joined_seen sets item found =
      has_join (bit_or found (own item)) (through sets item) kind ∙ ap₂ ◌||◌ (has_join found (own item) kind) (called_seen kind sets item)
      ∙ or_assoc (has_kind found kind) (has_kind (own item) kind) (called (bit_of_all kind sets) item)

  gather_seen : (sets : List ℕ) (is : List Item) (found : ℕ)
      → has_kind (gather own nulls sets is found) kind ≡ (has_kind found kind || first_in own nulls kind (bit_of_all kind sets) is)
  unfolding gather first_in
  gather_seen sets [] found = sym (or-false (has_kind found kind))
  gather_seen sets (i ∷ is) found = by (is_nullable nulls i) refl (gather_seen sets is (joined own sets i found))
    where
      by : (test : Bool) → is_nullable nulls i ≡ test
          → has_kind (gather own nulls sets is (joined own sets i found)) kind
          ≡ (has_kind (joined own sets i found) kind || first_in own nulls kind (bit_of_all kind sets) is)
          → has_kind (gather own nulls sets (i ∷ is) found) kind ≡ (has_kind found kind || first_in own nulls kind (bit_of_all kind sets) (i ∷ is))
      by true e rest =
          rw (e, gather)
          (rest ∙ rw (joined_seen sets i found)
          (or_assoc (has_kind found kind) (given own kind (bit_of_all kind sets) i) (first_in own nulls kind (bit_of_all kind sets) is)))
      by false e rest = rw (e, gather) (joined_seen sets i found ∙ rw (or-false (given own kind (bit_of_all kind sets) i)) refl)

  -- what the code gathers, bit by bit
  pub items_seen : (sets : List ℕ) (is : List Item) → has_kind (gather own nulls sets is 0) kind ≡ first_in own nulls kind (bit_of_all kind sets) is
  items_seen sets is = rw (has_none kind) at (gather_seen sets is 0)

  step_length : (p : Production) (sets : List ℕ) → length sets ≡ 64 → length (first_step own nulls p sets) ≡ 64
  unfolding first_step
  step_length p sets h = length-set sets p.nonterminal _ ∙ h

  step_seen : (p : Production) (sets : List ℕ) → length sets ≡ 64
      → bit_of_all kind (first_step own nulls p sets) ≡ admit (first_in own nulls kind) p (bit_of_all kind sets)
  unfolding first_step
  step_seen p sets h = fun_ext (λ n. by n (ℕ_discrete n p.nonterminal) (dec_lt n 64))
    where
      grown : ℕ
      grown = bit_or (get_or sets p.nonterminal 0) (gather own nulls sets p.items 0)

      given_it : Bool
      given_it = first_in own nulls kind (bit_of_all kind sets) p.items

      by : (nonterminal : ℕ) → Dec (nonterminal ≡ p.nonterminal) → Dec (nonterminal < 64) → bit_of_all kind (first_step own nulls p sets) nonterminal
          ≡ admit (first_in own nulls kind) p (bit_of_all kind sets) nonterminal
      by nonterminal (no e) l =
          rw (get_or-set_other sets p.nonterminal nonterminal grown 0 e, ne_eqb nonterminal p.nonterminal e, and-false (ltb nonterminal 64), and-false _)
          (sym (or-false _))
      by nonterminal (yes e) (yes l) =
          let owner = p.nonterminal in
          rw (e, get_or-set_same sets owner grown 0 (omega arith), lt-ltb owner 64 (omega arith), eq-eqb owner owner refl, and-true given_it)
          (has_join (get_or sets p.nonterminal 0) (gather own nulls sets p.items 0) kind ∙ rw (items_seen sets p.items) refl)
      by nonterminal (yes e) (no l) =
          rw (set_out sets p.nonterminal grown (omega arith), le-ltb nonterminal 64 (omega arith), and-false given_it) (sym (or-false _))

  none_seen : bit_of_all kind (replicate 64 0) ≡ nothing
  none_seen = fun_ext (λ n. by n (dec_lt n 64))
    where
      by : (nonterminal : ℕ) → Dec (nonterminal < 64) → has_kind (get_or (replicate 64 0) nonterminal 0) kind ≡ false
      by nonterminal (yes l) = rw (get_or-replicate {A = ℕ} 64 nonterminal 0 0 l) (has_none kind)
      by nonterminal (no l) =
          rw (get_or-eq_default {A = ℕ} (replicate 64 0) 0 {n = nonterminal} (omega (arith, length-replicate {A = ℕ} 64 0))) (has_none kind)

  -- bit `kind` of all sets is the least set that the productions keep
  pub sets_seen : (g : List Production) → bit_of_all kind (sets_of own nulls g) ≡ least (first_in own nulls kind) g
  unfolding sets_of
  sets_seen g =
      least_seen (λ sets. length sets ≡ 64) (bit_of_all kind) (first_in own nulls kind) (first_step own nulls) step_length step_seen
      g (replicate 64 0) (length-replicate {A = ℕ} 64 0) none_seen

  -- and after one round it is that of one round
  pub round_seen : (g : List Production)
      → bit_of_all kind (over_all (first_step own nulls) g (replicate 64 0)) ≡ over_all (admit (first_in own nulls kind)) g nothing
  round_seen g =
      over_seen (λ sets. length sets ≡ 64) (bit_of_all kind) (first_in own nulls kind) (first_step own nulls) step_length step_seen
      g (replicate 64 0) (length-replicate {A = ℕ} 64 0)
      ∙ ap (over_all (admit (first_in own nulls kind)) g) none_seen

-- ------------------------------------------------------------------ the rules

module _ (own : Item → ℕ) (Own : Item → ℕ → Type 0) (own_exactly : (item : Item) (kind : ℕ) → (has_kind (own item) kind ≡ true) ↔ Own item kind)
    (g : List Production) where
  called_sound : (kind : ℕ) (numbers : Numbers) → Each (λ n. FirstOf g Own n kind) numbers → (item : Item) (is : List Item)
      → called numbers item ≡ true → First g Own (item ∷ is) kind
  called_sound kind numbers hs (terminal t) is e = absurd (false≢true e)
  called_sound kind numbers hs local is e = absurd (false≢true e)
  called_sound kind numbers hs (call n ts) is e = let f = hs n e in first_call f.of f.first

  first_sound : (kind : ℕ) (numbers : Numbers) → Each (λ n. FirstOf g Own n kind) numbers → (is : List Item)
      → first_in own (nullables g) kind numbers is ≡ true → First g Own is kind
  unfolding first_in
  first_sound kind numbers hs [] e = absurd (false≢true e)
  first_sound kind numbers hs (i ∷ is) e =
      ⊎_elim (λ a. ⊎_elim (λ o. first_own ((own_exactly i kind).0 o)) (called_sound kind numbers hs i is) (or_split (has_kind (own i) kind) a))
      (λ a.
      let t = (and-eq-true_iff (is_nullable (nullables g) i) (first_in own (nullables g) kind numbers is)).0 a in
      first_past ((null_item_exactly g i).0 t.0) (first_sound kind numbers hs is t.1)) (or_split (given own kind numbers i) e)

  first_complete : {is : List Item} {kind : ℕ} → First g Own is kind → first_in own (nullables g) kind (least (first_in own (nullables g) kind) g) is
      ≡ true
  unfolding first_in
  first_complete (first_own {i = i} {b = b} o) = or_left _ (or_left _ ((own_exactly i b).1 o))
  first_complete (first_call {n = n} {b = b} {ts = ts} o h) =
      or_left _
      (or_right (has_kind (own (call n ts)) b)
      (least_closed (first_in own (nullables g) b) (first_more own (nullables g) b) g o (first_complete h)))
  first_complete (first_past {i = i} {is = is} {b = b} n h) =
      or_right (given own b (least (first_in own (nullables g) b) g) i) ((and-eq-true_iff _ _).1 ((null_item_exactly g i).1 n, first_complete h))

  -- bit `kind` of the set of `nonterminal` is there exactly if `nonterminal` gives `kind` by the rules
  pub sets_exactly : (nonterminal kind : ℕ) → (has_kind (get_or (sets_of own (nullables g) g) nonterminal 0) kind ≡ true) ↔ FirstOf g Own nonterminal kind
  sets_exactly nonterminal kind = (
    λ e. least_within (first_in own (nullables g) kind) g (λ m. FirstOf g Own m kind) keeps nonterminal
        (sym (same_at (sets_seen own (nullables g) kind g) nonterminal) ∙ e),
    λ f. same_at (sets_seen own (nullables g) kind g) nonterminal
        ∙ least_closed (first_in own (nullables g) kind) (first_more own (nullables g) kind) g f.of (first_complete f.first),
  )
    where
      keeps : (numbers : Numbers) → Each (λ nonterminal. FirstOf g Own nonterminal kind) numbers → (nonterminal : ℕ) (p : Production) → Of g nonterminal p
          → first_in own (nullables g) kind numbers p.items ≡ true → FirstOf g Own nonterminal kind
      keeps numbers hs nonterminal p o e = record { production = p; of = o; first = first_sound kind numbers hs p.items e }

  -- and so it is with the items of one production
  pub items_exactly : (is : List Item) (kind : ℕ) → (has_kind (gather own (nullables g) (sets_of own (nullables g) g) is 0) kind ≡ true)
      ↔ First g Own is kind
  items_exactly is kind = (
    λ e. first_sound kind (bit_of_all kind (sets_of own (nullables g) g)) (λ n. (sets_exactly n kind).0) is
        (sym (items_seen own (nullables g) kind _ is) ∙ e),
    λ f. items_seen own (nullables g) kind _ is ∙ rw (sets_seen own (nullables g) kind g) (first_complete f),
  )

-- ------------------------------------------------------------------ what an item gives by itself

none_has : (kind : ℕ) → has_kind 0 kind ≡ true → ⊥
none_has kind e = false≢true (sym (has_none kind) ∙ e)

-- the set of one number has that one
pub only_has : (own_kind kind : ℕ) → has_kind (only own_kind) kind ≡ true → (kind ≡ own_kind) × (kind < 64)
only_has own_kind kind e =
    let t = (and-eq-true_iff (ltb kind 64) (eqb kind own_kind)).0 (sym (has_only own_kind kind) ∙ e) in (eqb-true kind own_kind t.1, ltb-true kind 64 t.0)

-- an item gives its kind to a first set
pub reads_exactly : (item : Item) (kind : ℕ) → (has_kind (opening_of item) kind ≡ true) ↔ Reads item kind
reads_exactly item kind = (sound item, complete item kind)
  where
    sound : (item : Item) → has_kind (opening_of item) kind ≡ true → Reads item kind
    sound (terminal t) e = let o = only_has (kind_of t) kind e in rw o.0 (reads {t = t} (omega (arith, o)))
    sound local e = absurd (none_has kind e)
    sound (call n ts) e = absurd (none_has kind e)

    complete : (item : Item) (kind : ℕ) → Reads item kind → has_kind (opening_of item) kind ≡ true
    complete _ _ (reads {t = t} l) = has_own (kind_of t) l

-- an item gives its nonterminal to the left calls
pub calls_exactly : (item : Item) (kind : ℕ) → (has_kind (call_of item) kind ≡ true) ↔ Calls item kind
calls_exactly item kind = (sound item, complete item kind)
  where
    sound : (item : Item) → has_kind (call_of item) kind ≡ true → Calls item kind
    sound (terminal t) e = absurd (none_has kind e)
    sound local e = absurd (none_has kind e)
    sound (call n ts) e = let t = only_has n kind e in rw t.0 (calls {n = n} (omega arith))

    complete : (item : Item) (kind : ℕ) → Calls item kind → has_kind (call_of item) kind ≡ true
    complete _ _ (calls {n = n} l) = has_own n l

-- an ide gives its sort to what reads a variable, a pattern place its own bit
pattern_bits_exactly : (item : Item) (bit : ℕ) → (has_kind (pattern_of item) bit ≡ true) ↔ PatternBit item bit
pattern_bits_exactly item bit = (sound item, complete)
  where
    at_sort : (sort : ℕ) (test : Bool) → is_ide_sort sort ≡ test → has_kind (only_if test sort) bit ≡ true → PatternBit (terminal (ide sort)) bit
    at_sort sort false t e = absurd (none_has bit e)
    at_sort sort true t e =
        let bounds = (and-eq-true_iff (leb 1 sort) (leb sort 3)).0 t in
        rw (only_has sort bit e).0 (ide_bit (reads_at {s = sort} (leb-true 1 sort bounds.0) (leb-true sort 3 bounds.1)))

    at_place : (sort : ℕ) (test : Bool) → is_sort sort ≡ test → has_kind (only_if test (place_bit sort)) bit ≡ true → PatternBit (terminal (place sort)) bit
    at_place sort false t e = absurd (none_has bit e)
    at_place sort true t e = rw (only_has (place_bit sort) bit e).0 (placed_bit (reads_place {s = sort} (leb-true sort 6 t)))

    sound : (item : Item) → has_kind (pattern_of item) bit ≡ true → PatternBit item bit
    sound (terminal (keyword k)) e = absurd (none_has bit e)
    sound (terminal (ide s)) e = at_sort s (is_ide_sort s) refl e
    sound (terminal number) e = absurd (none_has bit e)
    sound (terminal (place s)) e = at_place s (is_sort s) refl e
    sound local e = absurd (none_has bit e)
    sound (call n ts) e = absurd (none_has bit e)

    by_ide : {item : Item} {sort : ℕ} → ReadsAt item sort → has_kind (pattern_of item) sort ≡ true
    by_ide (reads_at {s = s} l h) = rw (le-leb 1 s l, le-leb s 3 h) (has_own s (omega arith))

    by_place : {item : Item} {sort : ℕ} → ReadsPlace item sort → has_kind (pattern_of item) (place_bit sort) ≡ true
    by_place (reads_place {s = s} l) = rw (le-leb s 6 l) (has_own (place_bit s) (omega arith))

    complete : {bit : ℕ} → PatternBit item bit → has_kind (pattern_of item) bit ≡ true
    complete (ide_bit h) = by_ide h
    complete (placed_bit h) = by_place h

-- an ide's sort is one up to Label
ide_small : {item : Item} {sort : ℕ} → ReadsAt item sort → sort ≤ label
ide_small (reads_at l h) = h

-- so a bit up to Label is that of an ide, and any other that of a place
bit_of_ide : {item : Item} {bit : ℕ} → bit ≤ label → PatternBit item bit → ReadsAt item bit
bit_of_ide l (ide_bit h) = h
bit_of_ide l (placed_bit h) = absurd (omega arith)

bit_of_place : {item : Item} {bit sort : ℕ} → bit ≡ place_bit sort → PatternBit item bit → ReadsPlace item sort
bit_of_place e (ide_bit h) = absurd (omega (arith, ide_small h))
bit_of_place {item = item} {sort = sort} e (placed_bit {s = s} h) = let q : s ≡ sort = omega arith in subst (ReadsPlace item) q h

-- ------------------------------------------------------------------ what stands first

-- What holds of all that items give by themselves holds of what stands first.
pub first_holds : {g : List Production} {own : Item → ℕ → Type 0} {K : Type 0} {is : List Item} {number : ℕ}
    → ((item : Item) → own item number → K) → First g own is number → K
first_holds h (first_own {i = i} o) = h i o
first_holds h (first_call o f) = first_holds h f
first_holds h (first_past z f) = first_holds h f

-- Where items give one number they give another.
pub first_as : {g : List Production} {own other : Item → ℕ → Type 0} {is : List Item} {number number' : ℕ}
    → ((item : Item) → own item number → other item number') → First g own is number → First g other is number'
first_as h (first_own {i = i} o) = first_own (h i o)
first_as h (first_call o f) = first_call o (first_as h f)
first_as h (first_past z f) = first_past z (first_as h f)

module _ (g : List Production) (is : List Item) where
  abbrev patterns : ℕ
  patterns = gather pattern_of (nullables g) (sets_of pattern_of (nullables g) g) is 0

  bits_exactly : (bit : ℕ) → (has_kind patterns bit ≡ true) ↔ First g PatternBit is bit
  bits_exactly = items_exactly pattern_of PatternBit pattern_bits_exactly g is

  -- A bit up to Label is set exactly if an ide of that sort stands first,
  pub ides_exactly : (sort : ℕ) → sort ≤ label → (has_kind patterns sort ≡ true) ↔ First g ReadsAt is sort
  ides_exactly sort l = (
    λ e. first_as (λ item h. bit_of_ide l h) ((bits_exactly sort).0 e),
    λ f. (bits_exactly sort).1 (first_as (λ item h. ide_bit h) f),
  )

  -- and the bit of a place exactly if a pattern place of that sort does.
  pub places_exactly : (sort : ℕ) → (has_kind patterns (place_bit sort) ≡ true) ↔ First g ReadsPlace is sort
  places_exactly sort = (
    λ e. first_as (λ item h. bit_of_place refl h) ((bits_exactly (place_bit sort)).0 e),
    λ f. (bits_exactly (place_bit sort)).1 (first_as (λ item h. placed_bit h) f),
  )
