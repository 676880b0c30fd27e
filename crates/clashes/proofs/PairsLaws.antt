-- Laws of the searches over nonterminals and over the productions of each by the links of a room.
use Prim.Native.Nat.{ℕ, zero, suc, ◌+◌, ◌-◌, ◌<◌, ◌≤◌}
use mathlib.Core.Path.{◌≡◌, refl, sym, ap, ap₂, ◌∙◌}
use mathlib.Core.Bool.{Bool, true, false, ◌&&◌, ◌||◌, false≢true, or-false, or_assoc}
use mathlib.Core.Logic.{⊎_elim, dite}
use mathlib.Core.List.{List, [], ◌∷◌, ◌++◌, append-nil, nil≢cons}
use native.Mathlib.Decide.{dec_lt}
use native.Mathlib.Nat.{sub-zero}
use native.Mathlib.Numerals.{add-one}
use native.Mathlib.Omega.{arith}
use lib.Bits.{bit_and, bit_or, and_zero_l, or_zero_l, or_add_and, and_le_r}
use lib.Dec.{ltb}
use lib.Seq.{append_snoc}
use borrow.Author.Tests.{lt-ltb, le-ltb, ltb-true, ltb-false}
use Rattle.spellings.proofs.BytesLaws.{by_test}
use Rattle.kinds.specs.Kinds.{has_kind}
use Rattle.kinds.proofs.KindsLaws.{has_none, has_join, has_meet}
use Rattle.productions.specs.Room.{first_in, next_place_in, nullable_in}
use Rattle.firsts.proofs.EqualSets.{same_set}
use Rattle.firsts.proofs.Rounds.{or_left, or_right, or_split}
use Rattle.clashes.specs.declared.Seen.{Seen}
use Rattle.clashes.specs.CheckFirsts.{lowest, any_with, any_pair, join_pairs}
use Rattle.clashes.specs.Pairs.{after_in, linked_from, linked, shared_in, clash_in, seen_with, clash_seen, other_from}
use Rattle.clashes.proofs.Searches.{lowest_passes, lowest_skips, pairs_seen}

-- ------------------------------------------------------------------ the lowest number below a limit

-- none below `lowest_number` passes
pub record Lowest (limit : ℕ) (test : ℕ → Bool) (lowest_number : ℕ) : Type 0 where
  -- `lowest_number` is at most the limit
  pub small : lowest_number ≤ limit
  -- the search from `lowest_number` on finds what the whole search finds
  pub rest : lowest (limit - lowest_number) test lowest_number ≡ lowest limit test 0

-- at the begin
pub lowest_start : {limit : ℕ} {test : ℕ → Bool} → Lowest limit test 0
lowest_start {limit} = record { small = omega arith; rest = rw (sub-zero limit) refl }

module _ {limit : ℕ} {test : ℕ → Bool} {lowest_number : ℕ} (given_lowest : Lowest limit test lowest_number) where
  -- a number that does not pass is left behind
  pub lowest_next : lowest_number < limit → test lowest_number ≡ false → Lowest limit test (lowest_number + 1)
  unfolding lowest
  lowest_next h e =
      let z : limit - lowest_number ≡ suc (limit - (lowest_number + 1)) = omega arith in
      record { small = omega arith; rest = rw (z, e, lowest) at given_lowest.rest }

  -- one that passes is the lowest
  pub lowest_stop : lowest_number < limit → test lowest_number ≡ true → lowest_number ≡ lowest limit test 0
  unfolding lowest
  lowest_stop h e = let z : limit - lowest_number ≡ suc (limit - (lowest_number + 1)) = omega arith in rw (z, e, lowest) at given_lowest.rest

  -- no number is left
  pub lowest_end : limit ≤ lowest_number → lowest_number ≡ lowest limit test 0
  unfolding lowest
  lowest_end h =
      let z : limit - lowest_number ≡ 0 = omega arith in
      rw z at given_lowest.rest

-- the numbers below one do not pass
lowest_from : (limit : ℕ) (test : ℕ → Bool) (number : ℕ) → number ≤ limit → ((lower : ℕ) → lower < number → test lower ≡ false) → Lowest limit test number
lowest_from limit test zero h none = lowest_start
lowest_from limit test (suc number) h none =
    rw add-one at (lowest_next (lowest_from limit test number (omega arith) (λ k l. none k (omega arith))) (omega arith) (none number (omega arith)))

-- where none from `many` on passes, those below decide
module _ {limit many : ℕ} {test : ℕ → Bool} (few : many ≤ limit) (none : (number : ℕ) → many ≤ number → number < limit → test number ≡ false)
    {number : ℕ} (found : number ≡ lowest many test 0) where
  -- one of them passes
  pub lowest_within : number < many → number ≡ lowest limit test 0
  lowest_within h =
      lowest_stop (lowest_from limit test number (omega arith) (λ k l. lowest_skips many test 0 k (omega arith) (omega arith))) (omega arith)
      (rw found (lowest_passes many test 0 (omega arith)))

  -- or none does
  pub lowest_beyond : many ≤ number → limit ≡ lowest limit test 0
  lowest_beyond h =
      lowest_end
      (lowest_from limit test limit (omega arith)
      (λ k l. dite (dec_lt k many) (λ m. lowest_skips many test 0 k (omega arith) (omega arith)) (λ m. none k (omega arith) l)))
      (omega arith)

-- whether a nonterminal reaches itself
pub reach_is : (nonterminal : ℕ) {reached reached_set : ℕ} → reached ≡ reached_set → {test : Bool} → test ≡ has_kind reached nonterminal
    → has_kind reached_set nonterminal ≡ test
reach_is nonterminal e f = cc

-- ------------------------------------------------------------------ links

module _ (room : List ℕ) where
  -- a link leads on
  pub after_more : (place : ℕ) → place < 256 → place < after_in room place
  after_more place h =
      by_test (ltb place (next_place_in room place)) (λ e. rw (e, after_in) (ltb-true place (next_place_in room place) e)) (λ e. rw (e, after_in) h)

  after_less : (place next_place : ℕ) → place < 256 → next_place ≡ after_in room place → 256 - next_place < 256 - place
  after_less place next_place h e = omega (arith, after_more place h)

  fuel : (steps steps' place : ℕ) → 256 ≤ steps + place → 256 ≤ steps' + place → linked_from steps room place ≡ linked_from steps' room place
  unfolding linked_from
  fuel zero zero place h h' = refl
  fuel zero (suc steps') place h h' = rw (le-ltb place 256 (omega arith), linked_from) refl
  fuel (suc steps) zero place h h' = rw (le-ltb place 256 (omega arith), linked_from) refl
  fuel (suc steps) (suc steps') place h h' =
      by_test (ltb place 256)
      (λ e.
      let on = after_more place (ltb-true place 256 e) in
      rw (e, linked_from) (ap (◌∷◌ place) (fuel steps steps' (after_in room place) (omega (arith, on)) (omega (arith, on)))))
      (λ e. rw (e, linked_from) refl)

  -- the places from `place` on are `place` and those behind it
  pub linked_next : (place : ℕ) → place < 256 → linked room place ≡ place ∷ linked room (after_in room place)
  unfolding linked_from
  linked_next place h =
      let z : 256 - place ≡ suc (255 - place) = omega arith in
      let on = after_more place h in
      rw (z, lt-ltb place 256 h, linked_from)
      (ap (◌∷◌ place) (fuel (255 - place) (256 - after_in room place) (after_in room place) (omega (arith, on)) (omega (arith, on))))

  -- no place is 256 or more
  pub linked_none : (place : ℕ) → 256 ≤ place → linked room place ≡ []
  unfolding linked_from
  linked_none place h =
      let z : 256 - place ≡ 0 = omega arith in
      rw z refl

  linked_head : (place : ℕ) {one : ℕ} {others : List ℕ} → linked room place ≡ one ∷ others
      → (place < 256) × (place ≡ one) × (linked room (after_in room place) ≡ others)
  linked_head place {one} {others} e =
      by_test (ltb place 256)
      (λ t.
      let inside = ltb-true place 256 t in
      let same : place ∷ linked room (after_in room place) ≡ one ∷ others = sym (linked_next place inside) ∙ e in
      (inside, cc, cc))
      (λ t. absurd (nil≢cons (sym (linked_none place (ltb-false place 256 t)) ∙ e)))

  -- a place that is linked is not before the first
  linked_least : (place : ℕ) (before : List ℕ) (one : ℕ) (behind : List ℕ) → linked room place ≡ before ++ (one ∷ behind) → place ≤ one
  linked_least place [] one behind e = omega (arith, (linked_head place e).1)
  linked_least place (x ∷ xs) one behind e =
      let at = linked_head place e in
      omega (arith, linked_least (after_in room place) xs one behind at.2, after_more place at.0)

-- ------------------------------------------------------------------ tests of one more

or_swap : (a b c d : Bool) → ((a || b) || (c || d)) ≡ ((a || c) || (b || d))
or_swap true b c d = refl
or_swap false true true d = refl
or_swap false true false d = refl
or_swap false false c d = refl

either_and : (a b c : Bool) → ((a && c) || (b && c)) ≡ ((a || b) && c)
either_and true b true = refl
either_and true true false = refl
either_and true false false = refl
either_and false b c = refl

module _ {A : Type 0} where
  with_and : (test : A → Bool) (xs : List A) (y : A) → any_with test (xs ++ (y ∷ [])) ≡ (any_with test xs || test y)
  unfolding any_with
  with_and test [] y = or-false (test y)
  with_and test (x ∷ xs) y = ap (λ b. test x || b) (with_and test xs y) ∙ sym (or_assoc (test x) (any_with test xs) (test y))

  pair_and : (test : A → A → Bool) (xs : List A) (y : A) → any_pair test (xs ++ (y ∷ [])) ≡ (any_pair test xs || any_with (λ x. test x y) xs)
  unfolding any_pair any_with
  pair_and test [] y = refl
  pair_and test (x ∷ xs) y =
      rw (with_and (test x) xs y, pair_and test xs y) (or_swap (any_with (test x) xs) (test x y) (any_pair test xs) (any_with (λ z. test z y) xs))

  with_in : (test : A → Bool) (xs : List A) {y : A} (zs : List A) → test y ≡ true → any_with test (xs ++ (y ∷ zs)) ≡ true
  unfolding any_with
  with_in test [] zs e = or_left _ e
  with_in test (x ∷ xs) zs e = or_right (test x) (with_in test xs zs e)

  pair_in : (test : A → A → Bool) (xs : List A) (y : A) (zs : List A) → any_with (λ x. test x y) xs ≡ true → any_pair test (xs ++ (y ∷ zs)) ≡ true
  unfolding any_pair any_with
  pair_in test [] y zs e = absurd (false≢true e)
  pair_in test (x ∷ xs) y zs e =
      ⊎_elim (λ h. or_left _ (with_in (test x) xs zs h)) (λ h. or_right (any_with (test x) (xs ++ (y ∷ zs))) (pair_in test xs y zs h)) (or_split (test x y) e)

  -- a test that each takes together with another
  with_both : (test : A → Bool) (both : Bool) (xs : List A) → any_with (λ x. test x && both) xs ≡ (any_with test xs && both)
  unfolding any_with
  with_both test both [] = refl
  with_both test both (x ∷ xs) = rw (with_both test both xs) (either_and (test x) (any_with test xs) both)

  with_same : {test other : A → Bool} → ((x : A) → test x ≡ other x) → (xs : List A) → any_with test xs ≡ any_with other xs
  unfolding any_with
  with_same same [] = refl
  with_same same (x ∷ xs) = ap₂ ◌||◌ (same x) (with_same same xs)

-- ------------------------------------------------------------------ sets that meet

or_positive : (one other : ℕ) → ltb 0 (bit_or one other) ≡ (ltb 0 one || ltb 0 other)
or_positive zero other = ap (ltb 0) (or_zero_l other)
or_positive (suc one) other =
    rw (lt-ltb 0 (suc one) (omega arith)) (lt-ltb 0 (bit_or (suc one) other) (omega (arith, or_add_and (suc one) other, and_le_r (suc one) other)))

meets_join : (one other kinds : ℕ) → ltb 0 (bit_and (bit_or one other) kinds) ≡ (ltb 0 (bit_and one kinds) || ltb 0 (bit_and other kinds))
meets_join one other kinds =
    ap (ltb 0)
    (same_set (bit_and (bit_or one other) kinds) (bit_or (bit_and one kinds) (bit_and other kinds))
    (λ k. rw (
      has_meet (bit_or one other) kinds k,
      has_join one other k,
      has_join (bit_and one kinds) (bit_and other kinds) k,
      has_meet one kinds k,
      has_meet other kinds k,
    ) (sym (either_and (has_kind one k) (has_kind other k) (has_kind kinds k)))))
    ∙ or_positive (bit_and one kinds) (bit_and other kinds)

-- a place clashes with what is seen or with one more exactly if it clashes with what is then seen
seen_more : (room : List ℕ) (seen : Seen) (one place : ℕ)
    → (clash_seen room seen place || clash_in room one place) ≡ clash_seen room (seen_with room seen one) place
seen_more room seen one place =
    let kinds : ℕ = first_in room place in
    or_swap (ltb 0 (bit_and seen.kinds kinds)) (seen.nullable && nullable_in room place) (ltb 0 (shared_in room one place))
    (nullable_in room one && nullable_in room place)
    ∙ ap₂ ◌||◌ (sym (meets_join seen.kinds (first_in room one) kinds)) (either_and seen.nullable (nullable_in room one) (nullable_in room place))

-- ------------------------------------------------------------------ any pair

-- the places from `start` on that stand before `one`: no two of them clash, and together they give `seen`
pub record Row (room : List ℕ) (start : ℕ) (seen : Seen) (one : ℕ) : Type 0 where
  -- these places
  pub before : List ℕ
  -- those linked from `one` on stand behind them
  pub split : linked room start ≡ before ++ linked room one
  -- no two of them clash
  pub none : any_pair (clash_in room) before ≡ false
  -- a place clashes with one of them exactly if it clashes with what they give together
  pub covers : (place : ℕ) → any_with (λ k. clash_in room k place) before ≡ clash_seen room seen place

module _ (room : List ℕ) (start one : ℕ) (before : List ℕ) (split : linked room start ≡ before ++ linked room one) where
  -- the place that comes next is past too
  split_next : one < 256 → {after : ℕ} → after ≡ after_in room one → linked room start ≡ (before ++ (one ∷ [])) ++ linked room after
  split_next h e =
      split ∙ ap (◌++◌ before) (linked_next room one h) ∙ rw e (sym (append_snoc before one (linked room (after_in room one))))

  -- no place comes next
  split_end : 256 ≤ one → linked room start ≡ before
  split_end h = split ∙ ap (◌++◌ before) (linked_none room one h) ∙ append-nil before

-- some of the places before `one` are left, from `other` on
pub record Column (room : List ℕ) (start : ℕ) (seen : Seen) (one other : ℕ) : Type 0 where
  -- the places before `one`
  pub row : Row room start seen one
  -- those that are left
  pub left : List ℕ
  -- they are linked from `other` on
  pub places : linked room other ≡ left ++ linked room one
  -- one of these clashes with `one` exactly if one of all does
  pub rest : any_with (λ k. clash_in room k one) left ≡ any_with (λ k. clash_in room k one) row.before

-- where the pairs of a place that clashes are looked for
pub other_first : (room : List ℕ) (start one : ℕ) (seen : Seen) {answer : Bool} → answer ≡ clash_seen room seen one → answer ≡ true
    → {other : ℕ} → other ≡ start → other ≡ other_from room start one seen
other_first room start one seen e t g = let found : clash_seen room seen one ≡ true = sym e ∙ t in rw (found, other_from) g

-- and of one that does not
pub other_none : (room : List ℕ) (start one : ℕ) (seen : Seen) {answer : Bool} → answer ≡ clash_seen room seen one → answer ≡ false
    → one ≡ other_from room start one seen
other_none room start one seen e t = let found : clash_seen room seen one ≡ false = sym e ∙ t in rw (found, other_from) refl

-- at the first place
pub row_start : (room : List ℕ) {start one : ℕ} → one ≡ start → Row room start (record { kinds = 0; nullable = false }) one
unfolding any_pair any_with
row_start room e =
    record {
      before = [];
      split = ap (linked room) (sym e);
      none = refl;
      covers = λ place. sym (ap (λ (s : ℕ). ltb 0 s || false) (and_zero_l (first_in room place)));
    }

module _ {room : List ℕ} {start : ℕ} {seen : Seen} {one : ℕ} (row : Row room start seen one) where
  -- no place is left
  pub row_end : 256 ≤ one → any_pair (clash_in room) (linked room start) ≡ false
  row_end h = rw (split_end room start one row.before row.split h) row.none

  -- fewer places are left
  pub row_less : one < 256 → {after : ℕ} → after ≡ after_in room one → 256 - after < 256 - one
  row_less h {after} = after_less room one after h

  -- the places that are held against `one`
  pub column_start : {other : ℕ} → other ≡ other_from room start one seen → Column room start seen one other
  unfolding any_with
  column_start {other} e =
      by_test (clash_seen room seen one)
      (λ t. record { row = row; left = row.before; places = rw (e, t, other_from) row.split; rest = refl })
      (λ t. record { row = row; left = []; places = rw (e, t, other_from) refl; rest = sym (row.covers one ∙ t) })

module _ {room : List ℕ} {start : ℕ} {seen : Seen} {one other : ℕ} (column : Column room start seen one other) where
  abbrev Clash : ℕ → Bool
  Clash k = clash_in room k one

  -- while one is left it is the next
  next-left : one < 256 → other < one
      → (later : List ℕ) × (linked room (after_in room other) ≡ later ++ linked room one) × (any_with Clash column.left ≡ (Clash other || any_with Clash later))
  unfolding any_with
  next-left h l = by column.left column.places
    where
      by : (left : List ℕ) → linked room other ≡ left ++ linked room one
          → (later : List ℕ) × (linked room (after_in room other) ≡ later ++ linked room one) × (any_with Clash left ≡ (Clash other || any_with Clash later))
      by [] e = absurd (omega (arith, (linked_head room other (e ∙ linked_next room one h)).1))
      by (x ∷ later) e = let at = linked_head room other e in (later, at.2, rw (← at.1) refl)

  -- one that does not clash
  pub column_next : one < 256 → other < one → {answer : Bool} → answer ≡ clash_in room other one → answer ≡ false → {after : ℕ} → after ≡ after_in room other
      → Column room start seen one after
  column_next h l e f g =
      let n = next-left h l in
      let passed : clash_in room other one ≡ false = sym e ∙ f in
      record { row = column.row; left = n.0; places = rw g n.1; rest = sym (rw passed at n.2) ∙ column.rest }

  -- fewer places are left
  pub column_less : one < 256 → other < one → {after : ℕ} → after ≡ after_in room other → 256 - after < 256 - other
  column_less h l {after} = after_less room other after (omega arith)

  -- one that clashes
  pub column_found : one < 256 → other < one → {answer : Bool} → answer ≡ clash_in room other one → answer ≡ true
      → any_pair (clash_in room) (linked room start) ≡ true
  column_found h l e f =
      let n = next-left h l in
      let found : clash_in room other one ≡ true = sym e ∙ f in
      let some : any_with Clash column.row.before ≡ true = sym column.rest ∙ n.2 ∙ rw found refl in
      rw (column.row.split, linked_next room one h) (pair_in (clash_in room) column.row.before one (linked room (after_in room one)) some)

  none_left : one < 256 → one ≤ other → any_with Clash column.row.before ≡ false
  unfolding any_with
  none_left h l = sym column.rest ∙ by column.left column.places
    where
      by : (left : List ℕ) → linked room other ≡ left ++ linked room one → any_with Clash left ≡ false
      by [] e = refl
      by (x ∷ later) e =
          let at = linked_head room other e in
          let behind : List ℕ = linked room (after_in room one) in
          absurd
          (omega (
            arith,
            linked_least room (after_in room other) later one behind (at.2 ∙ ap (λ (r : List ℕ). later ++ r) (linked_next room one h)),
            after_more room other at.0,
          ))

  -- none is left: one place more is past
  pub column_end : one < 256 → one ≤ other → {more : Seen} → more ≡ seen_with room seen one → {after : ℕ} → after ≡ after_in room one
      → Row room start more after
  column_end h l {more} s {after} g =
      let before : List ℕ = column.row.before in
      record {
        before = before ++ (one ∷ []);
        split = split_next room start one before column.row.split h g;
        none = pair_and (clash_in room) before one ∙ rw (column.row.none, none_left h l) refl;
        covers =
            λ place.
            with_and (λ k. clash_in room k place) before one
            ∙ rw (column.row.covers place, s) (seen_more room seen one place);
      }

-- ------------------------------------------------------------------ what all pairs give

-- the places from `start` on that stand before `one`: the kinds that they open with, and those that two of them share
pub record Sharing (room : List ℕ) (start seen found one : ℕ) : Type 0 where
  -- these places
  pub before : List ℕ
  -- those linked from `one` on stand behind them
  pub split : linked room start ≡ before ++ linked room one
  -- a kind is seen exactly if one of them opens with it
  pub seen_are : (kind : ℕ) → has_kind seen kind ≡ any_with (λ p. has_kind (first_in room p) kind) before
  -- it is found exactly if two of them share it
  pub found_are : (kind : ℕ) → has_kind found kind ≡ any_pair (λ p q. has_kind (shared_in room p q) kind) before

-- at the first place
pub sharing_start : (room : List ℕ) {start one : ℕ} → one ≡ start → Sharing room start 0 0 one
unfolding any_pair any_with
sharing_start room e = record { before = []; split = ap (linked room) (sym e); seen_are = has_none; found_are = has_none }

module _ {room : List ℕ} {start seen found one : ℕ} (sharing : Sharing room start seen found one) where
  -- one place more is past
  pub sharing_next : one < 256 → {own more_found more_seen more after : ℕ} → own ≡ first_in room one → more ≡ bit_and seen own → more_found ≡ bit_or found more
      → more_seen ≡ bit_or seen own → after ≡ after_in room one → Sharing room start more_seen more_found after
  sharing_next h eo em ef es g =
      let before : List ℕ = sharing.before in
      record {
        before = before ++ (one ∷ []);
        split = split_next room start one before sharing.split h g;
        seen_are =
            λ kind. rw (es, eo, has_join seen (first_in room one) kind, sharing.seen_are kind) (sym (with_and (λ p. has_kind (first_in room p) kind) before one));
        found_are =
            λ kind.
            rw (
              ef,
              em,
              eo,
              has_join found (bit_and seen (first_in room one)) kind,
              has_meet seen (first_in room one) kind,
              sharing.seen_are kind,
              sharing.found_are kind,
            )
            (sym (pair_and (λ p q. has_kind (shared_in room p q) kind) before one
            ∙ ap (λ (b : Bool). any_pair (λ p q. has_kind (shared_in room p q) kind) before || b)
            (with_same (λ p. has_meet (first_in room p) (first_in room one) kind) before
            ∙ with_both (λ p. has_kind (first_in room p) kind) (has_kind (first_in room one) kind) before)));
      }

  -- fewer places are left
  pub sharing_less : one < 256 → {after : ℕ} → after ≡ after_in room one → 256 - after < 256 - one
  sharing_less h {after} = after_less room one after h

  -- no place is left
  pub sharing_end : 256 ≤ one → found ≡ join_pairs (shared_in room) (linked room start) 0
  sharing_end h =
      rw (split_end room start one sharing.before sharing.split h) (same_set found (join_pairs (shared_in room) sharing.before 0)
      (λ kind. sharing.found_are kind ∙ sym (pairs_seen (shared_in room) sharing.before 0 kind ∙ rw (has_none kind) refl)))
