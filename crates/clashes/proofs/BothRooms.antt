-- Refusal 13 by two rooms: one has what opens productions by their kinds, the other the sorts of the pattern places that do (document 02, C-14).
use Prim.Native.Nat.{ℕ, min, zero, suc, ◌+◌, ◌<◌, ◌≤◌}
use mathlib.Core.Path.{◌≡◌, refl, sym, ap, ap₂, ◌∙◌, fun_ext}
use mathlib.Core.Bool.{Bool, true, false, ◌&&◌, ◌||◌, and-false}
use mathlib.Core.List.{List, [], ◌∷◌, map}
use native.Mathlib.Omega.{arith}
use lib.Bits.{or_zero_r, and_zero_l}
use lib.Count.{count_trailing_zeros}
use lib.Dec.{ltb}
use borrow.Author.Tests.{ltb-true, lt-ltb}
use Rattle.spellings.proofs.BytesLaws.{by_test}
use Rattle.answers.specs.Refusals.{refusal}
use Rattle.answers.specs.Checked.{Checked, ok, bad}
use Rattle.decoding.specs.Within.{Each, each_none, each_more}
use Rattle.productions.specs.Normal.{Production}
use Rattle.productions.specs.Index.{Place, productions_at}
use Rattle.productions.specs.Room.{HoldsEntries}
use Rattle.clashes.specs.Openings.{Openings, lowest_of}
use Rattle.clashes.specs.CheckFirsts.{both_of, shared_by, clash, lowest, clashing, lowest_shared, no_clash, any_with, any_pair, join_with, join_pairs}
use Rattle.clashes.specs.Pairs.{clashing_in, all_shared_in, no_clash_in, no_clash_with}
use Rattle.clashes.proofs.HeldPairs.{entry_by, clash_by, clashing_is, shared_is}

-- ------------------------------------------------------------------ two searches in one

swap : (a b c d : Bool) → ((a || b) || (c || d)) ≡ ((a || c) || (b || d))
swap true b c d = refl
swap false true true d = refl
swap false true false d = refl
swap false false c d = refl

module _ {A : Type 0} (one other : A → A → Bool) where
  with_or : (x : A) (xs : List A) → any_with (λ y. one x y || other x y) xs ≡ (any_with (one x) xs || any_with (other x) xs)
  unfolding any_with
  with_or x [] = refl
  with_or x (y ∷ ys) = rw (with_or x ys) (swap (one x y) (other x y) (any_with (one x) ys) (any_with (other x) ys))

  pair_or : (xs : List A) → any_pair (λ x y. one x y || other x y) xs ≡ (any_pair one xs || any_pair other xs)
  unfolding any_pair
  pair_or [] = refl
  pair_or (x ∷ xs) = rw (with_or x xs, pair_or xs) (swap (any_with (one x) xs) (any_with (other x) xs) (any_pair one xs) (any_pair other xs))

-- The lower of two numbers, where one is known.
pub lower_left : (a b : ℕ) → a ≤ b → min a b ≡ a
lower_left a b h = omega arith

pub lower_right : (a b : ℕ) → b ≤ a → min a b ≡ b
lower_right a b h = omega arith

lowest_after : (count : ℕ) (test : ℕ → Bool) (start : ℕ) → start ≤ lowest count test start
unfolding lowest
lowest_after zero test start = omega arith
lowest_after (suc count) test start =
    by_test (test start) (λ t. rw (t, lowest) (omega arith)) (λ t. rw (t, lowest) (omega (arith, lowest_after count test (start + 1))))

lowest_or : (count : ℕ) (one other : ℕ → Bool) (start : ℕ)
    → lowest count (λ n. one n || other n) start ≡ min (lowest count one start) (lowest count other start)
unfolding lowest
lowest_or zero one other start = sym (lower_left start start (omega arith))
lowest_or (suc count) one other start =
    by_test (one start)
    (λ t. rw (t, lowest) (sym (lower_left start _ (lowest_after (suc count) other start))))
    (λ t.
    by_test (other start)
    (λ u. rw (t, u, lowest) (sym (lower_right _ start (omega (arith, lowest_after count one (start + 1))))))
    (λ u. rw (t, u, lowest) (lowest_or count one other (start + 1))))

module _ (o : Openings) where
  abbrev by_kinds : ℕ → Production → Production → Bool
  by_kinds n = clash_by o.kinds o.nullable n

  abbrev by_sorts : ℕ → Production → Production → Bool
  by_sorts n = clash_by o.sorts (λ p. false) n

  clash_or : (nonterminal : ℕ) (p other : Production) → clash o nonterminal p other ≡ (by_kinds nonterminal p other || by_sorts nonterminal p other)
  clash_or nonterminal p other =
      split (both_of nonterminal p other) (ltb 0 (shared_by o.kinds nonterminal p other)) (ltb 0 (shared_by o.sorts nonterminal p other))
      (o.nullable p && o.nullable other)
    where
      split : (both kinds sorts nulls : Bool) → (both && (kinds || sorts || nulls)) ≡ ((both && (kinds || nulls)) || (both && (sorts || false)))
      split false kinds sorts nulls = refl
      split true true sorts nulls = refl
      split true false true true = refl
      split true false true false = refl
      split true false false true = refl
      split true false false false = refl

  any_or : (g : List Production) (nonterminal : ℕ) → any_pair (clash o nonterminal) g ≡ (any_pair (by_kinds nonterminal) g || any_pair (by_sorts nonterminal) g)
  any_or g nonterminal =
      ap (λ (test : Production → Production → Bool). any_pair test g) (fun_ext (λ p. fun_ext (λ q. clash_or nonterminal p q)))
      ∙ pair_or (by_kinds nonterminal) (by_sorts nonterminal) g

  clashing_or : (g : List Production)
      → clashing o g ≡ min (lowest 64 (λ n. any_pair (by_kinds n) g) 0) (lowest 64 (λ n. any_pair (by_sorts n) g) 0)
  clashing_or g =
      ap (λ (test : ℕ → Bool). lowest 64 test 0) (fun_ext (any_or g)) ∙ lowest_or 64 (λ n. any_pair (by_kinds n) g) (λ n. any_pair (by_sorts n) g) 0

-- ------------------------------------------------------------------ refusal 13

-- what is answered for a nonterminal with what is shared of it
answer : Bool → ℕ → ℕ → Checked (Unit {0})
answer found n kind = elim found [ true ↦ bad (refusal 13 n kind 0) | false ↦ ok tt ]

-- two answers are one where they are of one nonterminal, and name one kind if it is one of the 64
answers : (n n' : ℕ) (kind kind' : ℕ → ℕ) → n ≡ n' → ((m : ℕ) → m < 64 → kind m ≡ kind' m) → answer (ltb n 64) n (kind n) ≡ answer (ltb n' 64) n' (kind' n')
unfolding answer
answers n n' kind kind' e same =
    by_test (ltb n 64) (λ t. rw (← e) (rw (t, same n (ltb-true n 64 t)) refl)) (λ t. rw (← e) (rw t refl))

module _ (bs : List ℕ) (o : Openings) (places : List Place) {sets room : List ℕ}
    (held : HoldsEntries sets (map (entry_by bs o.kinds o.nullable) places) room) where
  abbrev g : List Production
  g = productions_at bs places

  -- With the room of the sorts the answer is that of the productions.
  pub with_sorts : {others sorts : List ℕ} → HoldsEntries others (map (entry_by bs o.sorts (λ p. false)) places) sorts
      → no_clash_with room sorts ≡ no_clash o (productions_at bs places)
  unfolding no_clash_with no_clash answer
  with_sorts {sorts = sorts} sorts-held =
      answers (min (clashing_in room) (clashing_in sorts)) (clashing o g) (λ n. lowest_of (all_shared_in room n) (all_shared_in sorts n)) (lowest_shared o g)
      (sym
      (clashing_or o g
      ∙ ap₂ min (sym (clashing_is bs o.kinds o.nullable places held)) (sym (clashing_is bs o.sorts (λ p. false) places sorts-held))))
      (λ n small. ap₂ lowest_of (shared_is bs o.kinds o.nullable places held n small) (shared_is bs o.sorts (λ p. false) places sorts-held n small))

-- ------------------------------------------------------------------ where no place opens a production

module _ (set_of : Production → ℕ) (nonterminal : ℕ) where
  shared_nothing : (p other : Production) → set_of p ≡ 0 → shared_by set_of nonterminal p other ≡ 0
  shared_nothing p other e =
      by_test (both_of nonterminal p other) (λ t. rw (t, e, shared_by) (and_zero_l (set_of other))) (λ t. rw (t, shared_by) refl)

  with_nothing : (p : Production) → set_of p ≡ 0 → (g : List Production) → any_with (clash_by set_of (λ q. false) nonterminal p) g ≡ false
  unfolding any_with
  with_nothing p e [] = refl
  with_nothing p e (q ∷ g) = rw (shared_nothing p q e, and-false (both_of nonterminal p q)) (with_nothing p e g)

  pairs_nothing : {g : List Production} → Each (λ (p : Production). set_of p ≡ 0) g → any_pair (clash_by set_of (λ q. false) nonterminal) g ≡ false
  unfolding any_pair
  pairs_nothing each_none = refl
  pairs_nothing (each_more {x = p} {xs = g} e es) = rw (with_nothing p e g) (pairs_nothing es)

  joined_nothing : (p : Production) → set_of p ≡ 0 → (g : List Production) → join_with (shared_by set_of nonterminal p) g 0 ≡ 0
  unfolding join_with
  joined_nothing p e [] = refl
  joined_nothing p e (q ∷ g) = rw (shared_nothing p q e, or_zero_r 0) (joined_nothing p e g)

  all_nothing : {g : List Production} → Each (λ (p : Production). set_of p ≡ 0) g → join_pairs (shared_by set_of nonterminal) g 0 ≡ 0
  unfolding join_pairs
  all_nothing each_none = refl
  all_nothing (each_more {x = p} {xs = g} e es) = rw (joined_nothing p e g) (all_nothing es)

-- none of 64 numbers
none_low : (count start : ℕ) (test : ℕ → Bool) → ((n : ℕ) → test n ≡ false) → lowest count test start ≡ start + count
unfolding lowest
none_low zero start test none = omega arith
none_low (suc count) start test none = rw (none start, lowest) (omega (arith, none_low count (start + 1) test none))

lowest_small : (count start : ℕ) (test : ℕ → Bool) → lowest count test start ≤ start + count
unfolding lowest
lowest_small zero start test = omega arith
lowest_small (suc count) start test =
    by_test (test start) (λ t. rw (t, lowest) (omega arith)) (λ t. rw (t, lowest) (omega (arith, lowest_small count (start + 1) test)))

kinds_alone : (kinds : ℕ) → count_trailing_zeros 64 kinds ≡ lowest_of kinds 0
unfolding count_trailing_zeros
kinds_alone zero = refl
kinds_alone (suc kinds) = rw (lt-ltb 0 (suc kinds) (omega arith), lowest_of) refl

module _ (bs : List ℕ) (o : Openings) (places : List Place) {sets room : List ℕ}
    (held : HoldsEntries sets (map (entry_by bs o.kinds o.nullable) places) room)
    (none : Each (λ (p : Production). o.sorts p ≡ 0) (productions_at bs places)) where
  -- There the room of the kinds alone gives the answer.
  pub without_sorts : no_clash_in room ≡ no_clash o (productions_at bs places)
  unfolding no_clash_in no_clash answer
  without_sorts =
      answers (clashing_in room) (clashing o (productions_at bs places)) (λ n. count_trailing_zeros 64 (all_shared_in room n)) (lowest_shared o (productions_at bs places))
      (clashing_is bs o.kinds o.nullable places held ∙ sym alone)
      (λ n small. ap (count_trailing_zeros 64) (shared_is bs o.kinds o.nullable places held n small)
      ∙ kinds_alone (join_pairs (shared_by o.kinds n) (productions_at bs places) 0)
      ∙ ap (lowest_of (join_pairs (shared_by o.kinds n) (productions_at bs places) 0)) (sym (all_nothing o.sorts n none)))
    where
      alone : clashing o (productions_at bs places) ≡ lowest 64 (λ n. any_pair (by_kinds o n) (productions_at bs places)) 0
      alone =
          clashing_or o (productions_at bs places)
          ∙ lower_left _ _
          (omega (
            arith,
            lowest_small 64 0 (λ n. any_pair (by_kinds o n) (productions_at bs places)),
            none_low 64 0 (λ n. any_pair (by_sorts o n) (productions_at bs places)) (λ n. pairs_nothing o.sorts n none),
          ))
