-- What reads a variable first is below `patterns_most`, so that it fits a link.
use Prim.Native.Nat.{ℕ, zero, suc, ◌<◌, ◌≤◌}
use mathlib.Core.Path.{◌≡◌, refl}
use mathlib.Core.Bool.{Bool, true, false, and-eq-true_iff}
use mathlib.Core.List.{List, [], ◌∷◌}
use native.Mathlib.Decide.{ℕ_discrete, dec_lt}
use native.Mathlib.Omega.{arith}
use lib.Bits.{bit_or, or_lt}
use lib.Dec.{leb}
use lib.ListN.{length, get_or, replicate, length-replicate, get_or-replicate, get_or-eq_default}
use lib.Pow.{pow_mono}
use lib.Seq.{set_out, get_or-set_same, get_or-set_other}
use borrow.Author.Tests.{leb-true}
use Rattle.spellings.proofs.BytesLaws.{by_test}
use Rattle.kinds.specs.Kinds.{only}
use Rattle.kinds.proofs.KindsLaws.{only_kind}
use Rattle.grammar.specs.SortTests.{is_sort, is_ide_sort}
use Rattle.grammar.specs.Table.{keyword, ide, number, place, Item, terminal, local, call}
use Rattle.productions.specs.Normal.{Production}
use Rattle.productions.specs.Room.{patterns_most}
use Rattle.firsts.specs.FirstSets.{rounds, over_all, is_nullable, joined, gather, first_step, sets_of}
use Rattle.firsts.specs.Patterns.{only_if, place_bit, pattern_of, pattern_sets}

-- a set that fits a link
abbrev Fits : ℕ → Type 0
Fits set = set < patterns_most

or_fits : (set other : ℕ) → Fits set → Fits other → Fits (bit_or set other)
or_fits set other s o = or_lt 15 set other s o

-- the set of one of the lowest 15 numbers fits
only_fits : (bit : ℕ) → bit ≤ 14 → Fits (only bit)
only_fits bit low = rw (only_kind bit (omega arith)) (omega (arith, pow_mono low))

ide_fits : (sort : ℕ) (test : Bool) → is_ide_sort sort ≡ test → Fits (only_if test sort)
ide_fits sort false t = omega arith
ide_fits sort true t = only_fits sort (omega (arith, leb-true sort 3 ((and-eq-true_iff (leb 1 sort) (leb sort 3)).0 t).1))

place_fits : (sort : ℕ) (test : Bool) → is_sort sort ≡ test → Fits (only_if test (place_bit sort))
place_fits sort false t = omega arith
place_fits sort true t = only_fits (place_bit sort) (omega (arith, leb-true sort 6 t))

-- What an item gives by itself fits.
pub pattern_fits : (item : Item) → Fits (pattern_of item)
pattern_fits (terminal (keyword k)) = omega arith
pattern_fits (terminal (ide s)) = ide_fits s (is_ide_sort s) refl
pattern_fits (terminal number) = omega arith
pattern_fits (terminal (place s)) = place_fits s (is_sort s) refl
pattern_fits local = omega arith
pattern_fits (call n ts) = omega arith

-- sets that fit
abbrev AllFit : List ℕ → Type 0
AllFit sets = (nonterminal : ℕ) → Fits (get_or sets nonterminal 0)

module _ (nulls : ℕ) where
  module _ (sets : List ℕ) (fit : AllFit sets) where
    joined_fits : (item : Item) (found : ℕ) → Fits found → Fits (joined pattern_of sets item found)
    joined_fits (terminal t) found f = or_fits _ 0 (or_fits found _ f (pattern_fits (terminal t))) (omega arith)
    joined_fits local found f = or_fits _ 0 (or_fits found 0 f (pattern_fits local)) (omega arith)
    joined_fits (call n ts) found f = or_fits _ _ (or_fits found 0 f (pattern_fits (call n ts))) (fit n)

    -- So does what items give,
    pub gather_fits : (is : List Item) (found : ℕ) → Fits found → Fits (gather pattern_of nulls sets is found)
    unfolding gather
    gather_fits [] found f = f
    gather_fits (i ∷ is) found f =
        by_test (is_nullable nulls i) (λ t. rw (t, gather) (gather_fits is _ (joined_fits i found f))) (λ t. rw (t, gather) (joined_fits i found f))

    step_fits : (p : Production) → AllFit (first_step pattern_of nulls p sets)
    unfolding first_step
    step_fits p nonterminal = by (ℕ_discrete nonterminal p.nonterminal) (dec_lt nonterminal (length sets))
      where
        more : Fits (bit_or (get_or sets p.nonterminal 0) (gather pattern_of nulls sets p.items 0))
        more = or_fits _ _ (fit p.nonterminal) (gather_fits p.items 0 (omega arith))

        by : Dec (nonterminal ≡ p.nonterminal) → Dec (nonterminal < length sets) → Fits (get_or (first_step pattern_of nulls p sets) nonterminal 0)
        by (no e) d = rw (get_or-set_other sets p.nonterminal nonterminal _ 0 e) (fit nonterminal)
        by (yes e) (yes l) = rw e (rw (get_or-set_same sets p.nonterminal _ 0 (omega arith)) more)
        by (yes e) (no l) = rw (set_out sets p.nonterminal _ (omega arith)) (fit nonterminal)

  over_fits : (g : List Production) (sets : List ℕ) → AllFit sets → AllFit (over_all (first_step pattern_of nulls) g sets)
  unfolding over_all
  over_fits [] sets fit = fit
  over_fits (p ∷ g) sets fit = over_fits g _ (step_fits sets fit p)

  rounds_fit : (times : ℕ) (g : List Production) (sets : List ℕ) → AllFit sets → AllFit (rounds times (over_all (first_step pattern_of nulls) g) sets)
  unfolding rounds
  rounds_fit zero g sets fit = fit
  rounds_fit (suc times) g sets fit = rounds_fit times g _ (over_fits g sets fit)

  -- and so do the sets of the nonterminals.
  pub sets_fit : (g : List Production) → AllFit (pattern_sets nulls g)
  unfolding sets_of
  sets_fit g = rounds_fit 64 g (replicate 64 0) (λ n. rw (empty n) (omega arith))
    where
      empty : (nonterminal : ℕ) → get_or {A = ℕ} (replicate 64 0) nonterminal 0 ≡ 0
      empty nonterminal = by (dec_lt nonterminal 64)
        where
          by : Dec (nonterminal < 64) → get_or {A = ℕ} (replicate 64 0) nonterminal 0 ≡ 0
          by (yes l) = get_or-replicate 64 nonterminal 0 0 l
          by (no l) = get_or-eq_default {A = ℕ} (replicate 64 0) 0 {n = nonterminal} (omega (arith, length-replicate {A = ℕ} 64 0))
