-- Nullables, what opens productions, what is reached, and 12 and 13 go by the nonterminals and the items of productions: their results do not count.
use Prim.Native.Nat.{ℕ, zero, suc, ◌+◌, ◌/◌, ◌^◌}
use mathlib.Core.Path.{◌≡◌, refl, sym, ap, ap₂, ◌∙◌}
use mathlib.Core.Bool.{Bool, true, false, ◌||◌}
use mathlib.Core.List.{List, [], ◌∷◌, map}
use lib.Bits.{bit_or}
use lib.Dec.{ltb}
use lib.ListN.{replicate}
use Rattle.answers.specs.Refusals.{refusal}
use Rattle.answers.specs.Checked.{Checked, ok, bad, ◌>>◌}
use Rattle.grammar.specs.Limits.{most}
use Rattle.grammar.specs.Table.{variable, Item}
use Rattle.productions.specs.Normal.{Production}
use Rattle.firsts.specs.FirstSets.{rounds, over_all, all_nullable, null_step, nullables, opening_of, call_of, gather, first_step, sets_of, first_sets}
use Rattle.firsts.specs.Mentions.{noted, notes}
use Rattle.firsts.specs.Patterns.{place_bit, pattern_of, patterns_in}
use Rattle.firsts.specs.Reach.{kinds_reached}
use Rattle.clashes.specs.Openings.{Openings, openings_of, lowest_of}
use Rattle.clashes.specs.CheckFirsts.{lowest, left_recursive, shared_by, clash, any_with, any_pair, clashing, join_with, join_pairs, lowest_shared}
use Rattle.clashes.specs.CheckFirsts.{no_left_recursion, no_clash, check_firsts}

-- a production with any result in the place of its own
abbrev pub bare : Production → Production
bare p = record { nonterminal = p.nonterminal; items = p.items; result = variable 0 }

-- ------------------------------------------------------------------ rounds over productions

over_bare : {A : Type 0} (step : Production → A → A) → ((p : Production) (x : A) → step (bare p) x ≡ step p x) → (g : List Production) (x : A)
    → over_all step (map bare g) x ≡ over_all step g x
unfolding over_all
over_bare step same [] x = refl
over_bare step same (p ∷ g) x = over_bare step same g (step (bare p) x) ∙ ap (over_all step g) (same p x)

rounds_same : {A : Type 0} (count : ℕ) {f h : A → A} → ((x : A) → f x ≡ h x) → (x : A) → rounds count f x ≡ rounds count h x
unfolding rounds
rounds_same zero same x = refl
rounds_same (suc count) {f} {h} same x = rounds_same count same (f x) ∙ ap (rounds count h) (same x)

nullables_bare : (g : List Production) → nullables (map bare g) ≡ nullables g
unfolding nullables null_step
nullables_bare g = rounds_same most.nonterminals (over_bare null_step (λ p nulls. refl) g) 0

sets_bare : (own : Item → ℕ) (nulls : ℕ) (g : List Production) → sets_of own nulls (map bare g) ≡ sets_of own nulls g
unfolding sets_of first_step
sets_bare own nulls g =
    rounds_same most.nonterminals (over_bare (first_step own nulls) (λ p sets. refl) g) (replicate most.nonterminals 0)

notes_bare : (own : Item → ℕ) (g : List Production) → notes own (map bare g) ≡ notes own g
unfolding notes noted
notes_bare own g = over_bare (noted own) (λ p sets. refl) g (replicate most.nonterminals 0)

-- the sets of the nullables
own_sets_bare : (own : Item → ℕ) (g : List Production) → sets_of own (nullables (map bare g)) (map bare g) ≡ sets_of own (nullables g) g
own_sets_bare own g = ap (λ nulls. sets_of own nulls (map bare g)) (nullables_bare g) ∙ sets_bare own (nullables g) g

kinds_bare : (g : List Production) (start : ℕ) → kinds_reached (map bare g) start ≡ kinds_reached g start
unfolding kinds_reached
kinds_bare g start = rw (notes_bare opening_of g, notes_bare call_of g) refl

patterns_bare : (g : List Production) → patterns_in (map bare g) ≡ patterns_in g
patterns_bare g =
    let by_sets : ℕ → List ℕ → List Item → ℕ = λ nulls sets is. gather pattern_of nulls sets is 0 in
    ap₂ by_sets (nullables_bare g) (own_sets_bare pattern_of g)

-- ------------------------------------------------------------------ pairs of productions

any_bare : (t u : Production → Bool) → ((q : Production) → t (bare q) ≡ u q) → (g : List Production) → any_with t (map bare g) ≡ any_with u g
unfolding any_with
any_bare t u same [] = refl
any_bare t u same (q ∷ g) = ap₂ ◌||◌ (same q) (any_bare t u same g)

pair_bare : (t : Production → Production → Bool) → ((p q : Production) → t (bare p) (bare q) ≡ t p q) → (g : List Production)
    → any_pair t (map bare g) ≡ any_pair t g
unfolding any_pair
pair_bare t same [] = refl
pair_bare t same (p ∷ g) = ap₂ ◌||◌ (any_bare (t (bare p)) (t p) (same p) g) (pair_bare t same g)

join_bare : (f h : Production → ℕ) → ((q : Production) → f (bare q) ≡ h q) → (g : List Production) (found : ℕ)
    → join_with f (map bare g) found ≡ join_with h g found
unfolding join_with
join_bare f h same [] found = refl
join_bare f h same (q ∷ g) found =
    join_bare f h same g (bit_or found (f (bare q))) ∙ ap (λ set. join_with h g (bit_or found set)) (same q)

pairs-bare : (f : Production → Production → ℕ) → ((p q : Production) → f (bare p) (bare q) ≡ f p q) → (g : List Production) (found : ℕ)
    → join_pairs f (map bare g) found ≡ join_pairs f g found
unfolding join_pairs
pairs-bare f same [] found = refl
pairs-bare f same (p ∷ g) found =
    pairs-bare f same g (join_with (f (bare p)) (map bare g) found) ∙ ap (join_pairs f g) (join_bare (f (bare p)) (f p) (same p) g found)

lowest_same : (count : ℕ) {t u : ℕ → Bool} → ((n : ℕ) → t n ≡ u n) → (from : ℕ) → lowest count t from ≡ lowest count u from
unfolding lowest
lowest_same zero same from = refl
lowest_same (suc count) {t} {u} same from =
    ap₂ (λ (test : Bool) (rest : ℕ). elim test as (λ x. ℕ) [ true ↦ from | false ↦ rest ]) (same from) (lowest_same count same (from + 1))

-- ------------------------------------------------------------------ 12 and 13

-- 12 by the left calls
abbrev recursive : List ℕ → Checked (Unit {0})
recursive calls = elim (ltb (left_recursive calls) most.nonterminals) [ true ↦ bad (refusal 12 (left_recursive calls) 0 0) | false ↦ ok tt ]

recursion_bare : (g : List Production) → no_left_recursion (nullables (map bare g)) (map bare g) ≡ no_left_recursion (nullables g) g
unfolding no_left_recursion
recursion_bare g = ap recursive (own_sets_bare call_of g)

openings_bare : (g : List Production) → openings_of (map bare g) ≡ openings_of g
openings_bare g =
    let by_sets : ℕ → List ℕ → (List Item → ℕ) → Openings
    = λ nulls sets patterns. record {
      kinds = λ p. gather opening_of nulls sets p.items 0;
      sorts = λ p. patterns p.items / 2 ^ place_bit 0;
      nullable = λ p. all_nullable nulls p.items;
    } in
    ap₂ (λ (nulls : ℕ) (sets : List ℕ). by_sets nulls sets (patterns_in (map bare g))) (nullables_bare g) (own_sets_bare opening_of g)
    ∙ ap (by_sets (nullables g) (first_sets (nullables g) g)) (patterns_bare g)

-- 13 by the nonterminal, and what is named of it
abbrev clashed : ℕ → ℕ → Checked (Unit {0})
clashed n name = elim (ltb n most.nonterminals) [ true ↦ bad (refusal 13 n name 0) | false ↦ ok tt ]

shared_bare : (g : List Production) (n : ℕ) → lowest_shared (openings_of g) (map bare g) n ≡ lowest_shared (openings_of g) g n
shared_bare g n =
    ap₂ lowest_of (pairs-bare (shared_by (openings_of g).kinds n) (λ p q. refl) g 0) (pairs-bare (shared_by (openings_of g).sorts n) (λ p q. refl) g 0)

clash_bare : (g : List Production) → no_clash (openings_of g) (map bare g) ≡ no_clash (openings_of g) g
unfolding no_clash
clash_bare g =
    let o : Openings = openings_of g in
    ap (λ n. clashed n (lowest_shared o (map bare g) n)) (lowest_same most.nonterminals (λ n. pair_bare (clash o n) (λ p q. refl) g) 0)
    ∙ ap (clashed (clashing o g)) (shared_bare g (clashing o g))

firsts_bare : (g : List Production) → check_firsts (map bare g) ≡ check_firsts g
unfolding check_firsts
firsts_bare g = ap₂ ◌>>◌ (recursion_bare g) (ap (λ (o : Openings). no_clash o (map bare g)) (openings_bare g) ∙ clash_bare g)

-- Two grammars that differ in results alone
module _ (g h : List Production) (alike : map bare g ≡ map bare h) where
  -- reach the same kinds,
  pub same_kinds : (start : ℕ) → kinds_reached g start ≡ kinds_reached h start
  same_kinds start = sym (kinds_bare g start) ∙ ap (λ (list : List Production). kinds_reached list start) alike ∙ kinds_bare h start

  -- read variables first at the same,
  pub same_patterns : patterns_in g ≡ patterns_in h
  same_patterns = sym (patterns_bare g) ∙ ap (λ (list : List Production). patterns_in list) alike ∙ patterns_bare h

  -- and are refused alike by 12 and 13.
  pub same_firsts : check_firsts g ≡ check_firsts h
  same_firsts = sym (firsts_bare g) ∙ ap check_firsts alike ∙ firsts_bare h
