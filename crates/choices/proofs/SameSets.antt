-- Nullables and first sets look at the nonterminals and the items of productions, and not at their results.
use Prim.Native.Nat.{ℕ}
use mathlib.Core.Path.{◌≡◌, refl, ap, ◌∙◌, fun_ext}
use mathlib.Core.List.{List, [], ◌∷◌, map}
use lib.ListN.{replicate}
use Rattle.grammar.specs.Limits.{most}
use Rattle.grammar.specs.Table.{Item}
use Rattle.productions.specs.Normal.{Production}
use Rattle.firsts.specs.FirstSets.{rounds, over_all, null_step, nullables, first_step, sets_of}

module _ {A : Type 0} (first second : A → Production) (same_owner : (a : A) → (first a).nonterminal ≡ (second a).nonterminal)
    (same_items : (a : A) → (first a).items ≡ (second a).items) where
  over_same : {X : Type 0} (step : Production → X → X) → ((a : A) (x : X) → step (first a) x ≡ step (second a) x) → (all : List A) (x : X)
      → over_all step (map first all) x ≡ over_all step (map second all) x
  unfolding over_all
  over_same step agree [] x = refl
  over_same step agree (a ∷ all) x = ap (over_all step (map first all)) (agree a x) ∙ over_same step agree all (step (second a) x)

  null_same : (a : A) (nulls : ℕ) → null_step (first a) nulls ≡ null_step (second a) nulls
  unfolding null_step
  null_same a nulls = rw (same_owner a, same_items a) refl

  -- Productions of the same nonterminals and items have the same nullables.
  pub nullables_same : (all : List A) → nullables (map first all) ≡ nullables (map second all)
  unfolding nullables
  nullables_same all = ap (λ (round : ℕ → ℕ). rounds most.nonterminals round 0) (fun_ext (over_same null_step null_same all))

  first-same : (own : Item → ℕ) (nulls : ℕ) (a : A) (sets : List ℕ) → first_step own nulls (first a) sets ≡ first_step own nulls (second a) sets
  unfolding first_step
  first-same own nulls a sets = rw (same_owner a, same_items a) refl

  -- They have the same sets.
  pub sets_same : (own : Item → ℕ) (nulls : ℕ) (all : List A) → sets_of own nulls (map first all) ≡ sets_of own nulls (map second all)
  unfolding sets_of
  sets_same own nulls all =
      ap (λ (round : List ℕ → List ℕ). rounds most.nonterminals round (replicate most.nonterminals 0))
      (fun_ext (over_same (first_step own nulls) (first-same own nulls) all))
