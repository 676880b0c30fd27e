-- What parts of a table are with given templates for their texts: it depends on these at the offsets between their ends alone, and part by part it is laid one
-- behind the other.
use Prim.Native.Nat.{ℕ, ◌+◌, ◌<◌, ◌≤◌}
use mathlib.Core.Path.{◌≡◌, refl, sym, ap, ap₂, ◌∙◌}
use mathlib.Core.Bool.{true, false}
use mathlib.Core.List.{List, [], ◌∷◌, ◌++◌}
use native.Mathlib.Nat.{add-zero}
use native.Mathlib.Omega.{arith}
use lib.Dec.{ltb}
use borrow.Author.Tests.{lt-ltb, le-ltb}
use Rattle.grammar.specs.Table.{Template, Alternative, Definition}
use Rattle.grammar.specs.Values.{head_value}
use Rattle.grammar.specs.Written.{WrittenResult, template, text, WrittenAlternative, WrittenDefinition, with_alternatives}
use Rattle.judgements.specs.Sizes.{field_size, items_size, alternative_size, alternatives_size, definition_size, definitions_size, blocks_size}
use Rattle.sources.specs.GivenTexts.{result_with, alternatives_with, definitions_with, blocks_with}

-- two agree from one offset up to another
abbrev pub Alike : (first second : ℕ → Template) → (from to : ℕ) → Type 0
Alike first second from to = (k : ℕ) → from ≤ k → k < to → first k ≡ second k

module _ (first second : ℕ → Template) where
  result_alike : (result : WrittenResult) (at : ℕ) → first at ≡ second at → result_with first at result ≡ result_with second at result
  result_alike (template t) at e = refl
  result_alike (text n bs) at e = e

  -- Alternatives are the same with both,
  pub alternatives_alike : (choices : List WrittenAlternative) (at : ℕ) → Alike first second at (at + alternatives_size choices)
      → alternatives_with first at choices ≡ alternatives_with second at choices
  unfolding alternatives_with alternatives_size alternative_size
  alternatives_alike [] at same = refl
  alternatives_alike (a ∷ rest) at same =
      ap₂ (λ (t : Template) (others : List Alternative). record { items = a.items; result = t } ∷ others)
      (result_alike a.result (at + 3 + items_size a.items) (same (at + 3 + items_size a.items) (omega arith) (omega arith)))
      (alternatives_alike rest (at + alternative_size a) (λ k l u. same k (omega (arith, l)) (omega (arith, u))))

  -- so are definitions,
  pub definitions_alike : (ds : List WrittenDefinition) (at : ℕ) → Alike first second at (at + definitions_size ds)
      → definitions_with first at ds ≡ definitions_with second at ds
  unfolding definitions_with definitions_size definition_size
  definitions_alike [] at same = refl
  definitions_alike (d ∷ ds) at same =
      ap₂ (λ (choices : List Alternative) (others : List Definition). with_alternatives d choices ∷ others)
      (alternatives_alike d.alternatives (at + field_size (head_value d)) (λ k l u. same k (omega (arith, l)) (omega (arith, u))))
      (definitions_alike ds (at + definition_size d) (λ k l u. same k (omega (arith, l)) (omega (arith, u))))

  -- and blocks.
  pub blocks_alike : (bs : List (List WrittenDefinition)) (at : ℕ) → Alike first second at (at + blocks_size bs)
      → blocks_with first at bs ≡ blocks_with second at bs
  unfolding blocks_with blocks_size
  blocks_alike [] at same = refl
  blocks_alike (b ∷ bs) at same =
      ap₂ (λ (block : List Definition) (others : List (List Definition)). block ∷ others)
      (definitions_alike b (at + 3) (λ k l u. same k (omega (arith, l)) (omega (arith, u))))
      (blocks_alike bs (at + 3 + definitions_size b) (λ k l u. same k (omega (arith, l)) (omega (arith, u))))

-- ------------------------------------------------------------------ one behind the other

module _ (given : ℕ → Template) where
  -- Alternatives behind others stand where those end,
  pub alternatives_append : (before behind : List WrittenAlternative) (at : ℕ)
      → alternatives_with given at (before ++ behind) ≡ alternatives_with given at before ++ alternatives_with given (at + alternatives_size before) behind
  unfolding alternatives_with alternatives_size
  alternatives_append [] behind at = ap (λ (k : ℕ). alternatives_with given k behind) (sym (add-zero at))
  alternatives_append (a ∷ before) behind at =
      let place : at + alternative_size a + alternatives_size before ≡ at + (alternative_size a + alternatives_size before) = omega arith in
      let own : Alternative = record { items = a.items; result = result_with given (at + 3 + items_size a.items) a.result } in
      ap (◌∷◌ own)
      (alternatives_append before behind (at + alternative_size a)
      ∙ ap (λ (k : ℕ). alternatives_with given (at + alternative_size a) before ++ alternatives_with given k behind) place)

  -- so do definitions,
  pub definitions_append : (before behind : List WrittenDefinition) (at : ℕ)
      → definitions_with given at (before ++ behind) ≡ definitions_with given at before ++ definitions_with given (at + definitions_size before) behind
  unfolding definitions_with definitions_size
  definitions_append [] behind at = ap (λ (k : ℕ). definitions_with given k behind) (sym (add-zero at))
  definitions_append (d ∷ before) behind at =
      let place : at + definition_size d + definitions_size before ≡ at + (definition_size d + definitions_size before) = omega arith in
      let own : Definition = with_alternatives d (alternatives_with given (at + field_size (head_value d)) d.alternatives) in
      ap (◌∷◌ own)
      (definitions_append before behind (at + definition_size d)
      ∙ ap (λ (k : ℕ). definitions_with given (at + definition_size d) before ++ definitions_with given k behind) place)

  -- and blocks.
  pub blocks_append : (before behind : List (List WrittenDefinition)) (at : ℕ)
      → blocks_with given at (before ++ behind) ≡ blocks_with given at before ++ blocks_with given (at + blocks_size before) behind
  unfolding blocks_with blocks_size
  blocks_append [] behind at = ap (λ (k : ℕ). blocks_with given k behind) (sym (add-zero at))
  blocks_append (b ∷ before) behind at =
      let place : at + 3 + definitions_size b + blocks_size before ≡ at + (3 + definitions_size b + blocks_size before) = omega arith in
      ap (◌∷◌ (definitions_with given (at + 3) b))
      (blocks_append before behind (at + 3 + definitions_size b)
      ∙ ap (λ (k : ℕ). blocks_with given (at + 3 + definitions_size b) before ++ blocks_with given k behind) place)

-- ------------------------------------------------------------------ one before an offset, another from it on

unfoldable pub spliced : ℕ → (ℕ → Template) → (ℕ → Template) → ℕ → Template
spliced at first second k = elim (ltb k at) [ true ↦ first k | false ↦ second k ]

module _ (at : ℕ) (first second : ℕ → Template) where
  -- Before the offset it is the one,
  pub spliced_before : (k : ℕ) → k < at → first k ≡ spliced at first second k
  unfolding spliced
  spliced_before k l = rw (lt-ltb k at l, spliced) refl

  -- and from there on the other.
  pub spliced_behind : (k : ℕ) → at ≤ k → second k ≡ spliced at first second k
  unfolding spliced
  spliced_behind k l = rw (le-ltb k at l, spliced) refl
