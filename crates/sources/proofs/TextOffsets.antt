-- Tables with given templates for their texts are the same where these agree at the offset of each text.
use Prim.Native.Nat.{ℕ, ◌+◌}
use mathlib.Core.Path.{◌≡◌, refl, sym, ap₂, subst}
use mathlib.Core.List.{List, [], ◌∷◌}
use native.Mathlib.Nat.{add-zero}
use native.Mathlib.Omega.{arith}
use lib.ListN.{length}
use Rattle.grammar.specs.Table.{Template, Item, Alternative, Definition}
use Rattle.grammar.specs.Values.{Field, item_value, head_value}
use Rattle.grammar.specs.Written.{WrittenResult, template, text, WrittenAlternative, WrittenDefinition, Written, result_field, with_alternatives}
use Rattle.grammar.specs.Encode.{spellings_then, items_then, alternatives_then, definitions_then, blocks_then}
use Rattle.decoding.proofs.Split.{spread}
use Rattle.judgements.specs.Sizes.{field_size, spellings_size, items_size, alternative_size, alternatives_size, definition_size, definitions_size}
use Rattle.sources.specs.GivenTexts.{result_with, alternatives_with, definitions_with, blocks_with, first_block, AtTexts}
use Rattle.sources.proofs.FrontBytes.{front_then}

module _ (first second : ℕ → Template) where
  -- both agree at each text of some fields from an offset on
  abbrev Agree : List Field → ℕ → Type 0
  Agree fs at = AtTexts (λ k. first k ≡ second k) (spread at fs)

  moved : (follow : List Field) {at to : ℕ} → at ≡ to → Agree follow at → Agree follow to
  moved follow e h = subst (Agree follow) e h

  behind_items : (is : List Item) (follow : List Field) (at : ℕ) → Agree (items_then is follow) at → Agree follow (at + items_size is)
  unfolding spread items_then items_size
  behind_items [] follow at h = moved follow (sym (add-zero at)) h
  behind_items (i ∷ is) follow at h =
      moved follow (omega arith) (behind_items is follow (at + (3 + length (item_value i))) h.1)

  behind_result : (result : WrittenResult) (follow : List Field) (at : ℕ) → Agree (result_field result ∷ follow) at
      → (result_with first at result ≡ result_with second at result) × Agree follow (at + field_size (result_field result).value)
  unfolding spread
  behind_result (template t) follow at h = (refl, h.1)
  behind_result (text n bs) follow at h = (h.0 refl, h.1)

  behind_alternatives : (choices : List WrittenAlternative) (follow : List Field) (at : ℕ) → Agree (alternatives_then choices follow) at
      → (alternatives_with first at choices ≡ alternatives_with second at choices) × Agree follow (at + alternatives_size choices)
  unfolding spread alternatives_then alternatives_size alternative_size alternatives_with
  behind_alternatives [] follow at h = (refl, moved follow (sym (add-zero at)) h)
  behind_alternatives (a ∷ rest) follow at h =
      let behind : List Field = alternatives_then rest follow in
      let (same, left) = behind_result a.result behind (at + 3 + items_size a.items)
      (behind_items a.items (result_field a.result ∷ behind) (at + 3) h.1) in
      let (others, last) = behind_alternatives rest follow (at + alternative_size a) (moved behind (omega arith) left) in (
        ap₂ (λ (t : Template) (alternatives : List Alternative). record { items = a.items; result = t } ∷ alternatives) same others,
        moved follow (omega arith) last,
      )

  behind_definitions : (ds : List WrittenDefinition) (follow : List Field) (at : ℕ) → Agree (definitions_then ds follow) at
      → (definitions_with first at ds ≡ definitions_with second at ds) × Agree follow (at + definitions_size ds)
  unfolding spread definitions_then definitions_size definition_size definitions_with
  behind_definitions [] follow at h = (refl, moved follow (sym (add-zero at)) h)
  behind_definitions (d ∷ ds) follow at h =
      let behind : List Field = definitions_then ds follow in
      let (same, left) = behind_alternatives d.alternatives behind (at + field_size (head_value d)) h.1 in
      let (others, last) = behind_definitions ds follow (at + definition_size d) (moved behind (omega arith) left) in (
        ap₂ (λ (choices : List Alternative) (definitions : List Definition). with_alternatives d choices ∷ definitions) same others,
        moved follow (omega arith) last,
      )

  blocks_agree : (bs : List (List WrittenDefinition)) (follow : List Field) (at : ℕ) → Agree (blocks_then bs follow) at
      → blocks_with first at bs ≡ blocks_with second at bs
  unfolding spread blocks_then blocks_with
  blocks_agree [] follow at h = refl
  blocks_agree (b ∷ bs) follow at h =
      let (same, left) = behind_definitions b (blocks_then bs follow) (at + 3) h.1 in
      ap₂ (λ (block : List Definition) (blocks : List (List Definition)). block ∷ blocks) same
      (blocks_agree bs follow (at + 3 + definitions_size b) left)

  behind_spellings : (tag : ℕ) (ss : List (List ℕ)) (follow : List Field) (at : ℕ) → Agree (spellings_then tag ss follow) at
      → Agree follow (at + spellings_size ss)
  unfolding spread spellings_then spellings_size
  behind_spellings tag [] follow at h = moved follow (sym (add-zero at)) h
  behind_spellings tag (s ∷ ss) follow at h =
      moved follow (omega arith) (behind_spellings tag ss follow (at + (3 + length s)) h.1)

  -- Blocks behind keywords and outside names are the same with templates that agree at each text.
  pub front_same : (table : Written) (blocks : List (List WrittenDefinition)) (follow : List Field)
      → AtTexts (λ at. first at ≡ second at) (spread 0 (front_then table blocks follow))
      → blocks_with first (first_block table) blocks ≡ blocks_with second (first_block table) blocks
  front_same table blocks follow h =
      let behind : List Field = blocks_then blocks follow in
      blocks_agree blocks follow (first_block table)
      (moved behind (omega arith)
      (behind_spellings 2 table.outsides behind (0 + spellings_size table.keywords)
      (behind_spellings 1 table.keywords (spellings_then 2 table.outsides behind) 0 h)))
