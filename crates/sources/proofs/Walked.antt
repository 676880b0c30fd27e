-- The fields of a table, also of one with texts, give in order the normalized grammar of the table with the templates that are given for its texts.
use Prim.Native.Nat.{ℕ, ◌+◌}
use mathlib.Core.Path.{◌≡◌, refl, sym, ap, ap₂, ◌∙◌}
use mathlib.Core.Bool.{false}
use mathlib.Core.List.{List, [], ◌∷◌, ◌++◌, append-nil, append_assoc}
use native.Mathlib.Nat.{add-zero}
use native.Mathlib.Omega.{arith}
use lib.Dec.{eqb}
use lib.ListN.{length, get_or}
use Rattle.grammar.specs.Table.{Template, Item, Mode}
use Rattle.grammar.specs.Values.{Field, field, item_value, head_value}
use Rattle.grammar.specs.Written.{WrittenResult, template, text, WrittenAlternative, WrittenDefinition, Written, result_field}
use Rattle.grammar.specs.Encode.{spellings_then, items_then, alternatives_then, definitions_then, blocks_then}
use Rattle.grammar.specs.Fields.{RawFields}
use Rattle.decoding.specs.Decode.{mode_of, definition_of}
use Rattle.decoding.specs.Within.{Each, each_none, each_more, ItemWithin}
use Rattle.decoding.proofs.Split.{spread}
use Rattle.decoding.proofs.Values.{item_read, head_read, result_read}
use Rattle.productions.specs.Normal.{Production, productions_of, kept, defined_all, normalized_from, normalized}
use Rattle.productions.specs.Index.{items_of}
use Rattle.judgements.specs.Sizes.{field_size, spellings_size, items_size, alternative_size, alternatives_size, definition_size, definitions_size, blocks_size}
use Rattle.elaboration.proofs.Ranges.{ResultFine, template_fine, text_fine, AlternativeFine, DefinitionFine}
use Rattle.sources.specs.GivenTexts.{result_with, alternatives_with, definitions_with, blocks_with, first_block, ReadsResults, normalized_with}
use Rattle.sources.proofs.FrontBytes.{front_then}

module _ {results : RawFields → Template} {given : ℕ → Template} (reads : ReadsResults results given) where
  -- the grammar that fields from an offset on give, behind the productions g, in a definition of a nonterminal
  abbrev from : List Field → (at nonterminal : ℕ) → List Production → List Production
  from fs at nonterminal g = normalized_with results (spread at fs) nonterminal g

  -- behind fields up to an offset the others make `last` of the productions
  abbrev GoesOn : List Field → ℕ → (List Production → List Production) → Type 0
  GoesOn follow at last = (nonterminal : ℕ) (g : List Production) → from follow at nonterminal g ≡ last g

  moved : (follow : List Field) (last : List Production → List Production) {at to : ℕ} → at ≡ to → GoesOn follow to last → GoesOn follow at last
  moved follow last e goes nonterminal g = ap (λ (k : ℕ). from follow k nonterminal g) e ∙ goes nonterminal g

  -- ---------------------------------------------------------------- items and a result

  items_found : {is : List Item} → Each ItemWithin is → (follow : List Field) → ((at : ℕ) → items_of (spread at follow) ≡ []) → (at : ℕ)
      → items_of (spread at (items_then is follow)) ≡ is
  unfolding items_of spread items_then
  items_found each_none follow none at = none at
  items_found (each_more {x = i} {xs = is} w ws) follow none at =
      ap₂ (λ (item : Item) (others : List Item). item ∷ others) (item_read w) (items_found ws follow none (at + (3 + length (item_value i))))

  result_found : (is : List Item) (follow : List Field) (at : ℕ) → results (spread at (items_then is follow)) ≡ results (spread (at + items_size is) follow)
  unfolding spread items_then items_size
  result_found [] follow at = ap (λ (k : ℕ). results (spread k follow)) (sym (add-zero at))
  result_found (i ∷ is) follow at =
      reads.behind_item at (item_value i) (spread (at + (3 + length (item_value i))) (items_then is follow))
      ∙ result_found is follow (at + (3 + length (item_value i)))
      ∙ ap (λ (k : ℕ). results (spread k follow)) (omega arith)

  items_passed : (is : List Item) (follow : List Field) (at nonterminal : ℕ) (g : List Production)
      → from (items_then is follow) at nonterminal g ≡ from follow (at + items_size is) nonterminal g
  unfolding spread items_then items_size normalized_with
  items_passed [] follow at nonterminal g = ap (λ (k : ℕ). from follow k nonterminal g) (sym (add-zero at))
  items_passed (i ∷ is) follow at nonterminal g =
      items_passed is follow (at + (3 + length (item_value i))) nonterminal g ∙ ap (λ (k : ℕ). from follow k nonterminal g) (omega arith)

  no_item : (result : WrittenResult) (follow : List Field) (at : ℕ) → items_of (spread at (result_field result ∷ follow)) ≡ []
  unfolding items_of spread
  no_item (template t) follow at = refl
  no_item (text n bs) follow at = refl

  result_read_there : {result : WrittenResult} → ResultFine result → (follow : List Field) (at : ℕ)
      → results (spread at (result_field result ∷ follow)) ≡ result_with given at result
  unfolding spread
  result_read_there (template_fine w) follow at = reads.of_template at _ _ ∙ result_read w
  result_read_there (text_fine l) follow at = reads.of_text at _ _

  result_passed : (result : WrittenResult) (follow : List Field) (at nonterminal : ℕ) (g : List Production)
      → from (result_field result ∷ follow) at nonterminal g ≡ from follow (at + field_size (result_field result).value) nonterminal g
  unfolding spread normalized_with
  result_passed (template t) follow at nonterminal g = refl
  result_passed (text n bs) follow at nonterminal g = refl

  -- ---------------------------------------------------------------- alternatives

  module _ (follow : List Field) {a : WrittenAlternative} (fine : AlternativeFine a) (at nonterminal : ℕ) (g : List Production) where
    abbrev place : ℕ
    place = at + 3 + items_size a.items

    abbrev inside : List Field
    inside = items_then a.items (result_field a.result ∷ follow)

    abbrev own : List Production
    own = record { nonterminal = nonterminal; items = a.items; result = result_with given place a.result } ∷ []

    own_read : record { nonterminal = nonterminal; items = items_of (spread (at + 3) inside); result = results (spread (at + 3) inside) } ∷ [] ≡ own
    own_read =
        ap₂ (λ (is : List Item) (t : Template). record { nonterminal = nonterminal; items = is; result = t } ∷ [])
        (items_found fine.items (result_field a.result ∷ follow) (no_item a.result follow) (at + 3))
        (result_found a.items (result_field a.result ∷ follow) (at + 3) ∙ result_read_there fine.result follow place)

    -- one alternative more is one production more
    alternative_passed : from (field 5 [] ∷ inside) at nonterminal g ≡ from follow (at + alternative_size a) nonterminal (g ++ own)
    unfolding spread normalized_with alternative_size
    alternative_passed =
        ap (λ (made : List Production). from inside (at + 3) nonterminal (g ++ made)) own_read
        ∙ items_passed a.items (result_field a.result ∷ follow) (at + 3) nonterminal (g ++ own)
        ∙ result_passed a.result follow place nonterminal (g ++ own)
        ∙ ap (λ (k : ℕ). from follow k nonterminal (g ++ own)) (omega arith)

  alternatives_walked : {choices : List WrittenAlternative} → Each AlternativeFine choices → (follow : List Field) (last : List Production → List Production)
      (at : ℕ) → GoesOn follow (at + alternatives_size choices) last → (nonterminal : ℕ) (g : List Production)
      → from (alternatives_then choices follow) at nonterminal g ≡ last (g ++ productions_of nonterminal (alternatives_with given at choices))
  unfolding alternatives_then alternatives_size alternatives_with productions_of
  alternatives_walked each_none follow last at goes nonterminal g =
      moved follow last (sym (add-zero at)) goes nonterminal g ∙ ap last (sym (append-nil g))
  alternatives_walked (each_more {x = a} {xs = rest} w ws) follow last at goes nonterminal g =
      let next : ℕ = at + alternative_size a in
      let own : List Production
      = record { nonterminal = nonterminal; items = a.items; result = result_with given (at + 3 + items_size a.items) a.result } ∷ [] in
      alternative_passed (alternatives_then rest follow) w at nonterminal g
      ∙ alternatives_walked ws follow last next (moved follow last (omega arith) goes) nonterminal (g ++ own)
      ∙ ap last (append_assoc g own (productions_of nonterminal (alternatives_with given next rest)))

  -- ---------------------------------------------------------------- definitions and blocks

  mode_found : (d : WrittenDefinition) → mode_of (get_or (head_value d) 1 0) ≡ d.mode
  unfolding definition_of
  mode_found d = ap (λ (e : WrittenDefinition). e.mode) (head_read d)

  definition_passed : (d : WrittenDefinition) (follow : List Field) (at nonterminal : ℕ) (g : List Production)
      → from (field 4 (head_value d) ∷ follow) at nonterminal g
      ≡ from follow (at + field_size (head_value d)) d.nonterminal (kept d.mode d.nonterminal g)
  unfolding spread normalized_with head_value
  definition_passed d follow at nonterminal g =
      ap (λ (mode : Mode). from follow (at + field_size (head_value d)) d.nonterminal (kept mode d.nonterminal g)) (mode_found d)

  definitions_walked : {ds : List WrittenDefinition} → Each DefinitionFine ds → (follow : List Field) (last : List Production → List Production) (at : ℕ)
      → GoesOn follow (at + definitions_size ds) last → GoesOn (definitions_then ds follow) at (λ g. last (defined_all g (definitions_with given at ds)))
  unfolding definitions_then definitions_size definition_size definitions_with defined_all
  definitions_walked each_none follow last at goes nonterminal g = moved follow last (sym (add-zero at)) goes nonterminal g
  definitions_walked (each_more {x = d} {xs = ds} w ws) follow last at goes nonterminal g =
      let next : ℕ = at + definition_size d in
      let others : List Production → List Production = λ h. last (defined_all h (definitions_with given next ds)) in
      definition_passed d (alternatives_then d.alternatives (definitions_then ds follow)) at nonterminal g
      ∙ alternatives_walked w.alternatives (definitions_then ds follow) others (at + field_size (head_value d))
      (moved (definitions_then ds follow) others (omega arith) (definitions_walked ws follow last next (moved follow last (omega arith) goes)))
      d.nonterminal (kept d.mode d.nonterminal g)

  blocks_walked : {bs : List (List WrittenDefinition)} → Each (Each DefinitionFine) bs → (follow : List Field) (last : List Production → List Production)
      (at : ℕ) → GoesOn follow (at + blocks_size bs) last → GoesOn (blocks_then bs follow) at (λ g. last (normalized_from g (blocks_with given at bs)))
  unfolding blocks_then blocks_size blocks_with normalized_from spread normalized_with
  blocks_walked each_none follow last at goes nonterminal g = moved follow last (sym (add-zero at)) goes nonterminal g
  blocks_walked (each_more {x = b} {xs = bs} w ws) follow last at goes nonterminal g =
      let next : ℕ = at + 3 + definitions_size b in
      definitions_walked w (blocks_then bs follow) (λ h. last (normalized_from h (blocks_with given next bs))) (at + 3)
      (blocks_walked ws follow last next (moved follow last (omega arith) goes)) nonterminal g

  -- ---------------------------------------------------------------- the front of a table

  spellings_passed : (tag : ℕ) → eqb tag 4 ≡ false → eqb tag 5 ≡ false → (ss : List (List ℕ)) (follow : List Field) (at nonterminal : ℕ)
      (g : List Production) → from (spellings_then tag ss follow) at nonterminal g ≡ from follow (at + spellings_size ss) nonterminal g
  unfolding spread spellings_then spellings_size normalized_with
  spellings_passed tag e f [] follow at nonterminal g = ap (λ (k : ℕ). from follow k nonterminal g) (sym (add-zero at))
  spellings_passed tag e f (s ∷ ss) follow at nonterminal g =
      rw (e, f, normalized_with)
      (spellings_passed tag e f ss follow (at + (3 + length s)) nonterminal g ∙ ap (λ (k : ℕ). from follow k nonterminal g) (omega arith))

  -- Keywords, outside names and blocks, in front of fields that have no production, give the productions of the blocks.
  pub front_walked : (table : Written) {blocks : List (List WrittenDefinition)} → Each (Each DefinitionFine) blocks → (follow : List Field)
      → ((at nonterminal : ℕ) (g : List Production) → normalized_with results (spread at follow) nonterminal g ≡ g)
      → normalized_with results (spread 0 (front_then table blocks follow)) 0 [] ≡ normalized (blocks_with given (first_block table) blocks)
  front_walked table {blocks} w follow goes =
      let first : ℕ = first_block table in
      spellings_passed 1 refl refl table.keywords (spellings_then 2 table.outsides (blocks_then blocks follow)) 0 0 []
      ∙ spellings_passed 2 refl refl table.outsides (blocks_then blocks follow) (0 + spellings_size table.keywords) 0 []
      ∙ ap (λ (k : ℕ). from (blocks_then blocks follow) k 0 []) (omega arith)
      ∙ blocks_walked w follow (λ g. g) first (goes (first + blocks_size blocks)) 0 []
