-- A table as written with a template for each result, where that of a text is given by the offset of its field (document 02, C-14), and the productions of a
-- table's bytes with results read so. These mirror code: nobody needs them to believe `expand`.
use Rattle.std.specs.Prelude.{ℕ, ◌+◌, ◌≡◌, true, false, List, [], ◌∷◌, ◌++◌, map, eqb, get_or}
use Rattle.grammar.specs.Table.{Template, Alternative, Definition}
use Rattle.grammar.specs.Values.{head_value}
use Rattle.grammar.specs.Written.{WrittenResult, template, text, WrittenAlternative, WrittenDefinition, Written, with_alternatives}
use Rattle.grammar.specs.Fields.{RawFields, end, cut, next, fields_of}
use Rattle.grammar.specs.Lookup.{fields_at}
use Rattle.decoding.specs.Prefix.{templates_of, found, head_template}
use Rattle.decoding.specs.Decode.{mode_of}
use Rattle.productions.specs.Normal.{Production, kept}
use Rattle.productions.specs.Index.{Place, places_of, items_of}
use Rattle.judgements.specs.Sizes.{field_size, spellings_size, items_size, alternative_size, definition_size, definitions_size}
use Rattle.steps.specs.HeldTexts.{text_at}
use Rattle.steps.specs.Source.{Source}

-- ------------------------------------------------------------------ by parts of a table

-- a result whose field stands at an offset
abbrev pub result_with : (ℕ → Template) → ℕ → WrittenResult → Template
result_with given at (template t) = t
result_with given at (text n bs) = given at

-- alternatives from an offset on: the field of one, its items, its result
unfoldable pub alternatives_with : (ℕ → Template) → ℕ → List WrittenAlternative → List Alternative
alternatives_with given at [] = []
alternatives_with given at (a ∷ rest) =
    record { items = a.items; result = result_with given (at + 3 + items_size a.items) a.result } ∷ alternatives_with given (at + alternative_size a) rest

-- the definitions of a block
unfoldable pub definitions_with : (ℕ → Template) → ℕ → List WrittenDefinition → List Definition
definitions_with given at [] = []
definitions_with given at (d ∷ ds) =
    with_alternatives d (alternatives_with given (at + field_size (head_value d)) d.alternatives) ∷ definitions_with given (at + definition_size d) ds

-- blocks, each with its own field
unfoldable pub blocks_with : (ℕ → Template) → ℕ → List (List WrittenDefinition) → List (List Definition)
blocks_with given at [] = []
blocks_with given at (b ∷ bs) = definitions_with given (at + 3) b ∷ blocks_with given (at + 3 + definitions_size b) bs

-- where the first block of a table stands
abbrev pub first_block : Written → ℕ
first_block t = spellings_size t.keywords + spellings_size t.outsides

-- ------------------------------------------------------------------ by fields

-- a function that reads the result of an alternative from its fields: behind items, of a field 07 the template of its bytes, of a field 09 the given one
pub record ReadsResults (results : RawFields → Template) (given : ℕ → Template) : Type 0 where
  pub behind_item : (at : ℕ) (v : List ℕ) (fs : RawFields) → results (next at 6 v fs) ≡ results fs
  pub of_template : (at : ℕ) (v : List ℕ) (fs : RawFields) → results (next at 7 v fs) ≡ head_template (found (templates_of v))
  pub of_text : (at : ℕ) (v : List ℕ) (fs : RawFields) → results (next at 9 v fs) ≡ given at

-- what holds at the offset of each text, a field 09
abbrev pub AtTexts : (ℕ → Type 0) → RawFields → Type 0
AtTexts P (end at) = Unit {0}
AtTexts P (cut at) = Unit {0}
AtTexts P (next at tag v fs) = (tag ≡ 9 → P at) × AtTexts P fs

-- the production at a place of a table's bytes, and all of them
abbrev pub production_read : (RawFields → Template) → List ℕ → Place → Production
production_read results bs p =
    record { nonterminal = p.nonterminal; items = items_of (fields_at bs p.start); result = results (fields_at bs p.start) }

abbrev pub productions_read : (RawFields → Template) → List ℕ → List Production
productions_read results bs = map (production_read results bs) (places_of bs)

-- the normalized grammar of a table, field by field from the left
unfoldable pub normalized_with : (RawFields → Template) → RawFields → ℕ → List Production → List Production
normalized_with results (end at) n g = g
normalized_with results (cut at) n g = g
normalized_with results (next at tag v fs) n g =
    elim (eqb tag 4) [
      | true ↦ normalized_with results fs (get_or v 0 0) (kept (mode_of (get_or v 1 0)) (get_or v 0 0) g)
      | false ↦
          elim (eqb tag 5) [
            | true ↦ normalized_with results fs n (g ++ (record { nonterminal = n; items = items_of fs; result = results fs } ∷ []))
            | false ↦ normalized_with results fs n g
          ]
    ]

-- The texts of a table's blocks, all of them or those before one, which are elaborated to `made`, are held: for the offset of each the template that it is
-- elaborated to. The source has the bytes of these blocks and of what stands before them.
pub record TextsHeld (S : Source) (table : Written) (blocks : List (List WrittenDefinition)) (made : List (List Definition)) : Type 0 where
  pub given : ℕ → Template
  pub elaborated : made ≡ blocks_with given (first_block table) blocks
  pub held : AtTexts (λ k. text_at S.texts k ≡ given k) (fields_of S.bytes)
