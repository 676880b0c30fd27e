-- The index of a grammar in a lent table: each production by its nonterminal and the offset of its first item. The code works from
-- the table's bytes and the index; these definitions say what they stand for, for any bytes. Document 01, "Normalizing". They mirror code: nobody
-- needs them to believe `expand`.
use Rattle.std.specs.Prelude.{ℕ, zero, suc, ◌+◌, ◌-◌, ◌<◌, ◌≤◌, ◌≡◌, Bool, true, false, ◌&&◌, List, [], ◌∷◌, ◌++◌, map, eqb, length, get_or, drop}
use Rattle.grammar.specs.Limits.{most}
use Rattle.grammar.specs.Table.{Template, variable, Item, Mode, add, extend, update}
use Rattle.grammar.specs.Fields.{RawFields, end, cut, next, fields_of}
use Rattle.grammar.specs.Lookup.{fields_at}
use Rattle.decoding.specs.Prefix.{templates_of, is_templates, is_template, found, head_template}
use Rattle.decoding.specs.Decode.{mode_of, item_of}
use Rattle.productions.specs.Normal.{Production, kept}

-- the items at the front, up to the first field that is none
unfoldable pub items_of : RawFields → List Item
items_of (end at) = []
items_of (cut at) = []
items_of (next at tag v fs) = elim (eqb tag 6) [ true ↦ item_of v ∷ items_of fs | false ↦ [] ]

-- the result behind the items
unfoldable pub result_of : RawFields → Template
result_of (end at) = variable 0
result_of (cut at) = variable 0
result_of (next at tag v fs) =
    elim (eqb tag 6) [
      | true ↦ result_of fs
      | false ↦ elim (eqb tag 7) [ true ↦ head_template (found (templates_of v)) | false ↦ variable 0 ]
    ]

-- the production of nonterminal n whose first item, or result if it has none, stands at an offset
unfoldable pub production_at : List ℕ → ℕ → ℕ → Production
production_at bs n at = record { nonterminal = n; items = items_of (fields_at bs at); result = result_of (fields_at bs at) }

-- The normalized grammar of a table, field by field from the left: a definition's head names the nonterminal n of the alternatives
-- that follow, and an update drops those that it had; each alternative is one production more.
unfoldable pub normalized_by : RawFields → ℕ → List Production → List Production
normalized_by (end at) n g = g
normalized_by (cut at) n g = g
normalized_by (next at tag v fs) n g =
    elim (eqb tag 4) [
      | true ↦ normalized_by fs (get_or v 0 0) (kept (mode_of (get_or v 1 0)) (get_or v 0 0) g)
      | false ↦
          elim (eqb tag 5) [
            | true ↦ normalized_by fs n (g ++ (record { nonterminal = n; items = items_of fs; result = result_of fs } ∷ []))
            | false ↦ normalized_by fs n g
          ]
    ]

-- ------------------------------------------------------------------ where the productions stand

-- a production by place: its nonterminal, and the offset of its first item, or of its result if it has none
pub record Place : Type 0 where
  pub nonterminal : ℕ
  pub start : ℕ

unfoldable pub places_without : ℕ → List Place → List Place
places_without n [] = []
places_without n (p ∷ ps) = elim (eqb p.nonterminal n) [ true ↦ places_without n ps | false ↦ p ∷ places_without n ps ]

abbrev pub places_kept : Mode → ℕ → List Place → List Place
places_kept add n ps = ps
places_kept extend n ps = ps
places_kept update n ps = places_without n ps

-- the places of the productions of `normalized_by`, field by field
unfoldable pub places_by : RawFields → ℕ → List Place → List Place
places_by (end at) n ps = ps
places_by (cut at) n ps = ps
places_by (next at tag v fs) n ps =
    elim (eqb tag 4) [
      | true ↦ places_by fs (get_or v 0 0) (places_kept (mode_of (get_or v 1 0)) (get_or v 0 0) ps)
      | false ↦
          elim (eqb tag 5) [
            | true ↦ places_by fs n (ps ++ (record { nonterminal = n; start = at + 3 + length v } ∷ []))
            | false ↦ places_by fs n ps
          ]
    ]

-- the places of a table's productions
abbrev pub places_of : List ℕ → List Place
places_of bs = places_by (fields_of bs) 0 []

-- the productions at places
abbrev pub productions_at : List ℕ → List Place → List Production
productions_at bs ps = map (λ p. production_at bs p.nonterminal p.start) ps

-- the root: what the last byte of a table names
abbrev pub root_in : List ℕ → ℕ
root_in bs = get_or bs (length bs - 1) 0

-- an index of places: `owners` has their nonterminals, `starts` their offsets; the k places from number j on, and the first m
unfoldable pub places_from : ℕ → List ℕ → List ℕ → ℕ → List Place
places_from zero owners starts j = []
places_from (suc k) owners starts j =
    record { nonterminal = get_or owners j 0; start = get_or starts j 0 } ∷ places_from k owners starts (j + 1)

abbrev pub places_in : ℕ → List ℕ → List ℕ → List Place
places_in m owners starts = places_from m owners starts 0

abbrev pub productions_by : ℕ → List ℕ → List ℕ → List ℕ → List Production
productions_by m bs owners starts = productions_at bs (places_in m owners starts)

-- the fields of an alternative have whole templates: those of each call, and one as the result
unfoldable pub whole_body : RawFields → Bool
whole_body (end at) = true
whole_body (cut at) = true
whole_body (next at tag v fs) =
    elim (eqb tag 6) [
      | true ↦ is_templates (templates_of (drop 2 v)) && whole_body fs
      | false ↦ elim (eqb tag 7) [ true ↦ is_template (templates_of v) | false ↦ true ]
    ]

-- a place in a table: of a nonterminal, and a whole alternative stands there
pub record Whole (bs : List ℕ) (p : Place) : Type 0 where
  pub small : p.nonterminal < most.nonterminals
  pub inside : p.start ≤ length bs
  pub whole : whole_body (fields_at bs p.start) ≡ true

-- how many fields begin an alternative
unfoldable pub alternative_fields : RawFields → ℕ
alternative_fields (end at) = 0
alternative_fields (cut at) = 0
alternative_fields (next at tag v fs) =
    elim (eqb tag 5) [ true ↦ suc (alternative_fields fs) | false ↦ alternative_fields fs ]
