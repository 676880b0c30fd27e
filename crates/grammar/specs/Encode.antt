-- The encoding of a table as bytes, each part laid in front of what follows it. Document 01, "Phrase table".
use Rattle.std.specs.Prelude.{ℕ, ◌/◌, ◌%◌, List, [], ◌∷◌, ◌++◌, length}
use Rattle.grammar.specs.Table.{Item}
use Rattle.grammar.specs.Values.{Field, field, item_value, head_value}
use Rattle.grammar.specs.Written.{WrittenAlternative, WrittenDefinition, Written, result_field}

-- one byte of tag, two of length with the high byte first, then the value
abbrev pub field_then : Field → List ℕ → List ℕ
field_then f follow = f.tag ∷ length f.value / 256 ∷ length f.value % 256 ∷ f.value ++ follow

unfoldable pub field_bytes : List Field → List ℕ
field_bytes [] = []
field_bytes (f ∷ fs) = field_then f (field_bytes fs)

-- all 01 and all 02: one field a spelling
unfoldable pub spellings_then : ℕ → List (List ℕ) → List Field → List Field
spellings_then tag [] follow = follow
spellings_then tag (s ∷ ss) follow = field tag s ∷ spellings_then tag ss follow

-- 06 for each item
unfoldable pub items_then : List Item → List Field → List Field
items_then [] follow = follow
items_then (i ∷ is) follow = field 6 (item_value i) ∷ items_then is follow

-- 05, the items, the result
unfoldable pub alternatives_then : List WrittenAlternative → List Field → List Field
alternatives_then [] follow = follow
alternatives_then (a ∷ rest) follow =
    field 5 [] ∷ items_then a.items (result_field a.result ∷ alternatives_then rest follow)

-- 04 and the alternatives
unfoldable pub definitions_then : List WrittenDefinition → List Field → List Field
definitions_then [] follow = follow
definitions_then (d ∷ ds) follow = field 4 (head_value d) ∷ alternatives_then d.alternatives (definitions_then ds follow)

-- 03 and the definitions
unfoldable pub blocks_then : List (List WrittenDefinition) → List Field → List Field
blocks_then [] follow = follow
blocks_then (b ∷ bs) follow = field 3 [] ∷ definitions_then b (blocks_then bs follow)

-- all 01, all 02, blocks, root
unfoldable pub table_fields : Written → List Field
table_fields t =
    spellings_then 1 t.keywords
    (spellings_then 2 t.outsides (blocks_then t.blocks (field 8 (t.root ∷ []) ∷ [])))

unfoldable pub encode : Written → List ℕ
encode t = field_bytes (table_fields t)
