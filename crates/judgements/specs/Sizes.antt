-- How many bytes the encoded parts of a table take, so that a walk of it knows the place of each field. Document 01, "Phrase table": tag, length, value.
use Rattle.std.specs.Prelude.{ℕ, ◌+◌, List, [], ◌∷◌, length}
use Rattle.grammar.specs.Table.{Item}
use Rattle.grammar.specs.Values.{item_value, head_value}
use Rattle.grammar.specs.Written.{WrittenAlternative, WrittenDefinition, result_field}

abbrev pub field_size : List ℕ → ℕ
field_size v = 3 + length v

unfoldable pub spellings_size : List (List ℕ) → ℕ
spellings_size [] = 0
spellings_size (s ∷ ss) = field_size s + spellings_size ss

unfoldable pub items_size : List Item → ℕ
items_size [] = 0
items_size (i ∷ is) = field_size (item_value i) + items_size is

-- the alternative's own field, its items, its result
unfoldable pub alternative_size : WrittenAlternative → ℕ
alternative_size a = 3 + items_size a.items + field_size (result_field a.result).value

unfoldable pub alternatives_size : List WrittenAlternative → ℕ
alternatives_size [] = 0
alternatives_size (a ∷ rest) = alternative_size a + alternatives_size rest

unfoldable pub definition_size : WrittenDefinition → ℕ
definition_size d = field_size (head_value d) + alternatives_size d.alternatives

-- the definitions of a block, without the block's own field
unfoldable pub definitions_size : List WrittenDefinition → ℕ
definitions_size [] = 0
definitions_size (d ∷ ds) = definition_size d + definitions_size ds

-- blocks, each with its own field
unfoldable pub blocks_size : List (List WrittenDefinition) → ℕ
blocks_size [] = 0
blocks_size (b ∷ bs) = 3 + definitions_size b + blocks_size bs
