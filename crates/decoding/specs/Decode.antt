-- Decoding: the table that some bytes are, or refusal 1 to 6 or 10. Document 01, "Phrase table".
use Rattle.std.specs.Prelude.{ℕ, List, [], ◌∷◌, get_or, drop}
use Rattle.answers.specs.Checked.{Checked, ok, ◌>>◌}
use Rattle.grammar.specs.Sorts.{gives}
use Rattle.grammar.specs.Table.{keyword, ide, number, place, Item, terminal, local, call, Mode, add, extend, update}
use Rattle.grammar.specs.Written.{WrittenResult, template, no_result, WrittenAlternative, WrittenDefinition, Written}
use Rattle.grammar.specs.Fields.{RawFields, end, cut, next, fields_of}
use Rattle.decoding.specs.Prefix.{templates_of, found, head_template}
use Rattle.decoding.specs.Layout.{layout}

-- a table read from its end: the parts that are whole, and those of the block, the definition and the alternative whose beginnings stand further left
pub record Decoded : Type 0 where
  pub keywords : List (List ℕ)
  pub outsides : List (List ℕ)
  pub blocks : List (List WrittenDefinition)
  pub root : ℕ
  pub definitions : List WrittenDefinition
  pub alternatives : List WrittenAlternative
  pub items : List Item
  pub result : WrittenResult

-- of the parts in their order
abbrev pub decoded : List (List ℕ) → List (List ℕ) → List (List WrittenDefinition) → ℕ → List WrittenDefinition → List WrittenAlternative → List Item
    → WrittenResult → Decoded
decoded ks os bs r ds rest is t = record { keywords = ks; outsides = os; blocks = bs; root = r; definitions = ds; alternatives = rest; items = is; result = t }

abbrev pub nothing : Decoded
nothing = decoded [] [] [] 0 [] [] [] no_result

-- ------------------------------------------------------------------ values

abbrev pub mode_of : ℕ → Mode
mode_of m = get_or (add ∷ extend ∷ update ∷ []) m add

-- the item of a field 06
unfoldable pub item_of : List ℕ → Item
item_of v =
    let k : ℕ = get_or v 1 0 in
    get_or (terminal (keyword k) ∷ terminal (ide k) ∷ terminal number ∷ local ∷ call k (found (templates_of (drop 2 v))) ∷ terminal (place k) ∷ [])
    (get_or v 0 0) (terminal number)

-- the definition whose head is the value of a field 04
unfoldable pub definition_of : List ℕ → List WrittenAlternative → WrittenDefinition
definition_of v rest = record { nonterminal = get_or v 0 0; mode = mode_of (get_or v 1 0); signature = gives (drop 3 v) (get_or v 2 0); alternatives = rest }

-- ------------------------------------------------------------------ fields, from the last to the first

-- An alternative's items and result stand together: every field but an item ends the items further right.

abbrev pub put_keyword : List ℕ → Decoded → Decoded
put_keyword v b = decoded (v ∷ b.keywords) b.outsides b.blocks b.root b.definitions b.alternatives [] no_result

abbrev pub put_outside : List ℕ → Decoded → Decoded
put_outside v b = decoded b.keywords (v ∷ b.outsides) b.blocks b.root b.definitions b.alternatives [] no_result

-- the definitions read are this block's
abbrev pub put_block : List ℕ → Decoded → Decoded
put_block v b = decoded b.keywords b.outsides (b.definitions ∷ b.blocks) b.root [] b.alternatives [] no_result

-- the alternatives read are this definition's
abbrev pub put_definition : List ℕ → Decoded → Decoded
put_definition v b = decoded b.keywords b.outsides b.blocks b.root (definition_of v b.alternatives ∷ b.definitions) [] [] no_result

-- the items and the result read are this alternative's
abbrev pub put_alternative : List ℕ → Decoded → Decoded
put_alternative v b =
    decoded b.keywords b.outsides b.blocks b.root b.definitions (record { items = b.items; result = b.result } ∷ b.alternatives) [] no_result

abbrev pub put_item : List ℕ → Decoded → Decoded
put_item v b = decoded b.keywords b.outsides b.blocks b.root b.definitions b.alternatives (item_of v ∷ b.items) b.result

abbrev pub put_result : List ℕ → Decoded → Decoded
put_result v b =
    decoded b.keywords b.outsides b.blocks b.root b.definitions b.alternatives [] (template (head_template (found (templates_of v))))

abbrev pub put_root : List ℕ → Decoded → Decoded
put_root v b = decoded b.keywords b.outsides b.blocks (get_or v 0 0) b.definitions b.alternatives [] no_result

abbrev pub put_nothing : List ℕ → Decoded → Decoded
put_nothing v b = decoded b.keywords b.outsides b.blocks b.root b.definitions b.alternatives [] no_result

-- a field's part, by its tag
unfoldable pub put : ℕ → List ℕ → Decoded → Decoded
put tag =
    get_or (put_nothing ∷ put_keyword ∷ put_outside ∷ put_block ∷ put_definition ∷ put_alternative ∷ put_item ∷ put_result ∷ put_root ∷ []) tag put_nothing

unfoldable pub decode_fields : RawFields → Decoded
decode_fields (end at) = nothing
decode_fields (cut at) = nothing
decode_fields (next at tag v fs) = put tag v (decode_fields fs)

abbrev pub table_of : Decoded → Written
table_of b = record { keywords = b.keywords; outsides = b.outsides; blocks = b.blocks; root = b.root }

-- the table of the bytes, if their layout is right
unfoldable pub decode : List ℕ → Checked Written
decode bs = layout bs >> ok (table_of (decode_fields (fields_of bs)))
