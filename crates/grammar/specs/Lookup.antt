-- A table's fields from an offset on, and the keywords and outside names that stand at its front, for any bytes. These definitions mirror code:
-- nobody needs them to believe `expand`.
use Rattle.std.specs.Prelude.{ℕ, ◌+◌, ◌-◌, true, false, List, [], ◌∷◌, eqb, leb, length, get_or, drop, take}
use Rattle.grammar.specs.declared.Front.{Front}
use Rattle.grammar.specs.declared.Front.TheVariants.{Nothing, Short, Field}
use Rattle.grammar.specs.declared.FieldSpan.{FieldSpan}
use Rattle.grammar.specs.Limits.{most}
use Rattle.grammar.specs.Table.{Lexicon}
use Rattle.grammar.specs.Fields.{RawFields, size_of, fields_from, fields_of, end, cut, next}

-- what stands at the front of what is left of a table
unfoldable pub front_of : List ℕ → Front
front_of rest =
    elim (eqb (length rest) 0) [
      | true ↦ Nothing
      | false ↦ elim (leb (3 + size_of rest) (length rest)) [ true ↦ Field (get_or rest 0 0) (size_of rest) | false ↦ Short ]
    ]

-- a field as it lies in a table: its tag, and where its value begins and ends; where no whole field stands, tag 0 and no value, at the end
abbrev pub span_by : List ℕ → ℕ → Front → FieldSpan
span_by table at Nothing = record { tag = 0; from = length table; to = length table }
span_by table at Short = record { tag = 0; from = length table; to = length table }
span_by table at (Field tag size) = record { tag = tag; from = at + 3; to = at + 3 + size }

-- the field at an offset
unfoldable pub field_at : List ℕ → ℕ → FieldSpan
field_at table at = span_by table at (front_of (drop at table))

-- its value
abbrev pub value_in : List ℕ → FieldSpan → List ℕ
value_in table field = take (field.to - field.from) (drop field.from table)

-- a table's fields from an offset on; at 0 these are `fields_of` the table
unfoldable pub fields_at : List ℕ → ℕ → RawFields
fields_at table at = fields_from (length table) at (drop at table)

-- the values of the fields of one tag that stand at the front, and what follows them
unfoldable pub leading : ℕ → RawFields → List (List ℕ)
leading tag (end at) = []
leading tag (cut at) = []
leading tag (next at t v fs) = elim (eqb t tag) [ true ↦ v ∷ leading tag fs | false ↦ [] ]

unfoldable pub after_leading : ℕ → RawFields → RawFields
after_leading tag (end at) = end at
after_leading tag (cut at) = cut at
after_leading tag (next at t v fs) = elim (eqb t tag) [ true ↦ after_leading tag fs | false ↦ next at t v fs ]

-- the keywords and outside names that any bytes begin with, as many as a table may have
unfoldable pub lexicon_of : List ℕ → Lexicon
lexicon_of bs =
    record {
      keywords = take most.keywords (leading 1 (fields_of bs));
      outsides = take most.outsides (leading 2 (after_leading 1 (fields_of bs)));
      variables = [];
    }
