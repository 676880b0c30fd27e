-- The fields of a table's bytes, with their offsets. Document 01, "Phrase table" and refusal 2.
use Rattle.std.specs.Prelude.{ℕ, zero, suc, ◌+◌, ◌*◌}
use mathlib.Core.{Bool.true, Bool.false, List.List}
use lib.{Dec.eqb, Dec.leb, ListN.length, ListN.get_or, ListN.take, ListN.drop}

-- What stands from an offset on: nothing (the offset is the table's length), a field that runs past the end, or a field (its
-- offset, tag and value) and what follows it.
pub data RawFields : Type 0 where
  end : ℕ → RawFields
  cut : ℕ → RawFields
  next : ℕ → ℕ → List ℕ → RawFields → RawFields

-- the length that the field at the front states, high byte first
abbrev pub size_of : List ℕ → ℕ
size_of rest = get_or rest 1 0 * 256 + get_or rest 2 0

-- the fields of what is left of a table at the offset `at`; k bounds the bytes left
unfoldable pub fields_from : ℕ → ℕ → List ℕ → RawFields
fields_from zero at rest = end at
fields_from (suc k) at rest =
    elim (eqb (length rest) 0) [
      | true ↦ end at
      | false ↦
          elim (leb (3 + size_of rest) (length rest)) [
            | false ↦ cut at
            | true ↦
                next at (get_or rest 0 0) (take (size_of rest) (drop 3 rest))
                (fields_from k (at + (3 + size_of rest)) (drop (3 + size_of rest) rest))
          ]
    ]

unfoldable pub fields_of : List ℕ → RawFields
fields_of bs = fields_from (length bs) 0 bs
