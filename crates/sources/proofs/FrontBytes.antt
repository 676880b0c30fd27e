-- The fields of a table's bytes, and of those up to a block.
use Prim.Native.Nat.{ℕ, ◌+◌}
use mathlib.Core.Path.{◌≡◌, refl, sym, ap, ◌∙◌}
use mathlib.Core.List.{List, [], ◌∷◌, ◌++◌}
use native.Mathlib.Omega.{arith}
use lib.ListN.{length, take}
use Rattle.grammar.specs.Values.{Field, field}
use Rattle.grammar.specs.Written.{WrittenDefinition, Written}
use Rattle.grammar.specs.Encode.{field_bytes, spellings_then, blocks_then, table_fields, encode}
use Rattle.decoding.proofs.Fronts.{front_fields, front_bytes}
use Rattle.judgements.specs.Sizes.{blocks_size}
use Rattle.judgements.proofs.SizeLaws.{no_bytes, front_size}
use Rattle.sources.specs.GivenTexts.{first_block}

-- the keywords and outside names of a table, and some blocks, in front of other fields
abbrev pub front_then : Written → List (List WrittenDefinition) → List Field → List Field
front_then table blocks follow = spellings_then 1 table.keywords (spellings_then 2 table.outsides (blocks_then blocks follow))

-- the root
abbrev pub root_field : Written → List Field
root_field table = field 8 (table.root ∷ []) ∷ []

-- The bytes of a table are those of its blocks in front of its root,
pub whole_bytes : (table : Written) → encode table ≡ field_bytes (front_then table table.blocks (root_field table))
unfolding encode table_fields
whole_bytes table = refl

-- and those up to a block are those of the blocks before it.
pub bytes_before : (table : Written) (before others : List (List WrittenDefinition)) → table.blocks ≡ before ++ others
    → take (first_block table + blocks_size before) (encode table) ≡ field_bytes (front_then table before [])
bytes_before table before others whole =
    let place : length (field_bytes (front_fields table before)) ≡ first_block table + blocks_size before
    = omega (arith, front_size table.keywords table.outsides before [], no_bytes) in
    ap (λ (k : ℕ). take k (encode table)) (sym place) ∙ front_bytes table before others whole
