-- The sizes of a table's parts are the lengths of their bytes: where the check of a table counts a place, that part's first field stands.
use Prim.Native.Nat.{ℕ, ◌+◌}
use mathlib.Core.Path.{◌≡◌, refl}
use mathlib.Core.List.{List, [], ◌∷◌}
use native.Mathlib.Omega.{arith}
use lib.ListN.{length, length-append}
use Rattle.grammar.specs.Table.{Item}
use Rattle.grammar.specs.Values.{Field, field, item_value, head_value}
use Rattle.grammar.specs.Written.{WrittenAlternative, WrittenDefinition, result_field}
use Rattle.grammar.specs.Encode.{field_bytes, spellings_then, items_then, alternatives_then, definitions_then, blocks_then}
use Rattle.judgements.specs.Sizes.{spellings_size, items_size, alternative_size, alternatives_size, definition_size, definitions_size, blocks_size}

-- how many bytes some fields take
abbrev pub bytes_of : List Field → ℕ
bytes_of fs = length (field_bytes fs)

-- a field has three bytes beside its value
pub one_field : (f : Field) (fs : List Field) → bytes_of (f ∷ fs) ≡ 3 + length f.value + bytes_of fs
unfolding field_bytes
one_field f fs = omega (arith, length-append f.value (field_bytes fs))

-- no field has none
pub no_bytes : bytes_of [] ≡ 0
unfolding field_bytes
no_bytes = refl

module _ (follow : List Field) where
  -- the bytes of spellings in front of other fields
  spellings_bytes : (tag : ℕ) (ss : List (List ℕ)) → bytes_of (spellings_then tag ss follow) ≡ spellings_size ss + bytes_of follow
  unfolding spellings_then spellings_size
  spellings_bytes tag [] = omega arith
  spellings_bytes tag (s ∷ ss) = omega (arith, one_field (field tag s) (spellings_then tag ss follow), spellings_bytes tag ss)

  -- those of items
  pub items_bytes : (is : List Item) → bytes_of (items_then is follow) ≡ items_size is + bytes_of follow
  unfolding items_then items_size
  items_bytes [] = omega arith
  items_bytes (i ∷ is) = omega (arith, one_field (field 6 (item_value i)) (items_then is follow), items_bytes is)

-- those of alternatives
pub alternatives_bytes : (follow : List Field) (choices : List WrittenAlternative)
    → bytes_of (alternatives_then choices follow) ≡ alternatives_size choices + bytes_of follow
unfolding alternatives_then alternatives_size alternative_size
alternatives_bytes follow [] = omega arith
alternatives_bytes follow (a ∷ rest) =
    let last : Field = result_field a.result in
    omega (
      arith,
      one_field (field 5 []) (items_then a.items (last ∷ alternatives_then rest follow)),
      items_bytes (last ∷ alternatives_then rest follow) a.items,
      one_field last (alternatives_then rest follow),
      alternatives_bytes follow rest,
    )

-- those of definitions
pub definitions_bytes : (follow : List Field) (ds : List WrittenDefinition) → bytes_of (definitions_then ds follow) ≡ definitions_size ds + bytes_of follow
unfolding definitions_then definitions_size definition_size
definitions_bytes follow [] = omega arith
definitions_bytes follow (d ∷ ds) =
    omega (
      arith,
      one_field (field 4 (head_value d)) (alternatives_then d.alternatives (definitions_then ds follow)),
      alternatives_bytes (definitions_then ds follow) d.alternatives,
      definitions_bytes follow ds,
    )

-- those of blocks
blocks_bytes : (follow : List Field) (bs : List (List WrittenDefinition)) → bytes_of (blocks_then bs follow) ≡ blocks_size bs + bytes_of follow
unfolding blocks_then blocks_size
blocks_bytes follow [] = omega arith
blocks_bytes follow (b ∷ bs) =
    omega (arith, one_field (field 3 []) (definitions_then b (blocks_then bs follow)), definitions_bytes (blocks_then bs follow) b, blocks_bytes follow bs)

-- Behind the keywords, the outside names and some blocks of a table other fields stand at the place that the check counts.
pub front_size : (ks os : List (List ℕ)) (bs : List (List WrittenDefinition)) (follow : List Field)
    → bytes_of (spellings_then 1 ks (spellings_then 2 os (blocks_then bs follow))) ≡ spellings_size ks + spellings_size os + blocks_size bs + bytes_of follow
front_size ks os bs follow =
    omega (
      arith,
      spellings_bytes (spellings_then 2 os (blocks_then bs follow)) 1 ks,
      spellings_bytes (blocks_then bs follow) 2 os,
      blocks_bytes follow bs,
    )
