-- The bytes of a table up to a block are those of its keywords, its outside names and the blocks before.
use Prim.Native.Nat.{ℕ}
use mathlib.Core.Path.{◌≡◌, refl, ap, ◌∙◌}
use mathlib.Core.List.{List, [], ◌∷◌, ◌++◌, append_assoc}
use lib.ListN.{length, take}
use lib.Seq.{take-append_seam}
use Rattle.grammar.specs.Table.{Item}
use Rattle.grammar.specs.Written.{WrittenAlternative, WrittenDefinition, Written, result_field}
use Rattle.grammar.specs.Encode.{field_bytes, spellings_then, items_then, alternatives_then, definitions_then, blocks_then, table_fields, encode}
use Rattle.grammar.specs.Values.{Field, field, item_value, head_value}

-- ------------------------------------------------------------------ what is laid in front of two lists of fields

module _ (first second : List Field) where
  spellings_then_lem : (tag : ℕ) (ss : List (List ℕ)) → spellings_then tag ss (first ++ second) ≡ spellings_then tag ss first ++ second
  unfolding spellings_then
  spellings_then_lem tag [] = refl
  spellings_then_lem tag (s ∷ ss) = ap (field tag s ∷◌) (spellings_then_lem tag ss)

  items_then_lem : (is : List Item) → items_then is (first ++ second) ≡ items_then is first ++ second
  unfolding items_then
  items_then_lem [] = refl
  items_then_lem (i ∷ is) = ap (field 6 (item_value i) ∷◌) (items_then_lem is)

alternatives_then_lem : (first second : List Field) (choices : List WrittenAlternative)
    → alternatives_then choices (first ++ second) ≡ alternatives_then choices first ++ second
unfolding alternatives_then
alternatives_then_lem first second [] = refl
alternatives_then_lem first second (a ∷ rest) =
    let result : Field = result_field a.result in
    ap (field 5 [] ∷◌)
    (ap (λ fs. items_then a.items (result ∷ fs)) (alternatives_then_lem first second rest)
    ∙ items_then_lem (result ∷ alternatives_then rest first) second a.items)

definitions_then_lem : (first second : List Field) (ds : List WrittenDefinition) → definitions_then ds (first ++ second) ≡ definitions_then ds first ++ second
unfolding definitions_then
definitions_then_lem first second [] = refl
definitions_then_lem first second (d ∷ ds) =
    ap (field 4 (head_value d) ∷◌)
    (ap (alternatives_then d.alternatives) (definitions_then_lem first second ds)
    ∙ alternatives_then_lem (definitions_then ds first) second d.alternatives)

blocks_then_lem : (first second : List Field) (bs : List (List WrittenDefinition)) → blocks_then bs (first ++ second) ≡ blocks_then bs first ++ second
unfolding blocks_then
blocks_then_lem first second [] = refl
blocks_then_lem first second (b ∷ bs) =
    ap (field 3 [] ∷◌) (ap (definitions_then b) (blocks_then_lem first second bs) ∙ definitions_then_lem (blocks_then bs first) second b)

blocks_split : (before behind : List (List WrittenDefinition)) (follow : List Field)
    → blocks_then (before ++ behind) follow ≡ blocks_then before (blocks_then behind follow)
unfolding blocks_then
blocks_split [] behind follow = refl
blocks_split (b ∷ before) behind follow = ap (λ fs. field 3 [] ∷ definitions_then b fs) (blocks_split before behind follow)

-- the bytes of two lists of fields
bytes_both : (first second : List Field) → field_bytes (first ++ second) ≡ field_bytes first ++ field_bytes second
unfolding field_bytes
bytes_both [] second = refl
bytes_both (f ∷ first) second = rw (bytes_both first second, append_assoc f.value (field_bytes first) (field_bytes second)) refl

-- ------------------------------------------------------------------ the front of a table

-- the fields up to a block: keywords, outside names and the blocks before it
abbrev pub front_fields : Written → List (List WrittenDefinition) → List Field
front_fields table before = spellings_then 1 table.keywords (spellings_then 2 table.outsides (blocks_then before []))

module _ (table : Written) (before behind : List (List WrittenDefinition)) (whole : table.blocks ≡ before ++ behind) where
  fields_both : table_fields table ≡ front_fields table before ++ blocks_then behind (field 8 (table.root ∷ []) ∷ [])
  unfolding table_fields
  fields_both =
      let rest : List Field = blocks_then behind (field 8 (table.root ∷ []) ∷ []) in
      rw (
        whole,
        blocks_split before behind (field 8 (table.root ∷ []) ∷ []),
        blocks_then_lem [] rest before,
        spellings_then_lem (blocks_then before []) rest 2 table.outsides,
        spellings_then_lem (spellings_then 2 table.outsides (blocks_then before [])) rest 1 table.keywords,
      ) refl

  -- The bytes of a table up to a block are those of the fields before it.
  pub front_bytes : take (length (field_bytes (front_fields table before))) (encode table) ≡ field_bytes (front_fields table before)
  unfolding encode
  front_bytes =
      let front : List Field = front_fields table before in
      rw (fields_both, bytes_both front (blocks_then behind (field 8 (table.root ∷ []) ∷ [])))
      (take-append_seam (field_bytes front) (field_bytes (blocks_then behind (field 8 (table.root ∷ []) ∷ []))))
