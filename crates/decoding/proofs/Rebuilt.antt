-- What is built from the fields of a table within the ranges is the table.
use Prim.Native.Nat.{ℕ, ◌+◌}
use mathlib.Core.Path.{◌≡◌, refl, ap, ◌∙◌}
use mathlib.Core.List.{List, [], ◌∷◌}
use lib.ListN.{length}
use Rattle.grammar.specs.Table.{Item}
use Rattle.grammar.specs.Written.{WrittenResult, template, no_result, result_field, WrittenAlternative, WrittenDefinition, Written}
use Rattle.grammar.specs.Encode.{spellings_then, items_then, alternatives_then, definitions_then, blocks_then, table_fields}
use Rattle.grammar.specs.Values.{Field, field, template_then}
use Rattle.decoding.specs.Decode.{Decoded, decoded, nothing, put, decode_fields, table_of}
use Rattle.decoding.specs.Within.{Each, each_none, each_more, ItemWithin, ResultWithin, template_within, AlternativeWithin, DefinitionWithin, Within}
use Rattle.decoding.proofs.Split.{spread}
use Rattle.decoding.proofs.Values.{item_read, head_read, result_read}

-- offsets do not matter
unfoldable gather : List Field → Decoded
gather [] = nothing
gather (f ∷ fs) = put f.tag f.value (gather fs)

build_spread : (fs : List Field) (at : ℕ) → decode_fields (spread at fs) ≡ gather fs
unfolding decode_fields spread gather
build_spread [] at = refl
build_spread (f ∷ fs) at = ap (put f.tag f.value) (build_spread fs (at + (3 + length f.value)))

-- the parts of a table from some block on
abbrev part : List (List WrittenDefinition) → ℕ → List WrittenDefinition → List WrittenAlternative → List Item → WrittenResult → Decoded
part bs r ds rest is result = decoded [] [] bs r ds rest is result

-- no alternative has been begun
abbrev between : List (List WrittenDefinition) → ℕ → List WrittenDefinition → List WrittenAlternative → Decoded
between bs r ds rest = part bs r ds rest [] no_result

module _ (bs : List (List WrittenDefinition)) (root : ℕ) where
  items_built : (ds : List WrittenDefinition) (rest : List WrittenAlternative) (result : WrittenResult) {is : List Item} → Each ItemWithin is
      → (follow : List Field) → gather follow ≡ part bs root ds rest [] result → gather (items_then is follow) ≡ part bs root ds rest is result
  unfolding gather items_then put
  items_built ds rest result each_none follow e = e
  items_built ds rest result (each_more {x = i} {xs = is} h w) follow e =
      cc (items_built ds rest result w follow e, item_read h)

  result_built : (ds : List WrittenDefinition) (rest : List WrittenAlternative) {result : WrittenResult} → ResultWithin result → (follow : List Field)
      → gather follow ≡ between bs root ds rest → gather (result_field result ∷ follow) ≡ part bs root ds rest [] result
  unfolding gather put
  result_built ds rest (template_within {t} w) follow e =
      ap (put 7 (template_then t [])) e ∙ ap (λ made. part bs root ds rest [] (template made)) (result_read w)

  alternatives_built : (ds : List WrittenDefinition) {rest : List WrittenAlternative} → Each AlternativeWithin rest → (follow : List Field)
      → gather follow ≡ between bs root ds [] → gather (alternatives_then rest follow) ≡ between bs root ds rest
  unfolding gather alternatives_then put
  alternatives_built ds each_none follow e = e
  alternatives_built ds (each_more {x = a} {xs = rest} h w) follow e =
      ap (put 5 [])
      (items_built ds rest a.result h.items (result_field a.result ∷ alternatives_then rest follow)
      (result_built ds rest h.result (alternatives_then rest follow) (alternatives_built ds w follow e)))

  definitions_built : {ds : List WrittenDefinition} → Each DefinitionWithin ds → (follow : List Field) → gather follow ≡ between bs root [] []
      → gather (definitions_then ds follow) ≡ between bs root ds []
  unfolding gather definitions_then put
  definitions_built each_none follow e = e
  definitions_built (each_more {x = d} {xs = ds} h w) follow e =
      cc (alternatives_built ds h.alternatives (definitions_then ds follow) (definitions_built w follow e), head_read d)

blocks_built : (root : ℕ) (follow : List Field) → gather follow ≡ between [] root [] [] → {bs : List (List WrittenDefinition)} → Each (Each DefinitionWithin) bs
    → gather (blocks_then bs follow) ≡ between bs root [] []
unfolding gather blocks_then put
blocks_built root follow e each_none = e
blocks_built root follow e (each_more {xs = bs} w ws) =
    ap (put 3 []) (definitions_built bs root w (blocks_then bs follow) (blocks_built root follow e ws))

module _ (bs : List (List WrittenDefinition)) (root : ℕ) (follow : List Field) where
  outsides_built : (os : List (List ℕ)) → gather follow ≡ between bs root [] []
      → gather (spellings_then 2 os follow) ≡ decoded [] os bs root [] [] [] no_result
  unfolding gather spellings_then put
  outsides_built [] e = e
  outsides_built (o ∷ os) e = ap (put 2 o) (outsides_built os e)

  keywords_built : (ks os : List (List ℕ)) → gather follow ≡ decoded [] os bs root [] [] [] no_result
      → gather (spellings_then 1 ks follow) ≡ decoded ks os bs root [] [] [] no_result
  unfolding gather spellings_then put
  keywords_built [] os e = e
  keywords_built (v ∷ ks) os e = ap (put 1 v) (keywords_built ks os e)

-- the fields of keywords, outside names and blocks, in front of others
abbrev fields_then : List (List ℕ) → List (List ℕ) → List (List WrittenDefinition) → List Field → List Field
fields_then ks os bs follow = spellings_then 1 ks (spellings_then 2 os (blocks_then bs follow))

-- keywords, outside names and blocks are built from their fields, and nothing is left pending
fields_built : (ks os : List (List ℕ)) {bs : List (List WrittenDefinition)} (root : ℕ) (follow : List Field) (at : ℕ) → gather follow ≡ between [] root [] []
    → Each (Each DefinitionWithin) bs → decode_fields (spread at (fields_then ks os bs follow)) ≡ decoded ks os bs root [] [] [] no_result
fields_built ks os {bs} root follow at e w =
    let blocks = blocks_then bs follow in
    build_spread (fields_then ks os bs follow) at
    ∙ keywords_built bs root (spellings_then 2 os blocks) ks os (outsides_built bs root blocks os (blocks_built root follow e w))

-- The parts of a table are built from its fields, and nothing is left pending.
pub parts_built : (table : Written) (at : ℕ) → Within table
    → decode_fields (spread at (table_fields table)) ≡ decoded table.keywords table.outsides table.blocks table.root [] [] [] no_result
unfolding table_fields gather put
parts_built table at w = fields_built table.keywords table.outsides table.root (field 8 (table.root ∷ []) ∷ []) at refl w.blocks

-- The fields up to a block give the blocks before it.
pub front_built : (ks os : List (List ℕ)) {before : List (List WrittenDefinition)} → Each (Each DefinitionWithin) before
    → decode_fields (spread 0 (fields_then ks os before [])) ≡ decoded ks os before 0 [] [] [] no_result
unfolding gather
front_built ks os w = fields_built ks os 0 [] 0 refl w

-- from the fields of a table the table is built
pub table_built : (table : Written) (at : ℕ) → Within table → table_of (decode_fields (spread at (table_fields table))) ≡ table
table_built table at w = ap table_of (parts_built table at w)
