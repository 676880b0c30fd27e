-- The root of a table is its last byte.
use Prim.Native.Nat.{ℕ, ◌-◌, ◌/◌, ◌%◌}
use mathlib.Core.Path.{◌≡◌, refl, ap, ◌∙◌}
use mathlib.Core.List.{List, [], ◌∷◌, ◌++◌, append_assoc}
use native.Mathlib.Omega.{arith}
use lib.ListN.{length, get_or, length-append}
use lib.Seq.{get_or_at}
use Rattle.grammar.specs.Table.{Item}
use Rattle.grammar.specs.Written.{result_field, WrittenAlternative, WrittenDefinition, Written}
use Rattle.grammar.specs.Encode.{field_bytes, spellings_then, items_then, alternatives_then, definitions_then, blocks_then, table_fields, encode}
use Rattle.grammar.specs.Values.{Field, field}

-- The bytes of some fields end with `root`.
pub record Ends (root : ℕ) (fs : List Field) : Type 0 where
  -- what stands before it
  pub front : List ℕ
  -- and `root` itself
  pub ends : field_bytes fs ≡ front ++ (root ∷ [])

module _ {root : ℕ} where
  field_before : (tag : ℕ) (value : List ℕ) {fs : List Field} → Ends root fs → Ends root (field tag value ∷ fs)
  unfolding field_bytes
  field_before tag value {fs} e =
      let first : List ℕ = tag ∷ length value / 256 ∷ length value % 256 ∷ value in
      record { front = first ++ e.front; ends = rw (e.ends, append_assoc) }

  spellings_before : (tag : ℕ) (ss : List (List ℕ)) {fs : List Field} → Ends root fs → Ends root (spellings_then tag ss fs)
  unfolding spellings_then
  spellings_before tag [] e = e
  spellings_before tag (s ∷ ss) e = field_before tag s (spellings_before tag ss e)

  items_before : (is : List Item) {fs : List Field} → Ends root fs → Ends root (items_then is fs)
  unfolding items_then
  items_before [] e = e
  items_before (i ∷ is) e = field_before 6 _ (items_before is e)

  alternatives_before : (rest : List WrittenAlternative) {fs : List Field} → Ends root fs → Ends root (alternatives_then rest fs)
  unfolding alternatives_then
  alternatives_before [] e = e
  alternatives_before (a ∷ rest) e =
      let result : Field = result_field a.result in
      field_before 5 [] (items_before a.items (field_before result.tag result.value (alternatives_before rest e)))

  definitions_before : (ds : List WrittenDefinition) {fs : List Field} → Ends root fs → Ends root (definitions_then ds fs)
  unfolding definitions_then
  definitions_before [] e = e
  definitions_before (d ∷ ds) e = field_before 4 _ (alternatives_before d.alternatives (definitions_before ds e))

  blocks_before : (bs : List (List WrittenDefinition)) {fs : List Field} → Ends root fs → Ends root (blocks_then bs fs)
  unfolding blocks_then
  blocks_before [] e = e
  blocks_before (b ∷ bs) e = field_before 3 [] (definitions_before b (blocks_before bs e))

encode_ends : (table : Written) → Ends table.root (table_fields table)
unfolding table_fields field_bytes
encode_ends table =
    spellings_before 1 table.keywords
    (spellings_before 2 table.outsides
    (blocks_before table.blocks (record { front = 8 ∷ 0 ∷ 1 ∷ []; ends = refl })))

-- The last byte of an encoded table is its root.
pub root_last : {bs : List ℕ} (table : Written) → bs ≡ encode table → get_or bs (length bs - 1) 0 ≡ table.root
unfolding encode
root_last {bs} table e =
    let h = encode_ends table in
    let s : bs ≡ h.front ++ (table.root ∷ []) = e ∙ h.ends in
    let z : length h.front ≡ length bs - 1 = omega (arith, ap length s, length-append h.front (table.root ∷ [])) in
    ap (λ (l : List ℕ). get_or l (length bs - 1) 0) s ∙ get_or_at h.front table.root [] 0 (length bs - 1) z
