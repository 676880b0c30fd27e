-- Order: the fields that may follow a tag are those of parts of a table, and each field that may come next begins one of them.
use Prim.Native.Nat.{ℕ, zero, suc, ◌≤◌}
use mathlib.Core.Path.{◌≡◌, refl}
use mathlib.Core.Bool.{true, false, false≢true}
use mathlib.Core.List.{List, [], ◌∷◌}
use native.Mathlib.Omega.{arith}
use lib.ListN.{get_or}
use Rattle.grammar.specs.Table.{Template, Item}
use Rattle.grammar.specs.Written.{WrittenResult, template, result_field, WrittenAlternative, WrittenDefinition}
use Rattle.grammar.specs.Encode.{spellings_then, items_then, alternatives_then, definitions_then, blocks_then}
use Rattle.grammar.specs.Values.{Field, field, template_then, item_value, head_value}
use Rattle.decoding.specs.Layout.{follows}
use Rattle.decoding.specs.Decode.{Decoded, decoded}

-- ------------------------------------------------------------------ what is left to come

module _ (rest : Decoded) where
  -- the root
  abbrev pub root_left : List Field
  root_left = field 8 (rest.root ∷ []) ∷ []

  -- the blocks still to come, then the root
  abbrev pub blocks_left : List Field
  blocks_left = blocks_then rest.blocks root_left

  -- the definitions of the block that is open, then the blocks behind it
  abbrev pub definitions_left : List Field
  definitions_left = definitions_then rest.definitions blocks_left

  -- the alternatives of the definition that is open, then what is behind it
  abbrev pub alternatives_left : List Field
  alternatives_left = alternatives_then rest.alternatives definitions_left

  -- the items and the result of the alternative that is open, then what is behind it
  abbrev pub items_left : List Field
  items_left = items_then rest.items (result_field rest.result ∷ alternatives_left)

  -- the outside names, then the blocks
  abbrev pub outsides_left : List Field
  outsides_left = spellings_then 2 rest.outsides blocks_left

  -- the keywords, then the outside names
  abbrev pub keywords_left : List Field
  keywords_left = spellings_then 1 rest.keywords outsides_left

-- after the tag `last` (0 at the start), the parts that are still open
unfoldable pub left : ℕ → Decoded → List Field
left last b =
    get_or
    (keywords_left b
    ∷ keywords_left b
    ∷ outsides_left b
    ∷ definitions_left b
    ∷ alternatives_left b
    ∷ items_left b
    ∷ items_left b
    ∷ alternatives_left b
    ∷ [])
    last
    []

-- ------------------------------------------------------------------ one field

-- a statement of each tag from 0 to 8
pub up_to_eight : (P : ℕ → Type 0) → P 0 → P 1 → P 2 → P 3 → P 4 → P 5 → P 6 → P 7 → P 8 → (number : ℕ) → number ≤ 8 → P number
up_to_eight P p0 p1 p2 p3 p4 p5 p6 p7 p8 zero h = p0
up_to_eight P p0 p1 p2 p3 p4 p5 p6 p7 p8 (suc zero) h = p1
up_to_eight P p0 p1 p2 p3 p4 p5 p6 p7 p8 (suc (suc zero)) h = p2
up_to_eight P p0 p1 p2 p3 p4 p5 p6 p7 p8 (suc (suc (suc zero))) h = p3
up_to_eight P p0 p1 p2 p3 p4 p5 p6 p7 p8 (suc (suc (suc (suc zero)))) h = p4
up_to_eight P p0 p1 p2 p3 p4 p5 p6 p7 p8 (suc (suc (suc (suc (suc zero))))) h = p5
up_to_eight P p0 p1 p2 p3 p4 p5 p6 p7 p8 (suc (suc (suc (suc (suc (suc zero)))))) h = p6
up_to_eight P p0 p1 p2 p3 p4 p5 p6 p7 p8 (suc (suc (suc (suc (suc (suc (suc zero))))))) h = p7
up_to_eight P p0 p1 p2 p3 p4 p5 p6 p7 p8 (suc (suc (suc (suc (suc (suc (suc (suc zero)))))))) h = p8
up_to_eight P p0 p1 p2 p3 p4 p5 p6 p7 p8 (suc (suc (suc (suc (suc (suc (suc (suc (suc number))))))))) h = absurd (omega arith)

never : {A : Type 0} → false ≡ true → A
never e = absurd (false≢true e)

-- wherever the tag may come, these fields are what is left
abbrev pub Opens : ℕ → Decoded → List Field → Type 0
Opens tag b fs = (last : ℕ) → last ≤ 8 → follows tag last ≡ true → left last b ≡ fs

module _ (tag : ℕ) (rest : Decoded) (fs : List Field) where
  abbrev After : ℕ → Type 0
  After last = follows tag last ≡ true → left last rest ≡ fs

  by_last : After 0 → After 1 → After 2 → After 3 → After 4 → After 5 → After 6 → After 7 → After 8 → Opens tag rest fs
  by_last = up_to_eight After

-- ------------------------------------------------------------------ the parts with one field more, those before it not yet begun

-- what is built, with one more of each in front: a keyword
abbrev pub with_keyword : List ℕ → Decoded → Decoded
with_keyword v b = decoded (v ∷ b.keywords) b.outsides b.blocks b.root [] [] [] b.result

-- an outside name
abbrev pub with_outside : List ℕ → Decoded → Decoded
with_outside v b = decoded [] (v ∷ b.outsides) b.blocks b.root [] [] [] b.result

-- a block
abbrev pub with_block : Decoded → Decoded
with_block b = decoded [] [] (b.definitions ∷ b.blocks) b.root [] [] [] b.result

-- a definition
abbrev pub with_definition : WrittenDefinition → Decoded → Decoded
with_definition d b = decoded [] [] b.blocks b.root (d ∷ b.definitions) [] [] b.result

-- the alternative that is open, with its items and its result
abbrev pub alternative_of : Decoded → WrittenAlternative
alternative_of b = record { items = b.items; result = b.result }

-- an alternative
abbrev pub with_alternative : Decoded → Decoded
with_alternative b = decoded [] [] b.blocks b.root b.definitions (alternative_of b ∷ b.alternatives) [] b.result

-- an item
abbrev pub with_item : Item → Decoded → Decoded
with_item i b = decoded [] [] b.blocks b.root b.definitions b.alternatives (i ∷ b.items) b.result

-- a result
abbrev pub with_result : WrittenResult → Decoded → Decoded
with_result r b = decoded [] [] b.blocks b.root b.definitions b.alternatives [] r

-- and a root
abbrev pub with_root : ℕ → Decoded → Decoded
with_root r b = decoded [] [] [] r [] [] [] b.result

-- The field stands in front of what follows it, after each tag that it may follow.
module _ (rest : Decoded) where
  -- a keyword stands in front of what may follow it
  pub opens_keyword : (spelling : List ℕ) → Opens 1 (with_keyword spelling rest) (field 1 spelling ∷ left 1 rest)
  unfolding left follows spellings_then
  opens_keyword spelling =
      by_last 1 (with_keyword spelling rest) (field 1 spelling ∷ left 1 rest) (λ e. refl) (λ e. refl) never never never never never never never

  -- and so does an outside name
  pub opens_outside : (spelling : List ℕ) → Opens 2 (with_outside spelling rest) (field 2 spelling ∷ left 2 rest)
  unfolding left follows spellings_then
  opens_outside spelling =
      by_last 2 (with_outside spelling rest) (field 2 spelling ∷ left 2 rest) (λ e. refl) (λ e. refl) (λ e. refl) never never never never never never

  -- a block
  pub opens_block : Opens 3 (with_block rest) (field 3 [] ∷ left 3 rest)
  unfolding left follows spellings_then blocks_then definitions_then alternatives_then
  opens_block =
      by_last 3 (with_block rest) (field 3 [] ∷ left 3 rest) (λ e. refl) (λ e. refl) (λ e. refl) (λ e. refl) never never never (λ e. refl) never

  -- a definition
  pub opens_definition : (definition : WrittenDefinition) → definition.alternatives ≡ rest.alternatives
      → Opens 4 (with_definition definition rest) (field 4 (head_value definition) ∷ left 4 rest)
  unfolding left follows definitions_then alternatives_then
  opens_definition definition a =
      by_last 4 (with_definition definition rest) (field 4 (head_value definition) ∷ left 4 rest) never never never (λ e. cc) never never never (λ e. cc) never

  -- an alternative
  pub opens_alternative : Opens 5 (with_alternative rest) (field 5 [] ∷ left 5 rest)
  unfolding left follows alternatives_then
  opens_alternative =
      by_last 5 (with_alternative rest) (field 5 [] ∷ left 5 rest) never never never never (λ e. refl) never never (λ e. refl) never

  -- an item
  pub opens_item : (item : Item) → Opens 6 (with_item item rest) (field 6 (item_value item) ∷ left 6 rest)
  unfolding left follows items_then
  opens_item item =
      by_last 6 (with_item item rest) (field 6 (item_value item) ∷ left 6 rest) never never never never never (λ e. refl) (λ e. refl) never never

  -- a template as a result
  pub opens_result : (made : Template) → Opens 7 (with_result (template made) rest) (field 7 (template_then made []) ∷ left 7 rest)
  unfolding left follows items_then
  opens_result made =
      by_last 7 (with_result (template made) rest) (field 7 (template_then made []) ∷ left 7 rest) never never never never never (λ e. refl) (λ e. refl) never
      never

  -- and the root
  pub opens_root : (root : ℕ) → Opens 8 (with_root root rest) (field 8 (root ∷ []) ∷ left 8 rest)
  unfolding left follows spellings_then blocks_then definitions_then alternatives_then
  opens_root root =
      by_last 8 (with_root root rest) (field 8 (root ∷ []) ∷ left 8 rest) (λ e. refl) (λ e. refl) (λ e. refl) (λ e. refl) never never never (λ e. refl) never
