-- Where the layout of a table fails, by rules: refusals 1 to 6 and 10, each at its place. Document 01, "Phrase table" and "Causes, by number".
-- 01, "Checks: 1; then field by field 2, 3, 4, 5, 6, 10": a field is reached if every field before it passes all its tests; a field that is reached
-- is refused by the first test that it fails. Fields before stand newest first. What a passing table is: decoding/specs/Within.
use Rattle.std.specs.Prelude.{ℕ, ◌+◌, ◌*◌, ◌≤◌, ◌<◌, ◌≡◌, true, false, List, [], ◌∷◌}
use lib.{Dec.eqb, ListN.length, ListN.get_or}
use Rattle.answers.specs.declared.Refusal.{Refusal}
use Rattle.answers.specs.Refusals.{refusal}
use Rattle.spellings.specs.Bytes.{one_if, is_word, is_keyword}
use Rattle.grammar.specs.Limits.{most}
use Rattle.grammar.specs.Table.{Template, Templates}
use Rattle.grammar.specs.Values.{Field, field, template_then, templates_then}
use Rattle.grammar.specs.Encode.{field_then}
use Rattle.decoding.specs.Within.{Each, Among, TemplateWithin, TemplatesWithin}

-- ------------------------------------------------------------------ 2: "field runs past the end"

-- "a one-byte tag, a two-byte length (high byte first) and a value": no length, or fewer bytes behind it than it states
pub data RunsPast : List ℕ → Type 0 where
  tag_alone : {tag : ℕ} → RunsPast (tag ∷ [])
  half_a_length : {tag high : ℕ} → RunsPast (tag ∷ high ∷ [])
  short_value : {tag high low : ℕ} {rest : List ℕ} → length rest < high * 256 + low → RunsPast (tag ∷ high ∷ low ∷ rest)

-- ------------------------------------------------------------------ 3: "unknown tag, length or value"

-- The tags with their values. A spelling's length and a keyword's number are no matter of 3, nor are the bytes of templates (10).
pub data Known : Field → Type 0 where
  keyword : {spelling : List ℕ} → Known (field 0x01 spelling)
  outside_name : {spelling : List ℕ} → Known (field 0x02 spelling)
  block : Known (field 0x03 [])
  definition : {n mode result : ℕ} {params : List ℕ} → n < most.nonterminals → mode ≤ 2 → result ≤ 6 → Each (λ sort. sort ≤ 6) params
      → length params ≤ most.parameters
      → Known (field 0x04 (n ∷ mode ∷ result ∷ params))
  alternative : Known (field 0x05 [])
  keyword_item : {k : ℕ} → Known (field 0x06 (0 ∷ k ∷ []))
  ide_item : {sort : ℕ} → 1 ≤ sort → sort ≤ 3 → Known (field 0x06 (1 ∷ sort ∷ []))
  number_item : Known (field 0x06 (2 ∷ 0 ∷ []))
  local_item : Known (field 0x06 (3 ∷ 0 ∷ []))
  call_item : {n : ℕ} {templates : List ℕ} → n < most.nonterminals → Known (field 0x06 (4 ∷ n ∷ templates))
  result : {template : List ℕ} → Known (field 0x07 template)
  root : {n : ℕ} → n < most.nonterminals → Known (field 0x08 (n ∷ []))

-- ------------------------------------------------------------------ 4: "field out of order, or missing"

-- "Order: all 01, all 02, blocks, root. A block may have no definition; a definition has one alternative or more." An alternative has its items,
-- then its result; nothing stands behind the root. For each tag from 0 on, the tags right behind which it may stand; 0 is the beginning of the table.
unfoldable pub behind : ℕ → List ℕ
behind tag =
    get_or
    ([]
    ∷ (0 ∷ 1 ∷ [])  -- 01 keyword
    ∷ (0 ∷ 1 ∷ 2 ∷ [])  -- 02 outside name
    ∷ (0 ∷ 1 ∷ 2 ∷ 3 ∷ 7 ∷ [])  -- 03 block
    ∷ (3 ∷ 7 ∷ [])  -- 04 definition
    ∷ (4 ∷ 7 ∷ [])  -- 05 alternative
    ∷ (5 ∷ 6 ∷ [])  -- 06 item
    ∷ (5 ∷ 6 ∷ [])  -- 07 result
    ∷ (0 ∷ 1 ∷ 2 ∷ 3 ∷ 7 ∷ [])  -- 08 root
    ∷ [])
    tag
    []

abbrev pub last_tag : List Field → ℕ
last_tag [] = 0
last_tag (f ∷ before) = f.tag

abbrev pub InOrder : List Field → Field → Type 0
InOrder before f = Among (behind f.tag) (last_tag before)

-- ------------------------------------------------------------------ 5: "bad spelling (empty or too long too), or the same twice under one tag"

pub record Spelled (before : List Field) (f : Field) : Type 0 where
  pub keyword : f.tag ≡ 0x01 → is_keyword f.value ≡ true
  pub outside_name : f.tag ≡ 0x02 → is_word f.value ≡ true
  pub new : f.tag ≤ 0x02 → Among before f → ⊥

-- ------------------------------------------------------------------ 6: "more than a count above allows"

-- the fields of a tag
unfoldable pub count : ℕ → List Field → ℕ
count tag [] = 0
count tag (f ∷ before) = count tag before + one_if (eqb f.tag tag)

-- the items of the alternative begun last
unfoldable pub items_begun : List Field → ℕ
items_begun [] = 0
items_begun (f ∷ before) = elim (eqb f.tag 0x05) [ true ↦ 0 | false ↦ items_begun before + one_if (eqb f.tag 0x06) ]

pub record HasRoom (before : List Field) (f : Field) : Type 0 where
  pub keywords : f.tag ≡ 0x01 → count 0x01 before < most.keywords
  pub outside_names : f.tag ≡ 0x02 → count 0x02 before < most.outsides
  pub blocks : f.tag ≡ 0x03 → count 0x03 before < most.blocks
  pub alternatives : f.tag ≡ 0x05 → count 0x05 before < most.alternatives
  pub items : f.tag ≡ 0x06 → items_begun before < most.items

-- ------------------------------------------------------------------ 10: "template cut, left over or unknown byte"

-- "Templates are in prefix form": a call's bytes behind the nonterminal are templates, one after the other, a result's bytes are one
pub record Whole (f : Field) : Type 0 where
  pub arguments : {n : ℕ} {bytes : List ℕ} → f.tag ≡ 0x06 → f.value ≡ 4 ∷ n ∷ bytes
      → (ts : Templates) × TemplatesWithin ts × (bytes ≡ templates_then ts [])
  pub result : f.tag ≡ 0x07 → (t : Template) × TemplateWithin t × (f.value ≡ template_then t [])

-- ------------------------------------------------------------------ one field, after those before it

pub record Passes (before : List Field) (f : Field) : Type 0 where
  pub known : Known f
  pub in_order : InOrder before f
  pub spelled : Spelled before f
  pub room : HasRoom before f
  pub whole : Whole f

-- its refusal at a place, by the first test that it fails, in the order 3, 4, 5, 6, 10
pub data Fails (at : ℕ) (before : List Field) (f : Field) : Refusal → Type 0 where
  unknown : ¬ Known f → Fails at before f (refusal 3 at 0 0)
  out_of_order : Known f → ¬ InOrder before f → Fails at before f (refusal 4 at 0 0)
  misspelled : Known f → InOrder before f → ¬ Spelled before f → Fails at before f (refusal 5 at 0 0)
  too_many : Known f → InOrder before f → Spelled before f → ¬ HasRoom before f → Fails at before f (refusal 6 at 0 0)
  not_whole : Known f → InOrder before f → Spelled before f → HasRoom before f → ¬ Whole f → Fails at before f (refusal 10 at 0 0)

-- ------------------------------------------------------------------ field by field

-- the place `at` is reached: the fields before it all pass, and `rest` are the bytes from there on
pub data Reaches (bs : List ℕ) : ℕ → List Field → List ℕ → Type 0 where
  at-start : length bs ≤ most.bytes → Reaches bs 0 [] bs
  past_field : {at : ℕ} {before : List Field} {f : Field} {rest : List ℕ}
      → Reaches bs at before (field_then f rest)
      → Passes before f
      → Reaches bs (at + (3 + length f.value)) (f ∷ before) rest

-- "Place: the offset of a field's tag, or the table's length if something is missing at its end"
pub data Misplaced (bs : List ℕ) : Refusal → Type 0 where
  too_long : most.bytes < length bs → Misplaced bs (refusal 1 0 0 0)
  runs_past : {at : ℕ} {before : List Field} {rest : List ℕ} → Reaches bs at before rest → RunsPast rest → Misplaced bs (refusal 2 at 0 0)
  fails : {at : ℕ} {before : List Field} {f : Field} {r : Refusal} (rest : List ℕ)
      → Reaches bs at before (field_then f rest)
      → Fails at before f r
      → Misplaced bs r
  no_root : {at : ℕ} {before : List Field} → Reaches bs at before [] → ¬ (last_tag before ≡ 0x08) → Misplaced bs (refusal 4 at 0 0)
