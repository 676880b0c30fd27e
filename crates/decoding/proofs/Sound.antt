-- Fields that are accepted are those of a table within the counts, spellings and ranges.
use Prim.Native.Nat.{ℕ, ◌+◌, ◌-◌, ◌≤◌, ◌<◌}
use mathlib.Core.Path.{◌≡◌, refl, sym, ap, ◌∙◌, subst⁻¹}
use mathlib.Core.Bool.{Bool, true, false, not, ◌&&◌, false≢true, and-true, and-eq-true_iff}
use mathlib.Core.List.{List, [], ◌∷◌}
use native.Mathlib.Omega.{arith}
use lib.Dec.{eqb}
use lib.ListN.{length}
use borrow.Author.Tests.{eqb-true, ltb-true, not-true}
use Rattle.answers.specs.Checked.{ok, need}
use Rattle.spellings.specs.Bytes.{is_word, is_keyword}
use Rattle.grammar.specs.Table.{Item}
use Rattle.grammar.specs.Written.{WrittenResult, template, WrittenDefinition, Written}
use Rattle.grammar.specs.Encode.{table_fields, encode}
use Rattle.grammar.specs.Limits.{most}
use Rattle.grammar.specs.Values.{Field, field}
use Rattle.grammar.specs.Fields.{RawFields, end, cut, next}
use Rattle.decoding.specs.declared.Progress.{Progress}
use Rattle.decoding.specs.Layout.{is_known, follows, is_repeated, is_spelled, has_room, passed, initial_progress, check_fields}
use Rattle.decoding.specs.Decode.{Decoded, nothing, definition_of, table_of}
use Rattle.decoding.specs.Within.{Each, each_none, each_more, variable_within, ItemWithin, ResultWithin, template_within}
use Rattle.decoding.specs.Within.{AlternativeWithin, DefinitionWithin, alternatives_of, alternatives_in, Within}
use Rattle.decoding.proofs.Split.{Bytes, ValueBytes, flat}
use Rattle.decoding.proofs.Values.{and_left, block_value, alternative_value, root_value, head_value_lem, result_value, item_value_lem}
use Rattle.decoding.proofs.Accept.{Passes, Accepts, accepted, by_tag}
use Rattle.decoding.proofs.Order.{left, with_keyword, with_outside, with_block, with_definition, with_alternative, with_item, with_result, with_root}
use Rattle.decoding.proofs.Order.{opens_keyword, opens_outside, opens_block, opens_definition, opens_alternative, opens_item, opens_result, opens_root}
use Rattle.decoding.proofs.Spelled.{Spelled, spelled_none, spelled_more}

-- ------------------------------------------------------------------ counts

-- what is still to come has room
pub record Room (progress : Progress) (decoded : Decoded) : Type 0 where
  -- no more keywords than there may be
  pub keywords : length decoded.keywords ≤ most.keywords - progress.keywords
  -- no more outside names
  pub outsides : length decoded.outsides ≤ most.outsides - progress.outsides
  -- no more blocks
  pub blocks : length decoded.blocks ≤ most.blocks - progress.blocks
  -- no more alternatives in all blocks
  pub alternatives : length decoded.alternatives + (alternatives_of decoded.definitions + alternatives_in decoded.blocks) ≤ most.alternatives -
      progress.alternatives
  -- no more items in the alternative that is open
  pub items : length decoded.items ≤ most.items - progress.items

module _ (progress : Progress) where
  -- a keyword has room among the 62
  pub keyword_has_room : has_room 1 progress ≡ true → progress.keywords < most.keywords
  unfolding has_room
  keyword_has_room h = ltb-true progress.keywords most.keywords (simp and-true at h)

  -- an outside name has room among the 64
  pub outside_has_room : has_room 2 progress ≡ true → progress.outsides < most.outsides
  unfolding has_room
  outside_has_room h = ltb-true progress.outsides most.outsides (simp and-true at h)

  block_has_room : has_room 3 progress ≡ true → progress.blocks < most.blocks
  unfolding has_room
  block_has_room h = ltb-true progress.blocks most.blocks (simp and-true at h)

  alternative_has_room : has_room 5 progress ≡ true → progress.alternatives < most.alternatives
  unfolding has_room
  alternative_has_room h = ltb-true progress.alternatives most.alternatives (simp and-true at h)

  item_has_room : has_room 6 progress ≡ true → progress.items < most.items
  unfolding has_room
  item_has_room h = ltb-true progress.items most.items h

  module _ (decoded : Decoded) where
    room_keyword : (value : List ℕ) → progress.keywords < most.keywords → Room (passed 1 progress) decoded → Room progress (with_keyword value decoded)
    unfolding passed alternatives_of
    room_keyword value h r = omega arith

    room_outside : (value : List ℕ) → progress.outsides < most.outsides → Room (passed 2 progress) decoded → Room progress (with_outside value decoded)
    unfolding passed alternatives_of
    room_outside value h r = omega arith

    room_block : progress.blocks < most.blocks → Room (passed 3 progress) decoded → Room progress (with_block decoded)
    unfolding passed alternatives_of alternatives_in
    room_block h r = omega arith

    room_definition : (definition : WrittenDefinition) → length definition.alternatives ≡ length decoded.alternatives → Room (passed 4 progress) decoded
        → Room progress (with_definition definition decoded)
    unfolding passed alternatives_of
    room_definition definition e r = omega arith

    room_alternative : progress.alternatives < most.alternatives → Room (passed 5 progress) decoded → Room progress (with_alternative decoded)
    unfolding passed
    room_alternative h r = omega arith

    room_item : (item : Item) → progress.items < most.items → Room (passed 6 progress) decoded → Room progress (with_item item decoded)
    unfolding passed
    room_item item h r = omega arith

    room_result : (result : WrittenResult) → Room (passed 7 progress) decoded → Room progress (with_result result decoded)
    unfolding passed
    room_result result r = omega arith

    room_root : (root : ℕ) → Room progress (with_root root decoded)
    unfolding alternatives_of alternatives_in
    room_root root = omega arith

-- ------------------------------------------------------------------ what is still to come

-- parts that may follow the fields before, within the counts, spellings and ranges
pub record Fits (before : List Field) (progress : Progress) (decoded : Decoded) : Type 0 where
  -- the keywords are good spellings, each new
  pub keywords : Spelled is_keyword 1 before decoded.keywords
  -- the outside names are words, each new
  pub outsides : Spelled is_word 2 before decoded.outsides
  -- the blocks' definitions are within the bounds
  pub blocks : Each (Each DefinitionWithin) decoded.blocks
  -- so are those of the block that is open
  pub definitions : Each DefinitionWithin decoded.definitions
  -- so are the alternatives of the definition that is open
  pub alternatives : Each AlternativeWithin decoded.alternatives
  -- a definition has one alternative or more
  pub begun : progress.last ≡ 4 → 1 ≤ length decoded.alternatives
  -- the items are within the bounds
  pub items : Each ItemWithin decoded.items
  -- so is the result
  pub result : ResultWithin decoded.result
  -- the root is a nonterminal
  pub root : decoded.root < most.nonterminals
  -- the counts leave room for all
  pub room : Room progress decoded

-- fields that are those of such parts
abbrev Rest : List Field → Progress → List Field → Type 0
Rest before s fs = (b : Decoded) × (fs ≡ left s.last b) × Fits before s b

-- a field that passes, in front of fields that are those of parts
abbrev Step : ℕ → Type 0
Step tag = (before : List Field) (s : Progress) (v : List ℕ) (fs : List Field) → s.last ≤ 8 → Bytes v → Passes before tag v s
    → Rest (field tag v ∷ before) (passed tag s) fs → Rest before s (field tag v ∷ fs)

-- where a tag may come, that may not follow 04, the last field is no 04
not_begun : (tag last : ℕ) → follows tag 4 ≡ false → follows tag last ≡ true → {A : Type 0} → last ≡ 4 → A
not_begun tag last n h e = absurd (false≢true (sym n ∙ ap (follows tag) (sym e) ∙ h))

step_keyword : Step 1
unfolding passed is_spelled is_repeated follows
step_keyword before s v fs l bytes p r =
    let b = r.0 in
    let g = r.2 in
    let spelled = and_left (is_keyword v && not (is_repeated 1 v before)) true p.spelled in
    let tests = (and-eq-true_iff (is_keyword v) (not (is_repeated 1 v before))).0 spelled in (
      with_keyword v b,
      cc (r.1, opens_keyword b v s.last l p.ordered),
      record {
        keywords = spelled_more is_keyword 1 before v b.keywords (λ w. refl) tests.0 (not-true (is_repeated 1 v before) tests.1) g.keywords;
        outsides = record { spelled = g.outsides.spelled; fresh = g.outsides.fresh; different = g.outsides.different };
        blocks = g.blocks;
        definitions = each_none;
        alternatives = each_none;
        begun = not_begun 1 s.last refl p.ordered;
        items = each_none;
        result = g.result;
        root = g.root;
        room = room_keyword s b v (keyword_has_room s p.room) g.room;
      },
    )

step_outside : Step 2
unfolding passed is_spelled is_repeated follows
step_outside before s v fs l bytes p r =
    let b = r.0 in
    let g = r.2 in
    let tests = (and-eq-true_iff (is_word v) (not (is_repeated 2 v before))).0 p.spelled in (
      with_outside v b,
      cc (r.1, opens_outside b v s.last l p.ordered),
      record {
        keywords = spelled_none is_keyword 1 before;
        outsides = spelled_more is_word 2 before v b.outsides (λ w. refl) tests.0 (not-true (is_repeated 2 v before) tests.1) g.outsides;
        blocks = g.blocks;
        definitions = each_none;
        alternatives = each_none;
        begun = not_begun 2 s.last refl p.ordered;
        items = each_none;
        result = g.result;
        root = g.root;
        room = room_outside s b v (outside_has_room s p.room) g.room;
      },
    )

-- parts without spellings
later : (before : List Field) {progress : Progress} {decoded : Decoded} → decoded.keywords ≡ [] → decoded.outsides ≡ []
    → Each (Each DefinitionWithin) decoded.blocks → Each DefinitionWithin decoded.definitions → Each AlternativeWithin decoded.alternatives
    → (progress.last ≡ 4 → 1 ≤ length decoded.alternatives) → Each ItemWithin decoded.items → ResultWithin decoded.result
    → decoded.root < most.nonterminals → Room progress decoded → Fits before progress decoded
later before k o bs ds rest n is t r m =
    record {
      keywords = subst⁻¹ (Spelled is_keyword 1 before) k (spelled_none is_keyword 1 before);
      outsides = subst⁻¹ (Spelled is_word 2 before) o (spelled_none is_word 2 before);
      blocks = bs;
      definitions = ds;
      alternatives = rest;
      begun = n;
      items = is;
      result = t;
      root = r;
      room = m;
    }

step_block : Step 3
unfolding passed follows
step_block before s v fs l bytes p r =
    let b = r.0 in
    let g = r.2 in (
      with_block b,
      cc (block_value v p.known, r.1, opens_block b s.last l p.ordered),
      later before refl refl (each_more g.definitions g.blocks) each_none each_none (not_begun 3 s.last refl p.ordered)
          each_none g.result g.root (room_block s b (block_has_room s p.room) g.room),
    )

step_definition : Step 4
unfolding passed follows definition_of
step_definition before s v fs l bytes p r =
    let b = r.0 in
    let g = r.2 in
    let d = definition_of v b.alternatives in
    let head = head_value_lem v p.known b.alternatives g.alternatives (g.begun refl) in (
      with_definition d b,
      cc (head.0, r.1, opens_definition b d refl s.last l p.ordered),
      later before refl refl g.blocks (each_more head.1 g.definitions) each_none (not_begun 4 s.last refl p.ordered)
          each_none g.result g.root (room_definition s b d refl g.room),
    )

step_alternative : Step 5
unfolding passed
step_alternative before s v fs l bytes p r =
    let b = r.0 in
    let g = r.2 in (
      with_alternative b,
      cc (alternative_value v p.known, r.1, opens_alternative b s.last l p.ordered),
      later before refl refl g.blocks g.definitions
          (each_more (record { items = g.items; item_count = g.room.items; result = g.result }) g.alternatives)
          (λ e. omega arith) each_none g.result g.root (room_alternative s b (alternative_has_room s p.room) g.room),
    )

step_item : Step 6
unfolding passed follows
step_item before s v fs l bytes p r =
    let b = r.0 in
    let g = r.2 in
    let item = item_value_lem v bytes p.known p.whole in (
      with_item item.0 b,
      cc (item.1, r.1, opens_item b item.0 s.last l p.ordered),
      later before refl refl g.blocks g.definitions g.alternatives (not_begun 6 s.last refl p.ordered)
          (each_more item.2 g.items) g.result g.root (room_item s b item.0 (item_has_room s p.room) g.room),
    )

step_result : Step 7
unfolding passed follows
step_result before s v fs l bytes p r =
    let b = r.0 in
    let g = r.2 in
    let result = result_value v bytes p.whole in (
      with_result (template result.0) b,
      cc (result.1, r.1, opens_result b result.0 s.last l p.ordered),
      later before refl refl g.blocks g.definitions g.alternatives (not_begun 7 s.last refl p.ordered) each_none
          (template_within result.2) g.root (room_result s b (template result.0) g.room),
    )

step_root : Step 8
unfolding passed follows
step_root before s v fs l bytes p r =
    let b = r.0 in
    let g = r.2 in
    let root = root_value v p.known in (
      with_root root.0 b,
      cc (root.1, r.1, opens_root b root.0 s.last l p.ordered),
      later before refl refl each_none each_none each_none (not_begun 8 s.last refl p.ordered) each_none g.result root.2
          (room_root s b root.0),
    )

-- ------------------------------------------------------------------ all fields

steps : (tag : ℕ) (value : List ℕ) → is_known tag value ≡ true → Step tag
steps = by_tag Step step_keyword step_outside step_block step_definition step_alternative step_item step_result step_root

low : (tag : ℕ) (value : List ℕ) → is_known tag value ≡ true → tag ≤ 8
low =
    by_tag (λ tag. tag ≤ 8) (omega arith) (omega arith) (omega arith) (omega arith) (omega arith) (omega arith) (omega arith)
    (omega arith)

-- the end is accepted after the root only
ended : (last at : ℕ) → need (eqb last 8) 4 at ≡ ok tt → last ≡ 8
ended last at h = by (eqb last 8) refl h
  where
    by : (ends : Bool) → eqb last 8 ≡ ends → need ends 4 at ≡ ok tt → last ≡ 8
    by true e h = eqb-true last 8 e
    by false e h = absurd (subst⁻¹ Accepts h tt)

-- nothing is left after the root
left_none : (before : List Field) (progress : Progress) → progress.last ≡ 8 → Rest before progress []
unfolding left alternatives_of alternatives_in
left_none before progress e = (
  nothing,
  cc,
  later before refl refl each_none each_none each_none (λ z. omega arith) each_none (template_within (variable_within (omega arith))) (omega arith)
      (omega arith),
)

sound : (fs : RawFields) (before : List Field) (progress : Progress) → progress.last ≤ 8 → ValueBytes fs → check_fields fs before progress ≡ ok tt
    → Rest before progress (flat fs)
unfolding check_fields flat passed
sound (end at) before progress l b h = left_none before progress (ended progress.last at h)
sound (cut at) before progress l b h = absurd (subst⁻¹ Accepts h tt)
sound (next at tag v fs) before progress l b h =
    let both = accepted at tag v fs before progress h in
    let known = both.0.known in
    steps tag v known before progress v (flat fs) l b.0 both.0
    (sound fs (field tag v ∷ before) (passed tag progress) (low tag v known) b.1 both.1)

-- Accepted fields are those of a table, and the table is within the counts, spellings and ranges if it is not too long.
pub accepted_table : (fs : RawFields) → ValueBytes fs → check_fields fs [] initial_progress ≡ ok tt
    → (table : Written) × (flat fs ≡ table_fields table) × (length (encode table) ≤ most.bytes → Within table)
unfolding left table_fields
accepted_table fs b h =
    let r = sound fs [] initial_progress (omega arith) b h in
    let g = r.2 in (
      table_of r.0,
      r.1,
      λ size.
          record {
            keywords = g.keywords.spelled;
            keywords_differ = g.keywords.different;
            keyword_count = g.room.keywords;
            outsides = g.outsides.spelled;
            outsides_differ = g.outsides.different;
            outside_count = g.room.outsides;
            blocks = g.blocks;
            block_count = g.room.blocks;
            alternative_count = omega (arith, g.room.alternatives);
            root = g.root;
            size = size;
          },
    )
