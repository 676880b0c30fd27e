-- Laws of the tests on one field: values, counts, and the first test that fails.
use Rattle.std.specs.Prelude.{Ok, Err}
use Prim.Native.Nat.{ℕ, ◌+◌, ◌-◌, ◌<◌}
use mathlib.Core.Path.{◌≡◌, refl, sym, ap, ◌∙◌}
use mathlib.Core.Bool.{Bool, true, false, not, ◌&&◌, ◌||◌, and-true, or-false}
use mathlib.Core.List.{List, [], ◌∷◌}
use native.Mathlib.Omega.{arith}
use mir.Syntax.{w16}
use mir.Val.{Fits}
use lib.Dec.{eqb, leb, ltb}
use lib.ListN.{length, get_or, take, drop, length-drop}
use lib.Seq.{take_all}
use borrow.Author.Tests.{eq-eqb, ne_eqb, ltb-true, not-true, not-false}
use Rattle.answers.specs.Refusals.{refusal}
use Rattle.answers.specs.Checked.{Checked, ok, bad, need, verdict, ◌>>◌}
use Rattle.std.specs.List.{list_all}
use Rattle.spellings.specs.Bytes.{every, is_word, is_keyword, one_if}
use Rattle.grammar.specs.Limits.{most}
use Rattle.grammar.specs.SortTests.{is_sort, is_ide_sort}
use Rattle.grammar.specs.Values.{Field}
use Rattle.decoding.specs.declared.Progress.{Progress}
use Rattle.decoding.specs.Prefix.{templates_of, is_templates, is_template}
use Rattle.decoding.specs.Layout.{is_empty, is_nonterminal, is_head, is_item, is_root, is_known, follows, is_repeated, is_spelled, has_room, passed, is_whole, check_field}

-- ------------------------------------------------------------------ tests

-- a test that the code made
pub passes : {answer test : Bool} → answer ≡ test → not answer ≡ false → test ≡ true
passes {answer} e f = sym e ∙ not-false answer f

-- and one that failed
pub fails : {answer test : Bool} → answer ≡ test → not answer ≡ true → test ≡ false
fails {answer} e f = sym e ∙ not-true answer f

-- ------------------------------------------------------------------ values

-- a definition's head, by the test of its length and its first two bytes
pub head_by :
    (value : List ℕ) {first second : ℕ} → first ≡ get_or value 0 0 → second ≡ get_or value 1 0 → (sized : Bool)
    → (leb 3 (length value) && leb (length value) (3 + most.parameters) && ltb first most.nonterminals && leb second 2) ≡ sized
    → (sized && every is_sort (drop 2 value)) ≡ is_head value
unfolding is_head
head_by value e f sized q =
    cc

-- the test for a known tag, by the tests of the tag
known_tests : List ℕ → Bool → Bool → Bool → Bool → Bool → Bool → Bool → Bool → Bool
known_tests v a b c d e f g h = a || b || (c && is_empty v) || (d && is_head v) || (e && is_empty v) || (f && is_item v) || g || (h && is_root v)

-- a known tag, one by one
module _ {tag : ℕ} (value : List ℕ) where
  known_at : {known : ℕ} → tag ≡ known → is_known known value ≡ is_known tag value
  known_at e = cc

  -- a keyword
  pub known_keyword : tag ≡ 1 → true ≡ is_known tag value
  unfolding is_known
  known_keyword e = known_at e

  -- an outside name
  pub known_outside : tag ≡ 2 → true ≡ is_known tag value
  unfolding is_known
  known_outside e = known_at e

  -- a block is empty
  pub known_block : tag ≡ 3 → is_empty value ≡ is_known tag value
  unfolding is_known
  known_block e = simp or-false at (known_at e)

  -- a head
  pub known_head : tag ≡ 4 → is_head value ≡ is_known tag value
  unfolding is_known
  known_head e = simp or-false at (known_at e)

  -- an alternative is empty
  pub known_alternative : tag ≡ 5 → is_empty value ≡ is_known tag value
  unfolding is_known
  known_alternative e = simp or-false at (known_at e)

  -- an item
  pub known_item : tag ≡ 6 → is_item value ≡ is_known tag value
  unfolding is_known
  known_item e = simp or-false at (known_at e)

  -- a result
  pub known_result : tag ≡ 7 → true ≡ is_known tag value
  unfolding is_known
  known_result e = known_at e

  -- the root
  pub known_root : tag ≡ 8 → is_root value ≡ is_known tag value
  unfolding is_known
  known_root e = known_at e

  -- any other tag
  pub known_none :
      (((((((Unit {0} × (tag ≡ 1 → ⊥)) × (tag ≡ 2 → ⊥)) × (tag ≡ 3 → ⊥)) × (tag ≡ 4 → ⊥)) × (tag ≡ 5 → ⊥)) × (tag ≡ 6 → ⊥)) × (tag ≡ 7 → ⊥))
      × (tag ≡ 8 → ⊥) → false ≡ is_known tag value
  unfolding is_known known_tests
  known_none ((((((((u, a), b), c), d), e), f), g), h) =
      sym
      (λ i. known_tests value (ne_eqb tag 1 a i) (ne_eqb tag 2 b i) (ne_eqb tag 3 c i) (ne_eqb tag 4 d i) (ne_eqb tag 5 e i) (ne_eqb tag 6 f i)
      (ne_eqb tag 7 g i) (ne_eqb tag 8 h i))

-- an item by its kind, one by one
module _ {kind operand : ℕ} (value : List ℕ) (first : kind ≡ get_or value 0 0) (second : operand ≡ get_or value 1 0) where
  item_tests : Bool → Bool → Bool → Bool → Bool → Bool
  item_tests keyword ide number local call =
      (keyword && eqb (length value) 2) || (ide && eqb (length value) 2 && is_ide_sort operand) || (number && eqb (length value) 2 && eqb operand 0)
      || (local && eqb (length value) 2 && eqb operand 0) || (call && leb 2 (length value) && is_nonterminal operand)

  item_at : {code : ℕ} → kind ≡ code → item_tests (eqb code 0) (eqb code 1) (eqb code 2) (eqb code 3) (eqb code 4) ≡ is_item value
  unfolding is_item item_tests
  item_at e = cc

  -- a keyword has any operand
  pub item_keyword : kind ≡ 0 → eqb (length value) 2 ≡ is_item value
  unfolding item_tests
  item_keyword e = simp or-false at (item_at e)

  -- an ide has a sort
  pub item_ide : {sorted : Bool} → kind ≡ 1 → sorted ≡ is_ide_sort operand → (eqb (length value) 2 && sorted) ≡ is_item value
  unfolding item_tests
  item_ide e f = ap (λ t. eqb (length value) 2 && t) f ∙ (simp or-false at (item_at e))

  -- a number has the operand 0
  pub item_number : kind ≡ 2 → (eqb (length value) 2 && eqb operand 0) ≡ is_item value
  unfolding item_tests
  item_number e = simp or-false at (item_at e)

  -- so has a local
  pub item_local : kind ≡ 3 → (eqb (length value) 2 && eqb operand 0) ≡ is_item value
  unfolding item_tests
  item_local e = simp or-false at (item_at e)

  -- a call has a nonterminal, and may have more bytes
  pub item_call : kind ≡ 4 → (leb 2 (length value) && is_nonterminal operand) ≡ is_item value
  unfolding item_tests
  item_call e = item_at e

  -- any other kind
  pub item_none :
      ((((Unit {0} × (kind ≡ 0 → ⊥)) × (kind ≡ 1 → ⊥)) × (kind ≡ 2 → ⊥)) × (kind ≡ 3 → ⊥)) × (kind ≡ 4 → ⊥) → false ≡ is_item value
  unfolding item_tests
  item_none (((((u, a), b), c), d), e) =
      sym (λ i. item_tests (ne_eqb kind 0 a i) (ne_eqb kind 1 b i) (ne_eqb kind 2 c i) (ne_eqb kind 3 d i) (ne_eqb kind 4 e i)) ∙ item_at refl

-- every byte passes, as the kit's lists say it
pub every_all : (test : ℕ → Bool) (bytes : List ℕ) → list_all test bytes ≡ every test bytes
unfolding every
every_all test [] = refl
every_all test (b ∷ bs) = ap (λ t. test b && t) (every_all test bs)

-- a head's sorts are what stands behind its first two bytes
pub head_sorts : (value : List ℕ) {all : Bool} → all ≡ list_all is_sort (take (length value - 2) (drop 2 value)) → all ≡ every is_sort (drop 2 value)
head_sorts value e =
    e ∙ every_all is_sort _ ∙ ap (every is_sort) (take_all (length value - 2) (drop 2 value) (omega (arith, length-drop 2 value)))

-- ------------------------------------------------------------------ counts

-- one more where there is room fits, whatever the count
pub fitting : (count limit : ℕ) (here : Bool) → (not here || ltb count limit) ≡ true → limit < 65536 → count < 65536 → {more : ℕ} → more ≡ one_if here
    → Fits w16 (count + more)
fitting count limit true e h k f = record { fits = omega (arith, ltb-true count limit e) }
fitting count limit false e h k f = record { fits = omega arith }

-- the items after a field, by whether it begins an alternative
items_by : (tag : ℕ) (progress : Progress) (begins : Bool) → eqb tag 5 ≡ begins
    → (passed tag progress).items ≡ elim begins [ true ↦ 0 | false ↦ progress.items + one_if (eqb tag 6) ]
unfolding passed
items_by tag progress begins e =
    cc

-- an alternative begins with none
pub items_begin : (tag : ℕ) (progress : Progress) → tag ≡ 5 → (passed tag progress).items ≡ 0
items_begin tag progress e = items_by tag progress true (eq-eqb tag 5 e)

-- an item counts
pub items_more : (tag : ℕ) (progress : Progress) → (tag ≡ 5 → ⊥) → (passed tag progress).items ≡ progress.items + one_if (eqb tag 6)
items_more tag progress h = items_by tag progress false (ne_eqb tag 5 h)

-- ------------------------------------------------------------------ spellings and templates, by the tag

module _ (tag : ℕ) (value : List ℕ) (before : List Field) where
  -- a keyword
  pub spelled_keyword : tag ≡ 1 → is_spelled tag value before ≡ (is_keyword value && not (is_repeated 1 value before))
  unfolding is_spelled
  spelled_keyword e =
      cc (and-true (is_keyword value && not (is_repeated 1 value before)))

  -- an outside name
  pub spelled_outside : tag ≡ 2 → is_spelled tag value before ≡ (is_word value && not (is_repeated 2 value before))
  unfolding is_spelled
  spelled_outside e = cc

  -- any other field
  pub spelled_other : (tag ≡ 1 → ⊥) → (tag ≡ 2 → ⊥) → is_spelled tag value before ≡ true
  unfolding is_spelled
  spelled_other f g =
      λ i.
      (not (ne_eqb tag 1 f i) || (is_keyword value && not (is_repeated 1 value before)))
      && (not (ne_eqb tag 2 g i) || (is_word value && not (is_repeated 2 value before)))

module _ (tag : ℕ) (value : List ℕ) where
  -- an item
  pub whole_item : tag ≡ 6 → is_whole tag value ≡ (not (eqb (get_or value 0 0) 4) || is_templates (templates_of (drop 2 value)))
  unfolding is_whole
  whole_item e =
      cc (and-true (not (eqb (get_or value 0 0) 4) || is_templates (templates_of (drop 2 value))))

  -- a result
  pub whole_result : tag ≡ 7 → is_whole tag value ≡ is_template (templates_of value)
  unfolding is_whole
  whole_result e = cc

  -- any other field
  pub whole_other : (tag ≡ 6 → ⊥) → (tag ≡ 7 → ⊥) → is_whole tag value ≡ true
  unfolding is_whole
  whole_other f g =
      λ i.
      (not (ne_eqb tag 6 f i) || not (eqb (get_or value 0 0) 4) || is_templates (templates_of (drop 2 value)))
      && (not (ne_eqb tag 7 g i) || is_template (templates_of value))

-- ------------------------------------------------------------------ one field

-- the first test that fails, in the order 3, 4, 5, 6, 10
abbrev pub first_fault : Bool → Bool → Bool → Bool → Bool → ℕ → Progress → Checked Progress
first_fault false ordered spelled room whole at s = bad (refusal 3 at 0 0)
first_fault true false spelled room whole at s = bad (refusal 4 at 0 0)
first_fault true true false room whole at s = bad (refusal 5 at 0 0)
first_fault true true true false whole at s = bad (refusal 6 at 0 0)
first_fault true true true true false at s = bad (refusal 10 at 0 0)
first_fault true true true true true at s = ok s

module _ (before : List Field) (at tag : ℕ) (value : List ℕ) (progress : Progress) where
  by_flags : (known ordered spelled room whole : Bool)
      → (do
        need known 3 at
        need ordered 4 at
        need spelled 5 at
        need room 6 at
        need whole 10 at
        ok (passed tag progress))
      ≡ first_fault known ordered spelled room whole at (passed tag progress)
  by_flags false ordered spelled room whole = refl
  by_flags true false spelled room whole = refl
  by_flags true true false room whole = refl
  by_flags true true true false whole = refl
  by_flags true true true true false = refl
  by_flags true true true true true = refl

  -- one field by the outcomes of its tests
  pub field_by : (known ordered spelled room whole : Bool)
      → is_known tag value ≡ known
      → follows tag progress.last ≡ ordered
      → is_spelled tag value before ≡ spelled
      → has_room tag progress ≡ room
      → is_whole tag value ≡ whole
      → check_field before at tag value progress ≡ first_fault known ordered spelled room whole at (passed tag progress)
  unfolding check_field
  field_by known ordered spelled room whole e3 e4 e5 e6 e10 =
      by_flags (is_known tag value) (follows tag progress.last) (is_spelled tag value before) (has_room tag progress) (is_whole tag value)
      ∙ (λ i. first_fault (e3 i) (e4 i) (e5 i) (e6 i) (e10 i) at (passed tag progress))

-- ------------------------------------------------------------------ the end

-- the root is last
pub end_root : (last at : ℕ) → last ≡ 8 → verdict (need (eqb last 8) 4 at) ≡ Ok tt
end_root last at e = cc (eq-eqb last 8 e)

-- it is missing
pub end_other : (last at : ℕ) → (last ≡ 8 → ⊥) → verdict (need (eqb last 8) 4 at) ≡ Err (refusal 4 at 0 0)
end_other last at h = cc (ne_eqb last 8 h)
