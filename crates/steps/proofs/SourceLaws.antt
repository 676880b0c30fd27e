-- Laws of what stands at an offset of a source: an item, or a result.
use Prim.Native.Nat.{ℕ, ◌+◌, ◌-◌, ◌<◌, ◌≤◌}
use mathlib.Core.Path.{◌≡◌, refl, sym, ap, ap₂, subst, ◌∙◌}
use mathlib.Core.Bool.{true, false, ◌&&◌, and-eq-true_iff}
use mathlib.Core.Logic.{inl, inr}
use mathlib.Core.List.{List, [], ◌∷◌, map}
use native.Mathlib.Omega.{arith}
use native.Mathlib.Decide.{dec_lt}
use lib.Dec.{eqb, leb}
use lib.ListN.{length, get_or, take, drop, length-take, length-drop}
use lib.Seq.{get_or-take, get_or-drop}
use borrow.Author.Tests.{eq-eqb, ne_eqb, leb-true}
use Rattle.grammar.specs.declared.Front.TheVariants.{Nothing, Short}
use Rattle.grammar.specs.Table.{Template, none, more, Item}
use Rattle.grammar.specs.Fields.{RawFields, end, cut, next}
use Rattle.grammar.specs.Lookup.{front_of, fields_at}
use Rattle.grammar.proofs.LookupLaws.{front_nothing, front_short, front_cut, front_is, fields_at_lem}
use Rattle.decoding.specs.Prefix.{ReadTemplates, fault, parsed, templates_of, is_templates, is_template, found}
use Rattle.decoding.specs.Decode.{item_of}
use Rattle.productions.specs.Index.{items_of, result_of, Place, places_of, production_at, productions_at}
use Rattle.decoding.specs.Within.{Each, each_none, each_more}
use Rattle.spellings.proofs.BytesLaws.{by_test}
use Rattle.templates.specs.Built.{Ahead, template_at}
use Rattle.steps.specs.HeldTexts.{text_at, TextHangs}
use Rattle.steps.specs.Source.{Source, source, result_in, alternative_at, production_from, productions_from, IsResult, Complete, size_at, GoesOn}
use Rattle.steps.specs.Steps.{item_by, ItemAt}

-- ------------------------------------------------------------------ a production goes on

module _ (bs texts : List ℕ) (at : ℕ) (completed : Complete texts (fields_at bs at)) where
  no_end : Nothing ≡ front_of (drop at bs) → ⊥
  unfolding Complete
  no_end e = subst (Complete texts) (fields_at_lem bs at e) completed

  no_cut : Short ≡ front_of (drop at bs) → ⊥
  unfolding Complete
  no_cut e = subst (Complete texts) (fields_at_lem bs at e) completed

  stands_inside : at + 3 + size_at bs at ≤ length bs
  stands_inside = by (dec_lt at (length bs))
    where
      sized : at < length bs → Dec (length bs - at < 3) → Dec (length bs - at - 3 < size_at bs at) → at + 3 + size_at bs at ≤ length bs
      sized l (yes h) d = absurd (no_cut (sym (front_short bs at l h)))
      sized l (no h) (yes d) = absurd (no_cut (sym (front_cut bs at l d)))
      sized l (no h) (no d) = omega arith

      by : Dec (at < length bs) → at + 3 + size_at bs at ≤ length bs
      by (yes l) = sized l (dec_lt (length bs - at) 3) (dec_lt (length bs - at - 3) (size_at bs at))
      by (no l) = absurd (no_end (sym (front_nothing bs at (omega arith))))

-- Fields that are what is left of an alternative stand inside.
pub goes_on : (S : Source) (at : ℕ) → Complete S.texts (fields_at S.bytes at) → GoesOn S at
goes_on S at c = record { complete_there = c; inside = stands_inside S.bytes S.texts at c }

-- ------------------------------------------------------------------ the field there

module _ {S : Source} {at : ℕ} (there : GoesOn S at) {size : ℕ} (sized : size ≡ size_at S.bytes at) where
  abbrev bs : List ℕ
  bs = S.bytes

  -- It ends inside.
  pub field_inside : at + 3 + size ≤ length bs
  field_inside = omega (arith, sized, there.inside)

  -- its value as the code has it, from a start to an end
  abbrev pub value_at : List ℕ
  value_at = take (at + 3 + size - (at + 3)) (drop (at + 3) bs)

  here : fields_at bs at ≡ next at (get_or bs at 0) value_at (fields_at bs (at + 3 + size))
  here =
      let z : size ≡ at + 3 + size - (at + 3) = omega arith in
      let f = front_is bs at (omega (arith, field_inside)) (omega (arith, field_inside)) refl refl (omega (arith, there.inside)) in
      fields_at_lem bs at (sym (rw (sym sized) at f))
      ∙ ap (λ (k : ℕ). next at (get_or bs at 0) (take k (drop (at + 3) bs)) (fields_at bs (at + 3 + size))) z

  -- It is as long as its size says.
  pub value_long : length value_at ≡ size
  value_long = simp (length-take, length-drop) (omega (arith, field_inside))

  value_byte : (place : ℕ) → place < size → get_or bs (at + 3 + place) 0 ≡ get_or value_at place 0
  value_byte place l = sym (get_or-take (at + 3 + size - (at + 3)) (drop (at + 3) bs) place 0 (omega arith) ∙ get_or-drop (at + 3) bs place 0)

  -- ---------------------------------------------------------------- an item

  module _ (tagged : get_or bs at 0 ≡ 6) where
    here_item : fields_at bs at ≡ next at 6 value_at (fields_at bs (at + 3 + size))
    here_item = here ∙ ap (λ (tag : ℕ). next at tag value_at (fields_at bs (at + 3 + size))) tagged

    parts : ((leb 2 (length value_at) && is_templates (templates_of (drop 2 value_at))) ≡ true) × Complete S.texts (fields_at bs (at + 3 + size))
    unfolding Complete
    parts = subst (Complete S.texts) here_item there.complete_there

    -- It has a kind and an operand.
    pub item_long : 2 ≤ size
    item_long = omega (arith, leb-true 2 (length value_at) ((and-eq-true_iff _ _).0 parts.0).0, value_long)

    -- Its templates are whole.
    pub item_whole : is_templates (templates_of (drop 2 value_at)) ≡ true
    item_whole = ((and-eq-true_iff (leb 2 (length value_at)) _).0 parts.0).1

    -- The item by its kind and operand, as the code reads them.
    abbrev pub item_there : Item
    item_there = item_by (get_or bs (at + 3) 0) (get_or bs (at + 3 + 1) 0) (found (templates_of (drop 2 value_at)))

    item_is : item_of value_at ≡ item_there
    unfolding item_of
    item_is =
        let k : get_or bs (at + 3) 0 ≡ get_or value_at 0 0 = ap (λ (j : ℕ). get_or bs j 0) (omega arith) ∙ value_byte 0 (omega (arith, item_long)) in
        let o : get_or bs (at + 3 + 1) 0 ≡ get_or value_at 1 0 = value_byte 1 (omega (arith, item_long)) in
        rw (k, o)

    -- It stands at the offset.
    pub item_at : ItemAt S at item_there (at + 3 + size)
    unfolding alternative_at items_of result_in
    item_at =
        record {
          items = ap items_of here_item ∙ ap (λ (i : Item). i ∷ items_of (fields_at bs (at + 3 + size))) item_is;
          result = ap (result_in S.texts) here_item;
          less = omega arith;
          goes_on = goes_on S (at + 3 + size) parts.1;
        }

  -- A field of another tag is no item.
  pub no_item : (get_or bs at 0 ≡ 6 → ⊥) → (alternative_at S at).items ≡ []
  unfolding alternative_at items_of
  no_item f = ap items_of here ∙ rw (ne_eqb (get_or bs at 0) 6 f, items_of) refl

  -- ---------------------------------------------------------------- the result

  module _ (none_left : (alternative_at S at).items ≡ []) where
    untagged : get_or bs at 0 ≡ 6 → ⊥
    untagged tagged = let z : ◌≡◌ {A = ℕ} 0 1 = cc ((item_at tagged).items, none_left) in omega arith

    one_template : (read : ReadTemplates) → is_template read ≡ true → (template : Template) × (read ≡ parsed (more template none))
    one_template fault w = let z : ◌≡◌ {A = ℕ} 0 1 = cc in absurd (omega arith)
    one_template (parsed none) w = let z : ◌≡◌ {A = ℕ} 0 1 = cc in absurd (omega arith)
    one_template (parsed (more u none)) w = (u, refl)
    one_template (parsed (more u (more x ts))) w = let z : ◌≡◌ {A = ℕ} 0 1 = cc in absurd (omega arith)

    closes : IsResult S.texts at (get_or bs at 0) value_at
    unfolding Complete
    closes = rw (ne_eqb (get_or bs at 0) 6 untagged, Complete) at (subst (Complete S.texts) here there.complete_there)

    result_there : (alternative_at S at).result ≡ elim (eqb (get_or bs at 0) 9) [
      | true ↦ text_at S.texts at
      | false ↦ result_of (next at (get_or bs at 0) value_at (fields_at bs (at + 3 + size)))
    ]
    unfolding alternative_at result_in
    result_there = ap (result_in S.texts) here ∙ rw (ne_eqb (get_or bs at 0) 6 untagged, result_in) refl

    -- a field with tag 9
    module _ (tagged : get_or bs at 0 ≡ 9) where
      -- A template is held for it.
      pub text_hangs : TextHangs S.texts at
      text_hangs = by closes
        where
          by : IsResult S.texts at (get_or bs at 0) value_at → TextHangs S.texts at
          by (inl seven) = absurd (omega (arith, tagged, seven.0))
          by (inr nine) = nine.1

      -- It is the result.
      pub result_held : text_at S.texts at ≡ (alternative_at S at).result
      result_held = sym (result_there ∙ rw (eq-eqb (get_or bs at 0) 9 tagged) refl)

    -- any other field
    module _ (plain : get_or bs at 0 ≡ 9 → ⊥) where
      whole : (get_or bs at 0 ≡ 7) × (is_template (templates_of value_at) ≡ true)
      whole = by closes
        where
          by : IsResult S.texts at (get_or bs at 0) value_at → (get_or bs at 0 ≡ 7) × (is_template (templates_of value_at) ≡ true)
          by (inl seven) = seven
          by (inr nine) = absurd (plain nine.0)

      -- The result is the template of the field.
      pub result_is : template_at value_at 0 ≡ (alternative_at S at).result
      unfolding result_of
      result_is =
          sym
          (result_there
          ∙ rw (ne_eqb (get_or bs at 0) 9 plain, ne_eqb (get_or bs at 0) 6 untagged, eq-eqb (get_or bs at 0) 7 whole.0, result_of) refl)

      -- It is a whole template.
      pub result_ahead : Ahead value_at 0
      result_ahead = let one = one_template (templates_of value_at) whole.1 in record { template = one.0; others = none; read = one.1 }

-- ------------------------------------------------------------------ the productions of a source

-- without texts a result is a template in the bytes
plain_result : (fs : RawFields) → Complete [] fs → result_in [] fs ≡ result_of fs
unfolding Complete result_in result_of
plain_result (end at) c = refl
plain_result (cut at) c = refl
plain_result (next at tag v fs) c =
    by_test (eqb tag 6) (λ e. rw (e, result_in, result_of) (plain_result fs (rw (e, Complete) at c).1)) (λ e. plain e (rw (e, Complete) at c))
  where
    plain : eqb tag 6 ≡ false → IsResult [] at tag v → result_in [] (next at tag v fs) ≡ result_of (next at tag v fs)
    plain e (inl seven) = rw (e, ne_eqb tag 9 (λ n. omega (arith, n, seven.0)), result_in) refl
    plain e (inr nine) = absurd (omega (arith, nine.1.pair_inside))

-- Without texts they are those that stand at the places of the bytes.
pub productions_from_lem : {bs : List ℕ} → Each (λ (p : Place). GoesOn (source bs) p.start) (places_of bs)
    → productions_from (source bs) ≡ productions_at bs (places_of bs)
unfolding alternative_at production_at
productions_from_lem {bs} = each_from (places_of bs)
  where
    each_from : (ps : List Place) → Each (λ (p : Place). GoesOn (source bs) p.start) ps → map (production_from (source bs)) ps ≡ productions_at bs ps
    each_from [] each_none = refl
    each_from (p ∷ ps) (each_more there each) =
        ap₂ ◌∷◌
        (ap (λ (result : Template). record { nonterminal = p.nonterminal; items = items_of (fields_at bs p.start); result = result })
        (plain_result (fields_at bs p.start) there.complete_there))
        (each_from ps each)
