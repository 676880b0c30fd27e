-- The bytes of a table up to a block's field: their fields are those before it, so that they can be indexed where the table's fields are whole.
use Prim.Native.Nat.{ℕ, ◌+◌, ◌*◌, ◌-◌, ◌<◌, ◌≤◌}
use mathlib.Core.Path.{◌≡◌, refl, sym, ap, ap₂, ◌∙◌}
use mathlib.Core.Bool.{Bool, true, false}
use mathlib.Core.List.{List}
use native.Mathlib.Omega.{arith}
use lib.Dec.{eqb, leb}
use lib.ListN.{length, get_or, take, drop, length-take, length-drop, take-append-drop}
use lib.Seq.{drop-append-le, take-append-le, get_or-take, get_or-drop}
use borrow.Author.Tests.{eq-eqb, ne_eqb}
use Rattle.grammar.specs.Fields.{RawFields, end, cut, next, size_of, fields_of}
use Rattle.grammar.specs.declared.Front.{Front}
use Rattle.grammar.specs.declared.Front.TheVariants.{Nothing, Short}
use Rattle.grammar.specs.declared.Front.TheVariants as front
use Rattle.grammar.specs.Lookup.{front_of, fields_at}
use Rattle.grammar.proofs.LookupLaws.{fields_at_lem, fields_of_lem, front_inside, front_nothing, front_is, opened}

-- among fields, each at an offset before the next, a block's field stands at an offset
pub data BlockAt (block : ℕ) : RawFields → Type 0 where
  block_here : {v : List ℕ} {fs : RawFields} → BlockAt block (next block 3 v fs)
  block_later : {at tag : ℕ} {v : List ℕ} {fs : RawFields} → at < block → BlockAt block fs → BlockAt block (next at tag v fs)

-- the fields before the one at an offset
unfoldable pub fields_before : ℕ → RawFields → RawFields
fields_before block (end at) = end at
fields_before block (cut at) = cut at
fields_before block (next at tag v fs) = elim (eqb at block) [ true ↦ end at | false ↦ next at tag v (fields_before block fs) ]

-- ------------------------------------------------------------------ where fields begin

offset_of : RawFields → ℕ
offset_of (end at) = at
offset_of (cut at) = at
offset_of (next at tag v fs) = at

offset_opened : (bs : List ℕ) (at : ℕ) (found : Front) → offset_of (opened bs at found) ≡ at
unfolding offset_of
offset_opened bs at Nothing = refl
offset_opened bs at Short = refl
offset_opened bs at (front.Field tag size) = refl

offset_at : (bs : List ℕ) (at : ℕ) → offset_of (fields_at bs at) ≡ at
offset_at bs at = ap offset_of (fields_at_lem bs at refl) ∙ offset_opened bs at (front_of (drop at bs))

block_behind : {block : ℕ} {fs : RawFields} → BlockAt block fs → offset_of fs ≤ block
unfolding offset_of
block_behind block_here = omega arith
block_behind (block_later l b) = omega (arith, l)

-- ------------------------------------------------------------------ one field of the bytes before

-- what a field at the front is
record FieldFront (rest : List ℕ) (tag size : ℕ) : Type 0 where
  tag_is : tag ≡ get_or rest 0 0
  size_is : size ≡ size_of rest

field_front : (rest : List ℕ) (empty whole : Bool) → eqb (length rest) 0 ≡ empty → leb (3 + size_of rest) (length rest) ≡ whole → {tag size : ℕ}
    → front.Field tag size ≡ front_of rest → FieldFront rest tag size
unfolding front_of
field_front rest true whole e f {tag} {size} q =
    let other : front.Field tag size ≡ Nothing = rw (e, front_of) at q in
    let z : ◌≡◌ {A = ℕ} 0 1 = cc in absurd (omega arith)
field_front rest false true e f {tag} {size} q =
    let own : front.Field tag size ≡ front.Field (get_or rest 0 0) (size_of rest) = rw (e, f, front_of) at q in
    record { tag_is = cc; size_is = cc }
field_front rest false false e f {tag} {size} q =
    let other : front.Field tag size ≡ Short = rw (e, f, front_of) at q in
    let z : ◌≡◌ {A = ℕ} 0 1 = cc in absurd (omega arith)

module _ (bs : List ℕ) (block at : ℕ) {tag size : ℕ} (stands : front.Field tag size ≡ front_of (drop at bs)) (within : at + 3 + size ≤ block) where
  inside : at + (3 + size) ≤ length bs
  inside = front_inside bs at stands

  long : at + (3 + size) ≤ length (take block bs)
  long = omega (arith, inside, length-take block bs)

  byte_before : (i : ℕ) → i < 3 → get_or (take block bs) (at + i) 0 ≡ get_or (drop at bs) i 0
  byte_before i l = get_or-take block bs (at + i) 0 (omega arith) ∙ sym (get_or-drop at bs i 0)

  -- the field stands there too
  field_stands : front_of (drop at (take block bs)) ≡ front.Field tag size
  field_stands =
      let read = field_front (drop at bs) _ _ refl refl stands in
      let high = byte_before 1 (omega arith) in
      let low = byte_before 2 (omega arith) in
      let fits : get_or (drop at bs) 1 0 * 256 + get_or (drop at bs) 2 0 ≤ length (take block bs) - at - 3 = omega (arith, read.size_is, long) in
      front_is (take block bs) at (omega (arith, long)) (omega (arith, long)) (sym high) (sym low) fits
      ∙ ap₂ front.Field (get_or-take block bs at 0 (omega arith) ∙ first ∙ sym read.tag_is) (sym read.size_is)
    where
      first : get_or bs at 0 ≡ get_or (drop at bs) 0 0
      first = let same : at + 0 ≡ at = omega arith in sym (rw same at (get_or-drop at bs 0 0))

  -- with its value
  value_stands : take size (drop (at + 3) (take block bs)) ≡ take size (drop (at + 3) bs)
  value_stands =
      sym
      (ap (λ list. take size (drop (at + 3) list)) (sym (take-append-drop block bs))
      ∙ ap (take size) (drop-append-le (at + 3) (take block bs) (drop block bs) (omega (arith, long)))
      ∙ take-append-le size (drop (at + 3) (take block bs)) (drop block bs) (omega (arith, long, length-drop (at + 3) (take block bs))))

-- ------------------------------------------------------------------ all fields before

module _ (bs : List ℕ) (block : ℕ) where
  -- the fields at an offset, up to the block
  abbrev Before : RawFields → Type 0
  Before fs = (at : ℕ) → fs ≡ fields_at bs at → fields_at (take block bs) at ≡ fields_before block fs

  field_to : {at' tag : ℕ} {v : List ℕ} {fs : RawFields} → at' < block → BlockAt block fs → Before fs → (at : ℕ) (found : Front)
      → found ≡ front_of (drop at bs) → next at' tag v fs ≡ opened bs at found → fields_at (take block bs) at ≡ fields_before block (next at' tag v fs)
  unfolding fields_before
  field_to l b before at Nothing e f = let z : ◌≡◌ {A = ℕ} 0 1 = cc in absurd (omega arith)
  field_to l b before at Short e f = let z : ◌≡◌ {A = ℕ} 0 1 = cc in absurd (omega arith)
  field_to {at'} {tag} {v} {fs} l b before at (front.Field t n) e f =
      let same_offset : at' ≡ at = cc in
      let same_tag : tag ≡ t = cc in
      let same_value : v ≡ take n (drop (at + 3) bs) = cc in
      let rest : fs ≡ fields_at bs (at + 3 + n) = cc in
      let within : at + 3 + n ≤ block = omega (arith, block_behind b, ap offset_of rest ∙ offset_at bs (at + 3 + n)) in
      fields_at_lem (take block bs) at (sym (field_stands bs block at e within))
      ∙ ap₂ (next at t) (value_stands bs block at e within ∙ sym same_value) (before (at + 3 + n) rest)
      ∙ rw (ne_eqb at' block (λ z. omega arith), fields_before) (rw (same_offset, same_tag) refl)

  fields_to : {fs : RawFields} → BlockAt block fs → Before fs
  unfolding offset_of fields_before
  fields_to (block_here {v} {fs}) at e =
      let here : block ≡ at = ap offset_of e ∙ offset_at bs at in
      rw (eq-eqb block block refl, fields_before)
      (ap (fields_at (take block bs)) (sym here)
      ∙ fields_at_lem (take block bs) block (sym (front_nothing (take block bs) block (omega (arith, length-take block bs)))))
  fields_to (block_later l b) at e = field_to l b (λ further q. fields_to b further q) at (front_of (drop at bs)) refl (e ∙ fields_at_lem bs at refl)

  -- The fields of a table's bytes up to a block's field are the table's fields before it.
  pub fields_before_lem : BlockAt block (fields_of bs) → fields_of (take block bs) ≡ fields_before block (fields_of bs)
  fields_before_lem b = fields_of_lem (take block bs) ∙ fields_to b 0 (fields_of_lem bs)

-- ------------------------------------------------------------------ a walk over the fields

-- what stands behind an offset that a walk has come to stands among all fields
pub record Reaching (bs : List ℕ) (at : ℕ) : Type 0 where
  pub reaches : (block : ℕ) → BlockAt block (fields_at bs at) → BlockAt block (fields_of bs)

-- A walk begins at the first field,
pub reaching_start : (bs : List ℕ) → Reaching bs 0
reaching_start bs = record { reaches = λ block b. rw (fields_of_lem bs) b }

module _ {bs : List ℕ} {at : ℕ} (reaching : Reaching bs at) {tag : ℕ} {v : List ℕ} where
  -- and goes on behind each.
  pub reaching_next : {to : ℕ} → fields_at bs at ≡ next at tag v (fields_at bs to) → at < to → Reaching bs to
  reaching_next {to} e l =
      record { reaches = λ block b. reaching.reaches block (rw e (block_later {at = at} (omega (arith, l, block_behind b, offset_at bs to)) b)) }

  -- A block's field that it comes to stands among all fields.
  pub reaching_block : {fs : RawFields} → fields_at bs at ≡ next at tag v fs → tag ≡ 3 → BlockAt at (fields_of bs)
  reaching_block e t = reaching.reaches at (rw (e, t) block_here)
