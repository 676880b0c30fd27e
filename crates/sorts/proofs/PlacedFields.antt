-- Where the fields of a table stand: a field's value is what the table has behind its three first bytes. And what holds of the fields from an
-- alternative on holds of those behind it, if each of its fields hands it on.
use Prim.Native.Nat.{ℕ, zero, suc, ◌+◌}
use mathlib.Core.Path.{◌≡◌, refl, subst⁻¹}
use mathlib.Core.Bool.{Bool, true, false}
use mathlib.Core.List.{List, [], ◌∷◌}
use native.Mathlib.Omega.{arith}
use lib.Dec.{eqb, leb}
use lib.ListN.{length, get_or, take, drop}
use lib.Seq.{get_or-drop, drop-drop}
use Rattle.spellings.proofs.BytesLaws.{by_test}
use Rattle.grammar.specs.Table.{Item}
use Rattle.grammar.specs.Written.{WrittenResult, template, text, result_field, WrittenAlternative}
use Rattle.grammar.specs.Values.{Field, item_value}
use Rattle.grammar.specs.Fields.{RawFields, end, cut, next, size_of, fields_from, fields_of}
use Rattle.grammar.specs.Encode.{items_then, alternatives_then}
use Rattle.decoding.proofs.Split.{spread}
use Rattle.judgements.specs.Sizes.{field_size, items_size, alternative_size, alternatives_size}
use Rattle.bodies.specs.HeadBytes.{value_at}
use Rattle.bodies.proofs.TemplateInduction.{choose}

-- ------------------------------------------------------------------ where fields stand

-- the fields stand in the table
abbrev pub Placed : List ℕ → RawFields → Type 0
Placed bs (end at) = Unit {0}
Placed bs (cut at) = Unit {0}
Placed bs (next at tag v fs) = (v ≡ value_at bs at) × Placed bs fs

fields_by_lem :
    (fuel at : ℕ) (rest : List ℕ) (empty whole : Bool) → eqb (length rest) 0 ≡ empty → leb (3 + size_of rest) (length rest) ≡ whole
    → fields_from (suc fuel) at rest
    ≡ choose (end at)
    (choose (next at (get_or rest 0 0) (take (size_of rest) (drop 3 rest)) (fields_from fuel (at + (3 + size_of rest)) (drop (3 + size_of rest) rest)))
    (cut at) whole)
    empty
unfolding fields_from
fields_by_lem fuel at rest empty whole e f =
    let first : RawFields =
    next at (get_or rest 0 0) (take (size_of rest) (drop 3 rest)) (fields_from fuel (at + (3 + size_of rest)) (drop (3 + size_of rest) rest)) in
    cc

module _ (bs : List ℕ) where
  value_placed : (at : ℕ) → take (size_of (drop at bs)) (drop 3 (drop at bs)) ≡ value_at bs at
  value_placed at =
      cc (get_or-drop at bs 1 0, get_or-drop at bs 2 0, drop-drop 3 at bs)

  placed_from : (fuel at : ℕ) → Placed bs (fields_from fuel at (drop at bs))
  unfolding fields_from
  placed_from zero at = tt
  placed_from (suc fuel) at =
      let rest : List ℕ = drop at bs in
      by_test (eqb (length rest) 0) (λ e. subst⁻¹ (Placed bs) (fields_by_lem fuel at rest true _ e refl) tt)
      (λ e.
      by_test (leb (3 + size_of rest) (length rest))
      (λ f.
      subst⁻¹ (Placed bs) (fields_by_lem fuel at rest false true e f)
      (value_placed at, rw (drop-drop (3 + size_of rest) at bs) (placed_from fuel (at + (3 + size_of rest)))))
      (λ f. subst⁻¹ (Placed bs) (fields_by_lem fuel at rest false false e f) tt))

  -- the fields of bytes stand at their offsets
  pub placed_fields : Placed bs (fields_of bs)
  unfolding fields_of
  placed_fields = placed_from (length bs) 0

-- ------------------------------------------------------------------ behind alternatives

-- the tags of an alternative's fields
pub data Part : ℕ → Type 0 where
  part_begin : Part 5
  part_item : Part 6
  part_result : Part 7
  part_text : Part 9

-- each of these fields hands on what holds
abbrev pub HandsOn : (RawFields → Type 0) → Type 0
HandsOn Q = (tag : ℕ) → Part tag → (at : ℕ) (v : List ℕ) (fs : RawFields) → Q (next at tag v fs) → Q fs

module _ (Q : RawFields → Type 0) (over : HandsOn Q) where
  over_items : (is : List Item) (follow : List Field) (at to : ℕ) → at + items_size is ≡ to → Q (spread at (items_then is follow)) → Q (spread to follow)
  unfolding spread items_then items_size
  over_items [] follow at to e q = let z : at ≡ to = omega arith in rw (← z) q
  over_items (i ∷ is) follow at to e q = over_items is follow (at + field_size (item_value i)) to (omega arith) (over 6 part_item at _ _ q)

  over_result : (result : WrittenResult) (follow : List Field) (at : ℕ) → Q (spread at (result_field result ∷ follow))
      → Q (spread (at + field_size (result_field result).value) follow)
  unfolding spread
  over_result (template t) follow at q = over 7 part_result at _ _ q
  over_result (text n bs) follow at q = over 9 part_text at _ _ q

  -- what holds of the fields from alternatives on holds of those behind
  pub over_alternatives : (rest : List WrittenAlternative) (follow : List Field) (at to : ℕ) → at + alternatives_size rest ≡ to
      → Q (spread at (alternatives_then rest follow)) → Q (spread to follow)
  unfolding spread alternatives_then alternatives_size alternative_size
  over_alternatives [] follow at to e q = let z : at ≡ to = omega arith in rw (← z) q
  over_alternatives (a ∷ rest) follow at to e q =
      let behind : ℕ = at + 3 + items_size a.items in
      over_alternatives rest follow (behind + field_size (result_field a.result).value) to (omega arith)
      (over_result a.result (alternatives_then rest follow) behind
      (over_items a.items (result_field a.result ∷ alternatives_then rest follow) (at + 3) behind refl (over 5 part_begin at [] _ q)))
