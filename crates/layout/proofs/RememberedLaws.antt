-- Laws of the rooms of spellings between two fields: none at the start, one more after a keyword or an outside name.
use Prim.Native.Nat.{ℕ, ◌+◌, ◌-◌, ◌<◌, ◌≤◌}
use mathlib.Core.Path.{◌≡◌, refl, sym, ap, subst, ◌∙◌}
use mathlib.Core.Bool.{Bool, true, false, not, ◌||◌}
use mathlib.Core.List.{List, ◌∷◌}
use native.Mathlib.Omega.{arith}
use lib.Dec.{eqb, ltb}
use lib.ListN.{length, take, drop, replicate, length-take, length-drop}
use borrow.Author.Tests.{ltb-true}
use Rattle.answers.specs.Checked.{ok}
use Rattle.grammar.specs.Limits.{most}
use Rattle.grammar.specs.declared.Front.TheVariants.{Field}
use Rattle.grammar.specs.Values.{field}
use Rattle.grammar.specs.Values as values
use Rattle.grammar.specs.Lookup.{front_of}
use Rattle.grammar.proofs.LookupLaws.{front_inside}
use Rattle.decoding.specs.declared.Progress.{Progress}
use Rattle.layout.specs.Index.{index_size}
use Rattle.std.specs.Prelude.{Ok}
use Rattle.decoding.specs.Layout.{is_known, follows, is_spelled, has_room, passed, is_whole, check_field, initial_progress}
use Rattle.layout.specs.Before.{fields_before, checking}
use Rattle.layout.specs.Index.{entered, HasSpellings, Remembered}
use Rattle.fields.proofs.Laws.{first_fault, field_by}
use Rattle.decoding.proofs.Rooms.{room_of}
use Rattle.layout.proofs.LawsFields.{Turn, none_before, before_next, checked_ok, lent_is}
use Rattle.layout.proofs.IndexLaws.{has_none, has_next}

-- a field that passes has room, and what has been read is one field further
first_ok :
    (known ordered spelled room whole : Bool) (at : ℕ) (progress next : Progress) → first_fault known ordered spelled room whole at progress ≡ ok next
    → (room ≡ true) × (next ≡ progress)
first_ok false ordered spelled room whole at progress next e = let z : ◌≡◌ {A = ℕ} 0 1 = cc in absurd (omega arith)
first_ok true false spelled room whole at progress next e = let z : ◌≡◌ {A = ℕ} 0 1 = cc in absurd (omega arith)
first_ok true true false room whole at progress next e = let z : ◌≡◌ {A = ℕ} 0 1 = cc in absurd (omega arith)
first_ok true true true false whole at progress next e = let z : ◌≡◌ {A = ℕ} 0 1 = cc in absurd (omega arith)
first_ok true true true true false at progress next e = let z : ◌≡◌ {A = ℕ} 0 1 = cc in absurd (omega arith)
first_ok true true true true true at progress next e = (refl, cc)

field_ok :
    (before : List values.Field) (at tag : ℕ) (bytes : List ℕ) (progress next : Progress) → check_field before at tag bytes progress ≡ ok next
    → (has_room tag progress ≡ true) × (next ≡ passed tag progress)
field_ok before at tag bytes progress next e =
    first_ok (is_known tag bytes) (follows tag progress.last) (is_spelled tag bytes before) (has_room tag progress) (is_whole tag bytes) at
    (passed tag progress) next
    (sym (field_by before at tag bytes progress _ _ _ _ _ refl refl refl refl refl) ∙ e)

-- the counts are below their limits where a field of the tag has room
below : (count limit : ℕ) (here : Bool) → (not here || ltb count limit) ≡ true → limit ≤ most.outsides → here ≡ true → count < most.outsides
below count limit true e h k = omega (arith, ltb-true count limit e)
below count limit false e h k = absurd (let z : ◌≡◌ {A = ℕ} 0 1 = cc in omega arith)

has_moved :
    {table : List ℕ} {tag : ℕ} {fields fields' : List values.Field} {count count' : ℕ} {room room' : List ℕ} → fields ≡ fields' → count ≡ count' → room ≡ room'
    → HasSpellings table tag fields count room → HasSpellings table tag fields' count' room'
has_moved {table} {tag} {fields} {fields'} {count} {count'} {room} e f g h =
    subst (HasSpellings table tag fields' count') g (rw (← f) (rw (← e) h))

-- no field yet
pub remembered_start : {table : List ℕ} {progress : Progress} → progress ≡ initial_progress
    → Remembered table 0 progress (replicate index_size 0) (replicate index_size 0)
remembered_start {table} e =
    record {
      keywords = has_moved (sym (none_before table)) (cc) refl has_none;
      outsides = has_moved (sym (none_before table)) (cc) refl has_none;
    }

module _ {table : List ℕ} {at : ℕ} {progress : Progress} {keywords outsides : List ℕ} (turn : Turn table at progress)
    (remembered : Remembered table at progress keywords outsides) {tag size : ℕ} (equal : Field tag size ≡ front_of (drop at table)) {next : Progress}
    (agrees : Ok next ≡ checking (check_field (fields_before table at) at tag (take (at + 3 + size - (at + 3)) (drop (at + 3) table)) progress)) where
  abbrev value : List ℕ
  value = take size (drop (at + 3) table)

  abbrev lent : List ℕ
  lent = take (at + 3 + size - (at + 3)) (drop (at + 3) table)

  passes : (has_room tag progress ≡ true) × (next ≡ passed tag progress)
  passes = field_ok (fields_before table at) at tag lent progress next (checked_ok _ next agrees)

  -- the value is found again by its place and length
  again : take (length value) (drop (at + 3) table) ≡ value
  again =
      let z : length value ≡ size = omega (arith, length-take size (drop (at + 3) table), length-drop (at + 3) table, front_inside table at equal) in
      cc

  -- room for one more of either tag
  pub keyword_room : eqb tag 1 ≡ true → progress.keywords < most.outsides
  keyword_room h = below progress.keywords most.keywords (eqb tag 1) (room_of tag progress passes.0).keywords (omega arith) h

  -- an outside name has room
  pub outside_room : eqb tag 2 ≡ true → progress.outsides < most.outsides
  outside_room h = below progress.outsides most.outsides (eqb tag 2) (room_of tag progress passes.0).outsides (omega arith) h

  -- one field more
  pub remembered_next :
      {keywords' outsides' : List ℕ} → keywords' ≡ entered keywords (eqb tag 1) progress.keywords (at + 3) lent
      → outsides' ≡ entered outsides (eqb tag 2) progress.outsides (at + 3) lent
      → Remembered table (at + 3 + size) next keywords' outsides'
  unfolding passed
  remembered_next {keywords'} {outsides'} p q =
      let same : lent ≡ value = lent_is table (at + 3) size in
      let fields : field tag value ∷ fields_before table at ≡ fields_before table (at + 3 + size) = sym (before_next turn equal) in
      record {
        keywords =
            has_moved fields (cc passes.1) (sym (p ∙ ap (entered keywords (eqb tag 1) progress.keywords (at + 3)) same))
            (has_next remembered.keywords tag value (at + 3) again (eqb tag 1) refl keyword_room);
        outsides =
            has_moved fields (cc passes.1) (sym (q ∙ ap (entered outsides (eqb tag 2) progress.outsides (at + 3)) same))
            (has_next remembered.outsides tag value (at + 3) again (eqb tag 2) refl outside_room);
      }
