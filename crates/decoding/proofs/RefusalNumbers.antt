-- Refusals of a layout have the numbers 1 to 6 and 10.
use Prim.Native.Nat.{ℕ}
use mathlib.Core.Path.{◌≡◌, refl}
use mathlib.Core.Bool.{Bool, true, false, ◌&&◌, ◌||◌}
use mathlib.Core.Logic.{◌⊎◌, inl, inr}
use mathlib.Core.List.{List, [], ◌∷◌}
use lib.Dec.{eqb, leb}
use lib.ListN.{length}
use Rattle.answers.specs.declared.Refusal.{Refusal}
use Rattle.answers.specs.Refusals.{refusal}
use Rattle.answers.specs.Checked.{Checked, ok, bad, ◌>>=◌, ◌>>◌, need}
use Rattle.grammar.specs.Written.{Written}
use Rattle.grammar.specs.Limits.{most}
use Rattle.grammar.specs.Values.{Field, field}
use Rattle.grammar.specs.Fields.{RawFields, end, cut, next, fields_of}
use Rattle.decoding.specs.declared.Progress.{Progress}
use Rattle.decoding.specs.Layout.{is_known, follows, is_spelled, has_room, is_whole, passed, check_field, check_fields, initial_progress, layout}
use Rattle.decoding.specs.Decode.{decode_fields, table_of, decode}

-- the numbers of a layout's refusals: 1 to 6 and 10
abbrev pub is_layout_number : ℕ → Bool
is_layout_number n = (leb 1 n && leb n 6) || eqb n 10

-- a check refuses with these numbers only
abbrev Numbered : {A : Type 0} → Checked A → Type 0
Numbered (ok a) = Unit {0}
Numbered (bad r) = is_layout_number r.number ≡ true

need_numbered : (test : Bool) (number at : ℕ) → is_layout_number number ≡ true → Numbered (need test number at)
need_numbered true number at m = tt
need_numbered false number at m = m

and_numbered : {A B : Type 0} (first : Checked A) (checked : Checked B) → Numbered first → Numbered checked → Numbered (first >> checked)
and_numbered (ok a) checked h k = k
and_numbered (bad r) checked h k = h

then_numbered : {A B : Type 0} (first : Checked A) (then_check : A → Checked B) → Numbered first → ((item : A) → Numbered (then_check item))
    → Numbered (first >>= then_check)
then_numbered (ok a) then_check h n = n a
then_numbered (bad r) then_check h n = h

field_numbered : (before : List Field) (at tag : ℕ) (value : List ℕ) (progress : Progress) → Numbered (check_field before at tag value progress)
unfolding check_field
field_numbered before at tag value progress =
    and_numbered (need (is_known tag value) 3 at) _ (need_numbered (is_known tag value) 3 at refl)
    (and_numbered (need (follows tag progress.last) 4 at) _ (need_numbered (follows tag progress.last) 4 at refl)
    (and_numbered (need (is_spelled tag value before) 5 at) _ (need_numbered (is_spelled tag value before) 5 at refl)
    (and_numbered (need (has_room tag progress) 6 at) _ (need_numbered (has_room tag progress) 6 at refl)
    (and_numbered (need (is_whole tag value) 10 at) (ok (passed tag progress)) (need_numbered (is_whole tag value) 10 at refl) tt))))

fields_numbered : (fs : RawFields) (before : List Field) (progress : Progress) → Numbered (check_fields fs before progress)
unfolding check_fields
fields_numbered (end at) before progress = need_numbered (eqb progress.last 8) 4 at refl
fields_numbered (cut at) before progress = refl
fields_numbered (next at tag v fs) before progress =
    then_numbered (check_field before at tag v progress) (λ s'. check_fields fs (field tag v ∷ before) s') (field_numbered before at tag v progress)
    (λ s'. fields_numbered fs (field tag v ∷ before) s')

layout_numbered : (bs : List ℕ) → Numbered (layout bs)
unfolding layout
layout_numbered bs = by (leb (length bs) most.bytes)
  where
    by :
        (test : Bool)
        → Numbered {A = Unit {0}}
        (elim test as (λ test. Checked (Unit {0})) [ false ↦ bad (refusal 1 0 0 0) | true ↦ check_fields (fields_of bs) [] initial_progress ])
    by true = fields_numbered (fields_of bs) [] initial_progress
    by false = refl

-- Bytes are decoded as a table, or refused with one of these numbers.
pub decode_answers : (bs : List ℕ)
    → ((table : Written) × (decode bs ≡ ok table)) ⊎ ((cause : Refusal) × (decode bs ≡ bad cause) × (is_layout_number cause.number ≡ true))
unfolding decode
decode_answers bs = by (layout bs) (layout_numbered bs)
  where
    t : Written
    t = table_of (decode_fields (fields_of bs))

    by : (checked : Checked (Unit {0})) → Numbered checked
        → ((other : Written) × ((checked >> ok t) ≡ ok other)) ⊎ ((cause : Refusal) × ((checked >> ok t) ≡ bad cause) × (is_layout_number cause.number ≡ true))
    by (ok tt) h = inl (t, refl)
    by (bad r) h = inr (r, refl, h)
