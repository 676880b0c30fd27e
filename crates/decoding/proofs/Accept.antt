-- One field: it is accepted exactly if it passes the five tests, and each refusal is one of 2 to 6 and 10.
use Prim.Native.Nat.{ℕ}
use mathlib.Core.Path.{◌≡◌, refl, sym, ◌∙◌, subst, subst⁻¹}
use mathlib.Core.Bool.{Bool, true, false, ◌&&◌, ◌||◌, and-true}
use mathlib.Core.List.{List, ◌∷◌}
use lib.Dec.{eqb}
use borrow.Author.Tests.{eqb-true}
use Rattle.answers.specs.Checked.{Checked, ok, bad, ◌>>=◌, ◌>>◌, need}
use Rattle.grammar.specs.Values.{Field, field}
use Rattle.grammar.specs.Fields.{RawFields, end, cut, next}
use Rattle.decoding.specs.declared.Progress.{Progress}
use Rattle.decoding.specs.Layout.{is_empty, is_head, is_item, is_root, is_known, follows, is_spelled, has_room, is_whole, passed, check_field, check_fields}
use Rattle.decoding.proofs.Split.{Uncut}
use Rattle.decoding.proofs.Values.{by_either, and_left}

-- the five tests of a field after the fields before it
pub record Passes (before : List Field) (tag : ℕ) (value : List ℕ) (progress : Progress) : Type 0 where
  -- its tag, length and value are known
  pub known : is_known tag value ≡ true
  -- it may follow the field before it
  pub ordered : follows tag progress.last ≡ true
  -- its spelling is good and new
  pub spelled : is_spelled tag value before ≡ true
  -- there may be one more of its kind
  pub room : has_room tag progress ≡ true
  -- its templates are whole
  pub whole : is_whole tag value ≡ true

-- a refusal is no acceptance
abbrev pub Accepts : {A : Type 0} → Checked A → Type 0
Accepts (ok a) = Unit {0}
Accepts (bad r) = ⊥

-- the tests by their answers
abbrev tests : Bool → Bool → Bool → Bool → Bool → ℕ → Progress → Checked Progress
tests known ordered spelled room whole at s = do
  need known 3 at
  need ordered 4 at
  need spelled 5 at
  need room 6 at
  need whole 10 at
  ok s

all_true : (first second third fourth fifth : Bool) (at : ℕ) (progress : Progress) (then_check : Progress → Checked (Unit {0}))
    → (tests first second third fourth fifth at progress >>= then_check) ≡ ok tt
    → (first ≡ true) × (second ≡ true) × (third ≡ true) × (fourth ≡ true) × (fifth ≡ true) × (then_check progress ≡ ok tt)
all_true true true true true true at progress then_check h = (refl, refl, refl, refl, refl, h)
all_true true true true true false at progress then_check h = absurd (subst⁻¹ Accepts h tt)
all_true true true true false fifth at progress then_check h = absurd (subst⁻¹ Accepts h tt)
all_true true true false fourth fifth at progress then_check h = absurd (subst⁻¹ Accepts h tt)
all_true true false third fourth fifth at progress then_check h = absurd (subst⁻¹ Accepts h tt)
all_true false second third fourth fifth at progress then_check h = absurd (subst⁻¹ Accepts h tt)

module _ (at tag : ℕ) (value : List ℕ) (fs : RawFields) (before : List Field) (progress : Progress) where
  -- A field that passes is accepted with what follows it.
  pub accept : Passes before tag value progress → check_fields fs (field tag value ∷ before) (passed tag progress) ≡ ok tt
      → check_fields (next at tag value fs) before progress ≡ ok tt
  unfolding check_fields check_field
  accept p h = rw (p.known, p.ordered, p.spelled, p.room, p.whole) h

  -- And only such a field is.
  pub accepted : check_fields (next at tag value fs) before progress ≡ ok tt
      → Passes before tag value progress × (check_fields fs (field tag value ∷ before) (passed tag progress) ≡ ok tt)
  unfolding check_fields check_field
  accepted h =
      let all =
      all_true (is_known tag value) (follows tag progress.last) (is_spelled tag value before) (has_room tag progress) (is_whole tag value) at
      (passed tag progress)
      (λ s'. check_fields fs (field tag value ∷ before) s') h in
      (record { known = all.0; ordered = all.1; spelled = all.2; room = all.3; whole = all.4 }, all.5)

-- Nothing is cut in fields that are accepted.
pub accepted_uncut : (fs : RawFields) (before : List Field) (progress : Progress) → check_fields fs before progress ≡ ok tt → Uncut fs
unfolding check_fields
accepted_uncut (end at) before progress h = tt
accepted_uncut (cut at) before progress h = subst⁻¹ Accepts h tt
accepted_uncut (next at tag v fs) before progress h =
    accepted_uncut fs (field tag v ∷ before) (passed tag progress) (accepted at tag v fs before progress h).1

-- ------------------------------------------------------------------ tags

-- a statement of a known tag is one of the tags 1 to 8
pub by_tag : (P : ℕ → Type 0) → P 1 → P 2 → P 3 → P 4 → P 5 → P 6 → P 7 → P 8
    → (tag : ℕ) (value : List ℕ) → is_known tag value ≡ true → P tag
unfolding is_known
by_tag P p1 p2 p3 p4 p5 p6 p7 p8 tag value h =
    by_either seven (eqb tag 8 && is_root value) h
    (λ h. by_either six (eqb tag 7) h
    (λ h. by_either five (eqb tag 6 && is_item value) h
    (λ h. by_either four (eqb tag 5 && is_empty value) h
    (λ h. by_either three (eqb tag 4 && is_head value) h
    (λ h. by_either two (eqb tag 3 && is_empty value) h
    (λ h. by_either (eqb tag 1) (eqb tag 2) h (λ h. is 1 true p1 (and_is h)) (λ h. is 2 true p2 (and_is h)))
    (λ h. is 3 (is_empty value) p3 h))
    (λ h. is 4 (is_head value) p4 h))
    (λ h. is 5 (is_empty value) p5 h))
    (λ h. is 6 (is_item value) p6 h))
    (λ h. is 7 true p7 (and_is h)))
    (λ h. is 8 (is_root value) p8 h)
  where
    two : Bool
    two = eqb tag 1 || eqb tag 2

    three : Bool
    three = two || (eqb tag 3 && is_empty value)

    four : Bool
    four = three || (eqb tag 4 && is_head value)

    five : Bool
    five = four || (eqb tag 5 && is_empty value)

    six : Bool
    six = five || (eqb tag 6 && is_item value)

    seven : Bool
    seven = six || eqb tag 7

    and_is : {test : Bool} → test ≡ true → (test && true) ≡ true
    and_is {test} e = and-true test ∙ e

    is : (number : ℕ) (more : Bool) → P number → (eqb tag number && more) ≡ true → P tag
    is number more p e = subst P (sym (eqb-true tag number (and_left (eqb tag number) more e))) p
