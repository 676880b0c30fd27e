-- In a table whose layout is right each production is items and then a result: so it goes on where it begins.
use Prim.Native.Nat.{ℕ}
use mathlib.Core.Path.{◌≡◌, refl, sym, ◌∙◌, subst⁻¹}
use mathlib.Core.Bool.{true, false, or-false, and-false, true≢false, and-eq-true_iff}
use mathlib.Core.Logic.{◌⊎◌, inl, inr}
use mathlib.Core.List.{List, [], ◌∷◌}
use native.Mathlib.Omega.{arith}
use lib.Dec.{eqb, leb}
use lib.ListN.{length, get_or, drop}
use borrow.Author.Tests.{ne_eqb, eqb-true, leb-false}
use Rattle.spellings.proofs.BytesLaws.{by_test}
use Rattle.answers.specs.Checked.{ok, need}
use Rattle.grammar.specs.Values.{Field, field}
use Rattle.grammar.specs.Fields.{RawFields, end, cut, next, fields_of}
use Rattle.grammar.specs.Lookup.{fields_at}
use Rattle.decoding.specs.Prefix.{templates_of, is_templates}
use Rattle.decoding.specs.Decode.{mode_of}
use Rattle.decoding.specs.Layout.{is_item, is_known, follows, passed, initial_progress, check_fields, layout}
use Rattle.decoding.specs.declared.Progress.{Progress}
use Rattle.decoding.specs.Within.{Each, each_none, each_more}
use Rattle.decoding.proofs.Accept.{Accepts, accepted}
use Rattle.decoding.proofs.Inverse.{layout_parts}
use Rattle.productions.specs.Index.{Place, places_by, places_of, whole_body, Whole}
use Rattle.productions.proofs.Places.{Stands, stands, each_kept, each_snoc}
use Rattle.steps.specs.Source.{source, Complete, GoesOn}
use Rattle.steps.proofs.SourceLaws.{goes_on}

-- the field before is an alternative's beginning, or an item
abbrev InBody : ℕ → Type 0
InBody last = (last ≡ 5) ⊎ (last ≡ 6)

-- behind it no table ends
not_last : (last at : ℕ) → InBody last → need (eqb last 8) 4 at ≡ ok tt → ⊥
not_last last at (inl e) h = subst⁻¹ Accepts (rw e at h) tt
not_last last at (inr e) h = subst⁻¹ Accepts (rw e at h) tt

-- and an item or a result stands
result_tag : (tag last : ℕ) → InBody last → follows tag last ≡ true → eqb tag 6 ≡ false → eqb tag 7 ≡ true
unfolding follows
result_tag tag last body h e =
    by_test (eqb tag 7) (λ f. f) (λ f. absurd (true≢false (sym h ∙ none last body f)))
  where
    none : (before : ℕ) → InBody before → eqb tag 7 ≡ false → follows tag before ≡ false
    none before (inl b) f = rw (b, e, f, follows) (simp (and-false) refl)
    none before (inr b) f = rw (b, e, f, follows) (simp (and-false) refl)

-- an item has a kind and an operand
item_long : (value : List ℕ) → is_item value ≡ true → leb 2 (length value) ≡ true
unfolding is_item
item_long value h =
    by_test (leb 2 (length value)) (λ e. e) (λ e. absurd (true≢false (sym h ∙ short e)))
  where
    short : leb 2 (length value) ≡ false → is_item value ≡ false
    short e = rw (ne_eqb (length value) 2 (λ n. omega (arith, leb-false 2 (length value) e)), e, is_item) (simp (and-false) refl)

known_item : (value : List ℕ) → is_known 6 value ≡ true → is_item value ≡ true
unfolding is_known
known_item value h = sym (simp or-false) ∙ h

-- fields that are accepted behind it, with whole templates, are what is left of an alternative
complete_fields : (fs : RawFields) (before : List Field) (progress : Progress) → InBody progress.last → check_fields fs before progress ≡ ok tt
    → whole_body fs ≡ true
    → Complete [] fs
unfolding check_fields Complete whole_body passed
complete_fields (end at) before progress body h w = absurd (not_last progress.last at body h)
complete_fields (cut at) before progress body h w = absurd (subst⁻¹ Accepts h tt)
complete_fields (next at tag v fs) before progress body h w =
    let passes = accepted at tag v fs before progress h in
    by_test (eqb tag 6)
    (λ e.
    let six = eqb-true tag 6 e in
    let whole = (and-eq-true_iff (is_templates (templates_of (drop 2 v))) (whole_body fs)).0 (rw (e, whole_body) at w) in
    let long = item_long v (known_item v (rw six at passes.0.known)) in
    rw (e, Complete)
    ((and-eq-true_iff _ _).1 (long, whole.0), complete_fields fs (field tag v ∷ before) (passed tag progress) (inr six) passes.1 whole.1))
    (λ e.
    let seven = result_tag tag progress.last body passes.0.ordered e in
    rw (e, Complete) (inl (eqb-true tag 7 seven, rw (e, seven, whole_body) at w)))

-- a place where what is left, with whole templates, is an alternative
abbrev Begun : List ℕ → Place → Type 0
Begun bs p = whole_body (fields_at bs p.start) ≡ true → Complete [] (fields_at bs p.start)

begun_by : (bs : List ℕ) (fs : RawFields) → Stands bs fs → (before : List Field) (progress : Progress) → check_fields fs before progress ≡ ok tt
    → (nonterminal : ℕ) (ps : List Place) → Each (Begun bs) ps → Each (Begun bs) (places_by fs nonterminal ps)
unfolding places_by passed
begun_by bs (end at) stand before progress h nonterminal ps each = each
begun_by bs (cut at) stand before progress h nonterminal ps each = each
begun_by bs (next at tag v fs) stand before progress h nonterminal ps each =
    let passes = accepted at tag v fs before progress h in
    let rest = begun_by bs fs stand.2 (field tag v ∷ before) (passed tag progress) passes.1 in
    by_test (eqb tag 4) (λ e. rw (e, places_by) (rest (get_or v 0 0) _ (each_kept (mode_of (get_or v 1 0)) (get_or v 0 0) ps each)))
    (λ e. by_test (eqb tag 5)
    (λ f. rw (e, f, places_by)
    (rest nonterminal _
    (each_snoc each
    (rw stand.1 (complete_fields fs (field tag v ∷ before) (passed tag progress) (inl (eqb-true tag 5 f)) passes.1)))))
    (λ f. rw (e, f, places_by) (rest nonterminal ps each)))

each_both : (bs : List ℕ) {ps : List Place} → Each (Begun bs) ps → Each (Whole bs) ps → Each (λ (p : Place). GoesOn (source bs) p.start) ps
each_both bs each_none each_none = each_none
each_both bs (each_more b begun) (each_more {x = p} w whole) = each_more (goes_on (source bs) p.start (b w.whole)) (each_both bs begun whole)

-- Each production of a table whose layout is right goes on where it begins.
pub complete_places : (bs : List ℕ) → layout bs ≡ ok tt → Each (Whole bs) (places_of bs) → Each (λ (p : Place). GoesOn (source bs) p.start) (places_of bs)
complete_places bs h whole =
    each_both bs (begun_by bs (fields_of bs) (stands bs) [] initial_progress (layout_parts bs h).1 0 [] each_none) whole
