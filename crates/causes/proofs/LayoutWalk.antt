-- The walk over the fields refuses exactly as the rules say.
use Prim.Native.Nat.{ℕ, zero, suc, ◌+◌, ◌*◌, ◌/◌, ◌%◌, ◌≤◌, ◌<◌}
use mathlib.Core.Path.{◌≡◌, refl, sym, ◌∙◌, subst, subst⁻¹}
use mathlib.Core.Logic.{◌↔◌, ◌⊎◌, inl, inr}
use mathlib.Core.Bool.{Bool, true, false, true≢false}
use mathlib.Core.List.{List, [], ◌∷◌, ◌++◌}
use native.Mathlib.Omega.{arith}
use lib.Dec.{eqb, leb}
use lib.ListN.{length, get_or, take, drop, length-append, take-append-drop}
use lib.Seq.{drop-drop, take-append_seam, drop-append_seam, length-take-le}
use borrow.Author.Tests.{le-leb, leb-true, leb-false, lt-leb, eqb-false, ne_eqb}
use Rattle.answers.specs.declared.Refusal.{Refusal}
use Rattle.answers.specs.Refusals.{refusal}
use Rattle.answers.specs.Checked.{Checked, ok, bad, ◌>>◌, need}
use Rattle.spellings.proofs.BytesLaws.{by_test}
use Rattle.grammar.specs.Limits.{most}
use Rattle.grammar.specs.Values.{Field, field}
use Rattle.grammar.specs.Encode.{field_then}
use Rattle.grammar.specs.Fields.{end, cut, next, size_of, fields_from, fields_of}
use Rattle.decoding.specs.declared.Progress.{Progress}
use Rattle.decoding.specs.Layout.{is_known, follows, is_spelled, has_room, is_whole, passed, check_field, check_fields, layout}
use Rattle.decoding.specs.Decode.{decode_fields, table_of, decode}
use Rattle.decoding.specs.Within.{Among}
use Rattle.decoding.proofs.Split.{Bytes, dropped_bytes}
use Rattle.causes.specs.Misplaced.{behind, RunsPast, tag_alone, half_a_length, short_value, last_tag, Passes, Fails, Reaches, at-start, past_field}
use Rattle.causes.specs.Misplaced.{Misplaced, too_long, runs_past, fails, no_root}
use Rattle.causes.specs.Misplaced as rules
use Rattle.causes.proofs.FieldTests.{known_rule, rule_known, order_rule, rule_order, spelled_rule, rule_spelled, progress_of, last_is}
use Rattle.causes.proofs.FieldTests.{room_rule, rule_room, whole_rule, rule_whole}

-- ------------------------------------------------------------------ one field

module _ (before : List Field) (at : ℕ) (f : Field) where
  abbrev s : Progress
  s = progress_of before

  -- a field passes, or fails by its first test
  pub judged : Bytes f.value → Passes before f ⊎ ((r : Refusal) × Fails at before f r)
  judged bytes =
      by_test (is_known f.tag f.value)
      (λ k.
      let known = known_rule f.tag f.value k in
      by_test (follows f.tag s.last)
      (λ o.
      let ordered = order_rule f.tag f.value k (last_tag before) (rw (last_is before) at o) in
      by_test (is_spelled f.tag f.value before)
      (λ p.
      let spelled = spelled_rule before f known p in
      by_test (has_room f.tag s)
      (λ r.
      let room = room_rule before f r in
      by_test (is_whole f.tag f.value)
      (λ w. inl (record { known = known; in_order = ordered; spelled = spelled; room = room; whole = whole_rule f bytes w }))
      (λ w. inr (refusal 10 at 0 0, rules.not_whole known ordered spelled room (λ h. true≢false (sym (rule_whole f h) ∙ w)))))
      (λ r. inr (refusal 6 at 0 0, rules.too_many known ordered spelled (λ h. true≢false (sym (rule_room before f h) ∙ r)))))
      (λ p. inr (refusal 5 at 0 0, rules.misspelled known ordered (λ h. true≢false (sym (rule_spelled before f known h) ∙ p)))))
      (λ o. inr (
        refusal 4 at 0 0,
        rules.out_of_order known
            (λ h. true≢false (sym (rule_order f.tag f.value k (last_tag before) h) ∙ rw (last_is before) at o)),
      )))
      (λ k. inr (refusal 3 at 0 0, rules.unknown (λ h. true≢false (sym (rule_known h) ∙ k))))

  -- the test of the order
  ordered : (known : is_known f.tag f.value ≡ true) → Among (behind f.tag) (last_tag before) → follows f.tag s.last ≡ true
  ordered known o = rw (last_is before) (rule_order f.tag f.value known (last_tag before) o)

  -- a test that a rule says is not met
  unmet : {R : Type 0} (test : Bool) → (test ≡ true → R) → ¬ R → test ≡ false
  unmet test rule h = by_test test (λ e. absurd (h (rule e))) (λ e. e)

  disordered : (known : is_known f.tag f.value ≡ true) → ¬ Among (behind f.tag) (last_tag before) → follows f.tag s.last ≡ false
  disordered known o = rw (last_is before) (unmet (follows f.tag (last_tag before)) (order_rule _ f.value known _) o)

  -- the tests of a field that passes
  pub passes_field : Passes before f → check_field before at f.tag f.value s ≡ ok (passed f.tag s)
  unfolding check_field
  passes_field p =
      let k = rule_known p.known in
      rw (
        k,
        ordered k p.in_order,
        rule_spelled before f p.known p.spelled,
        rule_room before f p.room,
        rule_whole f p.whole,
      ) refl

  -- the tests of a field that fails
  pub fails_field : Bytes f.value → {r : Refusal} → Fails at before f r → check_field before at f.tag f.value s ≡ bad r
  unfolding check_field
  fails_field bytes (rules.unknown k) = rw (unmet (is_known f.tag f.value) (known_rule _ _) k) refl
  fails_field bytes (rules.out_of_order k o) =
      rw (rule_known k, disordered (rule_known k) o) refl
  fails_field bytes (rules.misspelled k o p) =
      rw (rule_known k, ordered (rule_known k) o, unmet (is_spelled f.tag f.value before) (spelled_rule before f k) p) refl
  fails_field bytes (rules.too_many k o p r) =
      rw (rule_known k, ordered (rule_known k) o, rule_spelled before f k p, unmet (has_room f.tag s) (room_rule before f) r) refl
  fails_field bytes (rules.not_whole k o p r w) =
      rw (
        rule_known k,
        ordered (rule_known k) o,
        rule_spelled before f k p,
        rule_room before f r,
        unmet (is_whole f.tag f.value) (whole_rule f bytes) w,
      ) refl

-- ------------------------------------------------------------------ what stands at the front

-- what stands at the front of some bytes: nothing, a field that runs past the end, or a field
pub data Front : List ℕ → Type 0 where
  nothing : Front []
  past : {rest : List ℕ} → RunsPast rest → Front rest
  whole : (f : Field) (rest : List ℕ) → Front (field_then f rest)

-- from the test of its length
front : (rest : List ℕ) → Bytes rest → Front rest
front [] b = nothing
front (tag ∷ []) b = past tag_alone
front (tag ∷ high ∷ []) b = past half_a_length
front (tag ∷ high ∷ low ∷ rest) b =
    let n : ℕ = high * 256 + low in
    by_test (leb n (length rest))
    (λ e.
    let l : n ≤ length rest = leb-true n (length rest) e in
    let size : length (take n rest) ≡ n = length-take-le n rest l in
    let hi : n / 256 ≡ high = omega (arith, b 2) in
    let lo : n % 256 ≡ low = omega (arith, b 2) in
    let is : tag ∷ high ∷ low ∷ rest ≡ field_then (field tag (take n rest)) (drop n rest) = cc (take-append-drop n rest) in
    subst⁻¹ Front is (whole (field tag (take n rest)) (drop n rest)))
    (λ e. past (short_value (leb-false n (length rest) e)))

-- the split of each
from_end : (fuel at : ℕ) → fields_from fuel at [] ≡ end at
unfolding fields_from
from_end zero at = refl
from_end (suc fuel) at = refl

module _ (fuel at : ℕ) (rest : List ℕ) (some : (length rest ≡ 0) → ⊥) where
  from_cut : leb (3 + size_of rest) (length rest) ≡ false → fields_from (suc fuel) at rest ≡ cut at
  unfolding fields_from
  from_cut e = rw (ne_eqb (length rest) 0 some, e, fields_from) refl

  from_next : leb (3 + size_of rest) (length rest) ≡ true
      → fields_from (suc fuel) at rest
      ≡ next at (get_or rest 0 0) (take (size_of rest) (drop 3 rest)) (fields_from fuel (at + (3 + size_of rest)) (drop (3 + size_of rest) rest))
  unfolding fields_from
  from_next e = rw (ne_eqb (length rest) 0 some, e, fields_from) refl

from_past : (fuel at : ℕ) {rest : List ℕ} → RunsPast rest → fields_from (suc fuel) at rest ≡ cut at
from_past fuel at (tag_alone {tag}) = from_cut fuel at (tag ∷ []) (λ z. omega arith) refl
from_past fuel at (half_a_length {tag} {high}) =
    from_cut fuel at (tag ∷ high ∷ []) (λ z. omega arith) (lt-leb (3 + (high * 256 + 0)) 2 (omega arith))
from_past fuel at (short_value {tag} {high} {low} {rest} h) =
    from_cut fuel at (tag ∷ high ∷ low ∷ rest) (λ z. omega arith)
    (lt-leb (3 + (high * 256 + low)) (length (tag ∷ high ∷ low ∷ rest)) (omega arith))

from_field : (fuel at : ℕ) (f : Field) (rest : List ℕ)
    → fields_from (suc fuel) at (field_then f rest) ≡ next at f.tag f.value (fields_from fuel (at + (3 + length f.value)) rest)
from_field fuel at f rest = by (length f.value / 256) (length f.value % 256) (omega arith)
  where
    by : (hi lo : ℕ) → hi * 256 + lo ≡ length f.value
        → fields_from (suc fuel) at (f.tag ∷ hi ∷ lo ∷ f.value ++ rest) ≡ next at f.tag f.value (fields_from fuel (at + (3 + length f.value)) rest)
    by hi lo e =
        from_next fuel at (f.tag ∷ hi ∷ lo ∷ f.value ++ rest) (λ z. omega arith)
        (le-leb (3 + (hi * 256 + lo)) (length (f.tag ∷ hi ∷ lo ∷ f.value ++ rest)) (omega (arith, length-append f.value rest)))
        ∙ rw (
          e,
          take-append_seam f.value rest,
          ← drop-drop (length f.value) 3 (f.tag ∷ hi ∷ lo ∷ f.value ++ rest),
          drop-append_seam f.value rest,
        ) refl

-- ------------------------------------------------------------------ the walk

-- the check from a place on, after the fields before it
abbrev from : ℕ → ℕ → List Field → List ℕ → Checked (Unit {0})
from fuel at before rest = check_fields (fields_from fuel at rest) before (progress_of before)

-- a field at the front that passes, and one that does not
step : (fuel at : ℕ) (before : List Field) (f : Field) (rest : List ℕ) → Passes before f
    → from (suc fuel) at before (field_then f rest) ≡ from fuel (at + (3 + length f.value)) (f ∷ before) rest
unfolding check_fields progress_of
step fuel at before f rest p = rw (from_field fuel at f rest, passes_field before at f p) refl

stop : (fuel at : ℕ) (before : List Field) (f : Field) (rest : List ℕ) → Bytes f.value → {r : Refusal} → Fails at before f r
    → from (suc fuel) at before (field_then f rest) ≡ bad r
unfolding check_fields
stop fuel at before f rest bytes h = rw (from_field fuel at f rest, fails_field before at f bytes h) refl

over : (fuel at : ℕ) (before : List Field) → from fuel at before [] ≡ need (eqb (last_tag before) 8) 4 at
unfolding check_fields
over fuel at before = rw (from_end fuel at, last_is before) refl

broken : (fuel at : ℕ) (before : List Field) {rest : List ℕ} → RunsPast rest → from (suc fuel) at before rest ≡ bad (refusal 2 at 0 0)
unfolding check_fields
broken fuel at before h = rw (from_past fuel at h) refl

-- ------------------------------------------------------------------ from the check to the rules

-- bytes of parts
taken_bytes : (count : ℕ) (bs : List ℕ) → Bytes bs → Bytes (take count bs)
taken_bytes zero bs b i = omega arith
taken_bytes (suc count) [] b i = omega arith
taken_bytes (suc count) (c ∷ cs) b zero = b zero
taken_bytes (suc count) (c ∷ cs) b (suc i) = taken_bytes count cs (λ j. b (suc j)) i

value_bytes : (f : Field) (rest : List ℕ) → Bytes (field_then f rest) → Bytes f.value
value_bytes f rest b =
    subst Bytes (take-append_seam f.value rest) (taken_bytes (length f.value) (f.value ++ rest) (dropped_bytes 3 (field_then f rest) b))

rest_bytes : (f : Field) (rest : List ℕ) → Bytes (field_then f rest) → Bytes rest
rest_bytes f rest b =
    subst Bytes (drop-append_seam f.value rest) (dropped_bytes (length f.value) (f.value ++ rest) (dropped_bytes 3 (field_then f rest) b))

some_bytes : {rest : List ℕ} → RunsPast rest → 0 < length rest
some_bytes tag_alone = omega arith
some_bytes half_a_length = omega arith
some_bytes (short_value h) = omega arith

either : {A B C : Type 0} → A ⊎ B → (A → C) → (B → C) → C
either (inl a) f g = f a
either (inr b) f g = g b

-- one refusal
same : {A : Type 0} {checked : Checked A} {r r' : Refusal} → checked ≡ bad r' → checked ≡ bad r → r' ≡ r
same e h = cc

-- a demand that refuses
refusing : (test : Bool) (number at : ℕ) {r : Refusal} → need test number at ≡ bad r → (test ≡ false) × (refusal number at 0 0 ≡ r)
refusing true number at e = let z : ◌≡◌ {A = ℕ} 0 1 = cc in absurd (omega arith)
refusing false number at e = (refl, cc)

module _ (bs : List ℕ) where
  -- with so much fuel, what is refused from a place that is reached is refused by the rules
  abbrev Refused : ℕ → Type 0
  Refused fuel = (at : ℕ) (before : List Field) (rest : List ℕ) (r : Refusal) → length rest ≤ fuel → Bytes rest → Reaches bs at before rest
      → from fuel at before rest ≡ bad r → Misplaced bs r

  at-end : (fuel at : ℕ) (before : List Field) {r : Refusal} → Reaches bs at before [] → from fuel at before [] ≡ bad r → Misplaced bs r
  at-end fuel at before reached e =
      let (test, is) = refusing (eqb (last_tag before) 8) 4 at (sym (over fuel at before) ∙ e) in
      subst (Misplaced bs) is (no_root reached (eqb-false (last_tag before) 8 test))

  at_front : (fuel at : ℕ) (before : List Field) {rest : List ℕ} {r : Refusal} → Refused fuel → Front rest → length rest ≤ suc fuel → Bytes rest
      → Reaches bs at before rest
      → from (suc fuel) at before rest ≡ bad r → Misplaced bs r
  at_front fuel at before rec nothing l b reached e = at-end (suc fuel) at before reached e
  at_front fuel at before rec (past h) l b reached e = subst (Misplaced bs) (same (broken fuel at before h) e) (runs_past reached h)
  at_front fuel at before rec (whole f follow) l b reached e =
      either (judged before at f (value_bytes f follow b))
      (λ p. rec (at + (3 + length f.value)) (f ∷ before) follow _ (omega (arith, length-append f.value follow)) (rest_bytes f follow b)
      (past_field reached p) (sym (step fuel at before f follow p) ∙ e))
      (λ h. subst (Misplaced bs) (same (stop fuel at before f follow (value_bytes f follow b) h.1) e) (fails follow reached h.1))

  refused_rule : (fuel : ℕ) → Refused fuel
  refused_rule zero at before [] r l b reached e = at-end zero at before reached e
  refused_rule zero at before (c ∷ rest) r l b reached e = absurd (omega arith)
  refused_rule (suc fuel) at before rest r l b reached e = at_front fuel at before (refused_rule fuel) (front rest b) l b reached e

  -- a table that is not too long is checked from its start
  short_enough : length bs ≤ most.bytes → layout bs ≡ from (length bs) 0 [] bs
  unfolding layout fields_of progress_of
  short_enough h = rw (le-leb (length bs) most.bytes h, layout) refl

  long : most.bytes < length bs → layout bs ≡ bad (refusal 1 0 0 0)
  unfolding layout
  long h = rw (lt-leb (length bs) most.bytes h, layout) refl

  -- A layout that is refused is refused by the rules.
  pub layout_rule : Bytes bs → {r : Refusal} → layout bs ≡ bad r → Misplaced bs r
  layout_rule b {r} e =
      by_test (leb (length bs) most.bytes)
      (λ h.
      let l = leb-true (length bs) most.bytes h in
      refused_rule (length bs) 0 [] bs r (omega arith) b (at-start l) (sym (short_enough l) ∙ e))
      (λ h.
      let l = leb-false (length bs) most.bytes h in
      subst (Misplaced bs) (same (long l) e) (too_long l))

  -- ------------------------------------------------------------------ from the rules to the check

  -- what the check of the whole layout gives is what it gives from a place that is reached
  reached_check : Bytes bs → {at : ℕ} {before : List Field} {rest : List ℕ} → Reaches bs at before rest
      → (fuel : ℕ) × (length rest ≤ fuel) × (layout bs ≡ from fuel at before rest) × Bytes rest
  reached_check b (at-start l) = (length bs, omega arith, short_enough l, b)
  reached_check b (past_field {at} {before} {f} {rest} reached p) = by (reached_check b reached)
    where
      by : (fuel : ℕ) × (length (field_then f rest) ≤ fuel) × (layout bs ≡ from fuel at before (field_then f rest)) × Bytes (field_then f rest)
          → (fuel : ℕ) × (length rest ≤ fuel) × (layout bs ≡ from fuel (at + (3 + length f.value)) (f ∷ before) rest) × Bytes rest
      by (zero, l, e, v) = absurd (omega arith)
      by (suc fuel, l, e, v) =
          (fuel, omega (arith, length-append f.value rest), e ∙ step fuel at before f rest p, rest_bytes f rest v)

  -- A layout that is refused by the rules is refused.
  pub rule_layout : Bytes bs → {r : Refusal} → Misplaced bs r → layout bs ≡ bad r
  rule_layout b (too_long h) = long h
  rule_layout b (runs_past {at} {before} {rest} reached h) = by (reached_check b reached)
    where
      by : (fuel : ℕ) × (length rest ≤ fuel) × (layout bs ≡ from fuel at before rest) × Bytes rest → layout bs ≡ bad (refusal 2 at 0 0)
      by (zero, l, e, v) = absurd (omega (arith, some_bytes h))
      by (suc fuel, l, e, v) = e ∙ broken fuel at before h
  rule_layout b (fails {at} {before} {f} {r} rest reached h) = by (reached_check b reached)
    where
      by : (fuel : ℕ) × (length (field_then f rest) ≤ fuel) × (layout bs ≡ from fuel at before (field_then f rest)) × Bytes (field_then f rest)
          → layout bs ≡ bad r
      by (zero, l, e, v) = absurd (omega arith)
      by (suc fuel, l, e, v) = e ∙ stop fuel at before f rest (value_bytes f rest v) h
  rule_layout b (no_root {at} {before} reached h) =
      let (fuel, l, e, v) = reached_check b reached in
      e ∙ over fuel at before ∙ rw (ne_eqb (last_tag before) 8 h) refl

  -- The decoder refuses exactly as the rules of the layout do.
  pub misplaced_exactly : Bytes bs → (r : Refusal) → (decode bs ≡ bad r) ↔ Misplaced bs r
  unfolding decode
  misplaced_exactly b r = (λ e. layout_rule b (refusing_first (layout bs) e), λ m. rw (rule_layout b m) refl)
    where
      refusing_first : (checked : Checked (Unit {0})) → (checked >> ok (table_of (decode_fields (fields_of bs)))) ≡ bad r → checked ≡ bad r
      refusing_first (ok u) e = let z : ◌≡◌ {A = ℕ} 0 1 = cc in absurd (omega arith)
      refusing_first (bad q) e = cc
