-- Laws of a table's fields one after the other: those before an offset, and the turns of the check.
use Rattle.std.specs.Prelude.{Err}
use Prim.Native.Nat.{ℕ, ◌+◌, ◌-◌, ◌<◌, ◌≤◌}
use mathlib.Core.Path.{◌≡◌, refl, sym, ap, ◌∙◌}
use mathlib.Core.Bool.{Bool, true, false}
use mathlib.Core.List.{List, [], ◌∷◌}
use native.Mathlib.Omega.{arith}
use lib.Dec.{eqb, ltb}
use lib.ListN.{length, take, drop}
use borrow.Author.Tests.{le-leb, lt-leb, le-ltb, lt-ltb}
use Rattle.answers.specs.declared.Refusal.{Refusal}
use Rattle.answers.specs.Refusals.{refusal}
use Rattle.answers.specs.Checked.{Checked, ok, bad, need, verdict, ◌>>=◌}
use Rattle.grammar.specs.declared.Front.{Front}
use Rattle.grammar.specs.declared.Front.TheVariants.{Nothing, Short, Field}
use Rattle.grammar.specs.Limits.{most}
use Rattle.grammar.specs.Values.{field}
use Rattle.grammar.specs.Values as encode
use Rattle.grammar.specs.Fields.{RawFields, end, cut, next, fields_of}
use Rattle.grammar.specs.Lookup.{front_of, fields_at}
use Rattle.grammar.proofs.LookupLaws.{opened, fields_at_lem, fields_of_lem}
use Rattle.decoding.specs.declared.Progress.{Progress}
use Rattle.std.specs.Prelude.{Ok, Err}
use Rattle.decoding.specs.Layout.{check_field, check_fields, initial_progress, layout}
use Rattle.layout.specs.Before.{earlier, fields_before, checking}

-- ------------------------------------------------------------------ the fields before an offset

earlier_by : (to at tag : ℕ) (value : List ℕ) (fs : RawFields) (before : List encode.Field) (before_it : Bool) → ltb at to ≡ before_it
    → earlier to (next at tag value fs) before
    ≡ elim before_it as (λ x. List encode.Field) [ true ↦ earlier to fs (field tag value ∷ before) | false ↦ before ]
unfolding earlier
earlier_by to at tag value fs before before_it e =
    cc

-- what is left at the end of a list of fields
earlier_end : (to at : ℕ) (before : List encode.Field) → earlier to (end at) before ≡ before
unfolding earlier
earlier_end to at before = refl

earlier_cut : (to at : ℕ) (before : List encode.Field) → earlier to (cut at) before ≡ before
unfolding earlier
earlier_cut to at before = refl

module _ (table : List ℕ) (to at : ℕ) (before : List encode.Field) where
  past_by : (front : Front) → to ≤ at → earlier to (opened table at front) before ≡ before
  past_by Nothing h = earlier_end to at before
  past_by Short h = earlier_cut to at before
  past_by (Field t n) h = earlier_by to at t _ _ before false (le-ltb at to h)

  -- no field from an offset on begins before it
  past : to ≤ at → earlier to (fields_at table at) before ≡ before
  past h = cc (fields_at_lem table at refl, past_by (front_of (drop at table)) h)

  one_more : {tag size : ℕ} → Field tag size ≡ front_of (drop at table) → at < to
      → earlier to (fields_at table at) before
      ≡ earlier to (fields_at table (at + 3 + size)) (field tag (take size (drop (at + 3) table)) ∷ before)
  one_more e h =
      cc (fields_at_lem table at e, earlier_by to at _ _ _ before true (lt-ltb at to h))

before_is : (table : List ℕ) (to : ℕ) → fields_before table to ≡ earlier to (fields_at table 0) []
unfolding fields_before
before_is table to = cc (fields_of_lem table)

-- a value as the code lends it, from a start to an end
pub lent_is : (table : List ℕ) (from size : ℕ) → take (from + size - from) (drop from table) ≡ take size (drop from table)
lent_is table from size =
    let z : from + size - from ≡ size = omega arith in
    cc

-- ------------------------------------------------------------------ the turns of the check

-- refusal 1
pub layout_long : (table : List ℕ) → most.bytes < length table → Err (refusal 1 0 0 0) ≡ verdict (layout table)
unfolding layout
layout_long table h = rw (lt-leb (length table) most.bytes h, layout) refl

layout_short : (table : List ℕ) → length table ≤ most.bytes → layout table ≡ check_fields (fields_of table) [] initial_progress
unfolding layout
layout_short table h = rw (le-leb (length table) most.bytes h, layout) refl

fields_end : (at : ℕ) (before : List encode.Field) (progress : Progress) → check_fields (end at) before progress ≡ need (eqb progress.last 8) 4 at
unfolding check_fields
fields_end at before progress = refl

fields_cut : (at : ℕ) (before : List encode.Field) (progress : Progress) → check_fields (cut at) before progress ≡ bad (refusal 2 at 0 0)
unfolding check_fields
fields_cut at before progress = refl

fields_next : (at tag : ℕ) (value : List ℕ) (fs : RawFields) (before : List encode.Field) (progress : Progress) (checked : Checked Progress)
    → check_field before at tag value progress ≡ checked
    → check_fields (next at tag value fs) before progress ≡ (checked >>= λ t. check_fields fs (field tag value ∷ before) t)
unfolding check_fields
fields_next at tag value fs before progress checked e = cc

-- the answers of the code are those of the check
pub checked_ok : (checked : Checked Progress) (progress : Progress) → Ok progress ≡ checking checked → checked ≡ ok progress
checked_ok (ok t) progress e = cc
checked_ok (bad r) progress e = let z : ◌≡◌ {A = ℕ} 0 1 = cc in absurd (omega arith)

checked_bad : (checked : Checked Progress) (cause : Refusal) → Err cause ≡ checking checked → checked ≡ bad cause
checked_bad (ok t) cause e = let z : ◌≡◌ {A = ℕ} 0 1 = cc in absurd (omega arith)
checked_bad (bad q) cause e = cc

-- the fields before `at` pass and give `progress`; those from there on give what all of them give
pub record Turn (table : List ℕ) (at : ℕ) (progress : Progress) : Type 0 where
  -- the fields before a later offset are those before `at`, and those from there on up to it
  pub divides : (to : ℕ) → at ≤ to → fields_before table to ≡ earlier to (fields_at table at) (fields_before table at)
  -- the fields left give what all fields give
  pub rest : check_fields (fields_at table at) (fields_before table at) progress ≡ check_fields (fields_of table) [] initial_progress

-- no field stands before the first
pub none_before : (table : List ℕ) → fields_before table 0 ≡ []
none_before table = before_is table 0 ∙ past table 0 0 [] (omega arith)

-- at the first field
pub turn_start : {table : List ℕ} {progress : Progress} → progress ≡ initial_progress → Turn table 0 progress
turn_start {table} e =
    record {
      divides = λ to h. before_is table to ∙ ap (earlier to (fields_at table 0)) (sym (none_before table));
      rest = λ i. check_fields (sym (fields_of_lem table) i) (none_before table i) (e i);
    }

module _ {table : List ℕ} {at : ℕ} {progress : Progress} (turn : Turn table at progress) (within : length table ≤ most.bytes) where
  answer : (checked : Checked (Unit {0})) → check_fields (fields_at table at) (fields_before table at) progress ≡ checked
      → verdict checked ≡ verdict (layout table)
  answer checked e = ap verdict (sym e ∙ turn.rest ∙ sym (layout_short table within))

  -- at the end
  pub turn_end : Nothing ≡ front_of (drop at table) → verdict (need (eqb progress.last 8) 4 at) ≡ verdict (layout table)
  turn_end e =
      answer (need (eqb progress.last 8) 4 at) (rw (fields_at_lem table at e) (fields_end at (fields_before table at) progress))

  -- at a field that runs past it
  pub turn_cut : Short ≡ front_of (drop at table) → Err (refusal 2 at 0 0) ≡ verdict (layout table)
  turn_cut e =
      answer (bad (refusal 2 at 0 0)) (rw (fields_at_lem table at e) (fields_cut at (fields_before table at) progress))

module _ {table : List ℕ} {at : ℕ} {progress : Progress} (turn : Turn table at progress) {tag size : ℕ} (equal : Field tag size ≡ front_of (drop at table)) where
  -- the field here, checked with its value as the code lends it
  field_is : (checked : Checked Progress)
      → check_field (fields_before table at) at tag (take (at + 3 + size - (at + 3)) (drop (at + 3) table)) progress ≡ checked
      → (checked >>= λ u. check_fields (fields_at table (at + 3 + size)) (field tag (take size (drop (at + 3) table)) ∷ fields_before table at) u)
      ≡ check_fields (fields_of table) [] initial_progress
  field_is checked f =
      cc (
        fields_next at tag (take size (drop (at + 3) table)) (fields_at table (at + 3 + size)) (fields_before table at) progress checked
            (cc (lent_is table (at + 3) size)),
        fields_at_lem table at equal,
        turn.rest,
      )

  -- a field is refused
  pub turn_stopped : length table ≤ most.bytes → {cause : Refusal}
      → Err cause
      ≡ checking (check_field (fields_before table at) at tag (take (at + 3 + size - (at + 3)) (drop (at + 3) table)) progress)
      → Err cause ≡ verdict (layout table)
  turn_stopped h {cause} f = ap verdict (field_is (bad cause) (checked_bad _ cause f) ∙ sym (layout_short table h))

  -- the fields before the next one
  pub before_next : fields_before table (at + 3 + size) ≡ field tag (take size (drop (at + 3) table)) ∷ fields_before table at
  before_next =
      turn.divides (at + 3 + size) (omega arith) ∙ one_more table (at + 3 + size) at (fields_before table at) equal (omega arith)
      ∙ past table (at + 3 + size) (at + 3 + size) _ (omega arith)

  -- it passes
  pub turn_next : {further : Progress}
      → Ok further
      ≡ checking (check_field (fields_before table at) at tag (take (at + 3 + size - (at + 3)) (drop (at + 3) table)) progress)
      → Turn table (at + 3 + size) further
  turn_next {further} f =
      record {
        divides =
            λ to h.
            turn.divides to (omega arith) ∙ one_more table to at (fields_before table at) equal (omega arith)
            ∙ ap (earlier to (fields_at table (at + 3 + size))) (sym before_next);
        rest =
            cc (before_next, field_is (ok further) (checked_ok _ further f));
      }
