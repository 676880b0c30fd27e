-- The names of a term that `rename` gives are those of the rules of specs/Naming, and the rules give no others.
use Prim.Native.Nat.{ℕ, suc, ◌+◌}
use mathlib.Core.Path.{◌≡◌, refl, sym, ap, ◌∙◌, subst}
use mathlib.Core.Bool.{Bool, true, false, true≢false, false≢true, or-true}
use mathlib.Core.List.{List, [], ◌∷◌, map}
use native.Mathlib.Omega.{arith}
use Rattle.spellings.specs.Bytes.{one_if}
use Rattle.spellings.proofs.BytesLaws.{by_test, same_true, same_refl}
use Rattle.decoding.specs.Within.{each_none, each_more}
use Rattle.decoding.proofs.Spelled.{each_split}
use Rattle.decoding.proofs.Values.{by_either}
use Rattle.soundness.specs.Places.{Given, BinderPlace, binder_binder, binder_local, Placed, placed_variable, placed_function, placed_apply, placed_rcd}
use Rattle.soundness.specs.Places.{placed_dot, placed_number, PlacedFields, placed_nil, placed_cons}
use Rattle.terms.specs.Term.{Name, word, fresh, outside, Term, Fields, variable, function, apply, rcd, dot, number, nil, cons}
use Rattle.terms.specs.Rename.{belongs, is_outside, holds, holds_fields, is_renamed, renames, renames_fields, new_name, Printed, shown_as, binder_shown, renamed}
use Rattle.terms.specs.Rename.{renamed_fields, rename}
use Rattle.terms.specs.Binding.{Owner}
use Rattle.terms.proofs.Statements.{origin_calls}
use Rattle.terms.proofs.WhoseName.{NameEntry, binder_of, printed_of}
use Rattle.meaning.specs.Origins.{Innermost, this_one, nowhere, at, Occurs, in_variable, in_function, in_apply, in_rcd, in_dot, in_number}
use Rattle.meaning.specs.Origins.{OccursFields, in_nil, in_cons, Loose, a_loose, NoneLoose}
use Rattle.meaning.specs.Origins as origins
use Rattle.meaning.specs.Naming.{Holds, here, in_body, in_first, in_second, in_record, in_dotted, HoldsFields, in_field, in_later, BinderShown}
use Rattle.meaning.specs.Naming.{fresh_renamed, word_renamed, word_kept, Shown, VariableShown, as_binder, further_out, free_word, free_outside, Named}
use Rattle.meaning.specs.Naming.{a_variable, a_function, an_application, a_record, a_dot, a_number, NamedFields, no_field, one_more}

-- ------------------------------------------------------------------ which binders are renamed

outside_rule : (spelling : List ℕ) (name : Name) → is_outside spelling name ≡ true → Holds spelling (variable name)
outside_rule spelling (word w) h = absurd (false≢true h)
outside_rule spelling (fresh n) h = absurd (false≢true h)
outside_rule spelling (outside w) h = rw (← (same_true spelling w h)) here

mutual
  unfolding holds holds_fields

  -- a term that holds an outside name by the test holds it by the rules
  holds_rule : (spelling : List ℕ) (t : Term Name) → holds spelling t ≡ true → Holds spelling t
  holds_rule spelling (variable v) h = outside_rule spelling v h
  holds_rule spelling (function b t) h = in_body (holds_rule spelling t h)
  holds_rule spelling (apply t u) h =
      by_either (holds spelling t) (holds spelling u) h (λ e. in_first (holds_rule spelling t e)) (λ e. in_second (holds_rule spelling u e))
  holds_rule spelling (rcd f) h = in_record (holds_fields_rule spelling f h)
  holds_rule spelling (dot t l) h = in_dotted (holds_rule spelling t h)
  holds_rule spelling (number n) h = absurd (false≢true h)

  holds_fields_rule : (spelling : List ℕ) (fields : Fields Name) → holds_fields spelling fields ≡ true → HoldsFields spelling fields
  holds_fields_rule spelling nil h = absurd (false≢true h)
  holds_fields_rule spelling (cons l t f) h =
      by_either (holds spelling t) (holds_fields spelling f) h (λ e. in_field (holds_rule spelling t e)) (λ e. in_later (holds_fields_rule spelling f e))

mutual
  unfolding holds holds_fields

  -- and the other way round
  rule_holds : {spelling : List ℕ} {t : Term Name} → Holds spelling t → holds spelling t ≡ true
  rule_holds {spelling} here = same_refl spelling
  rule_holds (in_body h) = rule_holds h
  rule_holds (in_first h) = rw (rule_holds h) refl
  rule_holds {spelling} (in_second {t} {u} h) = rw (rule_holds h) (or-true (holds spelling t))
  rule_holds (in_record h) = rule_holds_fields h
  rule_holds (in_dotted h) = rule_holds h

  rule_holds_fields : {spelling : List ℕ} {fields : Fields Name} → HoldsFields spelling fields → holds_fields spelling fields ≡ true
  rule_holds_fields (in_field h) = rw (rule_holds h) refl
  rule_holds_fields {spelling} (in_later {l} {t} {f} h) = rw (rule_holds_fields h) (or-true (holds spelling t))

-- a binder is shown as the rules say, by whether it is renamed
binder_named : {G : List Given} {spell : ℕ → List ℕ} {binder : Name} → BinderPlace G spell binder → (renamed_now : Bool) (counter : ℕ) (body : Term Name)
    → is_renamed binder body ≡ renamed_now → BinderShown counter binder body (binder_shown renamed_now counter binder) (one_if renamed_now + counter)
unfolding is_renamed binder_shown new_name
binder_named (binder_binder {t} g) true counter body e =
    let next : 1 + counter ≡ suc counter = omega arith in rw next (word_renamed (holds_rule _ body e))
binder_named (binder_binder {t} g) false counter body e =
    let next : 0 + counter ≡ counter = omega arith in rw next (word_kept (λ h. true≢false (sym (rule_holds h) ∙ e)))
binder_named (binder_local g) true counter body e = let next : 1 + counter ≡ suc counter = omega arith in rw next fresh_renamed
binder_named (binder_local g) false counter body e = absurd (true≢false e)

-- ------------------------------------------------------------------ what a variable is printed as

-- a binder around, as the rules see it
abbrev shown_of : NameEntry → Shown
shown_of e = record { name = e.origin; shown = e.shown }

variable_named : (es : List NameEntry) (place : ℕ) (name : Name) {owner : Owner} → Innermost name (map binder_of es) owner
    → (Loose (at place name owner) → ⊥) → VariableShown (map shown_of es) name (shown_as (map printed_of es) name)
unfolding shown_as
variable_named [] place (word s) nowhere h = free_word
variable_named [] place (fresh n) nowhere h = absurd (h a_loose)
variable_named [] place (outside s) nowhere h = free_outside
variable_named (e ∷ es) place name (this_one c) h = rw ((origin_calls name e.origin).1 c, shown_as) (as_binder c)
variable_named (e ∷ es) place name (origins.further_out n i) h =
    by_test (belongs name e.origin) (λ t. absurd (n ((origin_calls name e.origin).0 t)))
    (λ t. rw (t, shown_as) (further_out n (variable_named es place name i h)))

-- ------------------------------------------------------------------ terms

-- a counter may be written in another way
counted : {around : List Shown} {counter behind other : ℕ} {t : Term Name} {shown : Term (List ℕ)} → behind ≡ other → Named around counter t shown behind
    → Named around counter t shown other
counted {around} {counter} {t = t} {shown = shown} e n = subst (Named around counter t shown) e n

module _ {G : List Given} {spell : ℕ → List ℕ} where
  mutual
    unfolding renamed renamed_fields renames renames_fields

    -- a term whose binders are words or fresh names, and in which no fresh variable is loose, is named as the rules say
    named : (es : List NameEntry) (counter : ℕ) {place : ℕ} {t : Term Name} {os : List _} → Placed G spell t → Occurs (map binder_of es) place t os
        → NoneLoose os → Named (map shown_of es) counter t (renamed (map printed_of es) counter t) (renames t + counter)
    named es counter {place} (placed_variable {x} v) (in_variable h) (each_more n each_none) =
        counted (omega arith) (a_variable (variable_named es place x h n))
    named es counter {place} (placed_function {x} {t} b p) (in_function h) n =
        let q = is_renamed x t in
        let entry : NameEntry = record { origin = x; shown = binder_shown q counter x; place = place } in
        counted (omega arith) (a_function (binder_named b q counter t refl) (named (entry ∷ es) (one_if q + counter) p h n))
    named es counter (placed_apply {t} {u} p r) (in_apply {os = os} h k) n =
        let (m, l) = each_split os n in
        counted (omega arith) (an_application (named es counter p h m) (named es (renames t + counter) r k l))
    named es counter (placed_rcd p) (in_rcd h) n = a_record (named_fields es counter p h n)
    named es counter (placed_dot p l) (in_dot h) n = a_dot (named es counter p h n)
    named es counter (placed_number p) in_number n = counted (omega arith) a_number

    named_fields : (es : List NameEntry) (counter : ℕ) {place : ℕ} {fields : Fields Name} {os : List _} → PlacedFields G spell fields
        → OccursFields (map binder_of es) place fields os
        → NoneLoose os → NamedFields (map shown_of es) counter fields (renamed_fields (map printed_of es) counter fields) (renames_fields fields + counter)
    named_fields es counter placed_nil in_nil n = let e : counter ≡ 0 + counter = omega arith in subst (NamedFields (map shown_of es) counter nil nil) e no_field
    named_fields es counter (placed_cons {l} {t} {f} w p r) (in_cons {os = os} h k) n =
        let (m, o) = each_split os n in
        let e : renames_fields f + (renames t + counter) ≡ renames t + renames_fields f + counter = omega arith in
        subst (NamedFields (map shown_of es) counter (cons l t f) _) e (one_more (named es counter p h m) (named_fields es (renames t + counter) r k o))

  -- The names that `rename` gives a term are those that the rules give.
  pub rename_named : {t : Term Name} {os : List _} → Placed G spell t → Occurs [] 0 t os → NoneLoose os → Named [] 1 t (rename t) (renames t + 1)
  rename_named p h n = named [] 1 p h n

-- ------------------------------------------------------------------ no others

-- as the renamer sees a binder around
abbrev printed_by : Shown → Printed
printed_by b = record { origin = b.name; shown = b.shown }

variable_only : {around : List Shown} {name : Name} {x : List ℕ} → VariableShown around name x → x ≡ shown_as (map printed_by around) name
unfolding shown_as
variable_only (as_binder {b} {around} {v} c) = rw ((origin_calls v b.name).1 c, shown_as) refl
variable_only (further_out {b} {around} {v} n h) =
    by_test (belongs v b.name) (λ t. absurd (n ((origin_calls v b.name).0 t))) (λ t. rw (t, shown_as) (variable_only h))
variable_only free_word = refl
variable_only free_outside = refl

binder_only : {counter behind : ℕ} {binder : Name} {body : Term Name} {x : List ℕ} → BinderShown counter binder body x behind
    → (x ≡ binder_shown (is_renamed binder body) counter binder) × (behind ≡ one_if (is_renamed binder body) + counter)
unfolding is_renamed binder_shown new_name
binder_only fresh_renamed = (refl, omega arith)
binder_only (word_renamed h) = rw (rule_holds h) (refl, omega arith)
binder_only (word_kept {s} {body} n) =
    by_test (holds s body) (λ t. absurd (n (holds_rule s body t))) (λ t. rw t (refl, omega arith))

mutual
  unfolding renamed renamed_fields renames renames_fields

  named_only : {around : List Shown} {counter behind : ℕ} {t : Term Name} {shown : Term (List ℕ)} → Named around counter t shown behind
      → (shown ≡ renamed (map printed_by around) counter t) × (behind ≡ renames t + counter)
  named_only (a_variable v) = (ap variable (variable_only v), omega arith)
  named_only (a_function b n) =
      let (x, d) = binder_only b in
      let (t, e) = named_only n in
      (cc, omega arith)
  named_only (an_application n m) =
      let (t, d) = named_only n in
      let (u, e) = named_only m in
      (cc, omega arith)
  named_only (a_record n) = let (f, d) = named_fields_only n in (ap rcd f, d)
  named_only (a_dot n) = let (t, d) = named_only n in (cc, d)
  named_only a_number = (refl, omega arith)

  named_fields_only : {around : List Shown} {counter behind : ℕ} {fields : Fields Name} {shown : Fields (List ℕ)}
      → NamedFields around counter fields shown behind
      → (shown ≡ renamed_fields (map printed_by around) counter fields) × (behind ≡ renames_fields fields + counter)
  named_fields_only no_field = (refl, omega arith)
  named_fields_only (one_more n m) =
      let (t, d) = named_only n in
      let (f, e) = named_fields_only m in
      (cc, omega arith)

-- The rules name a term in one way at most, the one of `rename`.
pub named_once : {t : Term Name} {shown : Term (List ℕ)} {behind : ℕ} → Named [] 1 t shown behind → shown ≡ rename t
named_once n = (named_only n).0
